use Rattle.std.proofs.Common.{ℕ, List, ◌++◌, ◌≡◌, map, length, sym, subst, arith}
use Rattle.std.specs.Prelude.{slice_index}
use Rattle.std.proofs.lemmas.List.{append-nil}
use Rattle.cq_theory.specs.Canonical.{below}
use Rattle.csv.specs.Records.{fields_of}
use Rattle.cq_csv.specs.Files.{null_record}
use Rattle.cq_csv.specs.Records.{HasWritten}
use Rattle.cq_csv.proofs.Written.{written_below}
use Rattle.cq_csv.proofs.algebra.write_null_records.Goals as goal

pub loop-label-init : goal.loop-label-init
loop-label-init c = λ before has. subst (HasWritten c.args.writer.now) (sym (append-nil before)) has

pub loop-label-preserved : goal.loop-label-preserved
loop-label-preserved c = λ before has.
    let made : ℕ → List (List ℕ) = λ label. null_record c.args.typeside.now label (slice_index c.args.sorts.now label) in
    written_below c.write.new.writer before made c.loop-label.label (fields_of c.fill_null.new.fields) c.in_ok-fill_null.ensures (c.in_ok-write.ensures _ (c.loop-label.invariant before has))

pub returns : goal.returns
returns c = λ before has.
    let made : ℕ → List (List ℕ) = λ label. null_record c.args.typeside.now label (slice_index c.args.sorts.now label) in
    let all : c.loop-label.label ≡ length c.args.sorts.now = omega arith in
    subst (λ n. HasWritten c.loop-label.writer (before ++ map made (below n))) all (c.loop-label.invariant before has)
