use Rattle.std.proofs.Common.{◌++◌, ◌≡◌, map, take, length, sym, ap, ◌∙◌, subst, arith}
use Rattle.std.proofs.lemmas.List.{append-nil}
use Rattle.std.proofs.Math.Seq.{take-length}
use Rattle.csv.specs.Records.{fields_of}
use Rattle.cq_csv.specs.Files.{entry_record}
use Rattle.cq_csv.specs.Records.{HasWritten}
use Rattle.cq_csv.proofs.Written.{written_take}
use Rattle.cq_csv.proofs.algebra.write_entry_records.Goals as goal

pub loop-entry-init : goal.loop-entry-init
loop-entry-init c = λ before has. subst (HasWritten c.args.writer.now) (sym (append-nil before)) has

pub loop-entry-preserved : goal.loop-entry-preserved
loop-entry-preserved c = λ before has.
    written_take c.write.new.writer before (entry_record c.args.typeside.now) c.args.entries.now c.loop-entry.entry-index c.entry-item.result (fields_of c.fill_entry.new.fields)
    c.loop-entry-test.true c.entry-item.is c.in_ok-fill_entry.ensures (c.in_ok-write.ensures _ (c.loop-entry.invariant before has))

pub returns : goal.returns
returns c = λ before has.
    let all : c.loop-entry.entry-index ≡ length c.args.entries.now = omega arith in
    subst (λ l. HasWritten c.loop-entry.writer (before ++ map (entry_record c.args.typeside.now) l)) (ap (λ n. take n c.args.entries.now) all ∙ take-length c.args.entries.now) (c.loop-entry.invariant before has)
