use Rattle.std.proofs.Common.{[], ◌∷◌, subst}
use Rattle.cq_csv.specs.Files.{mark}
use Rattle.cq_csv.specs.Records.{HasWritten}
use Rattle.cq_csv.proofs.algebra.algebra_text.Goals as goal

pub returns : goal.returns
returns c =
    let first = subst (λ f. HasWritten c.write.new.writer (f ∷ [])) c.in_ok-first.ensures (c.in_ok-write.ensures [] c.start-writer.ensures) in
    c.in_ok-text.ensures _ (c.in_ok-write_entries.ensures _ (c.in_ok-write_nulls.ensures (mark ∷ []) first))
