use Rattle.std.proofs.Common.{◌≡◌, drop}
use Rattle.std.specs.List.{list_any}
use Rattle.cq_blocks.specs.Index.{is_at_place}
use Rattle.cq_blocks.specs.Blocks.{key_given}
use Rattle.cq_blocks.proofs.index.is_key_among.Given as goal

abbrev pub invariant-loop-place : goal.invariant-loop-place
invariant-loop-place l =
    list_any (is_at_place (λ part. key_given l.target l.key part.1) l.clauses) (drop l.place-index l.places) ≡ list_any (is_at_place (λ part. key_given l.target l.key part.1) l.clauses) l.places
