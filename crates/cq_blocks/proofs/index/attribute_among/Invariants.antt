use Rattle.std.proofs.Common.{◌≡◌, drop}
use Rattle.cq_blocks.specs.Index.{at_place}
use Rattle.cq_blocks.specs.Blocks.{first_of, attribute_given}
use Rattle.cq_blocks.proofs.index.attribute_among.Given as goal

abbrev pub invariant-loop-place : goal.invariant-loop-place
invariant-loop-place l =
    first_of (at_place (λ part. attribute_given l.target l.attribute part.1) l.clauses) (drop l.place-index l.places) ≡ first_of (at_place (λ part. attribute_given l.target l.attribute part.1) l.clauses) l.places
