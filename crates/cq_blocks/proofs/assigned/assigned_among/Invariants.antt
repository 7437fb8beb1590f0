use Rattle.std.proofs.Common.{ℕ, List, ◌≡◌, take}
use Rattle.std.specs.Prelude.{option_map}
use Rattle.std.specs.Map.{lookup}
use Rattle.cq_base.specs.Names.{same_name}
use Rattle.cq_blocks.specs.Index.{at_place}
use Rattle.cq_blocks.specs.Blocks.{first_of, assigned_given}
use Rattle.cq_blocks.proofs.assigned.assigned_among.Given as goal

abbrev pub invariant-loop-place : goal.invariant-loop-place
invariant-loop-place l = (q : List ℕ) →
    lookup (same_name q) l.made ≡ first_of (λ place. option_map (λ _. place) (at_place (λ part. assigned_given l.target l.key q part.1) l.clauses place)) (take l.place-index l.places)
