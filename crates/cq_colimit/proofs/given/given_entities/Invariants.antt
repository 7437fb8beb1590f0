use Rattle.std.proofs.Common.{ℕ, List, ◌≡◌, take, map, length}
use Rattle.cq_theory.specs.Canonical.{below}
use Rattle.cq_colimit.specs.Classes.{first_of}
use Rattle.cq_colimit.specs.Clashes.{given_entities}
use Rattle.cq_colimit.proofs.given.given_entities.Given as goal

abbrev pub invariant-loop-part : goal.invariant-loop-part
invariant-loop-part l = (links : List (ℕ × ℕ)) → l.firsts ≡ map (first_of links) (below (length l.firsts))
    → l.made.items ≡ given_entities links (take l.part-index l.parts)
