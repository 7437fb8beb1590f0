use Rattle.std.proofs.Common.{ℕ, List, ◌≡◌, ◌+◌, ◌++◌, drop, map, length}
use Rattle.cq_theory.specs.Canonical.{below}
use Rattle.cq_colimit.specs.Classes.{first_of, is_first}
use Rattle.cq_colimit.specs.Clashes.{given_by, names_where, first_entities}
use Rattle.cq_colimit.proofs.given.give_entities.Given as goal

abbrev pub invariant-loop-name : goal.invariant-loop-name
invariant-loop-name l =
    (l.number ≡ l.part.start.entity + l.name-index)
    × ((links : List (ℕ × ℕ)) → l.firsts ≡ map (first_of links) (below (length l.firsts))
    → l.made.items ++ given_by l.part (names_where (is_first links) l.number (drop l.name-index l.part.schema.entities))
    ≡ l.fn.made.items ++ given_by l.part (first_entities links l.part))
