use Rattle.std.proofs.Common.{ℕ, List, ◌≡◌, map, length}
use Rattle.std.specs.List.{range_with_len}
use Rattle.cq_theory.specs.Canonical.{below}
use Rattle.cq_colimit.specs.Classes.{class_of}
use Rattle.cq_colimit.proofs.inclusions.class_numbers.Given as goal

abbrev pub invariant-loop-entity : goal.invariant-loop-entity
invariant-loop-entity l = (links : List (ℕ × ℕ)) → l.numbers ≡ map (class_of links) (below (length l.numbers)) → l.made.items ≡ map (class_of links) (range_with_len l.first l.entity)
