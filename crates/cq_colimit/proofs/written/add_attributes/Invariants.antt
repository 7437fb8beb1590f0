use Rattle.std.proofs.Common.{ℕ, List, ◌≡◌, ◌++◌, take, map, length}
use Rattle.cq_theory.specs.Canonical.{below}
use Rattle.cq_colimit.specs.Classes.{class_of}
use Rattle.cq_colimit.specs.Joined.{attribute_part}
use Rattle.cq_colimit.proofs.written.add_attributes.Given as goal

abbrev pub invariant-loop-edge : goal.invariant-loop-edge
invariant-loop-edge l = (links : List (ℕ × ℕ)) → l.numbers ≡ map (class_of links) (below (length l.numbers)) → l.made.items ≡ l.fn.made.items ++ map (attribute_part links l.entities l.part) (take l.edge-index l.part.schema.attributes)
