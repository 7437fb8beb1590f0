use Rattle.std.proofs.Common.{ℕ, List, ◌≡◌, take, map, length}
use Rattle.cq_theory.specs.Canonical.{below}
use Rattle.cq_colimit.specs.Classes.{class_of}
use Rattle.cq_colimit.specs.Joined.{attributes_of}
use Rattle.cq_colimit.proofs.written.attribute_parts.Given as goal

abbrev pub invariant-loop-part : goal.invariant-loop-part
invariant-loop-part l = (links : List (ℕ × ℕ)) → l.numbers ≡ map (class_of links) (below (length l.numbers)) → l.made.items ≡ attributes_of links l.entities (take l.part-index l.parts)
