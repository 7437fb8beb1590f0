use Rattle.std.proofs.Common.{ℕ, List, ◌≡◌, take, map, length}
use Rattle.std.specs.Prelude.{All}
use Rattle.cq_theory.specs.Canonical.{below}
use Rattle.cq_mapping.specs.Mapping.{IsMapping}
use Rattle.cq_colimit.specs.Classes.{class_of}
use Rattle.cq_colimit.specs.Joined.{inclusion}
use Rattle.cq_colimit.proofs.inclusions.include_all.Given as goal

abbrev pub invariant-loop-part : goal.invariant-loop-part
invariant-loop-part l =
    ((links : List (ℕ × ℕ)) → l.numbers ≡ map (class_of links) (below (length l.numbers)) → l.made.items ≡ map (inclusion links l.target.value) (take l.part-index l.parts))
    × All IsMapping l.made.items
