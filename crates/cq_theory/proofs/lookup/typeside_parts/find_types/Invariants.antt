use Rattle.std.proofs.Common.{◌≡◌, drop, take, map}
use Rattle.cq_theory.specs.TypesideParts.{has_unknown_type, type_number}
use Rattle.cq_theory.proofs.lookup.typeside_parts.find_types.Given as goal

abbrev pub invariant-loop-name : goal.invariant-loop-name
invariant-loop-name l =
    (l.found.items ≡ map (type_number l.types) (take l.name-index l.names))
    × (has_unknown_type l.types (drop l.name-index l.names) ≡ has_unknown_type l.types l.names)
