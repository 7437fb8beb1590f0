use Rattle.std.proofs.Common.{◌≡◌, ◌+◌, ◌++◌, drop, take, map}
use Rattle.cq_theory.specs.Typeside.{function_names}
use Rattle.cq_theory.specs.Declaring.{first_part_fault}
use Rattle.cq_theory.specs.SchemaParts.{key_fault, keys_fault, made_key, part_names}
use Rattle.cq_theory.proofs.lookup.schema_parts.add_keys.Given as goal

abbrev pub invariant-loop-key : goal.invariant-loop-key
invariant-loop-key l =
    (l.part ≡ l.first + l.key-index)
    × (l.table ≡ part_names (take l.key-index l.parts))
    × (l.keys.items ≡ map (made_key l.typeside l.entities) (take l.key-index l.parts))
    × (first_part_fault (λ part. part.0) (key_fault l.typeside l.entities) (function_names l.typeside ++ l.table) l.part (drop l.key-index l.parts) ≡ keys_fault l.typeside l.entities l.first l.parts)
