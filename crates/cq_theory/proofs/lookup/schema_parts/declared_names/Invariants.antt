use Rattle.std.proofs.Common.{List, ℕ, ◌≡◌, ◌≤◌, take, length}
use Rattle.cq_theory.specs.Paths.{is_among}
use Rattle.cq_theory.specs.SchemaParts.{part_names}
use Rattle.cq_theory.proofs.lookup.schema_parts.declared_names.Given as goal

abbrev pub invariant-loop-part : goal.invariant-loop-part
invariant-loop-part l =
    (length l.table ≤ l.part-index)
    × ((name : List ℕ) → is_among l.table name ≡ is_among (part_names (take l.part-index l.parts)) name)
