-- The assignments of one foreign key, by the names of the variables.
use Rattle.std.specs.Prelude.{ℕ, List, ◌≡◌, option_and_then}
use Rattle.std.specs.Map.{lookup}
use Rattle.cq_base.specs.declared.name.Name.{Name}
use Rattle.cq_base.specs.Names.{same_name}
use Rattle.cq_theory.specs.SchemaData.{SchemaData as Schema}
use Rattle.cq_blocks.specs.declared.parts.Clause.{Clause}
use Rattle.cq_blocks.specs.Index.{at_place}
use Rattle.cq_blocks.specs.Blocks.{assigned_given, assigned_in}

-- the place for each variable is that of the first clause that assigns a term to it for the foreign key
abbrev pub IsAssigned : Schema → List (ℕ × Clause) → ℕ → List (Name × ℕ) → Type 0
IsAssigned T clauses k places =
    (variable : Name) → option_and_then (at_place (λ part. assigned_given T k variable part.1) clauses) (lookup (same_name variable) places)
    ≡ assigned_in T clauses k variable
