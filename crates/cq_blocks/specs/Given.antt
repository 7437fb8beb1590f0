-- What clauses give, in sets.
use Rattle.std.specs.Prelude.{ℕ, Bool, List, ◌≡◌, ◌&&◌}
use Rattle.std.specs.List.{list_any}
use Rattle.cq_base.specs.declared.name.Name.{Name}
use Rattle.cq_base.specs.Names.{same_name}
use Rattle.cq_blocks.specs.declared.parts.Clause.{Clause}
use Rattle.cq_blocks.specs.Blocks.{gives_symbol, gives_variable}

abbrev pub same_pair : Name × Name → Name × Name → Bool
same_pair p q = same_name p.0 q.0 && same_name p.1 q.1

-- the sets have the attributes and foreign keys that the clauses give, and the variables to which they assign a term, each with its foreign
-- key
pub record HasGiven (clauses : List (ℕ × Clause)) (symbols : List Name) (assigned : List (Name × Name)) : Type 0 where
  pub of_symbols : (name : Name) → list_any (same_name name) symbols ≡ list_any (λ c. gives_symbol name c.1) clauses
  pub of_assigned : (key variable : Name) → list_any (same_pair (key, variable)) assigned ≡ list_any
      (λ c. gives_variable key variable c.1) clauses
