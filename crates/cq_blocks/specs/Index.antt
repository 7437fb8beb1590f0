-- Clauses by the attribute or foreign key to which they give something.
use Rattle.std.specs.Prelude.{ℕ, Bool, false, List, ◌+◌, map, length, Option, Some, None, slice_get, option_and_then}
use Rattle.cq_theory.specs.declared.lookup.Symbol.{Symbol}
use Rattle.cq_theory.specs.declared.lookup.Symbol.TheVariants as symbol
use Rattle.cq_theory.specs.SchemaData.{SchemaData as Schema}
use Rattle.cq_theory.specs.Resolve.{symbol_of}
use Rattle.cq_blocks.specs.declared.parts.Clause.{Clause}
use Rattle.cq_blocks.specs.declared.parts.Clause.TheVariants as clause
use Rattle.cq_blocks.specs.declared.index.Index.{Index}
use Rattle.cq_theory.specs.Groups.{AreGroups}

abbrev pub at_place : {X R : Type 0} → (X → Option R) → List X → ℕ → Option R
at_place f xs n = option_and_then f (slice_get xs n)

abbrev pub is_there : {X : Type 0} → (X → Bool) → Option X → Bool
is_there p None = false
is_there p (Some x) = p x

abbrev pub is_at_place : {X : Type 0} → (X → Bool) → List X → ℕ → Bool
is_at_place p xs n = is_there p (slice_get xs n)

-- the number of an attribute or of a foreign key, or n
abbrev pub attribute_number : ℕ → Option Symbol → ℕ
attribute_number n (Some (symbol.Attribute a)) = a
attribute_number n _ = n

abbrev pub key_number : ℕ → Option Symbol → ℕ
key_number n (Some (symbol.Key k)) = k
key_number n _ = n

module _ (T : Schema) where
  -- the attribute to which a clause gives a term, or n
  abbrev pub attribute_owner : ℕ → Clause → ℕ
  attribute_owner n (clause.Att name raw) = attribute_number n (symbol_of T name)
  attribute_owner n _ = n

  -- the foreign key of a clause, or n
  abbrev pub key_owner : ℕ → Clause → ℕ
  key_owner n (clause.Key name) = key_number n (symbol_of T name)
  key_owner n (clause.Assign key variable raw) = key_number n (symbol_of T key)
  key_owner n _ = n

  -- the places of the clauses of each attribute and of each foreign key; those of none have the number behind all of these
  pub record IsIndex (clauses : List (ℕ × Clause)) (index : Index) : Type 0 where
    pub attributes : AreGroups (map (λ c. attribute_owner (length T.attributes) c.1) clauses) (length T.attributes + 1) index.attributes
    pub keys : AreGroups (map (λ c. key_owner (length T.keys) c.1) clauses) (length T.keys + 1) index.keys
