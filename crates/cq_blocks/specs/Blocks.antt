-- The faults of the parts of a query, and the blocks that they give.
use Rattle.std.specs.Prelude.{ℕ, Bool, false, not, List, [], ◌∷◌, ◌++◌, ◌+◌, ◌==◌, ◌&&◌, ◌||◌, if◌then◌else◌, map, length, slice_get}
use Rattle.std.specs.Prelude.{slice_index, Option, Some, None, is_none, nat_le, option_map, option_and_then}
use Rattle.std.specs.List.{flat_map, list_any}
use Rattle.cq_base.specs.declared.name.Name.{Name}
use Rattle.cq_base.specs.declared.raw.Raw.{Raw}
use Rattle.cq_base.specs.Names.{number_of, same_name}
use Rattle.cq_theory.specs.declared.lookup.Symbol.{Symbol}
use Rattle.cq_theory.specs.declared.lookup.Symbol.TheVariants as symbol
use Rattle.cq_theory.specs.declared.refusal.TermRefusal.{TermRefusal}
use Rattle.cq_theory.specs.declared.refusal.TermRefusal.TheVariants as term_refusal
use Rattle.cq_theory.specs.declared.refusal.TheoryRefusal.{TheoryRefusal}
use Rattle.cq_theory.specs.declared.refusal.TheoryRefusal.TheVariants as theory_refusal
use Rattle.cq_theory.specs.declared.refusal.ArrowRefusal.{ArrowRefusal}
use Rattle.cq_theory.specs.declared.refusal.ArrowRefusal.TheVariants.{Missing}
use Rattle.cq_theory.specs.declared.presentation.Sort.{Sort}
use Rattle.cq_theory.specs.declared.presentation.Sort.TheVariants.{Plain, Entity}
use Rattle.cq_theory.specs.declared.presentation.Equation.{Equation}
use Rattle.cq_theory.specs.declared.schema.Edge.{Edge}
use Rattle.cq_theory.specs.declared.term.EntTerm.{EntTerm}
use Rattle.cq_theory.specs.declared.constant.Con.TheVariants.{Named}
use Rattle.cq_theory.specs.declared.term.TypeTerm.{TypeTerm}
use Rattle.cq_theory.specs.declared.term.TypeTerm.TheVariants.{Const}
use Rattle.cq_theory.specs.SchemaData.{SchemaData as Schema}
use Rattle.cq_theory.specs.ArrowRefusals.{of_arrow}
use Rattle.cq_theory.specs.EntTerm.{alone}
use Rattle.cq_theory.specs.Canonical.{below}
use Rattle.cq_theory.specs.Resolve.{or_else, sort_named, symbol_of, entity_in, has_unknown, has_wrong_count, has_reserved, raw_sort}
use Rattle.cq_theory.specs.Resolve.{are_of_one_sort, is_too_large, in_part}
use Rattle.cq_theory.specs.Resolved.{resolved, type_term_in, entity_term_in}
use Rattle.cq_theory.specs.Parts.{equation_of}
use Rattle.cq_theory.specs.Declaring.{first_part_fault, duplicate_or, number_or_zero}
use Rattle.cq_blocks.specs.declared.parts.Clause.{Clause}
use Rattle.cq_blocks.specs.declared.parts.Clause.TheVariants as clause
use Rattle.cq_blocks.specs.declared.block.Block.{Block}
use Rattle.cq_theory.specs.Groups.{positions}
use Rattle.cq_theory.specs.Groups.{edge_sources}

-- what f gives of the first item of which it gives something
abbrev pub first_of : {X R : Type 0} → (X → Option R) → List X → Option R
first_of f [] = None
first_of f (x ∷ xs) = or_else (f x) (first_of f xs)

-- The first of the parts, counted from n, that breaks a rule, with the least rule that it breaks.
-- The fault of a part is given by the parts before it and by its number.
abbrev pub first_fault_after : {X : Type 0} → (List X → ℕ → X → Option TheoryRefusal) → List X → ℕ → List X → Option TheoryRefusal
first_fault_after fault earlier n [] = None
first_fault_after fault earlier n (x ∷ xs) = or_else (fault earlier n x) (first_fault_after fault (earlier ++ x ∷ []) (n + 1) xs)

module _ (S : Schema) where
  -- a name of part n is no entity
  abbrev pub entity_fault : ℕ → Name → Option TheoryRefusal
  entity_fault n name =
      if is_none (sort_named S name) then Some (theory_refusal.Unknown n)
      else (if is_none (entity_in (sort_named S name)) then Some (theory_refusal.WrongSort n)
      else None)

  -- the entity of a name
  abbrev pub entity_named : Name → ℕ
  entity_named name = number_or_zero (entity_in (sort_named S name))

  -- the entity of block n has a block already, or its name is that of no entity
  abbrev pub block_fault : List Name → ℕ → Name → Option TheoryRefusal
  block_fault earlier n name = duplicate_or earlier n name (entity_fault n name)

  abbrev pub blocks_fault : List Name → Option TheoryRefusal
  blocks_fault names = first_part_fault (λ name. name) block_fault [] 0 names

  -- the entity of each block
  abbrev pub block_entities : List Name → List ℕ
  block_entities names = map entity_named names

-- The variables of the blocks, each of which is given with the number of its block, its name and the name of its entity.
module _ (entities : List ℕ) where
  abbrev pub name_in : ℕ → ℕ × Name × Name → List Name
  name_in entity part = if slice_index entities part.0 == entity then part.1 ∷ [] else []

  -- the names of the variables in the block of an entity
  abbrev pub names_in : ℕ → List (ℕ × Name × Name) → List Name
  names_in entity parts = flat_map (name_in entity) parts

module _ (S : Schema) (entities : List ℕ) where
  abbrev pub variable_in : ℕ → ℕ × Name × Name → List (Name × ℕ)
  variable_in entity part = if slice_index entities part.0 == entity then (part.1, entity_named S part.2) ∷ [] else []

  -- the variables in the block of an entity
  abbrev pub variables_in : ℕ → List (ℕ × Name × Name) → List (Name × ℕ)
  variables_in entity parts = flat_map (variable_in entity) parts

  -- the variables of each block, in the order of the entities
  abbrev pub scopes_of : ℕ → List (ℕ × Name × Name) → List (List (Name × ℕ))
  scopes_of count parts = map (λ entity. variables_in entity parts) (below count)

-- The name of variable n is one of these, which stand in its block already; or its entity is none; or the block has 16,000,000 variables
-- already.
abbrev pub variable_fault_after : Schema → List Name → ℕ → ℕ × Name × Name → Option TheoryRefusal
variable_fault_after S names n part =
    duplicate_or names n part.1 (or_else (entity_fault S n part.2)
    (if nat_le 16000000 (length names) then Some (theory_refusal.TooLarge n) else None))

module _ (S : Schema) (entities : List ℕ) where
  abbrev pub variable_fault : List (ℕ × Name × Name) → ℕ → ℕ × Name × Name → Option TheoryRefusal
  variable_fault earlier n part = variable_fault_after S (names_in entities (slice_index entities part.0) earlier) n part

  abbrev pub variables_fault : ℕ → List (ℕ × Name × Name) → Option TheoryRefusal
  variables_fault n parts = first_fault_after variable_fault [] n parts

-- the names and the sorts of the variables of a block
abbrev pub names_of : List (Name × ℕ) → List Name
names_of variables = map (λ v. v.0) variables

abbrev pub sorts_of : List (Name × ℕ) → List Sort
sorts_of variables = map (λ v. Entity v.1) variables

-- the least rule, where the rules are broken or not
abbrev pub least_rule : Bool → Bool → Bool → Bool → Bool → Option TermRefusal
least_rule unknown count sort reserved size =
    if unknown then Some term_refusal.Unknown
    else (if count then Some term_refusal.WrongCount
    else (if sort then Some term_refusal.WrongSort
    else (if reserved then Some term_refusal.Reserved
    else (if size then Some term_refusal.TooLarge
    else None))))

abbrev pub is_from : ℕ → Option Edge → Bool
is_from entity None = false
is_from entity (Some edge) = edge.from == entity

-- the attribute begins at the entity, and the sort is its type
abbrev pub is_right_attribute : ℕ → Option Edge → Option Sort → Bool
is_right_attribute entity None sort = false
is_right_attribute entity (Some edge) sort = (edge.from == entity) && are_of_one_sort sort (Some (Plain edge.to))

abbrev pub is_attribute : ℕ → Option Symbol → Bool
is_attribute a (Some (symbol.Attribute n)) = n == a
is_attribute a _ = false

abbrev pub is_key : ℕ → Option Symbol → Bool
is_key k (Some (symbol.Key n)) = n == k
is_key k _ = false

module _ (T : Schema) where
  abbrev pub attribute_edge : Option Symbol → Option Edge
  attribute_edge (Some (symbol.Attribute a)) = slice_get T.attributes a
  attribute_edge _ = None

  abbrev pub key_edge : Option Symbol → Option Edge
  key_edge (Some (symbol.Key k)) = slice_get T.keys k
  key_edge _ = None

-- the sort of a variable of a block
abbrev pub variable_sort : Name → List (Name × ℕ) → Option Sort
variable_sort name variables = option_and_then (slice_get (sorts_of variables)) (number_of (names_of variables) name)

-- the sort of a variable of the block to which a foreign key leads
abbrev pub target_sort : Schema → List (List (Name × ℕ)) → Name → Name → Option Sort
target_sort T scopes key variable = option_and_then (λ edge. option_and_then (variable_sort variable) (slice_get scopes edge.to))
    (key_edge T (symbol_of T key))

-- The rules of a clause, where the blocks have these variables.
module _ (S T : Schema) (scopes : List (List (Name × ℕ))) where
  module _ (variables : List (Name × ℕ)) where
    abbrev pub is_unknown : Raw → Bool
    is_unknown raw = has_unknown S (names_of variables) raw

    abbrev pub sort_in : Raw → Option Sort
    sort_in raw = raw_sort S (names_of variables) (sorts_of variables) raw

    -- the least rule that a clause in the block of an entity breaks
    abbrev pub clause_rule : ℕ → Clause → Option TermRefusal
    clause_rule entity (clause.Test left right) =
        least_rule (is_unknown left || is_unknown right) (has_wrong_count S left || has_wrong_count S right)
        (not (are_of_one_sort (sort_in left) (sort_in right))) (has_reserved S left || has_reserved S right)
        (is_too_large left || is_too_large right)
    clause_rule entity (clause.Att name raw) =
        least_rule (is_none (symbol_of T name) || is_unknown raw) (has_wrong_count S raw)
        (not (is_right_attribute entity (attribute_edge T (symbol_of T name)) (sort_in raw))) (has_reserved S raw) (is_too_large raw)
    clause_rule entity (clause.Key name) = least_rule (is_none (symbol_of T name)) false
        (not (is_from entity (key_edge T (symbol_of T name)))) false false
    clause_rule entity (clause.Assign key variable raw) =
        least_rule (is_none (target_sort T scopes key variable) || is_unknown raw) (has_wrong_count S raw)
        (not (is_from entity (key_edge T (symbol_of T key)) && are_of_one_sort (sort_in raw) (target_sort T scopes key variable)))
        (has_reserved S raw) (is_too_large raw)

  -- where there is no such block, it is unknown
  abbrev pub rule_over : Option (List (Name × ℕ)) → ℕ → Clause → Option TermRefusal
  rule_over None entity c = Some term_refusal.Unknown
  rule_over (Some variables) entity c = clause_rule variables entity c

  unfoldable pub rule_in : ℕ → Clause → Option TermRefusal
  rule_in entity c = rule_over (slice_get scopes entity) entity c

-- the attribute or foreign key of a clause, and the variable to which it assigns a term
abbrev pub gives_symbol : Name → Clause → Bool
gives_symbol name (clause.Att other raw) = same_name name other
gives_symbol name (clause.Key other) = same_name name other
gives_symbol name _ = false

abbrev pub gives_variable : Name → Name → Clause → Bool
gives_variable key variable (clause.Assign other name raw) = same_name key other && same_name variable name
gives_variable key variable _ = false

-- the second clause gives what the first one gives
abbrev pub gives_same : Clause → Clause → Bool
gives_same (clause.Test left right) c = false
gives_same (clause.Att name raw) c = gives_symbol name c
gives_same (clause.Key name) c = gives_symbol name c
gives_same (clause.Assign key variable raw) c = gives_variable key variable c

module _ (S T : Schema) (entities : List ℕ) (scopes : List (List (Name × ℕ))) where
  -- clause n gives what an earlier one gives, or it breaks another rule
  abbrev pub clause_fault : List (ℕ × Clause) → ℕ → ℕ × Clause → Option TheoryRefusal
  clause_fault earlier n part =
      if list_any (λ c. gives_same part.1 c.1) earlier then Some (theory_refusal.Duplicate n)
      else option_map (in_part n) (rule_in S T scopes (slice_index entities part.0) part.1)

  abbrev pub clauses_fault : ℕ → List (ℕ × Clause) → Option TheoryRefusal
  clauses_fault n clauses = first_fault_after clause_fault [] n clauses

-- What the clauses give.
module _ (T : Schema) where
  abbrev pub attribute_given : ℕ → Clause → Option Raw
  attribute_given a (clause.Att name raw) = if is_attribute a (symbol_of T name) then Some raw else None
  attribute_given a _ = None

  abbrev pub key_given : ℕ → Clause → Bool
  key_given k (clause.Key name) = is_key k (symbol_of T name)
  key_given k _ = false

  abbrev pub assigned_given : ℕ → Name → Clause → Option Raw
  assigned_given k variable (clause.Assign key name raw) = if is_key k (symbol_of T key) && same_name variable name then Some raw else None
  assigned_given k variable _ = None

  module _ (clauses : List (ℕ × Clause)) where
    -- the term of an attribute
    abbrev pub attribute_in : ℕ → Option Raw
    attribute_in a = first_of (λ part. attribute_given a part.1) clauses

    abbrev pub has_key : ℕ → Bool
    has_key k = list_any (λ part. key_given k part.1) clauses

    -- the term that a foreign key assigns to a variable of the block to which it leads
    abbrev pub assigned_in : ℕ → Name → Option Raw
    assigned_in k variable = first_of (λ part. assigned_given k variable part.1) clauses

    -- What no clause gives.
    abbrev pub missing_attribute : ℕ → Option Edge → Option ArrowRefusal
    missing_attribute a None = None
    missing_attribute a (Some edge) = if is_none (attribute_in a) then Some (Missing edge.name) else None

    abbrev pub missing_key : ℕ → Option Edge → Option ArrowRefusal
    missing_key k None = None
    missing_key k (Some edge) = if has_key k then None else Some (Missing edge.name)

    abbrev pub missing_variable : ℕ → Name × ℕ → Option ArrowRefusal
    missing_variable k variable = if is_none (assigned_in k variable.0) then Some (Missing variable.0) else None

    abbrev pub missing_attributes : List ℕ → Option ArrowRefusal
    missing_attributes attributes = first_of (λ a. missing_attribute a (slice_get T.attributes a)) attributes

    abbrev pub missing_keys : List ℕ → Option ArrowRefusal
    missing_keys keys = first_of (λ k. missing_key k (slice_get T.keys k)) keys

abbrev pub scope_or_none : Option (List (Name × ℕ)) → List (Name × ℕ)
scope_or_none None = []
scope_or_none (Some variables) = variables

module _ (T : Schema) (scopes : List (List (Name × ℕ))) (clauses : List (ℕ × Clause)) where
  abbrev pub missing_variables : ℕ → Option Edge → Option ArrowRefusal
  missing_variables k None = None
  missing_variables k (Some edge) = first_of (missing_variable T clauses k) (scope_or_none (slice_get scopes edge.to))

  abbrev pub missing_assigned : List ℕ → Option ArrowRefusal
  missing_assigned keys = first_of (λ k. missing_variables k (slice_get T.keys k)) keys

  -- the attributes, the foreign keys, and the variables of each foreign key
  unfoldable pub missing_in : List ℕ → List ℕ → Option ArrowRefusal
  missing_in attributes keys = or_else (missing_attributes T clauses attributes)
      (or_else (missing_keys T clauses keys) (missing_assigned keys))

  abbrev pub missing_at : ℕ → Option ArrowRefusal
  missing_at entity = missing_in (positions (edge_sources T.attributes) entity) (positions (edge_sources T.keys) entity)

  abbrev pub missing_part : Option ArrowRefusal
  missing_part = first_of missing_at (below (length T.entities))

-- The terms that the clauses give, over the variables of a block; others stand here only in parts that break a rule.
abbrev pub type_made : Schema → Option (List (Name × ℕ)) → Option Raw → TypeTerm
type_made S (Some variables) (Some raw) = type_term_in (resolved S (names_of variables) (sorts_of variables) raw)
type_made S _ _ = Const (Named 0)

abbrev pub entity_made : Schema → Option (List (Name × ℕ)) → Option Raw → EntTerm
entity_made S (Some variables) (Some raw) = entity_term_in (resolved S (names_of variables) (sorts_of variables) raw)
entity_made S _ _ = alone 0

module _ (S : Schema) (variables : List (Name × ℕ)) where
  abbrev pub test_made : Clause → List Equation
  test_made (clause.Test left right) =
      equation_of (resolved S (names_of variables) (sorts_of variables) left)
      (resolved S (names_of variables) (sorts_of variables) right) ∷ []
  test_made _ = []

abbrev pub test_in : Schema → List ℕ → List (Name × ℕ) → ℕ → ℕ × Clause → List Equation
test_in S entities variables entity part = if slice_index entities part.0 == entity then test_made S variables part.1 else []

-- the where equations of an entity's block
abbrev pub tests_made : Schema → List ℕ → List (List (Name × ℕ)) → List (ℕ × Clause) → ℕ → List Equation
tests_made S entities scopes clauses entity = flat_map (test_in S entities (scope_or_none (slice_get scopes entity)) entity) clauses

module _ (S T : Schema) (scopes : List (List (Name × ℕ))) (clauses : List (ℕ × Clause)) where
  abbrev pub attribute_made_at : ℕ → Option Edge → TypeTerm
  attribute_made_at a None = Const (Named 0)
  attribute_made_at a (Some edge) = type_made S (slice_get scopes edge.from) (attribute_in T clauses a)

  abbrev pub attribute_made : ℕ → TypeTerm
  attribute_made a = attribute_made_at a (slice_get T.attributes a)

  abbrev pub key_made_at : ℕ → Option Edge → List EntTerm
  key_made_at k None = []
  key_made_at k (Some edge) = map (λ v. entity_made S (slice_get scopes edge.from) (assigned_in T clauses k v.0))
      (scope_or_none (slice_get scopes edge.to))

  abbrev pub key_made : ℕ → List EntTerm
  key_made k = key_made_at k (slice_get T.keys k)

module _ (S T : Schema) (entities : List ℕ) (scopes : List (List (Name × ℕ))) (clauses : List (ℕ × Clause)) where
  -- the block of an entity, by the attributes and foreign keys from it
  unfoldable pub block_in : List ℕ → List ℕ → ℕ → Block
  block_in attributes keys entity = record {
    vars = scope_or_none (slice_get scopes entity);
    tests = tests_made S entities scopes clauses entity;
    attributes = map (attribute_made S T scopes clauses) attributes;
    keys = map (key_made S T scopes clauses) keys;
  }

  abbrev pub block_made : ℕ → Block
  block_made entity = block_in (positions (edge_sources T.attributes) entity) (positions (edge_sources T.keys) entity) entity

  abbrev pub blocks_made : List Block
  blocks_made = map block_made (below (length T.entities))

  -- the faults after the variables: the clauses, the first of which is part n, and then what no clause gives
  abbrev pub clauses_and_rest_fault : ℕ → Option ArrowRefusal
  clauses_and_rest_fault n = or_else (option_map of_arrow (clauses_fault S T entities scopes n clauses)) (missing_part T scopes clauses)

-- the faults after the entities of the blocks: the variables, the first of which is part n, and then the rest
abbrev pub variables_and_rest_fault : Schema → Schema → List ℕ → ℕ → List (ℕ × Name × Name) → List (ℕ × Clause) → Option ArrowRefusal
variables_and_rest_fault S T entities n variables clauses =
    or_else (option_map of_arrow (variables_fault S entities n variables))
    (clauses_and_rest_fault S T entities (scopes_of S entities (length T.entities) variables) clauses (n + length variables))
