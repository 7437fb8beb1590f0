-- Answers of a query, and the tables of eval.
use Rattle.std.specs.Prelude.{ℕ, List, [], ◌∷◌, ◌≡◌, ◌<◌, Some, map, length, slice_get, slice_index_or}
use Rattle.std.specs.List.{flat_map}
use Rattle.cq_theory.specs.declared.presentation.Equation.{Equation}
use Rattle.cq_theory.specs.declared.schema.Edge.{Edge}
use Rattle.cq_theory.specs.Canonical.{below}
use Rattle.cq_theory.specs.Derivation.{left_of, right_of}
use Rattle.cq_theory.specs.Tables.{Tables, Assignment, AtRow, count_of, key_at, cell_at, row_of, value_of, meaning_of}
use Rattle.cq_query.specs.QueryData.{QueryData as Query}
use Rattle.cq_query.specs.Translation.{variables_at, tests_at, assigned, attribute_term}

-- all lists that have at each place a number below the count at that place, in lexicographic order
abbrev pub tuples : List ℕ → List (List ℕ)
tuples [] = [] ∷ []
tuples (count ∷ counts) = flat_map (λ row. map (λ rows. row ∷ rows) (tuples counts)) (below count)

-- a number below the count at each place
abbrev pub IsTuple : List ℕ → List ℕ → Type 0
IsTuple [] [] = Unit {0}
IsTuple (row ∷ rows) (count ∷ counts) = (row < count) × IsTuple rows counts
IsTuple _ _ = ⊥

-- the members of the first list that have P, in order
pub data AreFiltered {X : Type 0} (P : X → Type 0) : List X → List X → Type 0 where
  none : AreFiltered P [] []
  kept : {x : X} {xs ys : List X} → P x → AreFiltered P xs ys → AreFiltered P (x ∷ xs) (x ∷ ys)
  left_out : {x : X} {xs ys : List X} → (P x → ⊥) → AreFiltered P xs ys → AreFiltered P (x ∷ xs) ys

module _ (Q : Query) (M : Tables) where
  -- the rows of tables of the source for the variables of an entity's block, as what the generators stand for
  abbrev pub stands : List ℕ → Assignment
  stands rows = map AtRow rows

  -- how many rows the entity of each variable has
  abbrev pub variable_counts : ℕ → List ℕ
  variable_counts entity = map (λ v. count_of M v.1) (variables_at Q entity)

  -- each where equation holds
  abbrev pub MeetsTests : ℕ → List ℕ → Type 0
  MeetsTests entity rows =
      (n : ℕ) (e : Equation) → slice_get (tests_at Q entity) n ≡ Some e
      → meaning_of M (stands rows) (left_of e) ≡ meaning_of M (stands rows) (right_of e)

  -- the list of all assignments of rows to the variables, in lexicographic order, of which those are kept at which the where equations hold
  abbrev pub AreAnswers : ℕ → List (List ℕ) → Type 0
  AreAnswers entity answers = AreFiltered (MeetsTests entity) (tuples (variable_counts entity)) answers

  -- Tables of the target: a row for each answer, in order; a foreign key leads to the answer that its terms give; a cell is the
  -- value of the query's term; nulls and entries stay.
  pub record IsEval (N : Tables) : Type 0 where
    pub answers : List (List (List ℕ))
    pub each : (entity : ℕ) → entity < length Q.target.entities → AreAnswers entity (slice_index_or answers entity [])
    pub counts : N.sheet.counts ≡ map (λ entity. length (slice_index_or answers entity [])) (below (length Q.target.entities))
    pub key_columns : (k : ℕ) (edge : Edge) → slice_get Q.target.keys k ≡ Some edge
        → length (slice_index_or N.sheet.keys k []) ≡ count_of N edge.from
    pub cell_columns : (a : ℕ) (edge : Edge) → slice_get Q.target.attributes a ≡ Some edge
        → length (slice_index_or N.sheet.cells a []) ≡ count_of N edge.from
    pub keys : (k row : ℕ) (edge : Edge) (rows : List ℕ) → slice_get Q.target.keys k ≡ Some edge
        → slice_get (slice_index_or answers edge.from []) row ≡ Some rows
        → slice_get (slice_index_or answers edge.to []) (key_at N k row) ≡ Some (map (row_of M (stands rows)) (assigned Q k))
    pub cells : (a row : ℕ) (edge : Edge) (rows : List ℕ) → slice_get Q.target.attributes a ≡ Some edge
        → slice_get (slice_index_or answers edge.from []) row ≡ Some rows
        → cell_at N a row ≡ value_of M (stands rows) (attribute_term Q a)
    pub algebra : N.algebra ≡ M.algebra
    pub key_count : length N.sheet.keys ≡ length Q.target.keys
    pub cell_count : length N.sheet.cells ≡ length Q.target.attributes
