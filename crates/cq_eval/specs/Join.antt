-- Answers that are found one variable at a time.
use Rattle.std.specs.Prelude.{ℕ, Bool, not, List, [], ◌∷◌, ◌++◌, ◌≡◌, ◌≤◌, ◌+◌, ◌*◌, ◌==◌, ◌||◌, if◌then◌else◌, Some}
use Rattle.std.specs.Prelude.{map, filter, length}
use Rattle.std.specs.Prelude.{slice_get}
use Rattle.std.specs.List.{list_all, flat_map}
use Rattle.cq_theory.specs.declared.presentation.Equation.{Equation}
use Rattle.cq_theory.specs.Canonical.{below}
use Rattle.cq_theory.specs.Groups.{positions}
use Rattle.cq_theory.specs.SchemaData.{SchemaData as Schema}
use Rattle.cq_theory.specs.Tables.{Tables, count_of}
use Rattle.cq_blocks.specs.declared.block.Block.{Block}
use Rattle.cq_query.specs.Answers.{IsTuple}
use Rattle.cq_eval.specs.Testing.{holds_at, stage, IsTestAt}

module _ {E : Type 0} (stage_of : E → ℕ) (holds : List ℕ → E → Bool) (tests : List E) where
  -- the tests of one stage hold
  abbrev pub passes_at : ℕ → List ℕ → Bool
  passes_at bound rows = list_all (λ e. not (stage_of e == bound) || holds rows e) tests

  -- the tests hold of which the newest row is the last that they need
  abbrev pub passes : List ℕ → Bool
  passes rows = passes_at (length rows) rows

  -- the rows that are bound with rows for the other variables, of which these are the counts, where each test holds as
  -- soon as its rows are bound
  abbrev pub found : List ℕ → List ℕ → List (List ℕ)
  found [] bound = bound ∷ []
  found (count ∷ counts) bound = flat_map (found counts) (filter passes (map (λ row. bound ++ row ∷ []) (below count)))

-- what a search for answers starts from: the where equations, the places of those of each stage, and how many rows
-- there are for each variable
pub record IsJoin (S : Schema) (M : Tables) (tests : List Equation) (groups : List (List ℕ))
    (counts : List ℕ) : Type 0 where
  pub staged : groups ≡ map (positions (map (stage (length counts)) tests)) (below (length counts + 1))
  pub typed : (rows : List ℕ) → IsTuple rows counts → (n : ℕ) (e : Equation) → slice_get tests n ≡ Some e
      → IsTestAt S M rows e

-- no where equation is tested when more variables are bound than this
abbrev pub IsLast : List Equation → List ℕ → ℕ → Type 0
IsLast tests counts last = (n : ℕ) (e : Equation) → slice_get tests n ≡ Some e → stage (length counts) e ≤ last

-- how many choices there are of a row below each count
abbrev pub combinations : List ℕ → ℕ
combinations [] = 1
combinations (count ∷ counts) = count * combinations counts

module _ (M : Tables) (tests : List Equation) (counts : List ℕ) where
  abbrev pub test_passes_at : ℕ → List ℕ → Bool
  test_passes_at = passes_at (stage (length counts)) (holds_at M) tests

  abbrev pub found_from : List ℕ → List ℕ → List (List ℕ)
  found_from = found (stage (length counts)) (holds_at M) tests

  -- what is found from the rows that are bound, if the tests hold that they complete
  abbrev pub found_by : List ℕ → List ℕ → List (List ℕ)
  found_by left bound = if passes (stage (length counts)) (holds_at M) tests bound then found_from left bound else []

-- at any rows for the variables of a block, the sides of its where equations are terms over them
abbrev pub IsTested : Schema → Tables → Block → Type 0
IsTested S M block =
    (rows : List ℕ) → IsTuple rows (map (λ v. count_of M v.1) block.vars) → (n : ℕ) (e : Equation)
    → slice_get block.tests n ≡ Some e
    → IsTestAt S M rows e
