-- Copies of rows in coeval, and answers in eval.
use Rattle.std.specs.Prelude.{ℕ, List, [], ◌≡◌, ◌<◌, ◌+◌, ◌*◌, Some, length, slice_get, slice_index_or, position}
use Rattle.std.specs.Prelude.{nat_eq}
use Rattle.std.specs.Option.{unwrap_or}
use Rattle.std.specs.Cmp.Lexicographic.{pointwise, slice_cmp}
use Rattle.std.specs.List.Sorted.{IsNonDecreasingBy}
use Rattle.std.specs.Ordering.{nat_cmp, ordering_index}
use Rattle.cq_theory.specs.declared.term.EntTerm.{EntTerm}
use Rattle.cq_theory.specs.declared.term.TypeTerm.{TypeTerm}
use Rattle.cq_theory.specs.declared.value.Value.{Value}
use Rattle.cq_theory.specs.EntTerm.{alone}
use Rattle.cq_theory.specs.Tables.{Tables}
use Rattle.cq_terms.specs.ValueTerms.{value_term}
use Rattle.cq_query.specs.QueryData.{QueryData as Query}
use Rattle.cq_query.specs.Translation.{variables_at}
use Rattle.cq_query.specs.Coeval.{start_of, null_start}
use Rattle.cq_query.specs.Answers.{AreAnswers}

module _ (Q : Query) (M : Tables) where
  -- the generator of coeval for a row of an entity of the target and a variable of its block
  abbrev pub copy_of : ℕ → ℕ → ℕ → EntTerm
  copy_of entity row variable = alone
      (start_of Q M.sheet.counts entity + row * length (variables_at Q entity) + variable)

  -- a value of the tables as a term, in which a null stands as its generator of coeval
  abbrev pub copied_value : Value → TypeTerm
  copied_value = value_term (null_start Q M.sheet.counts) (length M.algebra.nulls)

-- the answers of a query for an entity, in those for each entity of its target
abbrev pub answers_at : List (List (List ℕ)) → ℕ → List (List ℕ)
answers_at answers entity = slice_index_or answers entity []

-- the place at which an answer stands among others, or 0 where it doesn't
abbrev pub place_of : List (List ℕ) → List ℕ → ℕ
place_of answers rows = unwrap_or (position (pointwise nat_eq rows) answers) 0

-- no list stands twice
abbrev pub StandOnce : List (List ℕ) → Type 0
StandOnce lists = (p q : ℕ) (rows : List ℕ) → slice_get lists p ≡ Some rows → slice_get lists q ≡ Some rows → p ≡ q

-- 0 where a list comes before the rows in lexicographic order, 1 where it is these rows, and 2 where it comes after
-- them
abbrev pub order_to : List ℕ → List ℕ → ℕ
order_to rows list = ordering_index (slice_cmp nat_cmp list rows)

-- the lists stand in lexicographic order: to whatever rows they are compared, none that comes before them stands behind
-- one that doesn't
abbrev pub DoRise : List (List ℕ) → Type 0
DoRise lists = (rows : List ℕ) → IsNonDecreasingBy (order_to rows) lists

-- the lists stand in lexicographic order, each once
abbrev pub AreInOrder : List (List ℕ) → Type 0
AreInOrder lists = DoRise lists × StandOnce lists

-- the answers of a query for each entity of its target, in order
pub record AreAllAnswers (Q : Query) (M : Tables) (answers : List (List (List ℕ))) : Type 0 where
  pub count : length answers ≡ length Q.target.entities
  pub each : (entity : ℕ) → entity < length Q.target.entities → AreAnswers Q M entity (answers_at answers entity)
