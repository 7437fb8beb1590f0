-- Variables in another order, and where equations over them as they are numbered in it.
use Rattle.std.specs.Prelude.{ℕ, List, ◌≡◌, ◌<◌, map, length, slice_index, slice_index_or}
use Rattle.cq_theory.specs.declared.term.EntTerm.{EntTerm}
use Rattle.cq_theory.specs.declared.term.TypeTerm.{TypeTerm}
use Rattle.cq_theory.specs.declared.term.TypeTerm.TheVariants as term
use Rattle.cq_theory.specs.declared.term.TypeTerm.TheOpen.{TypeTerm-F}
use Rattle.cq_theory.specs.declared.term.TypeTerm.TheFolds.{fold-TypeTerm}
use Rattle.cq_theory.specs.declared.presentation.Equation.{Equation}
use Rattle.cq_theory.specs.Carried.{carried_step, carried_equation}

-- the number at place n is a place of the second list, at which n stands
abbrev pub IsBack : List ℕ → List ℕ → ℕ → Type 0
IsBack numbers places n = (slice_index numbers n < length places) × (slice_index places (slice_index numbers n) ≡ n)

-- each number below the width stands in the order at its place, and nowhere else
pub record IsOrder (width : ℕ) (order places : List ℕ) : Type 0 where
  pub order_long : length order ≡ width
  pub places_long : length places ≡ width
  pub placed : (v : ℕ) → v < width → IsBack places order v
  pub ordered : (n : ℕ) → n < width → IsBack order places n

-- the numbers that stand at these places
abbrev pub picked : List ℕ → List ℕ → List ℕ
picked places numbers = map (slice_index numbers) places

module _ (places : List ℕ) where
  -- the place of a variable; a number that is none stays
  abbrev pub renumbered : ℕ → ℕ
  renumbered v = slice_index_or places v v

  -- the same term over variables that are numbered by their places
  abbrev pub renamed_entity : EntTerm → EntTerm
  renamed_entity t = record { generator = renumbered t.generator; path = t.path }

  abbrev pub renamed_step : TypeTerm-F TypeTerm → TypeTerm
  renamed_step = carried_step (λ n. term.Gen (renumbered n)) (λ a t. term.Att a (renamed_entity t))

  abbrev pub renamed_type : TypeTerm → TypeTerm
  renamed_type = fold-TypeTerm TypeTerm renamed_step

  abbrev pub renamed : Equation → Equation
  renamed = carried_equation renamed_entity renamed_type
