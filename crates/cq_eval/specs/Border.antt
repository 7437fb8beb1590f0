-- Borders of a search: what is left to be tested behind them reads nothing that stands before them.
use Rattle.std.specs.Prelude.{ℕ, List, [], ◌∷◌, ◌≡◌, ◌<◌, ◌≤◌, ◌+◌, Some, length, min, slice_get, slice_index}
use Rattle.cq_theory.specs.declared.term.TypeTerm.{TypeTerm}
use Rattle.cq_theory.specs.declared.term.TypeTerm.TheOpen.{TypeTerm-F, Gen, Const, Att, Fun}
use Rattle.cq_theory.specs.declared.term.TypeTerm.TheFolds.{fold-TypeTerm}
use Rattle.cq_theory.specs.declared.presentation.Equation.{Equation}
use Rattle.cq_theory.specs.declared.presentation.Equation.TheVariants.{Ent, Typ}
use Rattle.cq_eval.specs.Testing.{stage}

-- the least of some numbers and one more
abbrev pub least : ℕ → List ℕ → ℕ
least most [] = most
least most (n ∷ ns) = min n (least most ns)

-- the first variable of a term or a where equation, and the number of variables where it has none
module _ (width : ℕ) where
  abbrev pub first_step : TypeTerm-F ℕ → ℕ
  first_step (Gen n) = n
  first_step (Const c) = width
  first_step (Att a t) = t.generator
  first_step (Fun f firsts) = least width firsts

  abbrev pub first_of : TypeTerm → ℕ
  first_of = fold-TypeTerm ℕ first_step

  abbrev pub first_variable : Equation → ℕ
  first_variable (Ent t u) = min t.generator u.generator
  first_variable (Typ t u) = min (first_of t) (first_of u)

  -- none of the where equations that are tested when more variables are bound reads one of the first so many
  abbrev pub IsBorder : List Equation → ℕ → Type 0
  IsBorder tests bound = (n : ℕ) (e : Equation) → slice_get tests n ≡ Some e → bound < stage width e
      → bound ≤ first_variable e

  -- for each number of bound variables none that is greater than the first variable of an equation that is tested then
  pub record AreLeast (tests : List Equation) (firsts : List ℕ) : Type 0 where
    pub long : length firsts ≡ width + 1
    pub first : (n : ℕ) (e : Equation) → slice_get tests n ≡ Some e
        → slice_index firsts (stage width e) ≤ first_variable e
