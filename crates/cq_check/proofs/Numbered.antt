-- Duties in order: what is known once the first ones are derivable, and one more is asked for.
use Rattle.std.proofs.Common.{ℕ, List, Some, ◌≡◌, ◌+◌, inl, inr, sym, ap, subst, ◌∙◌, arith}
use Rattle.std.specs.Prelude.{slice_get}
use Rattle.std.proofs.lemmas.Bool.{cases_lt}
use Rattle.cq_check.specs.Answers.{IsTooDeep, IsTooWide, IsMet, AreMet, IsNumbered, IsFirstUnmet, IsFirstTooDeep, IsFirstTooWide}
use Rattle.cq_check.proofs.Lists.{one_at}
use Rattle.cq_theory.specs.declared.presentation.Equation.{Equation}
use Rattle.cq_theory.specs.declared.presentation.Presentation.{Presentation}
use Rattle.cq_theory.specs.SchemaData.{SchemaData as Schema}

module _ (D : Type 0) (S : Schema) (over : D → Presentation) (equation : D → Equation) (duties : List D) where
  module _ (place : ℕ) (duty : D) (found : slice_get duties place ≡ Some duty) (before : AreMet D S over equation duties place) where
    pub one_more_met : IsMet D S over equation duties duty → AreMet D S over equation duties (place + 1)
    one_more_met met i d less at = elim (cases_lt i place) [
      | inl less' ↦ before i d less' at
      | inr le ↦
          let same : i ≡ place = omega (arith, le, less) in
          let equal : duty ≡ d = one_at duties place duty d found (ap (slice_get duties) (sym same) ∙ at) in
          subst (IsMet D S over equation duties) equal met
    ]

    numbered : (number : ℕ) → number ≡ place + 1 → IsNumbered D S over equation duties number duty
    numbered number is = record { place = place; number_is = is; is = found; earlier = before }

    pub first_unmet : (number : ℕ) → number ≡ place + 1 → (IsMet D S over equation duties duty → ⊥) → IsFirstUnmet D S over equation duties number
    first_unmet number is not = (duty, numbered number is, not)

    pub first_too_deep : (number depth : ℕ) → number ≡ place + 1 → IsTooDeep S (over duty) (equation duty) depth → IsFirstTooDeep D S over equation duties depth number
    first_too_deep number depth is deep = (duty, numbered number is, deep)

    pub first_too_wide : (number depth : ℕ) → number ≡ place + 1 → IsTooWide S (over duty) (equation duty) depth → IsFirstTooWide D S over equation duties depth number
    first_too_wide number depth is wide = (duty, numbered number is, wide)
