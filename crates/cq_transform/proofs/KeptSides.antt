-- Whether the sides of equations are equal.
use Rattle.std.proofs.Common.{ℕ, Bool, List, Some, ◌≡◌, ◌<◌, ◌+◌, ◌↔◌, ◌⊎◌, inl, inr, IsTrue, nat_eq, get_or, length, refl, sym, ap, subst, ◌∙◌, eq-eqb}
use Rattle.std.specs.Prelude.{slice_get}
use Rattle.std.proofs.lemmas.Bool.{eqb-true}
use Rattle.cq_theory.specs.declared.presentation.Equation.{Equation}
use Rattle.cq_theory.specs.declared.term.EntTerm.{EntTerm}
use Rattle.cq_theory.specs.declared.term.TypeTerm.{TypeTerm}
use Rattle.cq_theory.specs.declared.value.Value.{Value}
use Rattle.cq_theory.specs.Tables.{Tables, Assignment, AtRow, AtValue, row_in, value_in, row_of, value_of}
use Rattle.cq_transform.specs.declared.refusal.TransformRefusal.{TransformRefusal}
use Rattle.cq_transform.specs.declared.refusal.TransformRefusal.TheVariants.{Broken, Memory}
use Rattle.cq_transform.specs.Refusals.{IsEqual, AreEqualBefore, TellsUnequal}
use Rattle.cq_transform.proofs.Loops.{more_below, member_read, read_at}

module _ (N : Tables) (B : Assignment) where
  pub kept_rows : (t u : EntTerm) (m n : ℕ) → m ≡ row_of N B t → n ≡ row_of N B u → IsTrue (nat_eq m n) ↔ (AtRow (row_of N B t) ≡ AtRow (row_of N B u))
  kept_rows t u m n e f = (
    λ h. ap AtRow (sym e ∙ eqb-true m n h ∙ f),
    λ h. eq-eqb m n (e ∙ ap row_in h ∙ sym f),
  )

  pub kept_values : (t u : TypeTerm) (v w : Value) (r : Bool) → v ≡ value_of N B t → w ≡ value_of N B u → IsTrue r ↔ (v ≡ w) → IsTrue r ↔ (AtValue (value_of N B t) ≡ AtValue (value_of N B u))
  kept_values t u v w r e f same = (
    λ h. ap AtValue (sym e ∙ same.0 h ∙ f),
    λ h. same.1 (e ∙ ap value_in h ∙ sym f),
  )

  module _ (equations : List Equation) (k : ℕ) (e : Equation) (within : k < length equations) (is : e ≡ get_or equations k e) (before : AreEqualBefore N B equations k) where
    pub equal_more : IsEqual N B e → AreEqualBefore N B equations (k + 1)
    equal_more here =
        more_below (λ n. (x : Equation) → slice_get equations n ≡ Some x → IsEqual N B x) (λ n. (x : Equation) → slice_get equations n ≡ Some x → IsEqual N B x) k
        (λ n old. old) before (λ x at. subst (IsEqual N B) (member_read equations k e x within is at) here)

    pub first_unequal : (refusal : TransformRefusal) → (refusal ≡ Memory) ⊎ ((refusal ≡ Broken (k + 1)) × (IsEqual N B e → ⊥)) → TellsUnequal N B equations refusal
    first_unequal refusal (inl memory) = subst (TellsUnequal N B equations) (sym memory) tt
    first_unequal refusal (inr told) = subst (TellsUnequal N B equations) (sym told.0) (record {
      place = k;
      number = refl;
      equation = e;
      there = read_at equations k e within is;
      broken = told.1;
      first = before;
    })
