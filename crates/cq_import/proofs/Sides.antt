-- The sides of entries.
use Rattle.std.proofs.Common.{ℕ, List, [], ◌∷◌, Option, Some, None, ◌≡◌, sym, ap, ◌∙◌}
use Rattle.cq_theory.specs.declared.presentation.Equation.TheVariants.{Typ}
use Rattle.cq_theory.specs.declared.value.Value.{Value}
use Rattle.cq_theory.specs.TypesideData.{TypesideData as Typeside}
use Rattle.cq_values.specs.Reading.{value_in}
use Rattle.cq_import.specs.declared.refusal.CsvRefusal.{CsvRefusal}
use Rattle.cq_import.specs.Entries.{right_equations, right_fault, sides_equations, sides_fault, uses_fault}
use Rattle.cq_import.specs.Faults.{BadCell, Fault, Tells, or_else}
use Rattle.cq_import.specs.Labels.{Labels, value_term}
use Rattle.cq_import.proofs.Faulty.{after_none, refuses_same}

module _ (T : Typeside) (file : List ℕ) (labels : Labels) (number : ℕ) (o : Option (ℕ × Value)) where
  pub left_missing : o ≡ None → (right : List ℕ) → sides_fault T file labels number o right ≡ Some (BadCell file number 2)
  left_missing is right = ap (λ p. sides_fault T file labels number p right) is

  module _ (type : ℕ) (v : Value) (is : o ≡ Some (type, v)) where
    pub left_wrong : (fault : Fault) → uses_fault T file labels number 2 v type ≡ Some fault → (right : List ℕ) → sides_fault T file labels number o right ≡ Some fault
    left_wrong fault wrong right =
        ap (λ p. sides_fault T file labels number p right) is ∙ ap (λ f. or_else f (right_fault T file labels number type (value_in T type right))) wrong

    pub left_passes : uses_fault T file labels number 2 v type ≡ None → (right : List ℕ) → sides_fault T file labels number o right ≡ right_fault T file labels number type (value_in T type right)
    left_passes passed right =
        ap (λ p. sides_fault T file labels number p right) is ∙ after_none (uses_fault T file labels number 2 v type) (right_fault T file labels number type (value_in T type right)) passed

    pub both_equation : (right : List ℕ) (w : Value) → value_in T type right ≡ Some w → (first : ℕ) (given : Labels)
        → sides_equations T first given o right ≡ Typ (value_term first given v) (value_term first given w) ∷ []
    both_equation right w there first given = ap (λ p. sides_equations T first given p right) is ∙ ap (right_equations T first given v) there

    -- what is wrong with the right side is wrong with the entry
    pub right_refused : uses_fault T file labels number 2 v type ≡ None → (right : List ℕ) (same : Labels) (r : CsvRefusal) → same ≡ labels
        → Tells r (right_fault T file same number type (value_in T type right)) → Tells r (sides_fault T file labels number o right)
    right_refused passed right same r kept refuses =
        refuses_same r _ _ (ap (λ l. right_fault T file l number type (value_in T type right)) kept ∙ sym (left_passes passed right)) refuses
