-- Records of nulls.
use Rattle.std.proofs.Common.{ℕ, List, [], ◌∷◌, Option, Some, None, ◌≡◌, ap, ◌∙◌}
use Rattle.std.specs.Prelude.{unwrap_or}
use Rattle.cq_theory.specs.TypesideData.{TypesideData as Typeside}
use Rattle.cq_values.specs.Built.{label_in}
use Rattle.cq_import.specs.Entries.{is_new, null_fault, null_use, or_bad, type_named}
use Rattle.cq_import.specs.Faults.{BadCell, or_else}
use Rattle.cq_import.specs.Labels.{Labels}
use Rattle.cq_import.specs.Records.{Record, field_in}
use Rattle.cq_import.proofs.Faulty.{after_none, both_none}

module _ (T : Typeside) (file : List ℕ) (labels : Labels) (number : ℕ) (fields : Record) where
  pub no_label : is_new labels (label_in (field_in fields 1)) ≡ None → null_fault T file labels number fields ≡ Some (BadCell file number 2)
  no_label none = ap (λ o. or_else (or_bad o (BadCell file number 2)) (or_bad (type_named T (field_in fields 2)) (BadCell file number 3))) none

  module _ (label : ℕ) (new : is_new labels (label_in (field_in fields 1)) ≡ Some label) where
    passes : or_bad (is_new labels (label_in (field_in fields 1))) (BadCell file number 2) ≡ None
    passes = ap (λ o. or_bad o (BadCell file number 2)) new

    pub no_type : type_named T (field_in fields 2) ≡ None → null_fault T file labels number fields ≡ Some (BadCell file number 3)
    no_type none =
        after_none _ (or_bad (type_named T (field_in fields 2)) (BadCell file number 3)) passes ∙ ap (λ o. or_bad o (BadCell file number 3)) none

    pub null_passes : (type : ℕ) → type_named T (field_in fields 2) ≡ Some type → null_fault T file labels number fields ≡ None
    null_passes type is = both_none _ (or_bad (type_named T (field_in fields 2)) (BadCell file number 3)) passes (ap (λ o. or_bad o (BadCell file number 3)) is)

  pub null_is : (label type : ℕ) → label_in (field_in fields 1) ≡ Some label → type_named T (field_in fields 2) ≡ Some type → null_use T fields ≡ (label, type)
  null_is label type of_label of_type = λ i. (unwrap_or (of_label i) 0, unwrap_or (of_type i) 0)
