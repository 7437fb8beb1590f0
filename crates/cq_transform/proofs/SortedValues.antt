-- A homomorphism keeps the types of values, and sends them to values on which no entry bears.
use Rattle.std.proofs.Common.{ℕ, Bool, true, List, [], ◌∷◌, Option, Some, None, ◌≡◌, ◌<◌, ◌&&◌, if◌then◌else◌, map, refl, sym, ap, ◌∙◌}
use Rattle.std.specs.Prelude.{slice_get, find}
use Rattle.cq_theory.specs.SchemaData.{SchemaData as Schema}
use Rattle.cq_theory.specs.declared.typeside.Fun.{Fun as Function}
use Rattle.cq_theory.specs.declared.value.Value.{Value}
use Rattle.cq_theory.specs.declared.value.Value.TheVariants.{Const, Null, Fun}
use Rattle.cq_theory.specs.declared.value.Entry.{Entry}
use Rattle.cq_theory.specs.Sorts.{is_type, have_types, applied_type}
use Rattle.cq_theory.specs.Tables.{Tables, is_for, entry_or_built, applied, value_type, value_type_step, normal_of, normal_step, IsSoundEntry, IsWellFormed}
use Rattle.cq_theory.specs.Homomorphism.{value_image, value_image_step, IsHomomorphism}
use Rattle.cq_theory.proofs.Values as values
use Rattle.cq_theory.proofs.OnValues.{Each, on_values, All_at, found_passes, entry_for}
use Rattle.cq_theory.proofs.Sound.{both, is_type_some, applied_type_some}
use Rattle.cq_transform.proofs.Normal.{applied_normal}

-- a function at values of its types gives a value of its type
applied_typed : (S : Schema) (M : Tables) → IsWellFormed S M → (f : ℕ) (vs : List Value) (type : ℕ)
    → applied_type (slice_get S.typeside.functions f) (map (value_type S M.algebra.nulls) vs) ≡ Some type → value_type S M.algebra.nulls (applied M f vs) ≡ Some type
applied_typed S M well f vs type h = at_entry (find (is_for f vs) M.algebra.entries) refl
  where
    at_entry : (o : Option Entry) → find (is_for f vs) M.algebra.entries ≡ o → value_type S M.algebra.nulls (entry_or_built o f vs) ≡ Some type
    at_entry None e = values.fold-Fun (Option ℕ) (value_type_step S M.algebra.nulls) f vs ∙ h
    at_entry (Some entry) e =
        let stands = found_passes (is_for f vs) M.algebra.entries entry e in
        let for_it = entry_for f vs entry stands.2 in
        let sound : IsSoundEntry S M entry = All_at (IsSoundEntry S M) M.algebra.entries stands.0 entry well.entries stands.1 in
        let parts = applied_type_some (slice_get S.typeside.functions f) (map (value_type S M.algebra.nulls) vs) type h in
        let here : Some sound.function ≡ Some parts.0 = sym sound.known ∙ ap (slice_get S.typeside.functions) for_it.0 ∙ parts.1 in
        let same : sound.function ≡ parts.0 = cc in
        sound.same_type ∙ ap (λ (g : Function). Some g.result) same ∙ ap (λ n. Some n) parts.3

module _ (S : Schema) (M N : Tables) (rows : List (List ℕ)) (nulls : List Value) (well : IsWellFormed S N) (homomorphism : IsHomomorphism S M N rows nulls) where
  abbrev image : Value → Value
  image = value_image S M N rows nulls

  abbrev here : Value → Option ℕ
  here = value_type S M.algebra.nulls

  abbrev there : Value → Option ℕ
  there = value_type S N.algebra.nulls

  abbrev IsSorted : Value → Type 0
  IsSorted v = (type : ℕ) → here v ≡ Some type → (there (image v) ≡ Some type) × (normal_of N (image v) ≡ image v)

  all_sorted : (vs : List Value) (types : List ℕ) → have_types (map here vs) types ≡ true → Each IsSorted vs
      → (have_types (map there (map image vs)) types ≡ true) × (map (normal_of N) (map image vs) ≡ map image vs)
  all_sorted [] types h each = (h, refl)
  all_sorted (v ∷ vs) [] h each = cc
  all_sorted (v ∷ vs) (type ∷ types) h each =
      let parts = both (is_type (here v) type) (have_types (map here vs) types) h in
      let before : here v ≡ Some type = is_type_some (here v) type parts.0 in
      let one = each.0 type before in
      let rest = all_sorted vs types parts.1 each.1 in
      let first : is_type (there (image v)) type ≡ true = ap (λ o. is_type o type) (one.0 ∙ sym before) ∙ parts.0 in (
        ap (λ b. b && have_types (map there (map image vs)) types) first ∙ rest.0,
        (λ i. one.1 i ∷ rest.1 i),
      )

  pub value_sorted : (v : Value) → IsSorted v
  value_sorted = on_values IsSorted
      (λ c type h.
      let is : image (Const c) ≡ Const c = values.fold-Const Value (value_image_step S M N rows nulls) c in (
        ap there is ∙ values.fold-Const (Option ℕ) (value_type_step S N.algebra.nulls) c ∙ sym (values.fold-Const (Option ℕ) (value_type_step S M.algebra.nulls) c) ∙ h,
        ap (normal_of N) is ∙ values.fold-Const Value (normal_step N) c ∙ sym is,
      ))
      (λ n type h. homomorphism.typed n type (sym (values.fold-Null (Option ℕ) (value_type_step S M.algebra.nulls) n) ∙ h))
      (λ f vs each type h.
      let parts = applied_type_some (slice_get S.typeside.functions f) (map here vs) type (sym (values.fold-Fun (Option ℕ) (value_type_step S M.algebra.nulls) f vs) ∙ h) in
      let args = all_sorted vs parts.0.args parts.2 each in
      let is : image (Fun f vs) ≡ applied N f (map image vs) = values.fold-Fun Value (value_image_step S M N rows nulls) f vs in (
        ap there is ∙ applied_typed S N well f (map image vs) type
            (ap (λ o. applied_type o (map there (map image vs))) parts.1 ∙ ap (λ (b : Bool). if b then Some parts.0.result else None) args.0 ∙ ap (λ n. Some n) parts.3),
        ap (normal_of N) is ∙ applied_normal S N well f (map image vs) args.1 ∙ sym is,
      ))
