-- Rows by their least names, and values with their nulls spelled by terms, are terms that mean them.
use Rattle.std.proofs.Common.{ℕ, Bool, true, List, [], ◌∷◌, Option, Some, ◌≡◌, ◌&&◌, if◌then◌else◌, None, map, refl, sym, ap, ◌∙◌}
use Rattle.std.specs.Prelude.{slice_get, option_map}
use Rattle.std.proofs.lemmas.Bool.{and_parts}
use Rattle.cq_theory.specs.declared.presentation.Sort.{Sort}
use Rattle.cq_theory.specs.declared.presentation.Sort.TheVariants.{Plain, Entity}
use Rattle.cq_theory.specs.declared.term.TypeTerm.{TypeTerm}
use Rattle.cq_theory.specs.declared.value.Value.{Value}
use Rattle.cq_theory.specs.SchemaData.{SchemaData as Schema}
use Rattle.cq_theory.specs.Sorts.{Generators, is_type, have_types, applied_type, type_of, type_step}
use Rattle.cq_theory.specs.Tables.{Tables, Meaning, AtRow, AtValue, Assignment, value_of, value_step, applied, value_type, value_type_step, normal_of, normal_step, HasSort}
use Rattle.cq_theory.proofs.TypeTerms.{fold-Const, fold-Fun}
use Rattle.cq_theory.proofs.Values as values
use Rattle.cq_theory.proofs.OnValues.{Each, on_values}
use Rattle.cq_theory.proofs.Sound.{is_type_some, applied_type_some}
use Rattle.cq_instance.specs.InstanceData.{InstanceData}
use Rattle.cq_instance.specs.Given.{HasLeastNames}
use Rattle.cq_adjoint.specs.Moves.{spelled_step, spelled_value, named}
use Rattle.cq_instance.specs.Spelling.{AreNullsSpelled}
use Rattle.cq_adjoint.proofs.SpelledImages.{IsImageOf}

module _ (j : InstanceData) (null_term : ℕ → TypeTerm) (spell : AreNullsSpelled j null_term) where
  abbrev S : Schema
  S = j.schema

  abbrev G : Generators
  G = j.presentation.generators

  abbrev M : Tables
  M = j.tables

  abbrev A : Assignment
  A = j.assignment

  abbrev as_term : Value → TypeTerm
  as_term = spelled_value null_term

  abbrev type_in : Value → Option ℕ
  type_in = value_type S M.algebra.nulls

  -- the term has the value's type, and means the value with its functions applied anew
  abbrev IsSpelled : Value → Type 0
  IsSpelled v = (type : ℕ) → type_in v ≡ Some type → (type_of S G (as_term v) ≡ Some type) × (value_of M A (as_term v) ≡ normal_of M v)

  all_spelled : (vs : List Value) (types : List ℕ) → Each IsSpelled vs → have_types (map type_in vs) types ≡ true
      → (have_types (map (type_of S G) (map as_term vs)) types ≡ true) × (map (value_of M A) (map as_term vs) ≡ map (normal_of M) vs)
  all_spelled [] [] each h = (refl, refl)
  all_spelled [] (type ∷ types) each h = cc
  all_spelled (v ∷ vs) [] each h = cc
  all_spelled (v ∷ vs) (type ∷ types) each h =
      let parts = and_parts (is_type (type_in v) type) (have_types (map type_in vs) types) h in
      let before : type_in v ≡ Some type = is_type_some (type_in v) type parts.0 in
      let one = each.0 type before in
      let rest = all_spelled vs types each.1 parts.1 in
      let first : is_type (type_of S G (as_term v)) type ≡ true = ap (λ o. is_type o type) (one.0 ∙ sym before) ∙ parts.0 in (
        ap (λ b. b && have_types (map (type_of S G) (map as_term vs)) types) first ∙ rest.0,
        (λ i. one.1 i ∷ rest.1 i),
      )

  pub value_spelled : (v : Value) → IsSpelled v
  value_spelled = on_values IsSpelled
      (λ c type h. (
        ap (type_of S G) (values.fold-Const TypeTerm (spelled_step null_term) c) ∙ fold-Const (Option ℕ) (type_step S G) c
            ∙ sym (values.fold-Const (Option ℕ) (value_type_step S M.algebra.nulls) c) ∙ h,
        ap (value_of M A) (values.fold-Const TypeTerm (spelled_step null_term) c) ∙ fold-Const Value (value_step M A) c ∙ sym (values.fold-Const Value (normal_step M) c),
      ))
      (λ n type h.
      let term = spell n type (sym (values.fold-Null (Option ℕ) (value_type_step S M.algebra.nulls) n) ∙ h) in (
        ap (type_of S G) (values.fold-Null TypeTerm (spelled_step null_term) n) ∙ term.0,
        ap (value_of M A) (values.fold-Null TypeTerm (spelled_step null_term) n) ∙ term.1 ∙ sym (values.fold-Null Value (normal_step M) n),
      ))
      (λ f vs each type h.
      let parts = applied_type_some (slice_get S.typeside.functions f) (map type_in vs) type (sym (values.fold-Fun (Option ℕ) (value_type_step S M.algebra.nulls) f vs) ∙ h) in
      let args = all_spelled vs parts.0.args each parts.2 in (
        ap (type_of S G) (values.fold-Fun TypeTerm (spelled_step null_term) f vs) ∙ fold-Fun (Option ℕ) (type_step S G) f (map as_term vs)
            ∙ ap (λ o. applied_type o (map (type_of S G) (map as_term vs))) parts.1
            ∙ ap (λ (b : Bool). if b then Some parts.0.result else None) args.0 ∙ ap (λ n. Some n) parts.3,
        ap (value_of M A) (values.fold-Fun TypeTerm (spelled_step null_term) f vs) ∙ fold-Fun Value (value_step M A) f (map as_term vs)
            ∙ ap (applied M f) args.1 ∙ sym (values.fold-Fun Value (normal_step M) f vs),
      ))

  module _ (least : HasLeastNames j) where
    pub named_image : (sort : Sort) (m : Meaning) → HasSort S M sort m → IsImageOf j sort m (named j null_term sort m)
    named_image (Entity e) (AtRow r) h =
        let name = least e r h in
        record { of_sort = ap (option_map Entity) name.of_entity; means = ap AtRow name.of_row }
    named_image (Entity e) (AtValue v) h = absurd h
    named_image (Plain type) (AtRow r) h = absurd h
    named_image (Plain type) (AtValue v) h =
        let term = value_spelled v type h.0 in
        record { of_sort = ap (option_map Plain) term.0; means = ap AtValue (term.1 ∙ h.1) }
