-- A value as a term over the generators from some number on, which are those of the nulls.
use Rattle.std.proofs.Common.{ℕ, true, List, [], ◌∷◌, Option, Some, ◌≡◌, ◌+◌, map, length, sum, refl, sym, ap, ◌∙◌}
use Rattle.std.specs.Prelude.{slice_get}
use Rattle.std.proofs.lemmas.Bool.{and_parts}
use Rattle.std.proofs.lemmas.List.FromFn.{get_or-range_with_len}
use Rattle.std.proofs.lemmas.Option.{slice_get_within}
use Rattle.cq_theory.specs.declared.term.TypeTerm.{TypeTerm}
use Rattle.cq_theory.specs.declared.term.TypeTerm.TheVariants as term
use Rattle.cq_theory.specs.declared.value.Value.{Value}
use Rattle.cq_theory.specs.SchemaData.{SchemaData as Schema}
use Rattle.cq_theory.specs.Canonical.{value_term, value_term_step}
use Rattle.cq_theory.specs.Sorts.{is_type, have_types}
use Rattle.cq_theory.specs.Tables.{Tables, value_type, value_type_step}
use Rattle.cq_theory.proofs.OnValues.{Each, on_values}
use Rattle.cq_theory.proofs.Sound.{is_type_some, applied_type_some}
use Rattle.cq_theory.proofs.Values as values
use Rattle.cq_terms.specs.ValueTerms as terms_of
use Rattle.cq_instance.specs.InstanceData.{InstanceData, IsInstance}
use Rattle.cq_instance.specs.Given.{given}
use Rattle.cq_instance.proofs.CanonicalGenerators.{generator_count}

module _ (S : Schema) (M : Tables) where
  abbrev nulls : List ℕ
  nulls = M.algebra.nulls

  abbrev first : ℕ
  first = sum M.sheet.counts

  abbrev type_in : Value → Option ℕ
  type_in = value_type S nulls

  abbrev made : Value → TypeTerm
  made = terms_of.value_term first (length nulls)

  abbrev IsMade : Value → Type 0
  IsMade v = (type : ℕ) → type_in v ≡ Some type → made v ≡ value_term S M v

  all_made : (vs : List Value) (types : List ℕ) → Each IsMade vs → have_types (map type_in vs) types ≡ true → map made vs ≡ map (value_term S M) vs
  all_made [] types each h = refl
  all_made (v ∷ vs) [] each h = cc
  all_made (v ∷ vs) (type ∷ types) each h =
      let parts = and_parts (is_type (type_in v) type) (have_types (map type_in vs) types) h in
      let one : made v ≡ value_term S M v = each.0 type (is_type_some (type_in v) type parts.0) in
      let rest : map made vs ≡ map (value_term S M) vs = all_made vs types each.1 parts.1 in
      λ i. one i ∷ rest i

  pub value_made : (v : Value) → IsMade v
  value_made = on_values IsMade
      (λ c type h. values.fold-Const TypeTerm (terms_of.value_term_step first (length nulls)) c ∙ sym (values.fold-Const TypeTerm (value_term_step S M) c))
      (λ n type h.
      let typed : slice_get nulls n ≡ Some type = sym (values.fold-Null (Option ℕ) (value_type_step S nulls) n) ∙ h in
      values.fold-Null TypeTerm (terms_of.value_term_step first (length nulls)) n
      ∙ ap term.Gen (get_or-range_with_len first (length nulls) n 0 (slice_get_within nulls n type typed)) ∙ sym (values.fold-Null TypeTerm (value_term_step S M) n))
      (λ f vs each type h.
      let parts = applied_type_some (slice_get S.typeside.functions f) (map type_in vs) type (sym (values.fold-Fun (Option ℕ) (value_type_step S nulls) f vs) ∙ h) in
      values.fold-Fun TypeTerm (terms_of.value_term_step first (length nulls)) f vs
      ∙ ap (term.Fun f) (all_made vs parts.0.args each parts.2) ∙ sym (values.fold-Fun TypeTerm (value_term_step S M) f vs))

-- how many generators an instance of tables has
pub given_count : (d : InstanceData) → IsInstance d → d ≡ given d.schema d.tables → length d.presentation.generators ≡ sum d.tables.sheet.counts + length d.tables.algebra.nulls
given_count d instance is =
    ap (λ (x : InstanceData). length x.presentation.generators) is ∙ generator_count d.schema d.tables instance.well_formed.entities
