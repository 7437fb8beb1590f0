-- Values as terms over the generators of nulls that come after those of the rows.
use Rattle.std.proofs.Common.{ℕ, true, List, [], ◌∷◌, Option, Some, ◌≡◌, ◌+◌, map, length, sum, refl, sym, ap, ◌∙◌}
use Rattle.std.specs.Prelude.{slice_get, slice_index}
use Rattle.std.specs.List.{range_with_len}
use Rattle.std.proofs.lemmas.List.FromFn.{get_or-range_with_len}
use Rattle.std.proofs.lemmas.Option.{slice_get_within}
use Rattle.cq_theory.specs.SchemaData.{SchemaData as Schema}
use Rattle.cq_theory.specs.declared.term.TypeTerm.{TypeTerm}
use Rattle.cq_theory.specs.declared.term.TypeTerm.TheVariants as term
use Rattle.cq_theory.specs.declared.value.Value.{Value}
use Rattle.cq_theory.specs.declared.value.Value.TheVariants.{Fun}
use Rattle.cq_theory.specs.Canonical as canonical
use Rattle.cq_theory.specs.Sorts.{is_type, have_types}
use Rattle.cq_theory.specs.Tables.{Tables, value_type, value_type_step}
use Rattle.cq_theory.proofs.OnValues.{Each, on_values}
use Rattle.cq_theory.proofs.Sound.{both, is_type_some, applied_type_some}
use Rattle.cq_theory.proofs.Values as values
use Rattle.cq_terms.specs.ValueTerms.{value_term, value_term_step}

module _ (S : Schema) (M : Tables) (first : ℕ) (after : first ≡ sum M.sheet.counts) where
  abbrev nulls : List ℕ
  nulls = M.algebra.nulls

  abbrev made : Value → TypeTerm
  made = value_term first (length nulls)

  abbrev spelled : Value → TypeTerm
  spelled = canonical.value_term S M

  abbrev IsSame : Value → Type 0
  IsSame v = (type : ℕ) → value_type S nulls v ≡ Some type → made v ≡ spelled v

  all_same : (vs : List Value) (types : List ℕ) → have_types (map (value_type S nulls) vs) types ≡ true → Each IsSame vs → map made vs ≡ map spelled vs
  all_same [] types h each = refl
  all_same (v ∷ vs) [] h each = cc
  all_same (v ∷ vs) (type ∷ types) h each =
      let parts = both (is_type (value_type S nulls v) type) (have_types (map (value_type S nulls) vs) types) h in
      let one : made v ≡ spelled v = each.0 type (is_type_some (value_type S nulls v) type parts.0) in
      let rest : map made vs ≡ map spelled vs = all_same vs types parts.1 each.1 in
      λ i. one i ∷ rest i

  pub same_spelling : (v : Value) → IsSame v
  same_spelling = on_values IsSame
      (λ c type h. values.fold-Const TypeTerm (value_term_step first (length nulls)) c ∙ sym (values.fold-Const TypeTerm (canonical.value_term_step S M) c))
      (λ label type h.
      let typed : slice_get nulls label ≡ Some type = sym (values.fold-Null (Option ℕ) (value_type_step S nulls) label) ∙ h in
      let number : slice_index (range_with_len first (length nulls)) label ≡ first + label = get_or-range_with_len first (length nulls) label 0 (slice_get_within nulls label type typed) in
      values.fold-Null TypeTerm (value_term_step first (length nulls)) label ∙ ap term.Gen (number ∙ ap (λ (m : ℕ). m + label) after)
      ∙ sym (values.fold-Null TypeTerm (canonical.value_term_step S M) label))
      (λ f vs each type h.
      let parts = applied_type_some (slice_get S.typeside.functions f) (map (value_type S nulls) vs) type (sym (values.fold-Fun (Option ℕ) (value_type_step S nulls) f vs) ∙ h) in
      values.fold-Fun TypeTerm (value_term_step first (length nulls)) f vs ∙ ap (term.Fun f) (all_same vs parts.0.args parts.2 each)
      ∙ sym (values.fold-Fun TypeTerm (canonical.value_term_step S M) f vs))
