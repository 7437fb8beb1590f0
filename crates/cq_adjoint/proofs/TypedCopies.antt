-- Values keep their types as terms over the generators of coeval.
use Rattle.std.proofs.Common.{ℕ, Bool, true, List, [], ◌∷◌, Option, Some, None, ◌≡◌, ◌+◌, ◌&&◌, if◌then◌else◌, map, length, refl, sym, ap, ◌∙◌}
use Rattle.std.specs.Prelude.{slice_get, slice_index}
use Rattle.std.specs.List.{range_with_len}
use Rattle.std.proofs.lemmas.Bool.{and_parts}
use Rattle.std.proofs.lemmas.List.FromFn.{get_or-range_with_len}
use Rattle.std.proofs.lemmas.Option.{slice_get_within}
use Rattle.cq_base.specs.declared.name.Name.{Name}
use Rattle.cq_theory.specs.declared.presentation.Sort.{Sort}
use Rattle.cq_theory.specs.declared.term.TypeTerm.{TypeTerm}
use Rattle.cq_theory.specs.declared.term.TypeTerm.TheVariants as term
use Rattle.cq_theory.specs.declared.value.Value.{Value}
use Rattle.cq_theory.specs.declared.value.Value.TheVariants as value
use Rattle.cq_theory.specs.TypesideData.{TypesideData as Typeside}
use Rattle.cq_theory.specs.Typeside.{constant_type}
use Rattle.cq_theory.specs.Sorts.{Generators, type_at, is_type, have_types, applied_type, type_of, type_step}
use Rattle.cq_theory.specs.Tables.{Tables, value_type, value_type_step}
use Rattle.cq_theory.proofs.OnValues.{Each, on_values}
use Rattle.cq_theory.proofs.Sound.{is_type_some, applied_type_some}
use Rattle.cq_theory.proofs.TypeTerms.{fold-Gen, fold-Const, fold-Fun}
use Rattle.cq_theory.proofs.Values as values
use Rattle.cq_terms.specs.ValueTerms.{value_term_step}
use Rattle.cq_query.specs.QueryData.{QueryData as Query}
use Rattle.cq_query.specs.IsQuery.{IsQuery}
use Rattle.cq_query.specs.Coeval.{null_start, coeval_of}
use Rattle.cq_adjoint.specs.Copies.{copied_value}
use Rattle.cq_adjoint.proofs.Copied as copied

module _ (Q : Query) (query : IsQuery Q) (M : Tables) where
  abbrev H : Generators
  H = (coeval_of Q M).generators

  abbrev nulls : List ℕ
  nulls = M.algebra.nulls

  abbrev made : Value → TypeTerm
  made = copied_value Q M

  abbrev IsTyped : Value → Type 0
  IsTyped v = (type : ℕ) → value_type Q.target nulls v ≡ Some type → type_of Q.source H (made v) ≡ Some type

  all_typed : (vs : List Value) (types : List ℕ) → Each IsTyped vs → have_types (map (value_type Q.target nulls) vs) types ≡ true → have_types (map (type_of Q.source H) (map made vs)) types ≡ true
  all_typed [] [] each h = refl
  all_typed [] (type ∷ types) each h = cc
  all_typed (v ∷ vs) [] each h = cc
  all_typed (v ∷ vs) (type ∷ types) each h =
      let parts = and_parts (is_type (value_type Q.target nulls v) type) (have_types (map (value_type Q.target nulls) vs) types) h in
      let before : value_type Q.target nulls v ≡ Some type = is_type_some (value_type Q.target nulls v) type parts.0 in
      let one : is_type (type_of Q.source H (made v)) type ≡ true = ap (λ o. is_type o type) (each.0 type before ∙ sym before) ∙ parts.0 in
      ap (λ b. b && have_types (map (type_of Q.source H) (map made vs)) types) one ∙ all_typed vs types each.1 parts.1

  applied_typed : (f : ℕ) (vs : List Value) → Each IsTyped vs → (type : ℕ) → value_type Q.target nulls (value.Fun f vs) ≡ Some type → type_of Q.source H (term.Fun f (map made vs)) ≡ Some type
  applied_typed f vs each type h =
      let parts = applied_type_some (slice_get Q.target.typeside.functions f) (map (value_type Q.target nulls) vs) type (sym (values.fold-Fun (Option ℕ) (value_type_step Q.target nulls) f vs) ∙ h) in
      let args : have_types (map (type_of Q.source H) (map made vs)) parts.0.args ≡ true = all_typed vs parts.0.args each parts.2 in
      fold-Fun (Option ℕ) (type_step Q.source H) f (map made vs)
      ∙ ap (λ (y : Typeside). applied_type (slice_get y.functions f) (map (type_of Q.source H) (map made vs))) query.typeside
      ∙ ap (λ o. applied_type o (map (type_of Q.source H) (map made vs))) parts.1
      ∙ ap (λ (b : Bool). if b then Some parts.0.result else None) args ∙ ap (λ m. Some m) parts.3

  null_typed : (label type : ℕ) → slice_get nulls label ≡ Some type → type_of Q.source H (term.Gen (null_start Q M.sheet.counts + label)) ≡ Some type
  null_typed label type h =
      let g = copied.null_at Q M label type h in
      fold-Gen (Option ℕ) (type_step Q.source H) (null_start Q M.sheet.counts + label) ∙ ap type_at g.1 ∙ ap (λ (s : Sort). type_at (Some (g.0.0, s))) g.2

  pub value_typed : (v : Value) → IsTyped v
  value_typed = on_values IsTyped
      (λ c type h.
      ap (type_of Q.source H) (values.fold-Const TypeTerm (value_term_step (null_start Q M.sheet.counts) (length nulls)) c) ∙ fold-Const (Option ℕ) (type_step Q.source H) c
      ∙ ap (λ (y : Typeside). constant_type y c) query.typeside
      ∙ sym (values.fold-Const (Option ℕ) (value_type_step Q.target nulls) c) ∙ h)
      (λ label type h.
      let typed : slice_get nulls label ≡ Some type = sym (values.fold-Null (Option ℕ) (value_type_step Q.target nulls) label) ∙ h in
      let number : slice_index (range_with_len (null_start Q M.sheet.counts) (length nulls)) label ≡ null_start Q M.sheet.counts + label =
      get_or-range_with_len (null_start Q M.sheet.counts) (length nulls) label 0 (slice_get_within nulls label type typed) in
      ap (type_of Q.source H) (values.fold-Null TypeTerm (value_term_step (null_start Q M.sheet.counts) (length nulls)) label ∙ ap term.Gen number)
      ∙ null_typed label type typed)
      (λ f vs each type h. ap (type_of Q.source H) (values.fold-Fun TypeTerm (value_term_step (null_start Q M.sheet.counts) (length nulls)) f vs) ∙ applied_typed f vs each type h)
