-- What terms mean is a value on which no entry bears, and homomorphisms keep what terms mean.
use Rattle.std.proofs.Common.{ℕ, true, List, [], ◌∷◌, Option, Some, None, ◌≡◌, ◌<◌, map, refl, sym, ap, subst, ◌∙◌, slice_index_or}
use Rattle.std.specs.Prelude.{slice_get, find}
use Rattle.std.proofs.lemmas.Option.{option_and_then_some}
use Rattle.cq_theory.specs.declared.presentation.Presentation.{Presentation}
use Rattle.cq_theory.specs.declared.presentation.Sort.{Sort}
use Rattle.cq_theory.specs.declared.presentation.Sort.TheVariants.{Plain}
use Rattle.cq_theory.specs.SchemaData.{SchemaData as Schema}
use Rattle.cq_theory.specs.declared.term.TypeTerm.{TypeTerm}
use Rattle.cq_theory.specs.declared.term.TypeTerm.TheVariants as term
use Rattle.cq_theory.specs.declared.value.Value.{Value}
use Rattle.cq_theory.specs.declared.value.Value.TheVariants.{Const, Null, Fun}
use Rattle.cq_theory.specs.declared.constant.Con.TheVariants.{Named}
use Rattle.cq_theory.specs.declared.value.Entry.{Entry}
use Rattle.cq_theory.specs.Sorts.{followed, entity_of, is_type, have_types, type_of, type_step}
use Rattle.cq_theory.specs.Tables.{Tables, Meaning, AtRow, AtValue, Assignment, value_in, count_of, row_of, value_of, value_step, is_for, entry_or_built, applied, normal_of, normal_step, HasSort, IsPlain, IsSoundEntry, IsWellFormed, Holds}
use Rattle.cq_theory.proofs.TypeTerms.{fold-Gen, fold-Const, fold-Att, fold-Fun, Each, on_terms}
use Rattle.cq_theory.proofs.Values as values
use Rattle.cq_theory.proofs.OnValues.{All_at, found_passes}
pub use Rattle.cq_instance.proofs.TypedTerms.{type_at_some, entity_at_some}
use Rattle.cq_theory.proofs.Sound.{both, is_type_some, applied_type_some, followed_some, row_of-within}

pub plain_normal : (M : Tables) (v : Value) → IsPlain v → normal_of M v ≡ v
plain_normal M (Const c) h = values.fold-Const Value (normal_step M) c
plain_normal M (Null n) h = values.fold-Null Value (normal_step M) n
plain_normal M _ h = absurd h

-- a function at values on which no entry bears gives such a value
pub applied_normal : (S : Schema) (M : Tables) → IsWellFormed S M → (f : ℕ) (vs : List Value) → map (normal_of M) vs ≡ vs → normal_of M (applied M f vs) ≡ applied M f vs
applied_normal S M well f vs h = at_entry (find (is_for f vs) M.algebra.entries) refl
  where
    at_entry : (o : Option Entry) → find (is_for f vs) M.algebra.entries ≡ o → normal_of M (entry_or_built o f vs) ≡ entry_or_built o f vs
    at_entry None e = values.fold-Fun Value (normal_step M) f vs ∙ ap (applied M f) h ∙ ap (λ o. entry_or_built o f vs) e
    at_entry (Some entry) e =
        let stands = found_passes (is_for f vs) M.algebra.entries entry e in
        let sound : IsSoundEntry S M entry = All_at (IsSoundEntry S M) M.algebra.entries stands.0 entry well.entries stands.1 in
        plain_normal M entry.value sound.plain.1

module _ (S : Schema) (P : Presentation) (M : Tables) (A : Assignment) (holds : Holds S P M A) where
  abbrev IsNormal : TypeTerm → Type 0
  IsNormal t = (type : ℕ) → type_of S P.generators t ≡ Some type → normal_of M (value_of M A t) ≡ value_of M A t

  value_in-normal : (m : Meaning) (n : ℕ) → HasSort S M (Plain n) m → normal_of M (value_in m) ≡ value_in m
  value_in-normal (AtRow r) n h = absurd h
  value_in-normal (AtValue v) n h = h.1

  args_normal : (ts : List TypeTerm) (types : List ℕ) → have_types (map (type_of S P.generators) ts) types ≡ true → Each IsNormal ts → map (normal_of M) (map (value_of M A) ts) ≡ map (value_of M A) ts
  args_normal [] types h each = refl
  args_normal (t ∷ ts) [] h each = cc
  args_normal (t ∷ ts) (type ∷ types) h each =
      let parts = both (is_type (type_of S P.generators t) type) (have_types (map (type_of S P.generators) ts) types) h in
      let first : normal_of M (value_of M A t) ≡ value_of M A t = each.0 type (is_type_some (type_of S P.generators t) type parts.0) in
      let rest : map (normal_of M) (map (value_of M A) ts) ≡ map (value_of M A) ts = args_normal ts types parts.1 each.1 in
      λ i. first i ∷ rest i

  same_normal : (v w : Value) → v ≡ w → normal_of M w ≡ w → normal_of M v ≡ v
  same_normal v w e h = ap (normal_of M) e ∙ h ∙ sym e

  pub value_normal : (t : TypeTerm) → IsNormal t
  value_normal = on_terms IsNormal
      (λ n type h.
      let g = type_at_some (slice_get P.generators n) type (sym (fold-Gen (Option ℕ) (type_step S P.generators) n) ∙ h) in
      let sorted : HasSort S M (Plain type) (slice_index_or A n (AtRow 0)) = subst (λ (sort : Sort). HasSort S M sort (slice_index_or A n (AtRow 0))) g.2 (holds.sorts n g.0 g.1) in
      same_normal (value_of M A (term.Gen n)) (value_in (slice_index_or A n (AtRow 0))) (fold-Gen Value (value_step M A) n) (value_in-normal (slice_index_or A n (AtRow 0)) type sorted))
      (λ c type h. same_normal (value_of M A (term.Const c)) (Const c) (fold-Const Value (value_step M A) c) (values.fold-Const Value (normal_step M) c))
      (λ a t type h.
      option_and_then_some (followed (slice_get S.attributes a)) (entity_of S P.generators t) type (sym (fold-Att (Option ℕ) (type_step S P.generators) a t) ∙ h) (λ entity led last.
      let edge = followed_some (slice_get S.attributes a) entity type last in
      let column = holds.well_formed.cell_columns a edge.0 edge.1 in
      let row : row_of M A t < count_of M edge.0.from = subst (λ n. row_of M A t < count_of M n) (sym edge.2) (row_of-within S P M A holds t entity led) in
      let here = column.1 (row_of M A t) (Const (Named 0)) (subst (λ n. row_of M A t < n) (sym column.0) row) in
      same_normal (value_of M A (term.Att a t)) _ (fold-Att Value (value_step M A) a t) here.1))
      (λ f ts each type h.
      let parts = applied_type_some (slice_get S.typeside.functions f) (map (type_of S P.generators) ts) type (sym (fold-Fun (Option ℕ) (type_step S P.generators) f ts) ∙ h) in
      same_normal (value_of M A (term.Fun f ts)) (applied M f (map (value_of M A) ts)) (fold-Fun Value (value_step M A) f ts)
      (applied_normal S M holds.well_formed f (map (value_of M A) ts) (args_normal ts parts.0.args parts.2 each)))
