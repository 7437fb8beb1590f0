-- What terms mean in well-formed tables: rows that exist, and values on which no entry bears.
use Rattle.std.proofs.Common.{ℕ, List, [], ◌∷◌, Option, Some, None, ◌≡◌, ◌<◌, map, length, refl, sym, ap, subst, ◌∙◌, slice_index_or}
use Rattle.std.specs.Prelude.{slice_get, find}
use Rattle.std.proofs.lemmas.Option.{option_and_then_some}
use Rattle.cq_theory.specs.declared.presentation.Presentation.{Presentation}
use Rattle.cq_theory.specs.declared.presentation.Sort.{Sort}
use Rattle.cq_theory.specs.declared.presentation.Sort.TheVariants.{Plain}
use Rattle.cq_theory.specs.SchemaData.{SchemaData as Schema}
use Rattle.cq_theory.specs.declared.term.TypeTerm.{TypeTerm}
use Rattle.cq_theory.specs.declared.term.TypeTerm.TheVariants as term
use Rattle.cq_theory.specs.declared.value.Value.{Value}
use Rattle.cq_theory.specs.declared.constant.Con.TheVariants.{Named}
use Rattle.cq_theory.specs.declared.value.Value.TheVariants.{Const}
use Rattle.cq_theory.specs.declared.value.Entry.{Entry}
use Rattle.cq_theory.specs.Sorts.{followed, target_of, type_of}
use Rattle.cq_theory.specs.Tables.{Tables, Meaning, AtRow, AtValue, Assignment, value_in, count_of, key_at, row_from, row_of, value_of, value_step, is_for, entry_or_built, applied, normal_of, normal_step, HasSort, IsSoundEntry, IsWellFormed, Holds}
use Rattle.cq_theory.proofs.TypeTerms.{fold-Gen, fold-Const, fold-Att, fold-Fun, Each, on_terms}
use Rattle.cq_theory.proofs.Values as values
use Rattle.cq_theory.proofs.OnValues.{All_at, found_passes}
use Rattle.cq_theory.proofs.Sound.{followed_some, row_of-within}
use Rattle.cq_instance.proofs.TypedTerms.{EachTyped, type_at_some, typed_generator, typed_cell, args_typed}
use Rattle.cq_instance.proofs.CanonicalTerms.{plain_normal}

module _ (S : Schema) (M : Tables) (well : IsWellFormed S M) where
  -- a path from a row leads to a row of its target
  pub row_from-within : (path : List ℕ) (e target row : ℕ) → target_of S.keys path e ≡ Some target → row < count_of M e → row_from M row path < count_of M target
  row_from-within [] e target row h within = let same : e ≡ target = cc in subst (λ n. row < count_of M n) same within
  row_from-within (k ∷ path) e target row h within =
      option_and_then_some (target_of S.keys path) (followed (slice_get S.keys k) e) target h (λ middle first rest.
      let edge = followed_some (slice_get S.keys k) e middle first in
      let column = well.key_columns k edge.0 edge.1 in
      let inside : row < length (slice_index_or M.sheet.keys k []) = subst (λ n. row < n) (sym column.0) (subst (λ n. row < count_of M n) (sym edge.2) within) in
      let next : key_at M k row < count_of M edge.0.to = column.1 row 0 inside in
      row_from-within path middle target (key_at M k row) rest (subst (λ n. key_at M k row < count_of M n) edge.3 next))

  -- a function at values on which no entry bears gives such a value
  applied_normal : (f : ℕ) (vs : List Value) → map (normal_of M) vs ≡ vs → normal_of M (applied M f vs) ≡ applied M f vs
  applied_normal f vs h = at_entry (find (is_for f vs) M.algebra.entries) refl
    where
      at_entry : (o : Option Entry) → find (is_for f vs) M.algebra.entries ≡ o → normal_of M (entry_or_built o f vs) ≡ entry_or_built o f vs
      at_entry None e = values.fold-Fun Value (normal_step M) f vs ∙ ap (applied M f) h ∙ ap (λ o. entry_or_built o f vs) e
      at_entry (Some entry) e =
          let stands = found_passes (is_for f vs) M.algebra.entries entry e in
          let sound : IsSoundEntry S M entry = All_at (IsSoundEntry S M) M.algebra.entries stands.0 entry well.entries stands.1 in
          plain_normal M entry.value sound.plain.1

module _ (S : Schema) (P : Presentation) (M : Tables) (A : Assignment) (holds : Holds S P M A) where
  abbrev IsNormal : TypeTerm → Type 0
  IsNormal t = (type : ℕ) → type_of S P.generators t ≡ Some type → normal_of M (value_of M A t) ≡ value_of M A t

  value_in-normal : (m : Meaning) (n : ℕ) → HasSort S M (Plain n) m → normal_of M (value_in m) ≡ value_in m
  value_in-normal (AtRow r) n h = absurd h
  value_in-normal (AtValue v) n h = h.1

  args_normal : (ts : List TypeTerm) → EachTyped S P.generators ts → Each IsNormal ts → map (normal_of M) (map (value_of M A) ts) ≡ map (value_of M A) ts
  args_normal [] typed each = refl
  args_normal (t ∷ ts) typed each =
      let first : normal_of M (value_of M A t) ≡ value_of M A t = each.0 typed.0.0 typed.0.1 in
      let rest : map (normal_of M) (map (value_of M A) ts) ≡ map (value_of M A) ts = args_normal ts typed.1 each.1 in
      λ i. first i ∷ rest i

  same_normal : (v w : Value) → v ≡ w → normal_of M w ≡ w → normal_of M v ≡ v
  same_normal v w e h = ap (normal_of M) e ∙ h ∙ sym e

  pub value_normal : (t : TypeTerm) → IsNormal t
  value_normal = on_terms IsNormal
      (λ n type h.
      let g = type_at_some (slice_get P.generators n) type (typed_generator S P.generators n type h) in
      let sorted : HasSort S M (Plain type) (slice_index_or A n (AtRow 0)) = subst (λ (sort : Sort). HasSort S M sort (slice_index_or A n (AtRow 0))) g.2 (holds.sorts n g.0 g.1) in
      same_normal (value_of M A (term.Gen n)) (value_in (slice_index_or A n (AtRow 0))) (fold-Gen Value (value_step M A) n) (value_in-normal (slice_index_or A n (AtRow 0)) type sorted))
      (λ c type h. same_normal (value_of M A (term.Const c)) (Const c) (fold-Const Value (value_step M A) c) (values.fold-Const Value (normal_step M) c))
      (λ a t type h.
      let cell = typed_cell S P.generators a t type h in
      let column = holds.well_formed.cell_columns a cell.edge cell.known in
      let row : row_of M A t < count_of M cell.edge.from = row_of-within S P M A holds t cell.edge.from cell.of_entity in
      let here = column.1 (row_of M A t) (Const (Named 0)) (subst (λ n. row_of M A t < n) (sym column.0) row) in
      same_normal (value_of M A (term.Att a t)) _ (fold-Att Value (value_step M A) a t) here.1)
      (λ f ts each type h.
      same_normal (value_of M A (term.Fun f ts)) (applied M f (map (value_of M A) ts)) (fold-Fun Value (value_step M A) f ts)
      (applied_normal S M holds.well_formed f (map (value_of M A) ts) (args_normal ts (args_typed S P.generators f ts type h) each)))
