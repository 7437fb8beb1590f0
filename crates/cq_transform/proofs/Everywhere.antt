-- Where generators, cells and entries tell no further value, each null of an initial model has one.
use Rattle.std.proofs.Common.{ℕ, Bool, true, false, List, [], ◌∷◌, Option, Some, None, ◌≡◌, ◌<◌, ◌||◌, map, length, refl, sym, ap, subst, ◌∙◌, arith}
use Rattle.std.specs.Prelude.{slice_get, slice_index_or, is_none, option_and_then, find, All}
use Rattle.std.specs.List.{list_any}
use Rattle.std.proofs.lemmas.Option.{option_and_then_some, slice_get_within, get_or_from_slice_get}
use Rattle.std.proofs.lemmas.List.{length-map}
use Rattle.std.proofs.lemmas.List.Elements.{All-head, All-tail}
use Rattle.cq_theory.specs.declared.constant.Con.{Con}
use Rattle.cq_theory.specs.declared.constant.Con.TheVariants.{Named}
use Rattle.cq_theory.specs.declared.presentation.Sort.TheVariants.{Plain}
use Rattle.cq_theory.specs.declared.term.TypeTerm.{TypeTerm}
use Rattle.cq_theory.specs.declared.term.TypeTerm.TheVariants as term
use Rattle.cq_theory.specs.declared.value.Value.{Value}
use Rattle.cq_theory.specs.declared.value.Value.TheVariants.{Const, Null, Fun}
use Rattle.cq_theory.specs.declared.value.Value.TheOpen as layer
use Rattle.cq_theory.specs.declared.value.Value.TheFolds.{fold-Value}
use Rattle.cq_theory.specs.declared.value.Entry.{Entry}
use Rattle.cq_theory.specs.Listed.{null_label}
use Rattle.cq_theory.specs.SchemaData.{SchemaData as Schema}
use Rattle.cq_theory.specs.Sorts.{Generators, followed, is_type, have_types, entity_of, type_of, type_step}
use Rattle.cq_theory.specs.Tables.{Tables, Assignment, count_of, cell_at, row_of, value_of, value_step, is_for, entry_or_built, applied, value_type, value_type_step, IsPlain, IsSoundEntry}
use Rattle.cq_theory.proofs.TypeTerms.{fold-Gen, fold-Const, fold-Att, fold-Fun, Each, on_terms}
use Rattle.cq_theory.proofs.Values as values
use Rattle.cq_theory.proofs.OnValues.{All_at, found_passes, entry_for}
use Rattle.cq_theory.proofs.Sound.{both, is_type_some, applied_type_some, followed_some, row_of-within}
use Rattle.cq_theory.proofs.Typing.{value_typed}
use Rattle.cq_theory.proofs.ResolvedSorts.{map_some}
use Rattle.cq_instance.specs.InstanceData.{InstanceData}
use Rattle.cq_instance.proofs.Lists.{get-map}
use Rattle.cq_transform.specs.Nulls.{Found, value_or_first, is_open, IsClosed, AreEntriesClosed, AreGeneratorsClosed, AreAttributesClosed, IsInitial, AreSpelled, AreNulls}
use Rattle.cq_transform.proofs.Normal.{type_at_some}

abbrev label_step : layer.Value-F (Option ℕ) → Option ℕ
label_step (layer.Const c) = None
label_step (layer.Null n) = Some n
label_step (layer.Fun f labels) = None

-- a value that is built is no null
no_function : (f : ℕ) (vs : List Value) (label : ℕ) → Fun f vs ≡ Null label → ⊥
no_function f vs label is =
    let clash : None ≡ Some label =
    sym (values.fold-Fun (Option ℕ) label_step f vs) ∙ ap (fold-Value (Option ℕ) label_step) is ∙ values.fold-Null (Option ℕ) label_step label in
    cc

module _ (i j : InstanceData) (B : Assignment) (initial : IsInitial i) (found : Found) where
  abbrev S : Schema
  S = i.schema

  abbrev G : Generators
  G = i.presentation.generators

  abbrev M : Tables
  M = i.tables

  abbrev A : Assignment
  A = i.assignment

  abbrev type_in : Value → Option ℕ
  type_in = value_type S M.algebra.nulls

  module _ (count : length found ≡ length M.algebra.nulls) (generators : AreGeneratorsClosed i found (length G))
      (attributes : AreAttributesClosed i found (length S.attributes)) (entries : AreEntriesClosed found M.algebra.entries) where
    -- if the value of a term is a null, the null has a value
    abbrev IsMet : TypeTerm → Type 0
    IsMet t = (type : ℕ) → type_of S G t ≡ Some type → IsClosed found (value_of M A t)

    moved : (v w : Value) → v ≡ w → IsClosed found w → IsClosed found v
    moved v w same closed = subst (IsClosed found) (sym same) closed

    no_null : (c : Con) → IsClosed found (Const c)
    no_null c = λ label within is. let clash : None ≡ Some label = ap null_label is in cc

    known : (v : Value) → IsPlain v → (type : ℕ) → type_in v ≡ Some type → IsClosed found v → is_open found v ≡ false
    known (Const c) plain type typed closed = refl
    known (Null n) plain type typed closed =
        let there : slice_get M.algebra.nulls n ≡ Some type = sym (values.fold-Null (Option ℕ) (value_type_step S M.algebra.nulls) n) ∙ typed in
        let within : n < length M.algebra.nulls = slice_get_within M.algebra.nulls n type there in
        let w = closed n (omega (arith, count, within)) refl in
        ap (λ (o : Option (Option Value)). is_none (option_and_then (λ p. p) o)) w.1
    known _ plain type typed closed = absurd plain

    all_known : (ts : List TypeTerm) (types : List ℕ) → have_types (map (type_of S G) ts) types ≡ true → Each IsMet ts → All IsPlain (map (value_of M A) ts)
        → list_any (is_open found) (map (value_of M A) ts) ≡ false
    all_known [] types h each plain = refl
    all_known (t ∷ ts) [] h each plain = cc
    all_known (t ∷ ts) (type ∷ types) h each plain =
        let parts = both (is_type (type_of S G t) type) (have_types (map (type_of S G) ts) types) h in
        let typed : type_of S G t ≡ Some type = is_type_some (type_of S G t) type parts.0 in
        let first : is_open found (value_of M A t) ≡ false = known (value_of M A t) (All-head IsPlain (value_of M A t) (map (value_of M A) ts) plain) type
        (value_typed S i.presentation M A initial.0.holds t type typed) (each.0 type typed) in
        let rest : list_any (is_open found) (map (value_of M A) ts) ≡ false = all_known ts types parts.1 each.1 (All-tail IsPlain (value_of M A t) (map (value_of M A) ts) plain) in
        ap (λ b. b || list_any (is_open found) (map (value_of M A) ts)) first ∙ rest

    at_function : (f : ℕ) (ts : List TypeTerm) (types : List ℕ) → have_types (map (type_of S G) ts) types ≡ true → Each IsMet ts → IsClosed found (applied M f (map (value_of M A) ts))
    at_function f ts types h each = at_entry (find (is_for f (map (value_of M A) ts)) M.algebra.entries) refl
      where
        at_entry : (o : Option Entry) → find (is_for f (map (value_of M A) ts)) M.algebra.entries ≡ o → IsClosed found (entry_or_built o f (map (value_of M A) ts))
        at_entry None e = λ label within is. absurd (no_function f (map (value_of M A) ts) label is)
        at_entry (Some entry) e =
            let stands = found_passes (is_for f (map (value_of M A) ts)) M.algebra.entries entry e in
            let for_it = entry_for f (map (value_of M A) ts) entry stands.2 in
            let sound : IsSoundEntry S M entry = All_at (IsSoundEntry S M) M.algebra.entries stands.0 entry initial.0.holds.well_formed.entries stands.1 in
            let here : list_any (is_open found) (map (value_of M A) ts) ≡ false = all_known ts types h each (subst (All IsPlain) (sym for_it.1) sound.plain.0) in
            entries stands.0 entry stands.1 (subst (λ (vs : List Value). list_any (is_open found) vs ≡ false) for_it.1 here)

    met : (t : TypeTerm) → IsMet t
    met = on_terms IsMet
        (λ n type h.
        let g = type_at_some (slice_get G n) type (sym (fold-Gen (Option ℕ) (type_step S G) n) ∙ h) in
        generators n (slice_get_within G n g.0 g.1) type h)
        (λ c type h. moved (value_of M A (term.Const c)) (Const c) (fold-Const Value (value_step M A) c) (no_null c))
        (λ a t type h.
        option_and_then_some (followed (slice_get S.attributes a)) (entity_of S G t) type (sym (fold-Att (Option ℕ) (type_step S G) a t) ∙ h) (λ e led last.
        let edge = followed_some (slice_get S.attributes a) e type last in
        let within : row_of M A t < count_of M edge.0.from = subst (λ n. row_of M A t < count_of M n) (sym edge.2) (row_of-within S i.presentation M A initial.0.holds t e led) in
        moved (value_of M A (term.Att a t)) (cell_at M a (row_of M A t)) (fold-Att Value (value_step M A) a t)
        (attributes a (slice_get_within S.attributes a edge.0 edge.1) edge.0 edge.1 (row_of M A t) within)))
        (λ f ts each type h.
        let parts = applied_type_some (slice_get S.typeside.functions f) (map (type_of S G) ts) type (sym (fold-Fun (Option ℕ) (type_step S G) f ts) ∙ h) in
        moved (value_of M A (term.Fun f ts)) (applied M f (map (value_of M A) ts)) (fold-Fun Value (value_step M A) f ts) (at_function f ts parts.0.args parts.2 each))

    pub nulls_found : AreSpelled i j B found → (nulls : List Value) → nulls ≡ map value_or_first found → AreNulls i j B nulls
    nulls_found all nulls same = record {
      count = ap length same ∙ length-map found value_or_first ∙ count;
      spelled = λ label within.
          let t = initial.0.nulls label within in
          let typed = map_some Plain (type_of S G t.0) t.1 t.2 in
          let w = met t.0 typed.0 typed.1 label (omega (arith, count, within)) t.3 in
          let s = all label w.0 w.1 in
          let is : slice_index_or nulls label (Const (Named 0)) ≡ w.0 =
          ap (λ (vs : List Value). slice_index_or vs label (Const (Named 0))) same
          ∙ get_or_from_slice_get (map value_or_first found) label w.0 (Const (Named 0)) (get-map value_or_first found label (Some w.0) w.1) in
          record { name = s.name; type = s.type; typed = s.typed; here = s.here; there = s.there ∙ sym is };
    }
