-- What a term means has the type of the term.
use Rattle.std.proofs.Common.{ℕ, Bool, true, List, [], ◌∷◌, Option, Some, None, ◌≡◌, ◌<◌, ◌&&◌, if◌then◌else◌, map, refl, sym, ap, subst, ◌∙◌, slice_index_or}
use Rattle.std.specs.Prelude.{slice_get, find}
use Rattle.std.proofs.lemmas.Bool.{and_parts}
use Rattle.std.proofs.lemmas.Option.{option_and_then_some}
use Rattle.cq_base.specs.declared.name.Name.{Name}
use Rattle.cq_theory.specs.declared.presentation.Presentation.{Presentation}
use Rattle.cq_theory.specs.declared.presentation.Sort.{Sort}
use Rattle.cq_theory.specs.declared.presentation.Sort.TheVariants.{Plain, Entity}
use Rattle.cq_theory.specs.SchemaData.{SchemaData as Schema}
use Rattle.cq_theory.specs.declared.typeside.Fun.{Fun as Function}
use Rattle.cq_theory.specs.declared.term.TypeTerm.{TypeTerm}
use Rattle.cq_theory.specs.declared.constant.Con.TheVariants.{Named}
use Rattle.cq_theory.specs.declared.value.Value.{Value}
use Rattle.cq_theory.specs.declared.value.Value.TheVariants.{Const}
use Rattle.cq_theory.specs.declared.value.Entry.{Entry}
use Rattle.cq_theory.specs.Sorts.{followed, type_at, entity_of, is_type, have_types, applied_type, type_of, type_step}
use Rattle.cq_theory.specs.Tables.{Tables, Meaning, AtRow, AtValue, Assignment, value_in, count_of, row_of, value_of, value_step, is_for, entry_or_built, applied, value_type, value_type_step, HasSort, IsSoundEntry, IsWellFormed, Holds}
use Rattle.cq_theory.proofs.TypeTerms.{fold-Gen, fold-Const, fold-Att, fold-Fun, Each, on_terms}
use Rattle.cq_theory.proofs.Values as values
use Rattle.cq_theory.proofs.OnValues.{All_at, entry_for, found_passes}
use Rattle.cq_theory.proofs.Sound.{followed_some, is_type_some, applied_type_some, row_of-within}

type_at_some : (o : Option (Name × Sort)) (n : ℕ) → type_at o ≡ Some n → (g : Name × Sort) × (o ≡ Some g) × (g.1 ≡ Plain n)
type_at_some None n h = cc
type_at_some (Some g) n h = (g, refl, go g.1 h)
  where
    go : (sort : Sort) → type_at (Some (g.0, sort)) ≡ Some n → sort ≡ Plain n
    go (Plain m) h = let same : m ≡ n = cc in ap Plain same
    go (Entity m) h = cc

module _ (S : Schema) (M : Tables) (well : IsWellFormed S M) where
  abbrev type_in : Value → Option ℕ
  type_in = value_type S M.algebra.nulls

  -- a function at values of its types gives a value of its type
  applied_typed : (f : ℕ) (vs : List Value) (type : ℕ) → applied_type (slice_get S.typeside.functions f) (map type_in vs) ≡ Some type → type_in (applied M f vs) ≡ Some type
  applied_typed f vs type h = at_entry (find (is_for f vs) M.algebra.entries) refl
    where
      at_entry : (o : Option Entry) → find (is_for f vs) M.algebra.entries ≡ o → type_in (entry_or_built o f vs) ≡ Some type
      at_entry None e = values.fold-Fun (Option ℕ) (value_type_step S M.algebra.nulls) f vs ∙ h
      at_entry (Some entry) e =
          let stands = found_passes (is_for f vs) M.algebra.entries entry e in
          let for_it = entry_for f vs entry stands.2 in
          let sound : IsSoundEntry S M entry = All_at (IsSoundEntry S M) M.algebra.entries stands.0 entry well.entries stands.1 in
          let parts = applied_type_some (slice_get S.typeside.functions f) (map type_in vs) type h in
          let here : Some sound.function ≡ Some parts.0 = sym sound.known ∙ ap (slice_get S.typeside.functions) for_it.0 ∙ parts.1 in
          let same : sound.function ≡ parts.0 = cc in
          sound.same_type ∙ ap (λ (g : Function). Some g.result) same ∙ ap (λ n. Some n) parts.3

module _ (S : Schema) (P : Presentation) (M : Tables) (A : Assignment) (holds : Holds S P M A) where
  abbrev type_in' : Value → Option ℕ
  type_in' = value_type S M.algebra.nulls

  abbrev IsTyped : TypeTerm → Type 0
  IsTyped t = (type : ℕ) → type_of S P.generators t ≡ Some type → type_in' (value_of M A t) ≡ Some type

  value_in-typed : (m : Meaning) (n : ℕ) → HasSort S M (Plain n) m → type_in' (value_in m) ≡ Some n
  value_in-typed (AtRow r) n h = absurd h
  value_in-typed (AtValue v) n h = h.0

  args_typed : (ts : List TypeTerm) (types : List ℕ) → have_types (map (type_of S P.generators) ts) types ≡ true → Each IsTyped ts → have_types (map type_in' (map (value_of M A) ts)) types ≡ true
  args_typed [] [] h each = refl
  args_typed [] (type ∷ types) h each = cc
  args_typed (t ∷ ts) [] h each = cc
  args_typed (t ∷ ts) (type ∷ types) h each =
      let parts = and_parts (is_type (type_of S P.generators t) type) (have_types (map (type_of S P.generators) ts) types) h in
      let before : type_of S P.generators t ≡ Some type = is_type_some (type_of S P.generators t) type parts.0 in
      let first : is_type (type_in' (value_of M A t)) type ≡ true = ap (λ o. is_type o type) (each.0 type before ∙ sym before) ∙ parts.0 in
      let rest : have_types (map type_in' (map (value_of M A) ts)) types ≡ true = args_typed ts types parts.1 each.1 in
      ap (λ b. b && have_types (map type_in' (map (value_of M A) ts)) types) first ∙ rest

  pub value_typed : (t : TypeTerm) → IsTyped t
  value_typed = on_terms IsTyped
      (λ n type h.
      let g = type_at_some (slice_get P.generators n) type (sym (fold-Gen (Option ℕ) (type_step S P.generators) n) ∙ h) in
      let sorted : HasSort S M (Plain type) (slice_index_or A n (AtRow 0)) = subst (λ (sort : Sort). HasSort S M sort (slice_index_or A n (AtRow 0))) g.2 (holds.sorts n g.0 g.1) in
      ap type_in' (fold-Gen Value (value_step M A) n) ∙ value_in-typed (slice_index_or A n (AtRow 0)) type sorted)
      (λ c type h. ap type_in' (fold-Const Value (value_step M A) c) ∙ values.fold-Const (Option ℕ) (value_type_step S M.algebra.nulls) c ∙ sym (fold-Const (Option ℕ) (type_step S P.generators) c) ∙ h)
      (λ a t type h.
      option_and_then_some (followed (slice_get S.attributes a)) (entity_of S P.generators t) type (sym (fold-Att (Option ℕ) (type_step S P.generators) a t) ∙ h) (λ entity led last.
      let edge = followed_some (slice_get S.attributes a) entity type last in
      let column = holds.well_formed.cell_columns a edge.0 edge.1 in
      let row : row_of M A t < count_of M edge.0.from = subst (λ n. row_of M A t < count_of M n) (sym edge.2) (row_of-within S P M A holds t entity led) in
      let cell = column.1 (row_of M A t) (Const (Named 0)) (subst (λ n. row_of M A t < n) (sym column.0) row) in
      ap type_in' (fold-Att Value (value_step M A) a t) ∙ cell.0 ∙ ap (λ n. Some n) edge.3))
      (λ f ts each type h.
      let parts = applied_type_some (slice_get S.typeside.functions f) (map (type_of S P.generators) ts) type (sym (fold-Fun (Option ℕ) (type_step S P.generators) f ts) ∙ h) in
      let args : have_types (map type_in' (map (value_of M A) ts)) parts.0.args ≡ true = args_typed ts parts.0.args parts.2 each in
      ap type_in' (fold-Fun Value (value_step M A) f ts)
      ∙ applied_typed S M holds.well_formed f (map (value_of M A) ts) type
      (ap (λ o. applied_type o (map type_in' (map (value_of M A) ts))) parts.1 ∙ ap (λ (b : Bool). if b then Some parts.0.result else None) args ∙ ap (λ n. Some n) parts.3))
