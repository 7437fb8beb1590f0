-- A homomorphism that agrees with an assignment sends what a term means to what the term means there.
use Rattle.std.proofs.Common.{ℕ, zero, suc, Bool, true, List, [], ◌∷◌, Option, Some, None, ◌≡◌, ◌<◌, ◌&&◌, map, length, get_or, refl, sym, ap, subst, ◌∙◌}
use Rattle.std.specs.Prelude.{slice_get, slice_index, slice_index_or, option_and_then, find}
use Rattle.std.proofs.lemmas.Option.{option_and_then_some}
use Rattle.cq_base.specs.declared.name.Name.{Name}
use Rattle.cq_theory.specs.declared.presentation.Presentation.{Presentation}
use Rattle.cq_theory.specs.declared.presentation.Sort.{Sort}
use Rattle.cq_theory.specs.declared.presentation.Sort.TheVariants.{Plain, Entity}
use Rattle.cq_theory.specs.declared.schema.Edge.{Edge}
use Rattle.cq_theory.specs.SchemaData.{SchemaData as Schema}
use Rattle.cq_theory.specs.declared.term.EntTerm.{EntTerm}
use Rattle.cq_theory.specs.declared.term.TypeTerm.{TypeTerm}
use Rattle.cq_theory.specs.declared.term.TypeTerm.TheVariants as term
use Rattle.cq_theory.specs.declared.value.Value.{Value}
use Rattle.cq_theory.specs.declared.value.Value.TheVariants.{Const, Null, Fun}
use Rattle.cq_theory.specs.declared.value.Entry.{Entry}
use Rattle.cq_theory.specs.Sorts.{followed, target_of, entity_at, entity_of, is_type, have_types, type_of, type_step}
use Rattle.cq_theory.specs.Tables.{Tables, Meaning, AtRow, AtValue, Assignment, row_in, value_in, count_of, key_at, cell_at, row_from, row_of, value_of, value_step, is_for, entry_or_built, applied, HasSort, IsWellFormed, Holds, Initial}
use Rattle.cq_theory.specs.Homomorphism.{row_image, value_image, value_image_step, IsHomomorphism}
use Rattle.cq_theory.proofs.TypeTerms.{fold-Gen, fold-Const, fold-Att, fold-Fun, Each, on_terms}
use Rattle.cq_theory.proofs.Values as values
use Rattle.cq_theory.proofs.OnValues.{All_at, found_passes, entry_for}
use Rattle.cq_theory.proofs.Sound.{both, is_type_some, applied_type_some, followed_some, row_of-within}
use Rattle.cq_theory.proofs.ResolvedSorts.{map_some}
use Rattle.cq_transform.specs.Agreement.{meaning_image, Agrees}
use Rattle.cq_transform.proofs.Normal.{type_at_some, entity_at_some}
use Rattle.cq_transform.proofs.ImagesOfTerms.{IsRowOf, IsNullOf, AreImages}

module _ (S : Schema) (M N : Tables) (rows : List (List ℕ)) (nulls : List Value) (homomorphism : IsHomomorphism S M N rows nulls) where
  abbrev image : Value → Value
  image = value_image S M N rows nulls

  -- a function at some values goes to the function at their images
  pub applied_goes : (f : ℕ) (vs : List Value) → image (applied M f vs) ≡ applied N f (map image vs)
  applied_goes f vs = at_entry (find (is_for f vs) M.algebra.entries) refl
    where
      at_entry : (o : Option Entry) → find (is_for f vs) M.algebra.entries ≡ o → image (entry_or_built o f vs) ≡ applied N f (map image vs)
      at_entry None e = values.fold-Fun Value (value_image_step S M N rows nulls) f vs
      at_entry (Some entry) e =
          let stands = found_passes (is_for f vs) M.algebra.entries entry e in
          let for_it = entry_for f vs entry stands.2 in
          let goes : applied N entry.function (map image entry.args) ≡ image entry.value =
          All_at (λ (x : Entry). applied N x.function (map image x.args) ≡ image x.value) M.algebra.entries stands.0 entry homomorphism.entries stands.1 in
          sym goes ∙ (λ i. applied N (for_it.0 i) (map image (sym for_it.1 i)))

  module _ (well : IsWellFormed S M) where
    -- a path is kept
    pub path_goes : (path : List ℕ) (e target row : ℕ) → target_of S.keys path e ≡ Some target → row < count_of M e
        → row_image S M N rows nulls target (row_from M row path) ≡ row_from N (row_image S M N rows nulls e row) path
    path_goes [] e target row h within = let same : e ≡ target = cc in ap (λ n. row_image S M N rows nulls n row) (sym same)
    path_goes (k ∷ path) e target row h within =
        option_and_then_some (target_of S.keys path) (followed (slice_get S.keys k) e) target h (λ middle first rest.
        let edge = followed_some (slice_get S.keys k) e middle first in
        let column = well.key_columns k edge.0 edge.1 in
        let within' : row < count_of M edge.0.from = subst (λ n. row < count_of M n) (sym edge.2) within in
        let inside : row < length (slice_index_or M.sheet.keys k []) = subst (λ n. row < n) (sym column.0) within' in
        let next : key_at M k row < count_of M middle = subst (λ n. key_at M k row < count_of M n) edge.3 (column.1 row 0 inside) in
        let step : row_image S M N rows nulls middle (key_at M k row) ≡ key_at N k (row_image S M N rows nulls e row) =
        ap (λ n. row_image S M N rows nulls n (key_at M k row)) (sym edge.3) ∙ homomorphism.keys k edge.0 edge.1 row within'
        ∙ ap (λ n. key_at N k (row_image S M N rows nulls n row)) edge.2 in
        path_goes path middle target (key_at M k row) rest next ∙ ap (λ r. row_from N r path) step)

module _ (S : Schema) (P : Presentation) (M N : Tables) (A B : Assignment) (rows : List (List ℕ)) (nulls : List Value)
    (holds : Holds S P M A) (homomorphism : IsHomomorphism S M N rows nulls) (agrees : Agrees S P M N A B rows nulls) where
  abbrev image' : Value → Value
  image' = value_image S M N rows nulls

  at_row : (m l : Meaning) (e : ℕ) → HasSort S M (Entity e) m → meaning_image S M N rows nulls (Entity e) m ≡ l → (row_in m < count_of M e) × (row_image S M N rows nulls e (row_in m) ≡ row_in l)
  at_row (AtRow r) l e h is = (h, ap row_in is)
  at_row (AtValue v) l e h is = absurd h

  at_value : (m l : Meaning) (type : ℕ) → HasSort S M (Plain type) m → meaning_image S M N rows nulls (Plain type) m ≡ l → image' (value_in m) ≡ value_in l
  at_value (AtRow r) l type h is = absurd h
  at_value (AtValue v) l type h is = ap value_in is

  pub row_goes : (t : EntTerm) (e : ℕ) → entity_of S P.generators t ≡ Some e → row_image S M N rows nulls e (row_of M A t) ≡ row_of N B t
  row_goes t e h = option_and_then_some (target_of S.keys t.path) (entity_at (slice_get P.generators t.generator)) e h (λ start first rest.
      let g = entity_at_some (slice_get P.generators t.generator) start first in
      let m : Meaning = slice_index_or A t.generator (AtRow 0) in
      let l : Meaning = slice_index_or B t.generator (AtRow 0) in
      let sorted : HasSort S M (Entity start) m = subst (λ (sort : Sort). HasSort S M sort m) g.2 (holds.sorts t.generator g.0 g.1) in
      let goes : meaning_image S M N rows nulls (Entity start) m ≡ l = ap (λ (sort : Sort). meaning_image S M N rows nulls sort m) (sym g.2) ∙ agrees t.generator g.0 g.1 in
      let begins = at_row m l start sorted goes in
      path_goes S M N rows nulls homomorphism holds.well_formed t.path start e (row_in m) rest begins.0 ∙ ap (λ r. row_from N r t.path) begins.1)

  abbrev Goes : TypeTerm → Type 0
  Goes t = (type : ℕ) → type_of S P.generators t ≡ Some type → image' (value_of M A t) ≡ value_of N B t

  args_go : (ts : List TypeTerm) (types : List ℕ) → have_types (map (type_of S P.generators) ts) types ≡ true → Each Goes ts → map image' (map (value_of M A) ts) ≡ map (value_of N B) ts
  args_go [] types h each = refl
  args_go (t ∷ ts) [] h each = cc
  args_go (t ∷ ts) (type ∷ types) h each =
      let parts = both (is_type (type_of S P.generators t) type) (have_types (map (type_of S P.generators) ts) types) h in
      let first : image' (value_of M A t) ≡ value_of N B t = each.0 type (is_type_some (type_of S P.generators t) type parts.0) in
      let rest : map image' (map (value_of M A) ts) ≡ map (value_of N B) ts = args_go ts types parts.1 each.1 in
      λ i. first i ∷ rest i

  pub value_goes : (t : TypeTerm) → Goes t
  value_goes = on_terms Goes
      (λ n type h.
      let g = type_at_some (slice_get P.generators n) type (sym (fold-Gen (Option ℕ) (type_step S P.generators) n) ∙ h) in
      let m : Meaning = slice_index_or A n (AtRow 0) in
      let l : Meaning = slice_index_or B n (AtRow 0) in
      let sorted : HasSort S M (Plain type) m = subst (λ (sort : Sort). HasSort S M sort m) g.2 (holds.sorts n g.0 g.1) in
      let goes : meaning_image S M N rows nulls (Plain type) m ≡ l = ap (λ (sort : Sort). meaning_image S M N rows nulls sort m) (sym g.2) ∙ agrees n g.0 g.1 in
      ap image' (fold-Gen Value (value_step M A) n) ∙ at_value m l type sorted goes ∙ sym (fold-Gen Value (value_step N B) n))
      (λ c type h. ap image' (fold-Const Value (value_step M A) c) ∙ values.fold-Const Value (value_image_step S M N rows nulls) c ∙ sym (fold-Const Value (value_step N B) c))
      (λ a t type h.
      option_and_then_some (followed (slice_get S.attributes a)) (entity_of S P.generators t) type (sym (fold-Att (Option ℕ) (type_step S P.generators) a t) ∙ h) (λ e led last.
      let edge = followed_some (slice_get S.attributes a) e type last in
      let within : row_of M A t < count_of M edge.0.from = subst (λ n. row_of M A t < count_of M n) (sym edge.2) (row_of-within S P M A holds t e led) in
      ap image' (fold-Att Value (value_step M A) a t) ∙ homomorphism.cells a edge.0 edge.1 (row_of M A t) within
      ∙ ap (λ n. cell_at N a (row_image S M N rows nulls n (row_of M A t))) edge.2 ∙ ap (cell_at N a) (row_goes t e led) ∙ sym (fold-Att Value (value_step N B) a t)))
      (λ f ts each type h.
      let parts = applied_type_some (slice_get S.typeside.functions f) (map (type_of S P.generators) ts) type (sym (fold-Fun (Option ℕ) (type_step S P.generators) f ts) ∙ h) in
      ap image' (fold-Fun Value (value_step M A) f ts) ∙ applied_goes S M N rows nulls homomorphism f (map (value_of M A) ts)
      ∙ ap (applied N f) (args_go ts parts.0.args parts.2 each) ∙ sym (fold-Fun Value (value_step N B) f ts))

-- so, out of an initial model, its rows and nulls go where the terms that name them go
module _ (S : Schema) (P : Presentation) (M N : Tables) (A B : Assignment) (initial : Initial S P M A) (rows : List (List ℕ)) (nulls : List Value)
    (homomorphism : IsHomomorphism S M N rows nulls) (agrees : Agrees S P M N A B rows nulls) where
  row_named : (entity row : ℕ) → row < count_of M entity → IsRowOf S P M N A B rows nulls entity row
  row_named entity row within =
      let t = initial.rows entity row within in
      record {
        name = t.0;
        of_entity = t.1;
        here = t.2;
        there = sym (row_goes S P M N A B rows nulls initial.holds homomorphism agrees t.0 entity t.1) ∙ ap (row_image S M N rows nulls entity) t.2;
      }

  null_named : (label : ℕ) → label < length M.algebra.nulls → IsNullOf S P M N A B rows nulls label
  null_named label within =
      let t = initial.nulls label within in
      let typed = map_some Plain (type_of S P.generators t.0) t.1 t.2 in
      record {
        name = t.0;
        type = typed.0;
        typed = typed.1;
        here = t.3;
        there = sym (value_goes S P M N A B rows nulls initial.holds homomorphism agrees t.0 typed.0 typed.1) ∙ ap (value_image S M N rows nulls) t.3
            ∙ values.fold-Null Value (value_image_step S M N rows nulls) label;
      }

  pub are_images : AreImages S P M N A B rows nulls
  are_images = record {
    entities = homomorphism.entities;
    counted = λ entity images at. (homomorphism.each_row entity images at).0;
    each_row = row_named;
    null_count = homomorphism.each_null;
    each_null = null_named;
  }
