-- Tables that are pulled back along a mapping that sends each symbol to a symbol.
use Rattle.std.proofs.Common.{ℕ, zero, suc, true, List, [], ◌∷◌, Option, Some, ◌≡◌, ◌<◌, ◌+◌, map, length, refl, sym, ap, subst, ◌∙◌, arith}
use Rattle.std.specs.Prelude.{slice_get, slice_index, slice_index_or}
use Rattle.std.specs.List.{enumerate_from}
use Rattle.std.proofs.lemmas.List.{get_or-map, append-nil}
use Rattle.std.proofs.lemmas.List.FromFn.{get_or-map-range_with_len}
use Rattle.std.proofs.lemmas.Option.{option_and_then_some, get_or_from_slice_get}
use Rattle.cq_theory.specs.declared.schema.Edge.{Edge}
use Rattle.cq_theory.specs.SchemaData.{SchemaData as Schema}
use Rattle.cq_theory.specs.declared.term.EntTerm.{EntTerm}
use Rattle.cq_theory.specs.declared.term.TypeTerm.{TypeTerm}
use Rattle.cq_theory.specs.declared.term.TypeTerm.TheVariants as term
use Rattle.cq_theory.specs.declared.value.Value.{Value}
use Rattle.cq_theory.specs.declared.constant.Con.TheVariants.{Named}
use Rattle.cq_theory.specs.declared.value.Value.TheVariants.{Const}
use Rattle.cq_theory.specs.Schema.{one_of}
use Rattle.cq_theory.specs.TypeTerm.{substituted, substituted_step}
use Rattle.cq_theory.specs.Sorts.{followed, target_of, entity_at, entity_of, is_type, have_types, type_of, type_step}
use Rattle.cq_theory.specs.Tables.{Tables, AtRow, Assignment, row_in, count_of, key_at, cell_at, row_from, row_of, value_of, value_step, applied, IsWellFormed}
use Rattle.cq_theory.proofs.TypeTerms.{fold-Gen, fold-Const, fold-Att, fold-Fun, Each, on_terms}
use Rattle.cq_theory.proofs.Sound.{followed_some, is_type_some, applied_type_some, both, row_from-append}
use Rattle.cq_theory.proofs.Every.{enumerated}
use Rattle.cq_mapping.specs.MappingData.{MappingData as Mapping}
use Rattle.cq_mapping.specs.Mapping.{IsMapping}
use Rattle.cq_mapping.specs.Images.{entity_image, key_image, attribute_image, path_image, ent_image, type_image, type_image_step}
use Rattle.cq_mapping.specs.Moved.{key_column, cell_column, delta_tables}
use Rattle.cq_mapping.proofs.Imaged.{target_of-image}
use Rattle.cq_mapping.proofs.Named.{get_mapped}
use Rattle.cq_colimit.proofs.Preserving.{no_type_variable, one_variable}
use Rattle.cq_colimit.proofs.Singles.{AreSingle}

-- what f gives at an edge with its number
mapped_edge : {X : Type 0} (f : ℕ × Edge → X) (edges : List Edge) (k : ℕ) (edge : Edge) (d : X) → slice_get edges k ≡ Some edge → slice_index_or (map f (enumerate_from 0 edges)) k d ≡ f (k, edge)
mapped_edge f edges k edge d h =
    let here : 0 + k ≡ k = omega arith in
    let numbered : slice_get (enumerate_from 0 edges) k ≡ Some (k, edge) = enumerated 0 edges k edge h ∙ ap (λ n. Some (n, edge)) here in
    get_or_from_slice_get (map f (enumerate_from 0 edges)) k (f (k, edge)) d (get_mapped f (enumerate_from 0 edges) k (k, edge) numbered)

variable_entity : (e n start : ℕ) → entity_at (slice_get (one_of e) n) ≡ Some start → e ≡ start
variable_entity e zero start h = cc
variable_entity e (suc n) start h = cc

module _ (S : Schema) (M : Tables) (well : IsWellFormed S M) where
  -- a path from a row leads to a row of its target
  row_from-within : (path : List ℕ) (e target row : ℕ) → target_of S.keys path e ≡ Some target → row < count_of M e → row_from M row path < count_of M target
  row_from-within [] e target row h within = let same : e ≡ target = cc in subst (λ n. row < count_of M n) same within
  row_from-within (k ∷ path) e target row h within =
      option_and_then_some (target_of S.keys path) (followed (slice_get S.keys k) e) target h (λ middle first rest.
      let edge = followed_some (slice_get S.keys k) e middle first in
      let column = well.key_columns k edge.0 edge.1 in
      let inside : row < length (slice_index_or M.sheet.keys k []) = subst (λ n. row < n) (sym column.0) (subst (λ n. row < count_of M n) (sym edge.2) within) in
      let next : key_at M k row < count_of M edge.0.to = column.1 row 0 inside in
      row_from-within path middle target (key_at M k row) rest (subst (λ n. key_at M k row < count_of M n) edge.3 next))

module _ (F : Mapping) (is : IsMapping F) (single : AreSingle F) (M : Tables) (well : IsWellFormed F.target M) where
  abbrev S : Schema
  S = F.source

  abbrev T : Schema
  T = F.target

  abbrev D : Tables
  D = delta_tables F M

  pub count_is : (e : ℕ) → e < length S.entities → count_of D e ≡ count_of M (entity_image F e)
  count_is e within = let known : e < length F.entities = omega (arith, within, is.entities) in get_or-map (count_of M) F.entities e 0 0 known

  key_is : (k row : ℕ) (edge : Edge) → slice_get S.keys k ≡ Some edge → row < count_of M (entity_image F edge.from) → key_at D k row ≡ row_from M row (key_image F k)
  key_is k row edge h inside =
      let here : 0 + row ≡ row = omega arith in
      ap (λ (column : List ℕ). slice_index column row) (mapped_edge (key_column F M) S.keys k edge [] h)
      ∙ get_or-map-range_with_len (λ r. row_from M r (key_image F k)) 0 (count_of M (entity_image F edge.from)) row row 0 inside here

  cell_is : (a row : ℕ) (edge : Edge) → slice_get S.attributes a ≡ Some edge → row < count_of M (entity_image F edge.from) → cell_at D a row ≡ value_of M (AtRow row ∷ []) (attribute_image F a)
  cell_is a row edge h inside =
      let here : 0 + row ≡ row = omega arith in
      ap (λ (column : List Value). slice_index_or column row (Const (Named 0))) (mapped_edge (cell_column F M) S.attributes a edge [] h)
      ∙ get_or-map-range_with_len (λ r. value_of M (AtRow r ∷ []) (attribute_image F a)) 0 (count_of M (entity_image F edge.from)) row row (Const (Named 0)) inside here

  -- a path that is followed in the pulled-back tables is its image that is followed in the tables
  pub row_from-image : (path : List ℕ) (e target row : ℕ) → target_of S.keys path e ≡ Some target → row < count_of M (entity_image F e) → row_from D row path ≡ row_from M row (path_image F path)
  row_from-image [] e target row h inside = refl
  row_from-image (k ∷ path) e target row h inside =
      option_and_then_some (target_of S.keys path) (followed (slice_get S.keys k) e) target h (λ middle first rest.
      let edge = followed_some (slice_get S.keys k) e middle first in
      let begins : row < count_of M (entity_image F edge.0.from) = subst (λ n. row < count_of M (entity_image F n)) (sym edge.2) inside in
      let lands : row_from M row (key_image F k) < count_of M (entity_image F edge.0.to) =
      row_from-within T M well (key_image F k) (entity_image F edge.0.from) (entity_image F edge.0.to) row (is.key_images k edge.0 edge.1).leads begins in
      ap (λ r. row_from D r path) (key_is k row edge.0 edge.1 begins)
      ∙ row_from-image path middle target (row_from M row (key_image F k)) rest (subst (λ n. row_from M row (key_image F k) < count_of M (entity_image F n)) edge.3 lands)
      ∙ sym (row_from-append M row (key_image F k) (path_image F path)))

  -- a term over one variable means in the pulled-back tables what its image means in the tables
  module _ (e row : ℕ) (inside : row < count_of M (entity_image F e)) where
    abbrev here : Assignment
    here = AtRow row ∷ []

    abbrev IsImaged : TypeTerm → Type 0
    IsImaged t = (type : ℕ) → type_of S (one_of e) t ≡ Some type → value_of D here t ≡ value_of M here (type_image F t)

    args_imaged : (ts : List TypeTerm) (types : List ℕ) → have_types (map (type_of S (one_of e)) ts) types ≡ true → Each IsImaged ts → map (value_of D here) ts ≡ map (value_of M here) (map (type_image F) ts)
    args_imaged [] types h each = refl
    args_imaged (t ∷ ts) [] h each = cc
    args_imaged (t ∷ ts) (type ∷ types) h each =
        let parts = both (is_type (type_of S (one_of e) t) type) (have_types (map (type_of S (one_of e)) ts) types) h in
        let first : value_of D here t ≡ value_of M here (type_image F t) = each.0 type (is_type_some (type_of S (one_of e) t) type parts.0) in
        let rest : map (value_of D here) ts ≡ map (value_of M here) (map (type_image F) ts) = args_imaged ts types parts.1 each.1 in
        λ i. first i ∷ rest i

    att_imaged : (a : ℕ) (t : EntTerm) → IsImaged (term.Att a t)
    att_imaged a t type h =
        option_and_then_some (followed (slice_get S.attributes a)) (entity_of S (one_of e) t) type (sym (fold-Att (Option ℕ) (type_step S (one_of e)) a t) ∙ h) (λ end led last.
        option_and_then_some (target_of S.keys t.path) (entity_at (slice_get (one_of e) t.generator)) end led (λ start first rest.
        let edge = followed_some (slice_get S.attributes a) end type last in
        let one = single.attributes a edge.0 edge.1 in
        let leads : target_of S.keys t.path e ≡ Some edge.0.from = ap (target_of S.keys t.path) (variable_entity e t.generator start first) ∙ rest ∙ ap (λ n. Some n) (sym edge.2) in
        let reached : ℕ = row_from M row (path_image F t.path) in
        let begins : row_in (slice_index_or here t.generator (AtRow 0)) ≡ row = ap (λ n. row_in (slice_index_or here n (AtRow 0))) (sym (one_variable e t.generator start first)) in
        let lands : reached < count_of M (entity_image F edge.0.from) =
        row_from-within T M well (path_image F t.path) (entity_image F e) (entity_image F edge.0.from) row (target_of-image F is t.path e edge.0.from leads) inside in
        let left : row_of D here t ≡ reached = ap (λ r. row_from D r t.path) begins ∙ row_from-image t.path e edge.0.from row leads inside in
        let image : type_image F (term.Att a t) ≡ term.Att one.0 (record { generator = t.generator; path = path_image F t.path }) =
        fold-Att TypeTerm (type_image_step F) a t ∙ ap (substituted (ent_image F t)) one.1
        ∙ fold-Att TypeTerm (substituted_step (ent_image F t)) one.0 (record { generator = 0; path = [] })
        ∙ ap (λ path. term.Att one.0 (record { generator = t.generator; path = path })) (append-nil (path_image F t.path)) in
        let cell : cell_at D a reached ≡ cell_at M one.0 reached =
        cell_is a reached edge.0 edge.1 lands ∙ ap (value_of M (AtRow reached ∷ [])) one.1 ∙ fold-Att Value (value_step M (AtRow reached ∷ [])) one.0 (record { generator = 0; path = [] }) in
        fold-Att Value (value_step D here) a t ∙ ap (cell_at D a) left ∙ cell
        ∙ sym (ap (value_of M here) image ∙ fold-Att Value (value_step M here) one.0 (record { generator = t.generator; path = path_image F t.path })
        ∙ ap (λ r. cell_at M one.0 (row_from M r (path_image F t.path))) begins)))

    pub value_of-image : (t : TypeTerm) → IsImaged t
    value_of-image = on_terms IsImaged
        (λ n type h. absurd (no_type_variable e n type (sym (fold-Gen (Option ℕ) (type_step S (one_of e)) n) ∙ h)))
        (λ c type h. fold-Const Value (value_step D here) c ∙ sym (ap (value_of M here) (fold-Const TypeTerm (type_image_step F) c) ∙ fold-Const Value (value_step M here) c))
        att_imaged
        (λ f ts each type h.
        let parts = applied_type_some (slice_get S.typeside.functions f) (map (type_of S (one_of e)) ts) type (sym (fold-Fun (Option ℕ) (type_step S (one_of e)) f ts) ∙ h) in
        fold-Fun Value (value_step D here) f ts ∙ ap (applied M f) (args_imaged ts parts.0.args parts.2 each)
        ∙ sym (ap (value_of M here) (fold-Fun TypeTerm (type_image_step F) f ts) ∙ fold-Fun Value (value_step M here) f (map (type_image F) ts)))
