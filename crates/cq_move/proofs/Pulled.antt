-- The tables that a mapping pulls back are well formed over its source, and satisfy it where the mapping preserves equality.
use Rattle.std.proofs.Common.{ℕ, zero, suc, List, [], ◌∷◌, Some, ◌≡◌, ◌<◌, ◌+◌, map, length, refl, sym, ap, subst, ◌∙◌, arith}
use Rattle.std.specs.Prelude.{slice_get, slice_index, slice_index_or, All}
use Rattle.std.specs.List.{enumerate_from}
use Rattle.std.proofs.lemmas.List.{get_or-map, length-map}
use Rattle.std.proofs.lemmas.List.FromFn.{get_or-map-range_with_len, length-map-range_with_len}
use Rattle.std.proofs.lemmas.Option.{option_and_then_some, get_or_from_slice_get}
use Rattle.cq_base.specs.declared.name.Name.{Name}
use Rattle.cq_theory.specs.TypesideData.{TypesideData as Typeside}
use Rattle.cq_theory.specs.declared.presentation.Sort.{Sort}
use Rattle.cq_theory.specs.declared.presentation.Sort.TheVariants.{Entity}
use Rattle.cq_theory.specs.declared.presentation.Equation.{Equation}
use Rattle.cq_theory.specs.declared.schema.Edge.{Edge}
use Rattle.cq_theory.specs.SchemaData.{SchemaData as Schema}
use Rattle.cq_theory.specs.declared.term.EntTerm.{EntTerm}
use Rattle.cq_theory.specs.declared.term.TypeTerm.{TypeTerm}
use Rattle.cq_theory.specs.declared.term.TypeTerm.TheVariants as term
use Rattle.cq_theory.specs.declared.value.Value.{Value}
use Rattle.cq_theory.specs.declared.constant.Con.TheVariants.{Named}
use Rattle.cq_theory.specs.declared.value.Value.TheVariants.{Const}
use Rattle.cq_theory.specs.declared.value.Entry.{Entry}
use Rattle.cq_theory.specs.Canonical.{below}
use Rattle.cq_theory.specs.Schema.{one_of}
use Rattle.cq_theory.specs.Sorts.{followed, target_of, entity_at, type_at, type_of}
use Rattle.cq_theory.specs.Tables.{Tables, AtRow, Assignment, row_in, value_in, count_of, key_at, cell_at, row_from, row_of, value_of, value_step, applied, value_type, normal_of, HasSort, IsKeyColumn, IsCellColumn, IsSoundEntry, IsWellFormed, Satisfies, Holds}
use Rattle.cq_theory.proofs.TypeTerms.{fold-Const, fold-Att, fold-Fun, Each, on_terms}
use Rattle.cq_theory.proofs.Sound.{followed_some, row_from-append, meaning_of-derived}
use Rattle.cq_theory.proofs.Typing.{value_typed}
use Rattle.cq_theory.proofs.Every.{enumerated}
use Rattle.cq_mapping.specs.MappingData.{MappingData as Mapping}
use Rattle.cq_mapping.specs.Mapping.{IsMapping}
use Rattle.cq_mapping.specs.Images.{entity_image, key_image, attribute_image, path_image, ent_image, type_image, type_image_step}
use Rattle.cq_mapping.specs.Duties.{path_duty, observation_duty, one_generator, Preserves}
use Rattle.cq_mapping.specs.Moved.{key_column, cell_column, delta_tables}
use Rattle.cq_mapping.proofs.Imaged.{target_of-image}
use Rattle.cq_instance.proofs.Lists.{get-map, get-append, get-append_front, All_from, All_at}
use Rattle.cq_instance.proofs.TypedTerms.{EachTyped, typed_generator, typed_cell, args_typed}
use Rattle.cq_instance.proofs.SubstitutedTerms.{value_of-substituted}
use Rattle.cq_move.proofs.Normal.{row_from-within, value_normal}

-- a list of what f gives at each number below n
all_below : {X : Type 0} (P : X → Type 0) (f : ℕ → X) (n : ℕ) → ((k : ℕ) → k < n → P (f k)) → All P (map f (below n))
all_below P f n h k d within =
    let inside : k < n = omega (arith, within, length-map-range_with_len f 0 n) in
    let here : 0 + k ≡ k = omega arith in
    subst P (sym (get_or-map-range_with_len f 0 n k k d inside here)) (h k inside)

-- what f gives at an edge with its number
mapped_edge : {X : Type 0} (f : ℕ × Edge → X) (edges : List Edge) (k : ℕ) (edge : Edge) (d : X) → slice_get edges k ≡ Some edge → slice_index_or (map f (enumerate_from 0 edges)) k d ≡ f (k, edge)
mapped_edge f edges k edge d h =
    let here : 0 + k ≡ k = omega arith in
    let numbered : slice_get (enumerate_from 0 edges) k ≡ Some (k, edge) = enumerated 0 edges k edge h ∙ ap (λ n. Some (n, edge)) here in
    get_or_from_slice_get (map f (enumerate_from 0 edges)) k (f (k, edge)) d (get-map f (enumerate_from 0 edges) k (k, edge) numbered)

length-enumerate : (s : ℕ) (edges : List Edge) → length (enumerate_from s edges) ≡ length edges
length-enumerate s [] = refl
length-enumerate s (edge ∷ edges) = ap suc (length-enumerate (s + 1) edges)

no_variable : (e n type : ℕ) → type_at (slice_get (one_of e) n) ≡ Some type → ⊥
no_variable e zero type h = cc
no_variable e (suc n) type h = cc

variable_begins : (e n start : ℕ) → entity_at (slice_get (one_of e) n) ≡ Some start → (n ≡ 0) × (e ≡ start)
variable_begins e zero start h = (refl, cc)
variable_begins e (suc n) start h = cc

module _ (F : Mapping) (is : IsMapping F) (M : Tables) (well : IsWellFormed F.target M) where
  abbrev S : Schema
  S = F.source

  abbrev T : Schema
  T = F.target

  abbrev D : Tables
  D = delta_tables F M

  pub count_is : (e : ℕ) → e < length S.entities → count_of D e ≡ count_of M (entity_image F e)
  count_is e within = let known : e < length F.entities = omega (arith, within, is.entities) in get_or-map (count_of M) F.entities e 0 0 known

  edge_within : (edges : List Edge) (bound : ℕ) (k : ℕ) (edge : Edge) → All (λ (x : Edge). (x.from < length S.entities) × (x.to < bound)) edges → slice_get edges k ≡ Some edge → (edge.from < length S.entities) × (edge.to < bound)
  edge_within edges bound k edge all h = All_at (λ (x : Edge). (x.from < length S.entities) × (x.to < bound)) edges k edge all h

  key_is : (k row : ℕ) (edge : Edge) → slice_get S.keys k ≡ Some edge → row < count_of M (entity_image F edge.from) → key_at D k row ≡ row_from M row (key_image F k)
  key_is k row edge h inside =
      let here : 0 + row ≡ row = omega arith in
      ap (λ (column : List ℕ). slice_index column row) (mapped_edge (key_column F M) S.keys k edge [] h)
      ∙ get_or-map-range_with_len (λ r. row_from M r (key_image F k)) 0 (count_of M (entity_image F edge.from)) row row 0 inside here

  pub cell_is : (a row : ℕ) (edge : Edge) → slice_get S.attributes a ≡ Some edge → row < count_of M (entity_image F edge.from) → cell_at D a row ≡ value_of M (AtRow row ∷ []) (attribute_image F a)
  cell_is a row edge h inside =
      let here : 0 + row ≡ row = omega arith in
      ap (λ (column : List Value). slice_index_or column row (Const (Named 0))) (mapped_edge (cell_column F M) S.attributes a edge [] h)
      ∙ get_or-map-range_with_len (λ r. value_of M (AtRow r ∷ []) (attribute_image F a)) 0 (count_of M (entity_image F edge.from)) row row (Const (Named 0)) inside here

  -- a path that is followed in the pulled-back tables is its image that is followed in the tables
  pub row_from-image : (path : List ℕ) (e target row : ℕ) → target_of S.keys path e ≡ Some target → row < count_of M (entity_image F e) → row_from D row path ≡ row_from M row (path_image F path)
  row_from-image [] e target row h inside = refl
  row_from-image (k ∷ path) e target row h inside =
      option_and_then_some (target_of S.keys path) (followed (slice_get S.keys k) e) target h (λ middle first rest.
      let edge = followed_some (slice_get S.keys k) e middle first in
      let begins : row < count_of M (entity_image F edge.0.from) = subst (λ n. row < count_of M (entity_image F n)) (sym edge.2) inside in
      let lands : row_from M row (key_image F k) < count_of M (entity_image F edge.0.to) =
      row_from-within T M well (key_image F k) (entity_image F edge.0.from) (entity_image F edge.0.to) row (is.key_images k edge.0 edge.1).leads begins in
      ap (λ r. row_from D r path) (key_is k row edge.0 edge.1 begins)
      ∙ row_from-image path middle target (row_from M row (key_image F k)) rest (subst (λ n. row_from M row (key_image F k) < count_of M (entity_image F n)) edge.3 lands)
      ∙ sym (row_from-append M row (key_image F k) (path_image F path)))

  -- a term over one variable means in the pulled-back tables what its image means in the tables
  module _ (e row : ℕ) (inside : row < count_of M (entity_image F e)) where
    abbrev here : Assignment
    here = AtRow row ∷ []

    abbrev IsImaged : TypeTerm → Type 0
    IsImaged t = (type : ℕ) → type_of S (one_of e) t ≡ Some type → value_of D here t ≡ value_of M here (type_image F t)

    args_imaged : (ts : List TypeTerm) → EachTyped S (one_of e) ts → Each IsImaged ts → map (value_of D here) ts ≡ map (value_of M here) (map (type_image F) ts)
    args_imaged [] typed each = refl
    args_imaged (t ∷ ts) typed each =
        let first : value_of D here t ≡ value_of M here (type_image F t) = each.0 typed.0.0 typed.0.1 in
        let rest : map (value_of D here) ts ≡ map (value_of M here) (map (type_image F) ts) = args_imaged ts typed.1 each.1 in
        λ i. first i ∷ rest i

    att_imaged : (a : ℕ) (t : EntTerm) → IsImaged (term.Att a t)
    att_imaged a t type h =
        let cell = typed_cell S (one_of e) a t type h in
        option_and_then_some (target_of S.keys t.path) (entity_at (slice_get (one_of e) t.generator)) cell.edge.from cell.of_entity (λ start first rest.
        let variable = variable_begins e t.generator start first in
        let leads : target_of S.keys t.path e ≡ Some cell.edge.from = ap (target_of S.keys t.path) variable.1 ∙ rest in
        let reached : ℕ = row_from M row (path_image F t.path) in
        let begins : row_in (slice_index_or here t.generator (AtRow 0)) ≡ row = ap (λ n. row_in (slice_index_or here n (AtRow 0))) variable.0 in
        let lands : reached < count_of M (entity_image F cell.edge.from) =
        row_from-within T M well (path_image F t.path) (entity_image F e) (entity_image F cell.edge.from) row (target_of-image F is t.path e cell.edge.from leads) inside in
        let left : row_of D here t ≡ reached = ap (λ r. row_from D r t.path) begins ∙ row_from-image t.path e cell.edge.from row leads inside in
        let right : row_of M here (ent_image F t) ≡ reached = ap (λ r. row_from M r (path_image F t.path)) begins in
        let image = is.attribute_images a cell.edge cell.known in
        fold-Att Value (value_step D here) a t ∙ ap (cell_at D a) left ∙ cell_is a reached cell.edge cell.known lands
        ∙ sym (ap (value_of M here) (fold-Att TypeTerm (type_image_step F) a t)
        ∙ value_of-substituted T M here (ent_image F t) (entity_image F cell.edge.from) reached right (attribute_image F a) cell.edge.to image.typed))

    pub value_of-image : (t : TypeTerm) → IsImaged t
    value_of-image = on_terms IsImaged
        (λ n type h. absurd (no_variable e n type (typed_generator S (one_of e) n type h)))
        (λ c type h. fold-Const Value (value_step D here) c ∙ sym (ap (value_of M here) (fold-Const TypeTerm (type_image_step F) c) ∙ fold-Const Value (value_step M here) c))
        att_imaged
        (λ f ts each type h.
        fold-Fun Value (value_step D here) f ts ∙ ap (applied M f) (args_imaged ts (args_typed S (one_of e) f ts type h) each)
        ∙ sym (ap (value_of M here) (fold-Fun TypeTerm (type_image_step F) f ts) ∙ fold-Fun Value (value_step M here) f (map (type_image F) ts)))

  module _ (satisfies : Satisfies T M) where
    -- one generator that stands for a row
    one_sorted : (e row : ℕ) → row < count_of M e → (n : ℕ) (g : Name × Sort) → slice_get (one_of e) n ≡ Some g → HasSort T M g.1 (slice_index_or (AtRow row ∷ []) n (AtRow 0))
    one_sorted e row inside zero g h =
        let same : ([], Entity e) ≡ g = cc in
        subst (λ (x : Name × Sort). HasSort T M x.1 (AtRow row)) same inside
    one_sorted e row inside (suc n) g h = cc

    no_equation : (n : ℕ) (x : Equation) → slice_get [] n ≡ Some x → ⊥
    no_equation n x h = cc

    one_holds : (e row : ℕ) → row < count_of M e → Holds T (one_generator e) M (AtRow row ∷ [])
    one_holds e row inside = record {
      well_formed = well;
      count = refl;
      sorts = one_sorted e row inside;
      schema = satisfies;
      equations = λ n x h. absurd (no_equation n x h);
    }

    image_inside : (e row : ℕ) → e < length S.entities → row < count_of D e → row < count_of M (entity_image F e)
    image_inside e row within inside = subst (λ n. row < n) (count_is e within) inside

    type_moved : (v : Value) → value_type S M.algebra.nulls v ≡ value_type T M.algebra.nulls v
    type_moved v = ap (λ (y : Typeside). value_type (record { typeside = y; entities = []; keys = []; attributes = []; path_eqs = []; obs_eqs = [] }) M.algebra.nulls v) is.typeside

    key_column_is : (k : ℕ) (edge : Edge) → slice_get S.keys k ≡ Some edge → IsKeyColumn S D edge (slice_index_or D.sheet.keys k [])
    key_column_is k edge h =
        let ends = edge_within S.keys (length S.entities) k edge is.source.keys h in
        let column = mapped_edge (key_column F M) S.keys k edge [] h in
        let f : ℕ → ℕ = λ r. row_from M r (key_image F k) in
        let n : ℕ = count_of M (entity_image F edge.from) in
        let rows : All (λ row. row < count_of D edge.to) (map f (below n)) = all_below (λ row. row < count_of D edge.to) f n (λ r inside.
        subst (λ m. f r < m) (sym (count_is edge.to ends.1))
        (row_from-within T M well (key_image F k) (entity_image F edge.from) (entity_image F edge.to) r (is.key_images k edge h).leads inside)) in
        subst (IsKeyColumn S D edge) (sym column) (length-map-range_with_len f 0 n ∙ sym (count_is edge.from ends.0), rows)

    cell_column_is : (a : ℕ) (edge : Edge) → slice_get S.attributes a ≡ Some edge → IsCellColumn S D edge (slice_index_or D.sheet.cells a [])
    cell_column_is a edge h =
        let ends = edge_within S.attributes (length S.typeside.types) a edge is.source.attributes h in
        let column = mapped_edge (cell_column F M) S.attributes a edge [] h in
        let f : ℕ → Value = λ r. value_of M (AtRow r ∷ []) (attribute_image F a) in
        let n : ℕ = count_of M (entity_image F edge.from) in
        let image = is.attribute_images a edge h in
        let values : All (λ v. (value_type S D.algebra.nulls v ≡ Some edge.to) × (normal_of D v ≡ v)) (map f (below n)) =
        all_below (λ v. (value_type S D.algebra.nulls v ≡ Some edge.to) × (normal_of D v ≡ v)) f n (λ r inside.
        let holds = one_holds (entity_image F edge.from) r inside in (
          type_moved (f r) ∙ value_typed T (one_generator (entity_image F edge.from)) M (AtRow r ∷ []) holds (attribute_image F a) edge.to image.typed,
          value_normal T (one_generator (entity_image F edge.from)) M (AtRow r ∷ []) holds (attribute_image F a) edge.to image.typed,
        )) in
        subst (IsCellColumn S D edge) (sym column) (length-map-range_with_len f 0 n ∙ sym (count_is edge.from ends.0), values)

    entry_moved : (e : Entry) → IsSoundEntry T M e → IsSoundEntry S D e
    entry_moved e sound = record {
      function = sound.function;
      known = ap (λ (y : Typeside). slice_get y.functions e.function) is.typeside ∙ sound.known;
      plain = sound.plain;
      typed = type_moved _ ∙ sound.typed;
      same_type = type_moved e.value ∙ sound.same_type;
    }

    pub well_formed : IsWellFormed S D
    well_formed = record {
      entities = length-map F.entities (count_of M) ∙ is.entities;
      keys = length-map (enumerate_from 0 S.keys) (key_column F M) ∙ length-enumerate 0 S.keys;
      attributes = length-map (enumerate_from 0 S.attributes) (cell_column F M) ∙ length-enumerate 0 S.attributes;
      key_columns = key_column_is;
      cell_columns = cell_column_is;
      nulls = subst (λ (y : Typeside). All (λ n. n < length y.types) M.algebra.nulls) (sym is.typeside) well.nulls;
      entries = All_from (IsSoundEntry S D) M.algebra.entries (λ n e at. entry_moved e (All_at (IsSoundEntry T M) M.algebra.entries n e well.entries at));
      distinct = well.distinct;
    }

    module _ (preserves : Preserves F) where
      one_row : (p q : ℕ) → AtRow p ≡ AtRow q → p ≡ q
      one_row p q h = ap row_in h

      pub satisfied : Satisfies S D
      satisfied = record {
        paths = λ n e at row inside.
            let sides = is.source.path_eqs n e at in
            let there = image_inside e.entity row sides.entity inside in
            let duty = get-append_front (map (path_duty F) S.path_eqs) (map (observation_duty F) S.obs_eqs) n (path_duty F e) (get-map (path_duty F) S.path_eqs n e at) in
            let derived = preserves n (path_duty F e) duty in
            let equal = meaning_of-derived T (one_generator (entity_image F e.entity)) M (AtRow row ∷ []) is.target (one_holds (entity_image F e.entity) row there) _ _ derived in
            row_from-image e.left e.entity sides.target row sides.left there ∙ ap row_in equal ∙ sym (row_from-image e.right e.entity sides.target row sides.right there);
        observations = λ n e at row inside.
            let sides = is.source.obs_eqs n e at in
            let there = image_inside e.entity row sides.entity inside in
            let duty = get-append (map (path_duty F) S.path_eqs) (map (observation_duty F) S.obs_eqs) n (observation_duty F e) (get-map (observation_duty F) S.obs_eqs n e at) in
            let derived = preserves (length (map (path_duty F) S.path_eqs) + n) (observation_duty F e) duty in
            let equal = meaning_of-derived T (one_generator (entity_image F e.entity)) M (AtRow row ∷ []) is.target (one_holds (entity_image F e.entity) row there) _ _ derived in
            value_of-image e.entity row there e.left sides.type sides.left ∙ ap value_in equal ∙ sym (value_of-image e.entity row there e.right sides.type sides.right);
      }
