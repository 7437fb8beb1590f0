-- What the cells say is well sorted.
use Rattle.std.proofs.Common.{ℕ, Bool, true, false, List, [], ◌∷◌, Option, Some, None, ◌≡◌, ◌<◌, ◌≤◌, ◌+◌, inl, inr, map, length, refl, sym, ap, subst, ◌∙◌, arith}
use Rattle.std.specs.Prelude.{slice_get, if◌then◌else◌, ◌==◌, option_map, option_and_then}
use Rattle.std.specs.List.{flat_map, enumerate_from}
use Rattle.std.proofs.lemmas.List.{length-map}
use Rattle.std.proofs.lemmas.List.Quantifiers.{position-Some}
use Rattle.cq_base.specs.Names.{number_of, same_name}
use Rattle.cq_theory.specs.declared.constant.Con.{Con}
use Rattle.cq_theory.specs.declared.presentation.Equation.TheVariants.{Ent, Typ}
use Rattle.cq_theory.specs.declared.presentation.Presentation.{Presentation}
use Rattle.cq_theory.specs.declared.presentation.Sort.TheVariants.{Plain, Entity}
use Rattle.cq_theory.specs.declared.schema.Edge.{Edge}
use Rattle.cq_theory.specs.declared.term.TypeTerm.TheVariants as term
use Rattle.cq_theory.specs.declared.value.Value.{Value}
use Rattle.cq_theory.specs.declared.value.Value.TheVariants as value
use Rattle.cq_theory.specs.Canonical.{edges_from}
use Rattle.cq_theory.specs.Presentation.{IsEquation}
use Rattle.cq_theory.specs.SchemaData.{SchemaData as Schema}
use Rattle.cq_theory.specs.TypesideData.{TypesideData as Typeside}
use Rattle.cq_theory.specs.Schema.{IsSchema}
use Rattle.cq_theory.specs.Sorts.{entity_at, followed, is_type, target_of, type_of, type_step}
use Rattle.cq_theory.specs.Typeside.{IsTypeside, constant_names, constant_type}
use Rattle.cq_theory.specs.TypeTerm as typ
use Rattle.cq_theory.proofs.Every.{Every, Every-append, Every-at, Every-flat_map, Every-map, from_enumerated, from_filter}
use Rattle.cq_theory.proofs.OnValues.{All_at}
use Rattle.cq_theory.proofs.Sound.{is_type_some}
use Rattle.cq_theory.proofs.TypeTerms.{fold-Att}
use Rattle.cq_values.specs.Readable.{IsRead, is_name}
use Rattle.cq_values.specs.Reading.{value_in}
use Rattle.cq_values.proofs.Exactness.{exact}
use Rattle.cq_import.specs.declared.columns.Column.{Column}
use Rattle.cq_import.specs.declared.columns.Column.TheVariants.{Attribute, Key}
use Rattle.cq_import.specs.declared.content.Content.{Content}
use Rattle.cq_import.specs.declared.content.Content.TheVariants.{Blank, Wrong, Means}
use Rattle.cq_import.specs.declared.labels.Trouble.{Trouble}
use Rattle.cq_import.specs.declared.labels.Trouble.TheVariants as trouble
use Rattle.cq_import.specs.Cells.{Cell, Sheet, cell_equations, cell_fault, cell_in, cell_uses, cells_fault, column_equations, column_fault, column_uses, constant_content, content_equations, content_fault, content_of, entity_cells, equations_from, file_in, found, key_equations, key_field_equations, named_constant, row_cells, row_with_id, rows_at, rows_cells, start_of, trouble_fault, typed_constant, uses_of}
use Rattle.cq_import.specs.Columns.{attribute_columns, attribute_of, columns, key_of}
use Rattle.cq_import.specs.Faults.{Fault, or_else}
use Rattle.cq_import.specs.Labels.{Labels, Room, Use, uses_in, uses_trouble, value_term, with_new, with_use, with_uses, type_of_label}
use Rattle.cq_import.specs.Records.{Record}
use Rattle.cq_import.specs.Rows.{id_of, ids_of}
use Rattle.cq_import.proofs.LabelPlaces.{AreNamed, Has, given_uses, have_uses, longer_after, named_before}
use Rattle.cq_import.proofs.Rooms.{Fits, HasRoom, uses_fit}
use Rattle.cq_import.proofs.Uses.{with_uses-append}
use Rattle.cq_import.proofs.ValueTerms.{IsInRange, IsMeant, meant_in_range, meant_symbols, meant_typed}

pub neither_fault : (a b : Option Fault) → or_else a b ≡ None → (a ≡ None) × (b ≡ None)
neither_fault None b none = (refl, none)
neither_fault (Some f) b none = cc none

-- Contents: what a field means has the column's type.
module _ (T : Typeside) (made : IsTypeside T) (type : ℕ) where
  found_is : (o : Option Value) (v : Value) → found o ≡ Means v → o ≡ Some v
  found_is None v h = cc h
  found_is (Some w) v h = let same : w ≡ v = cc in ap (λ (x : Value). Some x) same

  found_meant : (text : List ℕ) (v : Value) → found (value_in T type text) ≡ Means v → IsMeant T type v
  found_meant text v h = inl (subst (IsRead T type text) (found_is (value_in T type text) v h) (exact T type text made)).0

  constant_meant : (c : Con) (v : Value) → typed_constant T type c ≡ Means v → IsMeant T type v
  constant_meant c v h = at_test (is_type (constant_type T c) type) refl h
    where
      at_test : (b : Bool) → is_type (constant_type T c) type ≡ b → (if b then Means (value.Const c) else Wrong) ≡ Means v → IsMeant T type v
      at_test true e h' = let same : value.Const c ≡ v = cc in inr (c, sym same, is_type_some (constant_type T c) type e)
      at_test false e h' = cc

  text_meant : (text : List ℕ) (v : Value) → constant_content T type text ≡ Means v → IsMeant T type v
  text_meant text v h = at_test (is_name text) h
    where
      at_test : (b : Bool) → (if b then typed_constant T type (named_constant text (number_of (constant_names T) text)) else Wrong) ≡ Means v → IsMeant T type v
      at_test true h' = constant_meant (named_constant text (number_of (constant_names T) text)) v h'
      at_test false h' = cc

  content_meant : (field : List ℕ) (v : Value) → content_of T type field ≡ Means v → IsMeant T type v
  content_meant [] v h = cc h
  content_meant (first ∷ rest) v h = at_null (first == 63) h
    where
      at_value : (b : Bool) → (if b then found (value_in T type rest) else constant_content T type (first ∷ rest)) ≡ Means v → IsMeant T type v
      at_value true h' = found_meant rest v h'
      at_value false h' = text_meant (first ∷ rest) v h'

      at_null : (b : Bool) → (if b then found (value_in T type (first ∷ rest)) else (if first == 61 then found (value_in T type rest) else constant_content T type (first ∷ rest))) ≡ Means v
          → IsMeant T type v
      at_null true h' = found_meant (first ∷ rest) v h'
      at_null false h' = at_value (first == 61) h'

  uses_in_range : (c : Content) → ((v : Value) → c ≡ Means v → IsMeant T type v) → type < length T.types → Every (IsInRange T made) (uses_of T type c)
  uses_in_range (Means v) meant within = meant_in_range T made type v (meant v refl) within
  uses_in_range Blank meant within = tt
  uses_in_range Wrong meant within = tt

-- a column of an entity: where it leads
abbrev pub IsColumnOf : Schema → ℕ → Column → Type 0
IsColumnOf S entity (Attribute a type) = (followed (slice_get S.attributes a) entity ≡ Some type) × (type < length S.typeside.types)
IsColumnOf S entity (Key k target) = followed (slice_get S.keys k) entity ≡ Some target

module _ (S : Schema) (schema : IsSchema S) (entity : ℕ) where
  leads : (o : Option Edge) (edge : Edge) → o ≡ Some edge → (edge.from == entity) ≡ true → followed o entity ≡ Some edge.to
  leads o edge is from = ap (λ p. followed p entity) is ∙ ap (λ (b : Bool). if b then Some edge.to else None) from

  -- an edge from the entity, with its number
  from_it : (edges : List Edge) (n : ℕ) (p : ℕ × Edge) → slice_get (edges_from entity edges) n ≡ Some p → (slice_get edges p.0 ≡ Some p.1) × ((p.1.from == entity) ≡ true)
  from_it edges n p at =
      let kept = from_filter (λ (q : ℕ × Edge). q.1.from == entity) (enumerate_from 0 edges) n p at in
      let there = from_enumerated 0 edges kept.0 p kept.1 in
      let same : kept.0 ≡ p.0 = omega (arith, there.1) in
      (ap (slice_get edges) (sym same) ∙ there.0, kept.2)

  pub columns_of : Every (IsColumnOf S entity) (columns S entity)
  columns_of =
      Every-append (IsColumnOf S entity) (attribute_columns S.attributes entity) (map key_of (edges_from entity S.keys))
      (Every-map (IsColumnOf S entity) attribute_of (edges_from entity S.attributes) (λ n p at.
      let from = from_it S.attributes n p at in
      let range = All_at (λ (edge : Edge). (edge.from < length S.entities) × (edge.to < length S.typeside.types)) S.attributes p.0 p.1 schema.attributes from.0 in
      (leads (slice_get S.attributes p.0) p.1 from.0 from.1, range.1)))
      (Every-map (IsColumnOf S entity) key_of (edges_from entity S.keys) (λ n p at.
      let from = from_it S.keys n p at in
      leads (slice_get S.keys p.0) p.1 from.0 from.1))

-- a label that is wrong makes the cell wrong
no_trouble : (cell : Cell) (t : Option Trouble) → trouble_fault cell t ≡ None → t ≡ None
no_trouble cell None none = refl
no_trouble cell (Some trouble.Wrong) none = cc none
no_trouble cell (Some trouble.Full) none = cc none

module _ (sheets : List Sheet) (T : Typeside) (room : Room) where
  content_noted : (labels : Labels) (cell : Cell) (type : ℕ) (c : Content) → content_fault T room labels cell type c ≡ None → uses_trouble room labels (uses_of T type c) ≡ None
  content_noted labels cell type (Means v) none = no_trouble cell (uses_trouble room labels (uses_in T v type)) none
  content_noted labels cell type Blank none = refl
  content_noted labels cell type Wrong none = refl

  column_noted : (labels : Labels) (cell : Cell) (c : Column) → column_fault sheets T room labels cell c ≡ None → uses_trouble room labels (column_uses T cell.field c) ≡ None
  column_noted labels cell (Attribute a type) none = content_noted labels cell type (content_of T type cell.field) none
  column_noted labels cell (Key k target) none = refl

  cell_noted : (labels : Labels) (cell : Cell) → cell_fault sheets T room labels cell ≡ None → uses_trouble room labels (cell_uses T cell) ≡ None
  cell_noted labels cell none = column_noted labels cell cell.column none

  abbrev after : Labels → List Cell → Labels
  after labels cells = with_uses labels (flat_map (cell_uses T) cells)

  one_after : (labels : Labels) (cell : Cell) (cells : List Cell) → after labels (cell ∷ cells) ≡ after (with_uses labels (cell_uses T cell)) cells
  one_after labels cell cells = with_uses-append labels (cell_uses T cell) (flat_map (cell_uses T) cells)

  -- there is room for the labels of cells without fault
  pub cells_fit : (first : ℕ) (labels : Labels) (cells : List Cell) → HasRoom first room → cells_fault sheets T room labels cells ≡ None → Fits first labels
      → Fits first (with_uses labels (flat_map (cell_uses T) cells))
  cells_fit first labels [] has none fits = fits
  cells_fit first labels (cell ∷ cells) has none fits =
      let parts = neither_fault (cell_fault sheets T room labels cell) (cells_fault sheets T room (with_uses labels (cell_uses T cell)) cells) none in
      subst (Fits first) (sym (one_after labels cell cells))
      (cells_fit first (with_uses labels (cell_uses T cell)) cells has parts.1 (uses_fit first room labels (cell_uses T cell) has (cell_noted labels cell parts.0) fits))

-- where all labels are given, cells without fault add none
pub cells_given : (sheets : List Sheet) (T : Typeside) (labels : Labels) (cells : List Cell) → cells_fault sheets T None labels cells ≡ None
    → with_uses labels (flat_map (cell_uses T) cells) ≡ labels
cells_given sheets T labels [] none = refl
cells_given sheets T labels (cell ∷ cells) none =
    let next = with_uses labels (cell_uses T cell) in
    let parts = neither_fault (cell_fault sheets T None labels cell) (cells_fault sheets T None next cells) none in
    let same : next ≡ labels = given_uses labels (cell_uses T cell) (cell_noted sheets T None labels cell parts.0) in
    one_after sheets T None labels cell cells ∙ cells_given sheets T next cells parts.1 ∙ same

-- Over a presentation that has a generator for each record.
module _ (S : Schema) (schema : IsSchema S) (sheets : List Sheet) (P : Presentation)
    (rows : (entity row : ℕ) → row < length (rows_at sheets entity) → entity_at (slice_get P.generators (start_of sheets entity + row)) ≡ Some entity) where
  -- a cell of a record of some entity, in a column of that entity
  pub record IsCellOf (cell : Cell) : Type 0 where
    pub entity : ℕ
    pub generator : entity_at (slice_get P.generators cell.generator) ≡ Some entity
    pub column : IsColumnOf S entity cell.column

  row_cells_of : (file : List ℕ) (found : List Column) (entity generator number : ℕ) (fields : Record) → entity_at (slice_get P.generators generator) ≡ Some entity
      → Every (IsColumnOf S entity) found → Every IsCellOf (row_cells file found generator number fields)
  row_cells_of file found entity generator number fields at all = go 2 found all
    where
      go : (s : ℕ) (cs : List Column) → Every (IsColumnOf S entity) cs → Every IsCellOf (map (cell_in file generator number fields) (enumerate_from s cs))
      go s [] h = tt
      go s (c ∷ cs) h = (record { entity = entity; generator = at; column = h.0 }, go (s + 1) cs h.1)

  rows_cells_of : (file : List ℕ) (found : List Column) (entity generator number : ℕ) (records : List Record)
      → ((row : ℕ) → row < length records → entity_at (slice_get P.generators (generator + row)) ≡ Some entity) → Every (IsColumnOf S entity) found
      → Every IsCellOf (rows_cells file found generator number records)
  rows_cells_of file found entity generator number [] each all = tt
  rows_cells_of file found entity generator number (fields ∷ records) each all =
      let here : generator + 0 ≡ generator = omega arith in
      Every-append IsCellOf (row_cells file found generator number fields) (rows_cells file found (generator + 1) (number + 1) records)
      (row_cells_of file found entity generator number fields (ap (λ n. entity_at (slice_get P.generators n)) (sym here) ∙ each 0 (omega arith)) all)
      (rows_cells_of file found entity (generator + 1) (number + 1) records
      (λ row within. let there : generator + 1 + row ≡ generator + (row + 1) = omega arith in ap (λ n. entity_at (slice_get P.generators n)) there ∙ each (row + 1) (omega arith)) all)

  pub cells_of : (entities : List ℕ) → Every IsCellOf (flat_map (entity_cells S sheets) entities)
  cells_of entities = Every-flat_map IsCellOf (entity_cells S sheets) entities (λ n entity at.
      rows_cells_of (file_in (slice_get sheets entity)) (columns S entity) entity (start_of sheets entity) 1 (rows_at sheets entity) (rows entity) (columns_of S schema entity))

  -- The labels' types.
  cell_in_range : (cell : Cell) → IsCellOf cell → Every (IsInRange S.typeside schema.typeside) (cell_uses S.typeside cell)
  cell_in_range cell is = at_column cell.column is.column
    where
      at_column : (c : Column) → IsColumnOf S is.entity c → Every (IsInRange S.typeside schema.typeside) (column_uses S.typeside cell.field c)
      at_column (Attribute a type) h = uses_in_range S.typeside schema.typeside type (content_of S.typeside type cell.field) (content_meant S.typeside schema.typeside type cell.field) h.1
      at_column (Key k target) h = tt

  new_in_range : (labels : Labels) (u : Use) (o : Option ℕ) → Every (IsInRange S.typeside schema.typeside) labels → IsInRange S.typeside schema.typeside u
      → Every (IsInRange S.typeside schema.typeside) (with_new labels u o)
  new_in_range labels u None all one = Every-append (IsInRange S.typeside schema.typeside) labels (u ∷ []) all (one, tt)
  new_in_range labels u (Some known) all one = all

  with_in_range : (labels : Labels) (us : List Use) → Every (IsInRange S.typeside schema.typeside) labels → Every (IsInRange S.typeside schema.typeside) us
      → Every (IsInRange S.typeside schema.typeside) (with_uses labels us)
  with_in_range labels [] all each = all
  with_in_range labels (u ∷ us) all each = with_in_range (with_use labels u) us (new_in_range labels u (type_of_label labels u.0) all each.0) each.1

  pub labels_in_range : (labels : Labels) (cells : List Cell) → Every IsCellOf cells → Every (IsInRange S.typeside schema.typeside) labels
      → Every (IsInRange S.typeside schema.typeside) (with_uses labels (flat_map (cell_uses S.typeside) cells))
  labels_in_range labels cells are all =
      with_in_range labels (flat_map (cell_uses S.typeside) cells) all
      (Every-flat_map (IsInRange S.typeside schema.typeside) (cell_uses S.typeside) cells (λ n cell at. cell_in_range cell (Every-at IsCellOf cells n cell are at)))

  -- The equations.
  attribute_left : (entity generator a type : ℕ) → entity_at (slice_get P.generators generator) ≡ Some entity → followed (slice_get S.attributes a) entity ≡ Some type
      → option_map Plain (type_of S P.generators (term.Att a (record { generator = generator; path = [] }))) ≡ Some (Plain type)
  attribute_left entity generator a type at leads =
      ap (option_map Plain)
      (fold-Att (Option ℕ) (type_step S P.generators) a (record { generator = generator; path = [] })
      ∙ ap (λ o. option_and_then (followed (slice_get S.attributes a)) (option_and_then (target_of S.keys []) o)) at ∙ leads)

  attribute_symbols : (generator a : ℕ) → typ.symbols_of (term.Att a (record { generator = generator; path = [] })) ≤ 1024
  attribute_symbols generator a = omega (arith, fold-Att ℕ typ.symbols_step a (record { generator = generator; path = [] }))

  module _ (first : ℕ) where
    attribute_equation : (labels : Labels) → AreNamed P.generators first labels → (entity generator a type : ℕ) → entity_at (slice_get P.generators generator) ≡ Some entity
        → followed (slice_get S.attributes a) entity ≡ Some type → (v : Value) → IsMeant S.typeside type v → Every (Has labels) (uses_in S.typeside v type)
        → IsEquation S P (Typ (term.Att a (record { generator = generator; path = [] })) (value_term first labels v))
    attribute_equation labels named entity generator a type at leads v meant has = record {
      sort = Plain type;
      left = attribute_left entity generator a type at leads;
      right = ap (option_map Plain) (meant_typed S P.generators first labels named type v meant has);
      left_fits = attribute_symbols generator a;
      right_fits = meant_symbols first labels S.typeside type v meant;
    }

    key_equation : (entity generator k target value : ℕ) → entity_at (slice_get P.generators generator) ≡ Some entity → followed (slice_get S.keys k) entity ≡ Some target
        → entity_at (slice_get P.generators value) ≡ Some target → IsEquation S P (Ent (record { generator = generator; path = k ∷ [] }) (record { generator = value; path = [] }))
    key_equation entity generator k target value at leads there = record {
      sort = Entity target;
      left = ap (λ o. option_map Entity (option_and_then (target_of S.keys (k ∷ [])) o)) at ∙ ap (λ o. option_map Entity (option_and_then (target_of S.keys []) o)) leads;
      right = ap (λ o. option_map Entity (option_and_then (target_of S.keys []) o)) there;
      left_fits = omega arith;
      right_fits = omega arith;
    }

    module _ (room : Room) (labels : Labels) (cell : Cell) (entity : ℕ) (at : entity_at (slice_get P.generators cell.generator) ≡ Some entity) where
      content_holds : (a type : ℕ) (c : Content) → followed (slice_get S.attributes a) entity ≡ Some type → ((v : Value) → c ≡ Means v → IsMeant S.typeside type v)
          → content_fault S.typeside room labels cell type c ≡ None → AreNamed P.generators first (with_uses labels (uses_of S.typeside type c))
          → Every (IsEquation S P) (content_equations sheets first (with_uses labels (uses_of S.typeside type c)) cell a c)
      content_holds a type (Means v) leads meant none named = (
        attribute_equation (with_uses labels (uses_in S.typeside v type)) named entity cell.generator a type at leads v (meant v refl)
            (have_uses room labels (uses_in S.typeside v type) (no_trouble cell (uses_trouble room labels (uses_in S.typeside v type)) none)),
        tt,
      )
      content_holds a type Blank leads meant none named = tt
      content_holds a type Wrong leads meant none named = tt

      key_holds : (k target : ℕ) (id : List ℕ) (o : Option ℕ) → followed (slice_get S.keys k) entity ≡ Some target → row_with_id sheets target id ≡ o
          → Every (IsEquation S P) (key_equations sheets cell k target o)
      key_holds k target id None leads is = tt
      key_holds k target id (Some row) leads is =
          let place = position-Some (same_name id) (ids_of (rows_at sheets target)) row [] is in
          let within : row < length (rows_at sheets target) = omega (arith, place.0, length-map (rows_at sheets target) id_of) in
          (key_equation entity cell.generator k target (start_of sheets target + row) at leads (rows target row within), tt)

      key_field_holds : (k target : ℕ) (field : List ℕ) → followed (slice_get S.keys k) entity ≡ Some target → Every (IsEquation S P) (key_field_equations sheets cell k target field)
      key_field_holds k target [] leads = tt
      key_field_holds k target (b ∷ bs) leads = key_holds k target (b ∷ bs) (row_with_id sheets target (b ∷ bs)) leads refl

      column_holds : (c : Column) → IsColumnOf S entity c → column_fault sheets S.typeside room labels cell c ≡ None
          → AreNamed P.generators first (with_uses labels (column_uses S.typeside cell.field c))
          → Every (IsEquation S P) (column_equations sheets S.typeside first (with_uses labels (column_uses S.typeside cell.field c)) cell c)
      column_holds (Attribute a type) leads none named =
          content_holds a type (content_of S.typeside type cell.field) leads.0 (content_meant S.typeside schema.typeside type cell.field) none named
      column_holds (Key k target) leads none named = key_field_holds k target cell.field leads

    -- what cells without fault say is well sorted
    pub equations_hold : (room : Room) (labels : Labels) (cells : List Cell) → Every IsCellOf cells → cells_fault sheets S.typeside room labels cells ≡ None
        → AreNamed P.generators first (with_uses labels (flat_map (cell_uses S.typeside) cells)) → Every (IsEquation S P) (equations_from sheets S.typeside first labels cells)
    equations_hold room labels [] are none named = tt
    equations_hold room labels (cell ∷ cells) are none named =
        let next = with_uses labels (cell_uses S.typeside cell) in
        let parts = neither_fault (cell_fault sheets S.typeside room labels cell) (cells_fault sheets S.typeside room next cells) none in
        let later : AreNamed P.generators first (with_uses next (flat_map (cell_uses S.typeside) cells)) =
        subst (AreNamed P.generators first) (one_after sheets S.typeside room labels cell cells) named in
        let here : AreNamed P.generators first next =
        named_before P.generators first next (with_uses next (flat_map (cell_uses S.typeside) cells)) (longer_after next (flat_map (cell_uses S.typeside) cells)) later in
        Every-append (IsEquation S P) (cell_equations sheets S.typeside first next cell) (equations_from sheets S.typeside first next cells)
        (column_holds room labels cell are.0.entity are.0.generator cell.column are.0.column parts.0 here)
        (equations_hold room next cells are.1 parts.1 later)
