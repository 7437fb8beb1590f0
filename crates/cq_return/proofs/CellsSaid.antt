-- Each cell of an instance's files says the equation of the instance's cell or key.
use Rattle.std.proofs.Common.{ℕ, List, [], ◌∷◌, ◌++◌, Option, Some, None, ◌≡◌, ◌<◌, ◌≤◌, ◌+◌, map, sum, length, refl, sym, ap, subst, ◌∙◌, arith}
use Rattle.std.specs.Prelude.{slice_get, slice_index_or, ◌==◌}
use Rattle.std.proofs.lemmas.Bool.{eqb-true}
use Rattle.std.proofs.lemmas.List.{map-append}
use Rattle.std.proofs.lemmas.Option.{cond_some}
use Rattle.cq_base.specs.declared.name.Name.{Name}
use Rattle.cq_base.specs.Names.{number_of}
use Rattle.cq_theory.specs.declared.constant.Con.TheVariants.{Named}
use Rattle.cq_theory.specs.declared.presentation.Equation.{Equation}
use Rattle.cq_theory.specs.declared.presentation.Equation.TheVariants.{Ent, Typ}
use Rattle.cq_theory.specs.declared.schema.Edge.{Edge}
use Rattle.cq_theory.specs.declared.term.TypeTerm.TheVariants as term
use Rattle.cq_theory.specs.declared.value.Value.TheVariants.{Const}
use Rattle.cq_theory.specs.Canonical.{below, edges_from, entity_equations, row_equations, row_generator, row_term}
use Rattle.cq_theory.specs.Canonical as canonical
use Rattle.cq_theory.specs.Sorts.{followed}
use Rattle.cq_theory.specs.Tables.{cell_at, count_of, key_at, value_type}
use Rattle.cq_theory.proofs.OnValues.{All_at}
use Rattle.cq_values.specs.Readable.{IsReadable}
use Rattle.cq_instance.specs.InstanceData.{InstanceData, IsInstance}
use Rattle.cq_import.specs.declared.columns.Column.{Column}
use Rattle.cq_import.specs.declared.columns.Column.TheVariants.{Attribute, Key}
use Rattle.cq_import.specs.declared.content.Content.TheVariants.{Means}
use Rattle.cq_import.specs.Cells.{Cell, column_equations, column_fault, column_uses, content_equations, content_fault, content_of, key_equations, key_fault, key_field_equations, missing_id, row_with_id, trouble_fault, uses_of}
use Rattle.cq_import.specs.Columns as import
use Rattle.cq_import.specs.Labels.{Labels, uses_in, uses_trouble, with_uses, value_term}
use Rattle.cq_import.proofs.CellEquations.{IsColumnOf}
use Rattle.cq_import.proofs.LabelPlaces.{given_uses}
use Rattle.cq_return.proofs.AllReadable.{AreReadable}
use Rattle.cq_return.proofs.Fields.{column_field, columns, fields_of}
use Rattle.cq_return.proofs.Given.{AreGiven}
use Rattle.cq_return.proofs.Ids.{found_at, id_text, some_bytes}
use Rattle.cq_return.proofs.Reading.{cell_read}
use Rattle.cq_return.proofs.Said.{IsSaid, Says}
use Rattle.cq_return.proofs.Sheets.{ids_there, part_fits, sheets, start_is}
use Rattle.cq_return.proofs.Values.{has_term, has_uses, no_troubles}

-- an edge that leads from an entity
led : (o : Option Edge) (entity to : ℕ) → followed o entity ≡ Some to → (edge : Edge) × (o ≡ Some edge) × (edge.from ≡ entity) × (edge.to ≡ to)
led None entity to h = cc
led (Some edge) entity to h = let parts = cond_some (edge.from == entity) edge.to to h in (edge, refl, eqb-true edge.from entity parts.0, parts.1)

module _ (dir : Name) (i : InstanceData) (is : IsInstance i) (returnable : AreReadable i) (labels : Labels) (given : AreGiven i.tables.algebra.nulls labels) where
  abbrev first : ℕ
  first = sum i.tables.sheet.counts

  -- few rows
  pub count_fits : (entity : ℕ) → count_of i.tables entity ≤ 16000000
  count_fits entity = let part = part_fits i.tables.sheet.counts entity in let few = returnable.few in omega arith

  module _ (entity row : ℕ) (inside : row < count_of i.tables entity) where
    -- the equation of a column at the row
    abbrev pub equation_of : Column → Equation
    equation_of (Attribute a type) = Typ (term.Att a (row_term i.schema i.tables entity row)) (canonical.value_term i.schema i.tables (cell_at i.tables a row))
    equation_of (Key k target) = Ent (record { generator = row_generator i.schema i.tables entity row; path = k ∷ [] }) (row_term i.schema i.tables target (key_at i.tables k row))

    -- a value in a cell
    pub record IsTyped (a type : ℕ) : Type 0 where
      pub typed : value_type i.schema i.tables.algebra.nulls (cell_at i.tables a row) ≡ Some type
      pub readable : IsReadable i.schema.typeside type (cell_at i.tables a row)

    pub cell_typed : (a type : ℕ) → followed (slice_get i.schema.attributes a) entity ≡ Some type → IsTyped a type
    cell_typed a type leads =
        let edge = led (slice_get i.schema.attributes a) entity type leads in
        let column = is.well_formed.cell_columns a edge.0 edge.1 in
        let here : row < length (slice_index_or i.tables.sheet.cells a []) = omega (arith, column.0, ap (count_of i.tables) edge.2) in
        let is_typed = (column.1 row (Const (Named 0)) here).0 in
        let is_readable = returnable.cells a edge.0 edge.1 row (Const (Named 0)) here in
        record {
          typed = is_typed ∙ ap (λ t. Some t) edge.3;
          readable = subst (λ t. IsReadable i.schema.typeside t (cell_at i.tables a row)) edge.3 is_readable;
        }

    attribute_said : (a type : ℕ) → followed (slice_get i.schema.attributes a) entity ≡ Some type → (cell : Cell) → cell.generator ≡ row_generator i.schema i.tables entity row
        → cell.column ≡ Attribute a type → cell.field ≡ column_field i entity row (Attribute a type)
        → IsSaid i.schema (sheets dir i) first labels cell (equation_of (Attribute a type))
    attribute_said a type leads cell generator column field =
        let T = i.schema.typeside in
        let v = cell_at i.tables a row in
        let at = cell_typed a type leads in
        let content : content_of T type cell.field ≡ Means v = ap (content_of T type) field ∙ cell_read T returnable.schema.typeside type v at.readable in
        let none : uses_trouble None labels (uses_in T v type) ≡ None = no_troubles labels (uses_in T v type) (has_uses i.schema i.tables.algebra.nulls labels given v type at.typed) in
        let term_is : value_term first labels v ≡ canonical.value_term i.schema i.tables v = has_term i.schema i.tables labels given first refl v type at.typed in
        record {
          fault =
              ap (column_fault (sheets dir i) T None labels cell) column ∙ ap (content_fault T None labels cell type) content ∙ ap (trouble_fault cell) none;
          kept = ap (λ c. with_uses labels (column_uses T cell.field c)) column ∙ ap (λ c. with_uses labels (uses_of T type c)) content ∙ given_uses labels (uses_in T v type) none;
          equation =
              ap (column_equations (sheets dir i) T first labels cell) column ∙ ap (content_equations (sheets dir i) first labels cell a) content
              ∙ (λ j. Typ (term.Att a (record { generator = generator j; path = [] })) (term_is j) ∷ []);
        }

    field_passes : (cell : Cell) (target : ℕ) (field : List ℕ) → 0 < length field
        → key_fault (sheets dir i) cell target field ≡ missing_id cell (row_with_id (sheets dir i) target field)
    field_passes cell target [] some = absurd (omega arith)
    field_passes cell target (b ∷ bs) some = refl

    field_says : (cell : Cell) (k target : ℕ) (field : List ℕ) → 0 < length field
        → key_field_equations (sheets dir i) cell k target field ≡ key_equations (sheets dir i) cell k target (row_with_id (sheets dir i) target field)
    field_says cell k target [] some = absurd (omega arith)
    field_says cell k target (b ∷ bs) some = refl

    -- the row to which a key leads
    pub key_bound : (k target : ℕ) → followed (slice_get i.schema.keys k) entity ≡ Some target → key_at i.tables k row < 16000000
    key_bound k target leads =
        let edge = led (slice_get i.schema.keys k) entity target leads in
        let column = is.well_formed.key_columns k edge.0 edge.1 in
        let here : row < length (slice_index_or i.tables.sheet.keys k []) = omega (arith, column.0, ap (count_of i.tables) edge.2) in
        let next = column.1 row 0 here in
        let few = count_fits edge.0.to in
        omega arith

    -- it is found by its number
    key_found : (k target : ℕ) → followed (slice_get i.schema.keys k) entity ≡ Some target
        → (row_with_id (sheets dir i) target (column_field i entity row (Key k target)) ≡ Some (key_at i.tables k row)) × (0 < length (column_field i entity row (Key k target)))
    key_found k target leads =
        let edge = led (slice_get i.schema.keys k) entity target leads in
        let column = is.well_formed.key_columns k edge.0 edge.1 in
        let here : row < length (slice_index_or i.tables.sheet.keys k []) = omega (arith, column.0, ap (count_of i.tables) edge.2) in
        let next = column.1 row 0 here in
        let within : key_at i.tables k row < count_of i.tables target = subst (λ t. key_at i.tables k row < count_of i.tables t) edge.3 next in
        let ends = All_at (λ (e : Edge). (e.from < length i.schema.entities) × (e.to < length i.schema.entities)) i.schema.keys k edge.0 returnable.schema.keys edge.1 in
        let inside_target : target < length i.schema.entities = subst (λ t. t < length i.schema.entities) edge.3 ends.1 in
        let few = count_fits target in
        let none : 0 + key_at i.tables k row ≡ key_at i.tables k row = omega arith in
        let found = found_at 0 (count_of i.tables target) (key_at i.tables k row) within (omega arith) in (
          ap (λ ids. number_of ids (id_text (key_at i.tables k row))) (ids_there dir i target inside_target)
              ∙ ap (λ n. number_of (map id_text (below (count_of i.tables target))) (id_text n)) (sym none) ∙ found,
          some_bytes (key_at i.tables k row) (omega arith),
        )

    key_said : (k target : ℕ) → followed (slice_get i.schema.keys k) entity ≡ Some target → (cell : Cell) → cell.generator ≡ row_generator i.schema i.tables entity row
        → cell.column ≡ Key k target → cell.field ≡ column_field i entity row (Key k target)
        → IsSaid i.schema (sheets dir i) first labels cell (equation_of (Key k target))
    key_said k target leads cell generator column field =
        let T = i.schema.typeside in
        let at = key_found k target leads in
        let found : row_with_id (sheets dir i) target cell.field ≡ Some (key_at i.tables k row) = ap (row_with_id (sheets dir i) target) field ∙ at.0 in
        let some : 0 < length cell.field = subst (λ (f : List ℕ). 0 < length f) (sym field) at.1 in
        let start = start_is dir i is.well_formed target in
        record {
          fault = ap (column_fault (sheets dir i) T None labels cell) column ∙ field_passes cell target cell.field some ∙ ap (missing_id cell) found;
          kept = ap (λ c. with_uses labels (column_uses T cell.field c)) column;
          equation =
              ap (column_equations (sheets dir i) T first labels cell) column ∙ field_says cell k target cell.field some ∙ ap (key_equations (sheets dir i) cell k target) found
              ∙ (λ j. Ent (record { generator = generator j; path = k ∷ [] }) (record { generator = start j + key_at i.tables k row; path = [] }) ∷ []);
        }

    pub column_says : (file : List ℕ) (generator number : ℕ) → generator ≡ row_generator i.schema i.tables entity row → (c : Column) → IsColumnOf i.schema entity c
        → Says i.schema (sheets dir i) first labels file generator number (fields_of i entity row) (column_field i entity row) equation_of c
    column_says file generator number at (Attribute a type) leads cell g c f = attribute_said a type leads.0 cell (g ∙ at) c f
    column_says file generator number at (Key k target) leads cell g c f = key_said k target leads cell (g ∙ at) c f

    pub equations_are : map equation_of (columns i entity) ≡ row_equations i.schema i.tables entity row
    equations_are =
        map-append equation_of (import.attribute_columns i.schema.attributes entity) (map import.key_of (edges_from entity i.schema.keys))
        ∙ (λ j. attributes_are (edges_from entity i.schema.attributes) j ++ keys_are (edges_from entity i.schema.keys) j)
      where
        attributes_are : (edges : List (ℕ × Edge)) → map equation_of (map import.attribute_of edges) ≡ map (canonical.cell_equation i.schema i.tables entity row) edges
        attributes_are [] = refl
        attributes_are (a ∷ edges) = ap (λ l. canonical.cell_equation i.schema i.tables entity row a ∷ l) (attributes_are edges)

        keys_are : (edges : List (ℕ × Edge)) → map equation_of (map import.key_of edges) ≡ map (canonical.key_equation i.schema i.tables entity row) edges
        keys_are [] = refl
        keys_are (k ∷ edges) = ap (λ l. canonical.key_equation i.schema i.tables entity row k ∷ l) (keys_are edges)
