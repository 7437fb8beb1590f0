-- All cells of an instance's files say the equations of its cells and keys, in their order.
use Rattle.std.proofs.Common.{ℕ, List, ◌≡◌, ◌<◌, sum, take, length, refl, sym, subst, arith}
use Rattle.std.specs.Prelude.{slice_get}
use Rattle.std.specs.List.{flat_map}
use Rattle.cq_base.specs.declared.name.Name.{Name}
use Rattle.cq_theory.specs.declared.presentation.Equation.{Equation}
use Rattle.cq_theory.specs.Canonical.{below, entity_equations, row_equations, row_generator}
use Rattle.cq_theory.specs.Tables.{count_of}
use Rattle.cq_theory.proofs.Every.{Every-weaker}
use Rattle.cq_instance.specs.InstanceData.{InstanceData, IsInstance}
use Rattle.cq_instance.proofs.CanonicalHolds.{from_below}
use Rattle.cq_import.specs.Cells.{Cell, all_cells, entity_cells, file_in, row_cells, rows_cells, start_of}
use Rattle.cq_import.specs.Labels.{Labels}
use Rattle.cq_import.specs.Records.{Record}
use Rattle.cq_import.proofs.CellEquations.{IsColumnOf, columns_of}
use Rattle.cq_return.proofs.AllReadable.{AreReadable}
use Rattle.cq_return.proofs.Fields.{column_field, columns, fields_of}
use Rattle.cq_return.proofs.Given.{AreGiven}
use Rattle.cq_return.proofs.Ids.{id_text}
use Rattle.cq_return.proofs.Said.{AreSaid, Says, row_said, rows_said, said-flat_map}
use Rattle.cq_return.proofs.Sheets.{rows_there, sheets, start_is}
use Rattle.cq_return.proofs.CellsSaid.{column_says, equation_of, equations_are}

module _ (dir : Name) (i : InstanceData) (is : IsInstance i) (returnable : AreReadable i) (labels : Labels) (given : AreGiven i.tables.algebra.nulls labels) where
  abbrev first : ℕ
  first = sum i.tables.sheet.counts

  abbrev Are : List Cell → List Equation → Type 0
  Are = AreSaid i.schema (sheets dir i) first labels

  one_row : (file : List ℕ) (entity row : ℕ) → row < count_of i.tables entity → (generator number : ℕ) → generator ≡ row_generator i.schema i.tables entity row
      → Are (row_cells file (columns i entity) generator number (fields_of i entity row)) (row_equations i.schema i.tables entity row)
  one_row file entity row inside generator number at =
      let equation = equation_of dir i is returnable labels given entity row inside in
      subst (Are (row_cells file (columns i entity) generator number (fields_of i entity row))) (equations_are dir i is returnable labels given entity row inside)
      (row_said i.schema (sheets dir i) first labels file generator number (fields_of i entity row) (column_field i entity row) equation (id_text row) (columns i entity) refl
      (Every-weaker (IsColumnOf i.schema entity)
      (Says i.schema (sheets dir i) first labels file generator number (fields_of i entity row) (column_field i entity row) equation)
      (column_says dir i is returnable labels given entity row inside file generator number at) (columns i entity) (columns_of i.schema returnable.schema entity)))

  one_entity : (entity : ℕ) → entity < length i.schema.entities → Are (entity_cells i.schema (sheets dir i) entity) (entity_equations i.schema i.tables entity)
  one_entity entity within =
      let file = file_in (slice_get (sheets dir i) entity) in
      let start = start_is dir i is.well_formed entity in
      subst (λ (records : List Record). Are (rows_cells file (columns i entity) (start_of (sheets dir i) entity) 1 records) (entity_equations i.schema i.tables entity))
      (sym (rows_there dir i entity within))
      (rows_said i.schema (sheets dir i) first labels file (columns i entity) (fields_of i entity) (row_equations i.schema i.tables entity)
      (sum (take entity i.tables.sheet.counts)) 0 (count_of i.tables entity) (start_of (sheets dir i) entity) 1 (omega arith)
      (λ k low high generator number at. one_row file entity k (omega arith) generator number at))

  pub all_are : Are (all_cells i.schema (sheets dir i)) (flat_map (entity_equations i.schema i.tables) (below (length i.schema.entities)))
  all_are = said-flat_map i.schema (sheets dir i) first labels (entity_cells i.schema (sheets dir i)) (entity_equations i.schema i.tables) (below (length i.schema.entities))
      (λ n entity at. one_entity entity (from_below (length i.schema.entities) n entity at))
