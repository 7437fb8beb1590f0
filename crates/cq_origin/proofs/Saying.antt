-- Which cell says an equation, and what the equation names.
use Rattle.std.proofs.Common.{ℕ, zero, suc, Bool, true, false, List, [], ◌∷◌, ◌++◌, ◌+◌, ◌-◌, ◌≡◌, ◌<◌, ◌≤◌, inl, inr, Option, Some, None, map, filter, length, refl, sym, ap, subst, ◌∙◌, arith}
use Rattle.std.specs.Prelude.{slice_get, ◌==◌, if◌then◌else◌}
use Rattle.std.specs.List.{enumerate_from, flat_map, range_with_len}
use Rattle.std.proofs.lemmas.Bool.{eqb-true}
use Rattle.cq_theory.specs.declared.presentation.Equation.{Equation}
use Rattle.cq_theory.specs.declared.presentation.Equation.TheVariants.{Ent, Typ}
use Rattle.cq_theory.specs.declared.schema.Edge.{Edge}
use Rattle.cq_theory.specs.declared.term.TypeTerm.TheVariants.{Att}
use Rattle.cq_theory.specs.Canonical.{below, edges_from}
use Rattle.cq_theory.specs.SchemaData.{SchemaData as Schema}
use Rattle.cq_theory.specs.TypesideData.{TypesideData as Typeside}
use Rattle.cq_theory.proofs.Every.{Every, Every-append, Every-at, Every-flat_map, Every-map, from_enumerated, from_filter}
use Rattle.cq_import.specs.declared.columns.Column.{Column}
use Rattle.cq_import.specs.declared.columns.Column.TheVariants.{Attribute, Key}
use Rattle.cq_import.specs.declared.content.Content.{Content}
use Rattle.cq_import.specs.declared.content.Content.TheVariants.{Blank, Wrong, Means}
use Rattle.cq_import.specs.Cells.{Cell, Sheet, all_cells, cell_equations, cell_in, cell_uses, column_equations, content_equations, content_of, entity_cells, equations_from, file_in, key_equations, key_field_equations, row_cells, row_with_id, rows_at, rows_cells, start_of}
use Rattle.cq_import.specs.Columns.{attribute_columns, attribute_of, columns, key_of}
use Rattle.cq_import.specs.Labels.{Labels, value_term, with_uses}
use Rattle.cq_import.specs.Records.{Record}
use Rattle.cq_origin.specs.declared.cells.Said.{Said}
use Rattle.cq_origin.specs.Cells.{attribute_said, key_said, said_of}
use Rattle.cq_origin.proofs.Splits.{IsIn, in_either, in_range}

-- an equation that some cells say is said by one of them
pub record IsFrom (sheets : List Sheet) (T : Typeside) (first : ℕ) (cells : List Cell) (e : Equation) : Type 0 where
  pub cell : Cell
  pub number : ℕ
  pub at : slice_get cells number ≡ Some cell
  pub labels : Labels
  pub place : ℕ
  pub says : slice_get (cell_equations sheets T first labels cell) place ≡ Some e

pub from_cells : (sheets : List Sheet) (T : Typeside) (first : ℕ) (labels : Labels) (cells : List Cell) (n : ℕ) (e : Equation)
    → slice_get (equations_from sheets T first labels cells) n ≡ Some e → IsFrom sheets T first cells e
from_cells sheets T first labels [] n e h = cc
from_cells sheets T first labels (cell ∷ cells) n e h =
    let next = with_uses labels (cell_uses T cell) in
    elim (in_either (cell_equations sheets T first next cell) (equations_from sheets T first next cells) n e h) [
      | inl i ↦ record { cell = cell; number = 0; at = refl; labels = next; place = i.place; says = i.at }
      | inr i ↦ let rest = from_cells sheets T first next cells i.place e i.at in
          record { cell = rest.cell; number = suc rest.number; at = rest.at; labels = rest.labels; place = rest.place; says = rest.says }
    ]

-- a column of an entity
abbrev pub IsColumnAt : Schema → ℕ → Column → Type 0
IsColumnAt S entity (Attribute a type) = (edge : Edge) × (slice_get S.attributes a ≡ Some edge) × (edge.from ≡ entity) × (edge.to ≡ type)
IsColumnAt S entity (Key k target) = (edge : Edge) × (slice_get S.keys k ≡ Some edge) × (edge.from ≡ entity) × (edge.to ≡ target)

module _ (S : Schema) (entity : ℕ) where
  from_it : (edges : List Edge) (n : ℕ) (p : ℕ × Edge) → slice_get (edges_from entity edges) n ≡ Some p → (slice_get edges p.0 ≡ Some p.1) × (p.1.from ≡ entity)
  from_it edges n p at =
      let kept = from_filter (λ (q : ℕ × Edge). q.1.from == entity) (enumerate_from 0 edges) n p at in
      let there = from_enumerated 0 edges kept.0 p kept.1 in
      let same : kept.0 ≡ p.0 = omega (arith, there.1) in
      (ap (slice_get edges) (sym same) ∙ there.0, eqb-true p.1.from entity kept.2)

  pub columns_at : Every (IsColumnAt S entity) (columns S entity)
  columns_at =
      Every-append (IsColumnAt S entity) (attribute_columns S.attributes entity) (map key_of (edges_from entity S.keys))
      (Every-map (IsColumnAt S entity) attribute_of (edges_from entity S.attributes) (λ n p at.
      let from = from_it S.attributes n p at in (p.1, from.0, from.1, refl)))
      (Every-map (IsColumnAt S entity) key_of (edges_from entity S.keys) (λ n p at.
      let from = from_it S.keys n p at in (p.1, from.0, from.1, refl)))

-- what an equation of a cell names
module _ (S : Schema) (sheets : List Sheet) (first : ℕ) (labels : Labels) (cell : Cell) (entity : ℕ) where
  abbrev pub named_by : Column → Said
  named_by column = record { generator = cell.generator; entity = entity; column = column }

  content_says : (a type : ℕ) (c : Content) (n : ℕ) (e : Equation) → IsColumnAt S entity (Attribute a type) → slice_get (content_equations sheets first labels cell a c) n ≡ Some e
      → said_of S e ≡ Some (named_by (Attribute a type))
  content_says a type (Means v) zero e column h =
      let is : Typ (Att a (record { generator = cell.generator; path = [] })) (value_term first labels v) ≡ e = cc in
      ap (said_of S) (sym is)
      ∙ ap (λ (o : Option Edge). attribute_said a (record { generator = cell.generator; path = [] }) o) column.1
      ∙ (λ i. Some (record { generator = cell.generator; entity = column.2 i; column = Attribute a (column.3 i) }))
  content_says a type (Means v) (suc n) e column h = cc
  content_says a type Blank n e column h = cc
  content_says a type Wrong n e column h = cc

  key_says : (k target : ℕ) (o : Option ℕ) (n : ℕ) (e : Equation) → IsColumnAt S entity (Key k target) → slice_get (key_equations sheets cell k target o) n ≡ Some e
      → said_of S e ≡ Some (named_by (Key k target))
  key_says k target None n e column h = cc
  key_says k target (Some row) zero e column h =
      let is : Ent (record { generator = cell.generator; path = k ∷ [] }) (record { generator = start_of sheets target + row; path = [] }) ≡ e = cc in
      ap (said_of S) (sym is)
      ∙ ap (λ (o : Option Edge). key_said k cell.generator o) column.1
      ∙ (λ i. Some (record { generator = cell.generator; entity = column.2 i; column = Key k (column.3 i) }))
  key_says k target (Some row) (suc n) e column h = cc

  field_says : (k target : ℕ) (field : List ℕ) (n : ℕ) (e : Equation) → IsColumnAt S entity (Key k target) → slice_get (key_field_equations sheets cell k target field) n ≡ Some e
      → said_of S e ≡ Some (named_by (Key k target))
  field_says k target [] n e column h = cc
  field_says k target (b ∷ bs) n e column h = key_says k target (row_with_id sheets target (b ∷ bs)) n e column h

  column_says : (c : Column) (n : ℕ) (e : Equation) → IsColumnAt S entity c → slice_get (column_equations sheets S.typeside first labels cell c) n ≡ Some e → said_of S e ≡ Some (named_by c)
  column_says (Attribute a type) n e column h = content_says a type (content_of S.typeside type cell.field) n e column h
  column_says (Key k target) n e column h = field_says k target cell.field n e column h

  pub cell_says : (n : ℕ) (e : Equation) → IsColumnAt S entity cell.column → slice_get (cell_equations sheets S.typeside first labels cell) n ≡ Some e
      → said_of S e ≡ Some (named_by cell.column)
  cell_says n e column h = column_says cell.column n e column h

-- a cell of an entity's file: its generator is as far behind the first one as its record is behind the first
pub record IsOf (S : Schema) (entity start : ℕ) (file : List ℕ) (cell : Cell) : Type 0 where
  pub file_is : cell.file ≡ file
  pub numbered : start + cell.row_number ≡ cell.generator + 1
  pub low : 1 ≤ cell.row_number
  pub column : IsColumnAt S entity cell.column

module _ (S : Schema) (entity start : ℕ) (file : List ℕ) where
  row_of : (found : List Column) (s generator number : ℕ) (fields : Record) → start + number ≡ generator + 1 → 1 ≤ number → Every (IsColumnAt S entity) found
      → Every (IsOf S entity start file) (map (cell_in file generator number fields) (enumerate_from s found))
  row_of [] s generator number fields same low all = tt
  row_of (c ∷ found) s generator number fields same low all =
      (record { file_is = refl; numbered = same; low = low; column = all.0 }, row_of found (s + 1) generator number fields same low all.1)

  rows_of : (found : List Column) (generator number : ℕ) (records : List Record) → start + number ≡ generator + 1 → 1 ≤ number → Every (IsColumnAt S entity) found
      → Every (IsOf S entity start file) (rows_cells file found generator number records)
  rows_of found generator number [] same low all = tt
  rows_of found generator number (fields ∷ records) same low all =
      Every-append (IsOf S entity start file) (row_cells file found generator number fields) (rows_cells file found (generator + 1) (number + 1) records)
      (row_of found 2 generator number fields same low all)
      (rows_of found (generator + 1) (number + 1) records (omega (arith, same)) (omega (arith, low)) all)

-- a cell of some entity's file
pub record IsOfEntity (S : Schema) (sheets : List Sheet) (cell : Cell) : Type 0 where
  pub entity : ℕ
  pub within : entity < length S.entities
  pub is : IsOf S entity (start_of sheets entity) (file_in (slice_get sheets entity)) cell

pub cells_of : (S : Schema) (sheets : List Sheet) → Every (IsOfEntity S sheets) (all_cells S sheets)
cells_of S sheets = Every-flat_map (IsOfEntity S sheets) (entity_cells S sheets) (below (length S.entities)) (λ n entity at.
    let inside : entity < length S.entities = omega (arith, (in_range 0 (length S.entities) n entity at).1) in
    let same : start_of sheets entity + 1 ≡ start_of sheets entity + 1 = refl in
    all_of entity inside (rows_cells (file_in (slice_get sheets entity)) (columns S entity) (start_of sheets entity) 1 (rows_at sheets entity))
    (rows_of S entity (start_of sheets entity) (file_in (slice_get sheets entity)) (columns S entity) (start_of sheets entity) 1 (rows_at sheets entity) same (omega arith) (columns_at S entity)))
  where
    all_of : (entity : ℕ) → entity < length S.entities → (cells : List Cell) → Every (IsOf S entity (start_of sheets entity) (file_in (slice_get sheets entity))) cells → Every (IsOfEntity S sheets) cells
    all_of entity inside [] h = tt
    all_of entity inside (c ∷ cells) h = (record { entity = entity; within = inside; is = h.0 }, all_of entity inside cells h.1)
