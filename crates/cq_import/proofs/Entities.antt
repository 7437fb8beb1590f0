-- The columns and the cells of an entity's file.
use Rattle.std.proofs.Common.{ℕ, List, [], ◌∷◌, ◌++◌, ◌+◌, ◌<◌, ◌≤◌, ◌≡◌, Bool, Some, length, map, get_or, inl, inr, refl, sym, ap, subst, ◌∙◌, arith}
use Rattle.std.specs.Prelude.{All, filter, ◌==◌, string_bytes}
use Rattle.std.specs.List.{enumerate_from}
use Rattle.std.proofs.lemmas.List.Elements.{All-map, All-filter, All-append}
use Rattle.std.proofs.lemmas.List.FromFn.{length-enumerate_from, get_or-enumerate_from}
use Rattle.cq_theory.specs.declared.schema.Edge.{Edge}
use Rattle.cq_theory.specs.SchemaData.{SchemaData as Schema}
use Rattle.cq_theory.specs.Schema.{IsSchema}
use Rattle.cq_theory.specs.Canonical.{edges_from}
use Rattle.cq_import.specs.declared.columns.Column.{Column}
use Rattle.cq_import.specs.declared.entity_file.EntityFile.{EntityFile}
use Rattle.cq_import.specs.Cells.{Cell, Sheet, entity_cells, file_in, rows_at, rows_cells, start_of}
use Rattle.cq_import.specs.Columns.{attribute_columns, attribute_of, columns, key_of}
use Rattle.cq_import.specs.Context.{IsColumn, sheet_in}
use Rattle.cq_import.specs.Records.{Record}
use Rattle.cq_import.specs.Rows.{rows_of}
use Rattle.cq_import.proofs.Starts.{rows_here, sheet_here}

all_numbered : (P : Edge → Type 0) (edges : List Edge) → All P edges → All (λ (p : ℕ × Edge). P p.1) (enumerate_from 0 edges)
all_numbered P edges all k d within =
    let inside : k < length edges = omega (arith, length-enumerate_from 0 edges) in
    subst (λ (p : ℕ × Edge). P p.1) (sym (get_or-enumerate_from 0 edges k d inside)) (all k d.1 inside)

from_edges : (S : Schema) (f : ℕ × Edge → Column) (entity : ℕ) (edges : List Edge) → All (λ (e : Edge). (n : ℕ) → IsColumn S (f (n, e))) edges → All (IsColumn S) (map f (edges_from entity edges))
from_edges S f entity edges all =
    All-map (IsColumn S) f (edges_from entity edges)
    (λ k d within. All-filter (λ p. p.1.from == entity) (λ (p : ℕ × Edge). (n : ℕ) → IsColumn S (f (n, p.1))) (enumerate_from 0 edges) (all_numbered (λ e. (n : ℕ) → IsColumn S (f (n, e))) edges all) k d within
    (get_or (edges_from entity edges) k d).0)

-- the columns of an entity lead to entities and types of the schema
pub columns_within : (S : Schema) (entity : ℕ) → IsSchema S → All (IsColumn S) (columns S entity)
columns_within S entity schema =
    All-append (IsColumn S) (attribute_columns S.attributes entity) (map key_of (edges_from entity S.keys))
    (from_edges S attribute_of entity S.attributes (λ k d within n. (schema.attributes k d within).1))
    (from_edges S key_of entity S.keys (λ k d within n. (schema.keys k d within).1))

-- the cells of an entity's file
pub cells_are : (S : Schema) (files : List EntityFile) (entity : ℕ) (file : EntityFile) (found : List Column) (start : ℕ) → entity < length files → file ≡ get_or files entity file
    → found ≡ columns S entity → start ≡ start_of (map sheet_in files) entity
    → rows_cells (string_bytes file.name) found start 1 (rows_of file.text.items) ≡ entity_cells S (map sheet_in files) entity
cells_are S files entity file found start within is columned started =
    let sheet = sheet_here files entity file within is in
    let rows = rows_here files entity file within is in
    ap (λ (c : List Column). rows_cells (string_bytes file.name) c start 1 (rows_of file.text.items)) columned
    ∙ ap (λ n. rows_cells (string_bytes file.name) (columns S entity) n 1 (rows_of file.text.items)) started
    ∙ ap (λ (r : List Record). rows_cells (string_bytes file.name) (columns S entity) (start_of (map sheet_in files) entity) 1 r) (sym rows)
    ∙ ap (λ o. rows_cells (file_in o) (columns S entity) (start_of (map sheet_in files) entity) 1 (rows_at (map sheet_in files) entity)) (sym sheet)
