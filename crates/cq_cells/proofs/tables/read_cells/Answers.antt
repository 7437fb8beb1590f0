use Rattle.std.proofs.Common.{ℕ, List, ◌+◌, ◌-◌, ◌<◌, ◌≤◌, ap, length, arith}
use Rattle.std.specs.List.{flat_map, range_with_len}
use Rattle.cq_theory.specs.SchemaData.{SchemaData}
use Rattle.cq_import.specs.Cells.{Cell, all_cells, entity_cells}
use Rattle.cq_import.proofs.CellLists.{entities_end, entities_left}
use Rattle.cq_cells.specs.Passes.{sheets_over}
use Rattle.cq_cells.proofs.Passing.{goes_all, goes_more}
use Rattle.cq_cells.proofs.tables.read_cells.Goals as goal

pub loop-entity-preserved : goal.loop-entity-preserved
loop-entity-preserved c =
    let over = c.args.over.now in
    let n = length over.schema.now.entities in
    let e = c.loop-entity.entity in
    let size = ap (λ (s : SchemaData). length s.entities) c.schema.view_is in
    let inside : e < n = omega (arith, c.loop-entity-test.true, c.len-entity-end.ensures, size) in
    let cells : (ℕ → List ℕ) → ℕ → List Cell = λ name. entity_cells over.schema.now (sheets_over over name) in
    goes_more over c.args.pass.now c.loop-entity.pass c.read_entity.new.pass (λ name. all_cells over.schema.now (sheets_over over name))
    (λ name. flat_map (cells name) (range_with_len e (n - e))) (λ name. cells name e) (λ name. flat_map (cells name) (range_with_len (e + 1) (n - (e + 1)))) c.loop-entity.invariant
    (λ name. entities_left (cells name) n e inside) c.in_ok-read_entity.ensures

pub returns : goal.returns
returns c =
    let over = c.args.over.now in
    let n = length over.schema.now.entities in
    let e = c.loop-entity.entity in
    let size = ap (λ (s : SchemaData). length s.entities) c.schema.view_is in
    let past : n ≤ e = omega (arith, c.loop-entity-test.false, c.len-entity-end.ensures, size) in
    let cells : (ℕ → List ℕ) → ℕ → List Cell = λ name. entity_cells over.schema.now (sheets_over over name) in
    goes_all over c.args.pass.now c.loop-entity.pass (λ name. all_cells over.schema.now (sheets_over over name)) (λ name. flat_map (cells name) (range_with_len e (n - e))) c.loop-entity.invariant
    (λ name. entities_end (cells name) n e past)
