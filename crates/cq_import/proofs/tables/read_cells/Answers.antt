use Rattle.std.proofs.Common.{ℕ, List, [], ◌++◌, ◌+◌, ◌-◌, ◌≤◌, ◌≡◌, length, refl, sym, ap, subst, arith}
use Rattle.std.specs.List.{flat_map, range_with_len}
use Rattle.cq_import.specs.Cells.{Cell, all_cells, entity_cells}
use Rattle.cq_import.specs.Context.{Reads, faults_in, sheets_in}
use Rattle.cq_import.proofs.CellLists.{AreReading, entities_left, entities_end, reading_start, reading_refused, reading_more, reading_all}
use Rattle.cq_import.proofs.Faulty.{refuses_same}
use Rattle.cq_import.proofs.tables.read_cells.Goals as goal

pub overflow_cast-entity-end : goal.overflow_cast-entity-end
overflow_cast-entity-end c = omega (arith, c.requires.context.files, c.is_well_sorted.ensures.entity_numbers)

pub loop-entity-init : goal.loop-entity-init
loop-entity-init c =
    let context = c.args.context.now in
    let cells : ℕ → List Cell = entity_cells context.schema.now (sheets_in context) in
    let n = length context.files.now in
    let all : n ≡ n - 0 = omega arith in
    (subst (λ m. AreReading context c.args.made.now c.args.made.now (flat_map cells (range_with_len 0 n)) (flat_map cells (range_with_len 0 m))) all (reading_start context c.args.made.now (flat_map cells (range_with_len 0 n))), c.requires.room)

pub returns-in-Err-clause-refused : goal.returns-in-Err-clause-refused
returns-in-Err-clause-refused c =
    let context = c.args.context.now in
    let cells : ℕ → List Cell = entity_cells context.schema.now (sheets_in context) in
    let n = length context.files.now in
    let entity = c.loop-entity.entity in
    let whole = reading_refused context c.args.made.now c.loop-entity.made _ _ c.loop-entity.invariant.0 (cells entity) (flat_map cells (range_with_len (entity + 1) (n - (entity + 1)))) c.in-Err.refusal
    (entities_left cells n entity c.loop-entity-test.true) c.in-Err.ensures.refused in
    refuses_same c.in-Err.refusal _ _ (ap (λ m. faults_in context c.args.made.now (flat_map cells (range_with_len 0 m))) c.requires.context.files) whole

pub loop-entity-preserved : goal.loop-entity-preserved
loop-entity-preserved c =
    let context = c.args.context.now in
    let cells : ℕ → List Cell = entity_cells context.schema.now (sheets_in context) in
    let n = length context.files.now in
    let entity = c.loop-entity.entity in (
      reading_more context c.args.made.now c.loop-entity.made _ _ c.loop-entity.invariant.0 c.read_entity.new.made (cells entity) (flat_map cells (range_with_len (entity + 1) (n - (entity + 1))))
          (entities_left cells n entity c.loop-entity-test.true) c.in_default.ensures.passed,
      c.in_default.ensures.room,
    )

pub returns-clause-passed : goal.returns-clause-passed
returns-clause-passed c =
    let context = c.args.context.now in
    let cells : ℕ → List Cell = entity_cells context.schema.now (sheets_in context) in
    let n = length context.files.now in
    subst (λ m. Reads context c.args.made.now c.loop-entity.made (flat_map cells (range_with_len 0 m))) c.requires.context.files
    (reading_all context c.args.made.now c.loop-entity.made _ _ c.loop-entity.invariant.0 (entities_end cells n c.loop-entity.entity c.loop-entity-test.false))
