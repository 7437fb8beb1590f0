use Rattle.std.proofs.Common.{◌≡◌, ap, length, arith}
use Rattle.cq_theory.specs.SchemaData.{SchemaData}
use Rattle.cq_cells.proofs.Filing.{all_read}
use Rattle.cq_cells.proofs.readings.read_files.Goals as goal

pub returns-clause-told : goal.returns-clause-told
returns-clause-told g c =
    let size = ap (λ (s : SchemaData). length s.entities) c.schema.view_is in
    let slice = ap (λ l. length l) c.as_slice-entities.ensures in
    let all : c.loop-entity.entity-index ≡ length c.args.schema.now.entities = omega (arith, c.loop-entity-test.false, c.loop-entity.auto.entity-index-end, size, slice) in
    all_read _ _ _ _ _ c.loop-entity.invariant.1 all
