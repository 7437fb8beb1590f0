use Rattle.std.proofs.Common.{◌≡◌, length, ap, ◌∙◌}
use Rattle.cq_theory.specs.declared.value.Algebra.{Algebra}
use Rattle.cq_mapping.specs.MappingData.{MappingData as Mapping}
use Rattle.cq_theory.specs.Tables.{Tables, count_of}
use Rattle.cq_move.proofs.MadeColumns.{many_rows}
use Rattle.cq_move.proofs.pulling.has_many_rows.Goals as goal

pub returns-then-count-room : goal.returns-then-count-room
returns-then-count-room c =
    let M : Tables = c.args.instance.now.tables in
    let nulls : c.len-nulls.result ≡ length M.algebra.nulls = c.len-nulls.ensures ∙ ap (λ (a : Algebra). length a.nulls) c.algebra.ensures.algebra in
    let same = c.as_slice-entity-items.ensures ∙ ap (λ (F : Mapping). F.entities) c.mapping.view_is in
    many_rows (count_of M) c.args.mapping.now.entities c.as_slice-entity-items.result.now c.loop-entity.entity-index c.loop-entity.room c.count-count.result c.len-nulls.result (length M.algebra.nulls)
    same c.loop-entity-test.true c.count-count.ensures c.loop-entity.invariant c.if-count-room.true nulls
