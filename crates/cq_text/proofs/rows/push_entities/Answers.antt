use Rattle.std.proofs.Common.{◌++◌, ap, ◌∙◌}
use Rattle.cq_text.specs.Transcript.{entity_lines}
use Rattle.cq_text.proofs.Belows.{flat_map-below_more}
use Rattle.cq_text.proofs.rows.push_entities.Goals as goal

pub loop-entity-preserved : goal.loop-entity-preserved
loop-entity-preserved c =
    let text = entity_lines c.args.instance.now in
    c.in_ok-push_entity.ensures ∙ ap (λ l. l ++ text c.loop-entity.entity) c.loop-entity.invariant ∙ flat_map-below_more text c.args.text.now.items c.loop-entity.entity
