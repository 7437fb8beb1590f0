use Rattle.cq_transform.proofs.Steps.{column_of, attribute_closed}
use Rattle.cq_transform.proofs.nulls.find_attribute.Goals as goal

pub returns-in-Ok-clause-spelled : goal.returns-in-Ok-clause-spelled
returns-in-Ok-clause-spelled c = λ B initial made all.
    c.in-Ok.ensures.spelled c.args.source.now B initial
    (column_of c.args.source.now c.args.target.now B c.args.attribute c.entity_of.result c.args.rows.now c.images_at-images.result.now c.column_at-column.result.now
    c.is_instance.ensures.well_formed c.requires c.entity_of.ensures c.column_at-column.ensures c.images_at-images.ensures made)
    all

pub returns-in-Ok-clause-closed : goal.returns-in-Ok-clause-closed
returns-in-Ok-clause-closed c =
    attribute_closed c.args.source.now c.find_column.new.found.items c.args.attribute c.column_at-column.result.now c.is_instance.ensures.well_formed
    c.column_at-column.ensures c.in-Ok.ensures.closed
