use Rattle.cq_theory.specs.Tables.{count_of}
use Rattle.cq_text.proofs.Numbers.{row_of_source}
use Rattle.cq_text.proofs.rows.push_attributes.Goals as goal

pub push_attribute-requires-clause-attribute : goal.push_attribute-requires-clause-attribute
push_attribute-requires-clause-attribute c =
    (row_of_source c.args.entity c.args.row c.args.instance.now.schema.attributes (count_of c.args.instance.now.tables) c.args.attributes.now c.loop-attribute.attribute-index
    c.requires.attributes c.requires.row c.loop-attribute-test.true).0

pub push_attribute-requires-clause-row : goal.push_attribute-requires-clause-row
push_attribute-requires-clause-row c =
    (row_of_source c.args.entity c.args.row c.args.instance.now.schema.attributes (count_of c.args.instance.now.tables) c.args.attributes.now c.loop-attribute.attribute-index
    c.requires.attributes c.requires.row c.loop-attribute-test.true).1
