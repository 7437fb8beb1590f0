use Rattle.std.proofs.Common.{◌∙◌}
use Rattle.cq_blocks.proofs.Indexing.{attribute_places, attribute_found}
use Rattle.cq_blocks.proofs.index.find_attribute.Goals as goal

pub of-places-requires : goal.of-places-requires
of-places-requires c = attribute_places c.args.target.now c.args.clauses.now c.args.index.now c.requires.index c.args.attribute c.requires.attribute

pub returns : goal.returns
returns c = c.attribute_among.ensures ∙ attribute_found c.args.target.now c.args.clauses.now c.args.index.now c.requires.index c.args.attribute c.requires.attribute c.of-places.result.now c.of-places.ensures
