use Rattle.std.proofs.Common.{◌∙◌}
use Rattle.cq_blocks.proofs.Indexing.{key_places, key_found}
use Rattle.cq_blocks.proofs.index.has_key.Goals as goal

pub of-places-requires : goal.of-places-requires
of-places-requires c = key_places c.args.target.now c.args.clauses.now c.args.index.now c.requires.index c.args.key c.requires.key

pub returns : goal.returns
returns c = c.is_key_among.ensures ∙ key_found c.args.target.now c.args.clauses.now c.args.index.now c.requires.index c.args.key c.requires.key c.of-places.result.now c.of-places.ensures
