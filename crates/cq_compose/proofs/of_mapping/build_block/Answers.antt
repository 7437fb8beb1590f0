use Rattle.std.proofs.Common.{length, ◌∙◌}
use Rattle.cq_theory.specs.Groups.{edge_sources}
use Rattle.cq_theory.proofs.Grouped.{group_within, group_read}
use Rattle.cq_compose.proofs.MadeBlocks.{block_made}
use Rattle.cq_compose.proofs.of_mapping.build_block.Goals as goal

pub of-from_here-requires : goal.of-from_here-requires
of-from_here-requires c =
    group_within (edge_sources c.args.mapping.now.source.attributes) (length c.args.mapping.now.source.entities) c.args.entity c.args.sources.now.attributes c.requires.attributes c.requires.entity

pub of-away-requires : goal.of-away-requires
of-away-requires c =
    group_within (edge_sources c.args.mapping.now.source.keys) (length c.args.mapping.now.source.entities) c.args.entity c.args.sources.now.keys c.requires.keys c.requires.entity

pub returns : goal.returns
returns c =
    block_made c.args.mapping.now c.args.entity c.image_of_entity-image.result _ _ _ _ _ _ _ c.of-from_here.result.now c.of-away.result.now
    c.from_vec.ensures c.in_ok-vars.ensures (c.from_vec-2.ensures ∙ c.new-tests.ensures.items) c.from_vec-3.ensures c.in_ok-attributes.ensures c.from_vec-4.ensures c.in_ok-keys.ensures
    (group_read (edge_sources c.args.mapping.now.source.attributes) (length c.args.mapping.now.source.entities) c.args.entity c.args.sources.now.attributes c.requires.attributes c.requires.entity c.of-from_here.result.now c.of-from_here.ensures)
    (group_read (edge_sources c.args.mapping.now.source.keys) (length c.args.mapping.now.source.entities) c.args.entity c.args.sources.now.keys c.requires.keys c.requires.entity c.of-away.result.now c.of-away.ensures)
    c.image_of_entity-image.ensures
