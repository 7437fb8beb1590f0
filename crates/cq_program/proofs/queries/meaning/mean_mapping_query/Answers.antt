use Rattle.cq_program.proofs.queries.meaning.mean_mapping_query.Goals as goal

pub share_query-requires : goal.share_query-requires
share_query-requires c = c.in_ok-query.ensures.sound c.requires.preserves
