use Rattle.cq_blocks.proofs.Scoping.{few_in_each}
use Rattle.cq_blocks.proofs.scopes.build_scopes.Goals as goal

pub table_variables-requires : goal.table_variables-requires
table_variables-requires c = few_in_each (λ list. list.items) _ c.args.source.now c.args.entities.now c.args.count c.args.parts.now c.in_ok-lists.ensures c.requires.parts
