-- The first fault of the parts of a query, and the query that they give.
use Rattle.std.specs.Prelude.{length, Option, option_map}
use Rattle.cq_theory.specs.declared.refusal.ArrowRefusal.{ArrowRefusal}
use Rattle.cq_theory.specs.SchemaData.{SchemaData as Schema}
use Rattle.cq_theory.specs.ArrowRefusals.{of_arrow, first_missing}
use Rattle.cq_theory.specs.Resolve.{or_else}
use Rattle.cq_blocks.specs.declared.parts.QueryParts.{QueryParts}
use Rattle.cq_blocks.specs.Blocks.{blocks_fault, block_entities, scopes_of, blocks_made, variables_and_rest_fault}
use Rattle.cq_query.specs.QueryData.{QueryData as Query}

-- The first fault: the entities of the blocks, then an entity without a block, then the variables, then the clauses, and then what no
-- clause gives.
abbrev pub query_fault : Schema → Schema → QueryParts → Option ArrowRefusal
query_fault S T parts =
    or_else (option_map of_arrow (blocks_fault T parts.entities))
    (or_else (first_missing parts.entities T.entities)
    (variables_and_rest_fault S T (block_entities T parts.entities) (length parts.entities) parts.vars parts.clauses))

-- the query that the parts give, where they break no rule
abbrev pub query_made : Schema → Schema → QueryParts → Query
query_made S T parts = record {
  source = S;
  target = T;
  blocks = blocks_made S T (block_entities T parts.entities) (scopes_of S (block_entities T parts.entities) (length T.entities) parts.vars)
      parts.clauses;
}
