-- What the blocks of a query are made of.
use Rattle.std.specs.Prelude.{◌≡◌, ◌+◌, ◌<◌, ◌^◌, All, length}
use Rattle.cq_theory.specs.SchemaData.{SchemaData as Schema}
use Rattle.cq_blocks.specs.declared.making.BlockParts.{BlockParts}
use Rattle.cq_blocks.specs.declared.making.Making.{Making}

-- the numbers of the parts are small, the blocks are those of entities of the target, and each variable and each clause stands in a block
pub record AreBlockParts (T : Schema) (parts : BlockParts) : Type 0 where
  pub numbers : parts.first + length parts.vars.now + length parts.clauses.now < 2 ^ 32
  pub entities : All (λ entity. entity < length T.entities) parts.entities.now
  pub vars : All (λ part. part.0 < length parts.entities.now) parts.vars.now
  pub clauses : All (λ part. part.0 < length parts.entities.now) parts.clauses.now

-- the same of the clauses alone, where each entity of the target has its variables
pub record IsMaking (making : Making) : Type 0 where
  pub numbers : making.first + length making.clauses.now < 2 ^ 32
  pub scopes : length making.scopes.now ≡ length making.target.now.entities
  pub entities : All (λ entity. entity < length making.target.now.entities) making.entities.now
  pub clauses : All (λ part. part.0 < length making.entities.now) making.clauses.now
