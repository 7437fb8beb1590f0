use Rattle.std.proofs.Common.{map}
use Rattle.cq_blocks.proofs.Blocking.{IsUpTo}
use Rattle.cq_blocks.proofs.blocks.build_blocks.Given as goal

abbrev pub invariant-loop-tests : goal.invariant-loop-tests
invariant-loop-tests l = IsUpTo l.making.source.now l.making.target.now l.making.entities.now l.making.scopes.now l.making.clauses.now l.made.items (map (λ list. list.items) l.tests-iterator.rest.items)
