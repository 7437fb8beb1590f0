use Rattle.cq_rows.proofs.Passing.{Continues-start}
use Rattle.cq_rows.proofs.settle.retry_rule.Goals as goal

pub returns-then-row-made : goal.returns-then-row-made
returns-then-row-made c = rw c.get-row.ensures.same (Continues-start _ _ _ c.requires.ready.whole c.requires.ready.current)

pub returns-then-place-path_equations : goal.returns-then-place-path_equations
returns-then-place-path_equations c = rw c.get-row.ensures.same (Continues-start _ _ _ c.requires.ready.whole c.requires.ready.current)

pub join_rule-requires-clause-ready : goal.join_rule-requires-clause-ready
join_rule-requires-clause-ready c = rw c.get-row.ensures.same c.requires.ready
