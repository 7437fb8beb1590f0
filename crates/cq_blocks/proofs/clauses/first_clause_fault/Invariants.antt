use Rattle.std.proofs.Common.{◌≡◌, ◌+◌, take, drop}
use Rattle.cq_blocks.specs.Given.{HasGiven}
use Rattle.cq_blocks.specs.Blocks.{clause_fault, clauses_fault, first_fault_after}
use Rattle.cq_blocks.proofs.clauses.first_clause_fault.Given as goal

abbrev pub invariant-loop-part : goal.invariant-loop-part
invariant-loop-part l =
    (l.number ≡ l.making.first + l.part-index)
    × HasGiven (take l.part-index l.making.clauses.now) l.symbols.keys l.assigned.keys
    × (first_fault_after (clause_fault l.making.source.now l.making.target.now l.making.entities.now l.making.scopes.now) (take l.part-index l.making.clauses.now) l.number (drop l.part-index l.making.clauses.now) ≡ clauses_fault l.making.source.now l.making.target.now l.making.entities.now l.making.scopes.now l.making.first l.making.clauses.now)
