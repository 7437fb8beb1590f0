use Rattle.cq_check.proofs.Listed.{AddsAtRow}
use Rattle.cq_check.proofs.equations.push_row.Given as goal

abbrev pub invariant-loop-place : goal.invariant-loop-place
invariant-loop-place l = AddsAtRow l.schema l.tables l.row l.places l.initial.list l.list l.place-index
