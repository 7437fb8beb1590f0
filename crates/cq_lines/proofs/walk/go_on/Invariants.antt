use Rattle.std.proofs.Common.{◌≡◌}
use Rattle.cq_lines.specs.Walks.{IsWalk}
use Rattle.cq_lines.proofs.walk.go_on.Given as goal

abbrev pub invariant-loop : goal.invariant-loop
invariant-loop l = IsWalk l.text l.walk × (l.walk.number ≡ l.counter)
