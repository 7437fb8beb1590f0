use Rattle.std.proofs.Common.{◌≡◌, ◌↔◌, drop, length}
use Rattle.cq_steps.specs.Right.{equations_at, AreBetween}
use Rattle.cq_steps.proofs.premises.are_between.Given as goal

abbrev pub invariant-loop-i : goal.invariant-loop-i
invariant-loop-i l = record {
  rest : AreBetween (equations_at l.earlier (drop l.i l.from)) (drop l.i l.left) (drop l.i l.right) ↔ AreBetween (equations_at l.earlier l.from) l.left l.right;
  lefts : length l.from ≡ length l.left;
  rights : length l.from ≡ length l.right;
}
