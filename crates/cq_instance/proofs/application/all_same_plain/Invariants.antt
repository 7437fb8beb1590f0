use Rattle.std.proofs.Common.{◌≡◌, drop, length}
use Rattle.cq_theory.specs.Tables.{all_same_plain}
use Rattle.cq_instance.proofs.application.all_same_plain.Given as goal

abbrev pub invariant-loop-place : goal.invariant-loop-place
invariant-loop-place l = record {
  same_length : length l.left ≡ length l.right;
  rest : all_same_plain (drop l.place l.left) (drop l.place l.right) ≡ all_same_plain l.left l.right;
}
