use Rattle.std.proofs.Common.{◌≤◌, arith}
use Rattle.std.proofs.Math.Nat.{mul-le-mul_right}
use Rattle.cq_lazy.proofs.lengths.widen_by_attribute.Goals as goal

pub returns : goal.returns
returns c =
    let more : c.in_ok-line.line.leaves ≤ c.max-2.result = omega (arith, c.max-2.ensures) in (
      record { keys = omega arith; symbols = omega (arith, c.max.ensures); leaves = omega (arith, c.max-2.ensures); most = omega arith },
      λ x. omega (arith, c.in_ok-line.ensures x, c.max.ensures, mul-le-mul_right x more),
    )
