use Rattle.std.proofs.Common.{length, ap, arith}
use Rattle.cq_theory.specs.declared.value.Algebra.{Algebra}
use Rattle.cq_adjoint.proofs.NumberedNulls.{given_count}
use Rattle.cq_adjoint.proofs.spelling.null_count.Goals as goal

pub overflow_cast-result : goal.overflow_cast-result
overflow_cast-result c =
    omega (arith, given_count c.args.to.now c.is_instance.ensures c.requires, c.is_instance.ensures.presented.count, ap (λ (A : Algebra). length A.nulls) c.algebra.ensures.algebra)

pub returns : goal.returns
returns c =
    omega (arith, given_count c.args.to.now c.is_instance.ensures c.requires, c.is_instance.ensures.presented.count, ap (λ (A : Algebra). length A.nulls) c.algebra.ensures.algebra)
