use Rattle.std.proofs.Common.{length, ap, arith}
use Rattle.cq_theory.specs.declared.presentation.Presentation.{Presentation}
use Rattle.cq_adjoint.proofs.NumberedNulls.{given_count}
use Rattle.cq_adjoint.proofs.spelling.first_null.Goals as goal

pub overflow_sub-result : goal.overflow_sub-result
overflow_sub-result c =
    omega (arith, given_count c.args.to.now c.is_instance.ensures c.requires, c.null_count.ensures, ap (λ (P : Presentation). length P.generators) c.presentation.ensures.presentation)

pub returns-clause-first : goal.returns-clause-first
returns-clause-first c =
    omega (arith, given_count c.args.to.now c.is_instance.ensures c.requires, c.null_count.ensures, ap (λ (P : Presentation). length P.generators) c.presentation.ensures.presentation)

pub returns-clause-room : goal.returns-clause-room
returns-clause-room c =
    omega (
      arith,
      given_count c.args.to.now c.is_instance.ensures c.requires,
      c.is_instance.ensures.presented.count,
      c.null_count.ensures,
      ap (λ (P : Presentation). length P.generators) c.presentation.ensures.presentation,
    )
