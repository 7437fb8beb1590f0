use Rattle.std.proofs.Common.{sym, ◌∙◌}
use Rattle.cq_environment.specs.declared.reason.Reason.TheVariants.{Inconsistent}
use Rattle.cq_told.proofs.Claims.{derived_ok, other_ok}
use Rattle.cq_told.proofs.details.details_of.Goals as goal

pub returns-in-Inconsistent-clause-derived : goal.returns-in-Inconsistent-clause-derived
returns-in-Inconsistent-clause-derived g c =
    derived_ok c.args.reason.now c.as_slice.result.now c.as_slice-in-Inconsistent.result.now c.conflict_lines.result
    (c.in-Inconsistent.is ∙ (λ i. Inconsistent (sym c.as_slice.ensures i) (sym c.as_slice-in-Inconsistent.ensures i)))
    c.conflict_lines.ensures.derived

pub returns-in_default-clause-derived : goal.returns-in_default-clause-derived
returns-in_default-clause-derived g c = other_ok c.args.reason.now c.other_lines.result c.in_default.not-Inconsistent
