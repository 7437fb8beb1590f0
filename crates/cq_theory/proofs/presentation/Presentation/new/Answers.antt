use Rattle.std.proofs.Common.{sym, subst, map}
use Rattle.cq_base.specs.Names.{AreDistinct}
use Rattle.cq_theory.specs.declared.presentation.Presentation.{Presentation}
use Rattle.cq_theory.specs.Presentation.{IsPresentation}
use Rattle.cq_theory.proofs.MadePresentations.{presented-is, presented-distinct}
use Rattle.cq_theory.proofs.presentation.Presentation.new.Goals as goal

pub returns-clause-presentation : goal.returns-clause-presentation
returns-clause-presentation c =
    subst (IsPresentation c.args.schema.now) (sym c.in_ok-made.ensures.made) (presented-is c.args.schema.now c.as_slice-generators.result.now c.into_vec-equations.result.items c.in_ok-made.ensures.accepted)

pub returns-clause-distinct : goal.returns-clause-distinct
returns-clause-distinct c =
    subst (λ (P : Presentation). AreDistinct (map (λ g. g.0) P.generators)) (sym c.in_ok-made.ensures.made) (presented-distinct c.args.schema.now c.as_slice-generators.result.now c.into_vec-equations.result.items c.in_ok-made.ensures.accepted)
