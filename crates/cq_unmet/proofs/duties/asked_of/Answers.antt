use Rattle.std.proofs.Common.{◌≡◌, ap, refl, sym, subst, ◌∙◌}
use Rattle.cq_check.proofs.MappingDuties.{duty_within}
use Rattle.cq_theory.specs.Presentation.{IsPresentation}
use Rattle.cq_theory.specs.SchemaData.{SchemaData}
use Rattle.cq_witness.specs.Paths.{over}
use Rattle.cq_unmet.proofs.Presented.{over_presented}
use Rattle.cq_unmet.proofs.duties.asked_of.Goals as goal

pub returns : goal.returns
returns c = λ n there.
    let F = c.args.mapping.now in
    let duty = c.args.duty in
    let over_is : c.in_ok-over.over ≡ over F.target duty.schema_entity = c.in_ok-over.ensures ∙ ap (λ (S : SchemaData). over S duty.schema_entity) c.target.ensures in
    record {
      duty = duty;
      there = there;
      over_is = over_is;
      equation_is = refl;
      presented = subst (IsPresentation F.target) (sym over_is) (over_presented F.target duty.schema_entity (duty_within F c.is_well_sorted.ensures n duty there));
    }
