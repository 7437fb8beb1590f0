use Rattle.std.proofs.Common.{List, Some, None, ◌≡◌, option_map, subst, sym, ap, inr, ◌∙◌}
use Rattle.cq_base.specs.declared.name.Name.{Name}
use Rattle.cq_theory.specs.declared.refusal.TheoryRefusal.{TheoryRefusal}
use Rattle.cq_theory.specs.Resolve.{in_part}
use Rattle.cq_mapping.specs.MappingParts.{arrow_fault, arrow_fault_over}
use Rattle.cq_mapping.proofs.arrows.check_arrow.Goals as goal

pub returns-in-Some-clause-refused : goal.returns-in-Some-clause-refused
unfolding arrow_fault
returns-in-Some-clause-refused c =
    inr (ap (option_map (in_part c.args.number)) (subst (λ (names : List Name). arrow_fault_over c.args.source.now c.args.target.now c.args.entities.now names c.args.part.now ≡ Some c.in-Some.rule)
    c.in_ok-variables.ensures.ok (sym c.arrow_fault_over.ensures ∙ c.in-Some.is)) ∙ ap (λ (r : TheoryRefusal). Some r) (sym c.in_part_of.ensures))

pub returns-clause-ok : goal.returns-clause-ok
unfolding arrow_fault
returns-clause-ok c =
    subst (λ (names : List Name). arrow_fault_over c.args.source.now c.args.target.now c.args.entities.now names c.args.part.now ≡ None)
    c.in_ok-variables.ensures.ok (sym c.arrow_fault_over.ensures ∙ c.in-None.is)
