use Rattle.std.proofs.Common.{List, ◌≡◌, ◌⊎◌, Some, None, IfOk, IfErr, option_map, subst}
use Rattle.cq_base.specs.declared.name.Name.{Name}
use Rattle.cq_theory.specs.Resolve.{in_part}
use Rattle.cq_theory.specs.SchemaParts.{observation_fault, observation_fault_over, made_observation, made_observation_over}
use Rattle.cq_theory.specs.declared.refusal.TheoryRefusal.TheVariants.{Memory}
use Rattle.cq_theory.proofs.lookup.observations.add_observation.Goals as goal

pub returns-clause-ok : goal.returns-clause-ok
unfolding observation_fault made_observation
returns-clause-ok c =
    subst (λ (names : List Name). IfOk c.add_over.result (λ made. (observation_fault_over c.args.schema.now names c.args.part.now ≡ None) × (made ≡ made_observation_over c.args.schema.now names c.args.part.now)))
    c.in_ok-names.ensures.ok c.add_over.ensures.ok

pub returns-clause-refused : goal.returns-clause-refused
unfolding observation_fault made_observation
returns-clause-refused c =
    subst (λ (names : List Name). IfErr c.add_over.result (λ refusal. (refusal ≡ Memory) ⊎ (option_map (in_part c.args.number) (observation_fault_over c.args.schema.now names c.args.part.now) ≡ Some refusal)))
    c.in_ok-names.ensures.ok c.add_over.ensures.refused
