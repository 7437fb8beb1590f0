use Rattle.std.proofs.Common.{Bool, ◌≡◌, ◌⊎◌, Some, None, IfOk, IfErr, subst}
use Rattle.cq_base.specs.declared.name.Name.{Name}
use Rattle.cq_theory.specs.declared.refusal.TheoryRefusal.TheVariants.{Memory}
use Rattle.cq_theory.specs.Resolve.{first_fault}
use Rattle.cq_theory.specs.Paths.{path_eq_fault}
use Rattle.cq_theory.proofs.schema.find_path_eqs.Goals as goal

pub returns-clause-accepted : goal.returns-clause-accepted
returns-clause-accepted c =
    subst (λ (p : Name → Bool). IfOk c.add_path_eqs.result (λ _. first_fault (path_eq_fault c.args.schema.now p) c.args.first c.args.parts.now ≡ None))
    (λ i name. c.in_ok-names.ensures.ok name i) c.add_path_eqs.ensures.accepted

pub returns-clause-refused : goal.returns-clause-refused
returns-clause-refused c =
    subst (λ (p : Name → Bool). IfErr c.add_path_eqs.result (λ refusal. (refusal ≡ Memory) ⊎ (first_fault (path_eq_fault c.args.schema.now p) c.args.first c.args.parts.now ≡ Some refusal)))
    (λ i name. c.in_ok-names.ensures.ok name i) c.add_path_eqs.ensures.refused
