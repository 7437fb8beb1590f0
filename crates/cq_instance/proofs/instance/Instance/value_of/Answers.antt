use Rattle.std.proofs.Common.{◌≡◌, IfOk, sym, subst}
use Rattle.cq_theory.specs.declared.value.Value.{Value}
use Rattle.cq_theory.specs.Tables.{Assignment, value_of}
use Rattle.cq_instance.specs.InstanceData.{InstanceData}
use Rattle.cq_instance.specs.Terms.{IsTypeTermOf}
use Rattle.cq_instance.proofs.OnWay.{ground_type, type_term_of}
use Rattle.cq_instance.proofs.instance.Instance.value_of.Goals as goal

pub value_over-requires : goal.value_over-requires
value_over-requires c =
    let i : InstanceData = c.args.self.now in
    let typed = ground_type i.schema i.presentation c.args.term.now c.requires in
    (typed.0, subst (λ (A : Assignment). IsTypeTermOf i.schema i.tables A c.args.term.now typed.0) (sym c.standings.ensures.standings) (type_term_of i c.standings.ensures.instance c.args.term.now typed.0 typed.1))

pub returns : goal.returns
returns c =
    let i : InstanceData = c.args.self.now in
    subst (λ (A : Assignment). IfOk c.value_over.result (λ (v : Value). v ≡ value_of i.tables A c.args.term.now)) c.standings.ensures.standings c.value_over.ensures
