use Rattle.std.proofs.Common.{List, ℕ, ◌≡◌, IfOk, ap, subst, ◌∙◌}
use Rattle.cq_theory.specs.declared.value.Value.{Value}
use Rattle.cq_theory.specs.Tables.{value_of}
use Rattle.cq_instance.specs.InstanceData.{InstanceData}
use Rattle.cq_instance.specs.declared.transform.Transform.{Transform}
use Rattle.cq_transform.specs.Sent.{value_sent as sent_on}
use Rattle.cq_transform.proofs.Placed.{sent_image}
use Rattle.cq_adjoint.specs.QueryMoves.{value_sent}
use Rattle.cq_adjoint.proofs.crossing.sent_value.Goals as goal

pub returns : goal.returns
returns c =
    let h : Transform = c.args.crossing.now.moved.now in
    let a : InstanceData = c.args.crossing.now.copies.now in
    let j : InstanceData = c.args.crossing.now.target.now in
    let is : sent_on j.tables.algebra.entries h.nulls c.in_ok-value.value ≡ value_sent h a j c.args.term.now =
    ap (sent_on j.tables.algebra.entries h.nulls) c.in_ok-value.ensures ∙ sent_image a.schema a.tables j.tables h.rows h.nulls (value_of a.tables a.assignment c.args.term.now) in
    subst (λ (v : Value). IfOk c.value_then.result (λ made. made ≡ v)) is c.value_then.ensures
