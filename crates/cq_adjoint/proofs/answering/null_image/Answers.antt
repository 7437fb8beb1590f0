use Rattle.std.proofs.Common.{◌≡◌, ap, ◌∙◌}
use Rattle.cq_theory.specs.declared.value.Value.TheVariants.{Null}
use Rattle.cq_theory.specs.Homomorphism.{value_image}
use Rattle.cq_instance.specs.InstanceData.{InstanceData}
use Rattle.cq_instance.specs.declared.transform.Image.TheVariants.{Value as ValueImage}
use Rattle.cq_instance.specs.declared.transform.Transform.{Transform}
use Rattle.cq_transform.proofs.Placed.{sent_image}
use Rattle.cq_adjoint.specs.Moves.{spelled_value}
use Rattle.cq_instance.specs.Spelling.{term_among}
use Rattle.cq_adjoint.proofs.answering.null_image.Goals as goal

pub returns : goal.returns
returns c =
    let m = c.args.answering.now in
    let h : Transform = m.moved.now in
    let i : InstanceData = m.source.now in
    let d : InstanceData = m.evaluated.now in
    let sent : c.in_ok-sent.sent ≡ value_image i.schema i.tables d.tables h.rows h.nulls (Null c.args.label) =
    c.in_ok-sent.ensures ∙ sent_image i.schema i.tables d.tables h.rows h.nulls (Null c.args.label) in
    ap ValueImage (c.in_ok-term.ensures ∙ ap (spelled_value (term_among m.null_terms.now)) sent)
