use Rattle.std.proofs.Common.{ℕ, List, ◌≡◌, ◌<◌, ◌≤◌, ◌+◌, length, sym, ap, ◌∙◌, arith}
use Rattle.cq_theory.specs.declared.value.Algebra.{Algebra}
use Rattle.cq_theory.specs.Homomorphism.{value_image}
use Rattle.cq_theory.specs.declared.value.Value.TheVariants.{Null}
use Rattle.cq_instance.specs.InstanceData.{InstanceData}
use Rattle.cq_instance.specs.declared.transform.Image.TheVariants.{Value as ValueImage}
use Rattle.cq_instance.specs.declared.transform.Transform.{Transform}
use Rattle.cq_terms.specs.ValueTerms.{value_term}
use Rattle.cq_query.specs.QueryData.{QueryData as Query}
use Rattle.cq_query.specs.Coeval.{null_start}
use Rattle.cq_transform.proofs.Placed.{sent_image}
use Rattle.cq_adjoint.proofs.CoevalTerms.{few_generators}
use Rattle.cq_adjoint.proofs.coeval_maps.null_image.Goals as goal

pub overflow_cast-nulls : goal.overflow_cast-nulls
overflow_cast-nulls c =
    let m = c.args.copying.now in
    let few = few_generators m.query.now c.is_well_sorted.ensures m.target.now m.there.now c.requires.copied_there c.is_instance.ensures c.is_instance-2.ensures in
    omega (arith, few, c.len-nulls.ensures, ap (λ (g : Algebra). length g.nulls) c.algebra.ensures.algebra)

pub value_term-requires : goal.value_term-requires
value_term-requires c =
    let m = c.args.copying.now in
    let few = few_generators m.query.now c.is_well_sorted.ensures m.target.now m.there.now c.requires.copied_there c.is_instance.ensures c.is_instance-2.ensures in
    omega (arith, few, c.len-nulls.ensures, ap (λ (g : Algebra). length g.nulls) c.algebra.ensures.algebra, c.requires.first)

pub returns : goal.returns
returns c =
    let m = c.args.copying.now in
    let Q : Query = m.query.now in
    let h : Transform = m.moved.now in
    let i : InstanceData = m.source.now in
    let j : InstanceData = m.target.now in
    let nulls : c.len-nulls.result ≡ length j.tables.algebra.nulls = c.len-nulls.ensures ∙ ap (λ (g : Algebra). length g.nulls) c.algebra.ensures.algebra in
    let sent : c.in_ok-sent.sent ≡ value_image i.schema i.tables j.tables h.rows h.nulls (Null c.args.label) =
    c.in_ok-sent.ensures ∙ sent_image i.schema i.tables j.tables h.rows h.nulls (Null c.args.label) in
    ap ValueImage (c.in_ok-term.ensures ∙ (λ k. value_term (c.requires.first k) (nulls k) (sent k)))
