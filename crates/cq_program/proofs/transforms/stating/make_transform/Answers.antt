use Rattle.std.proofs.Common.{◌≡◌, sym, subst, ◌∙◌, ap}
use Rattle.cq_theory.specs.Schema.{IsSchema}
use Rattle.cq_instance.specs.InstanceData.{InstanceData}
use Rattle.cq_environment.specs.Environment.{ends_meant}
use Rattle.cq_program.proofs.ImagesPosed.{accepted_between, agreed_between, stands_between}
use Rattle.cq_program.proofs.transforms.stating.make_transform.Goals as goal

pub transform-requires-clause-schema : goal.transform-requires-clause-schema
transform-requires-clause-schema c =
    ap (λ (i : InstanceData). i.schema) c.deref-finish.ensures ∙ c.requires.over ∙ sym (ap (λ (i : InstanceData). i.schema) c.deref-start.ensures)

pub returns-clause-accepted : goal.returns-clause-accepted
returns-clause-accepted c =
    let all = c.transform.ensures in
    accepted_between c.transform.result c.args.parts.items c.args.ends.now.start.instance.value c.args.ends.now.finish.instance.value
    (agreed_between c.transform.result c.args.parts.items c.deref-start.result.now c.args.ends.now.start.instance.value c.deref-finish.result.now c.args.ends.now.finish.instance.value
    c.deref-start.ensures c.deref-finish.ensures (all.right, all.images, all.goes, all.refused))

pub returns-clause-stands : goal.returns-clause-stands
returns-clause-stands c =
    let all = c.transform.ensures in
    stands_between c.transform.result c.args.parts.items (ends_meant c.args.ends.now)
    (agreed_between c.transform.result c.args.parts.items c.deref-start.result.now c.args.ends.now.start.instance.value c.deref-finish.result.now c.args.ends.now.finish.instance.value
    c.deref-start.ensures c.deref-finish.ensures (all.right, all.images, all.goes, all.refused))
    (subst (λ (i : InstanceData). IsSchema i.schema) c.deref-start.ensures c.is_over_schema.ensures) c.requires.modelled

pub returns-clause-refused : goal.returns-clause-refused
returns-clause-refused c =
    let all = c.transform.ensures in
    (agreed_between c.transform.result c.args.parts.items c.deref-start.result.now c.args.ends.now.start.instance.value c.deref-finish.result.now c.args.ends.now.finish.instance.value
    c.deref-start.ensures c.deref-finish.ensures (all.right, all.images, all.goes, all.refused)).3
