use Rattle.std.proofs.Common.{None, ◌≡◌, sym, ◌∙◌}
use Rattle.cq_transform.specs.Images.{fault_over, made_over, images_fault, images_made}
use Rattle.cq_transform.proofs.SortedImages.{images_sorted}
use Rattle.cq_transform.proofs.Told.{tells_fault}
use Rattle.cq_transform.proofs.transforming.sorted_images.Goals as goal

pub returns-in-Ok-clause-accepted : goal.returns-in-Ok-clause-accepted
returns-in-Ok-clause-accepted c =
    (λ k. fault_over (sym c.schema_of-schema.ensures k) (sym c.generators_of-generators.ensures.generators k) (sym c.generators_of-others.ensures.generators k) c.args.parts.now)
    ∙ c.in-Ok.ensures.accepted

pub returns-in-Ok-clause-made : goal.returns-in-Ok-clause-made
returns-in-Ok-clause-made c =
    c.in-Ok.ensures.made
    ∙ (λ k. made_over (c.schema_of-schema.ensures k) (c.generators_of-generators.ensures.generators k) (c.generators_of-others.ensures.generators k) c.args.parts.now)

pub returns-in-Ok-clause-sorted : goal.returns-in-Ok-clause-sorted
returns-in-Ok-clause-sorted c =
    let none : images_fault c.args.source.now c.args.target.now c.args.parts.now ≡ None =
    (λ k. fault_over (sym c.schema_of-schema.ensures k) (sym c.generators_of-generators.ensures.generators k) (sym c.generators_of-others.ensures.generators k) c.args.parts.now)
    ∙ c.in-Ok.ensures.accepted in
    let made : c.in-Ok.images.items ≡ images_made c.args.source.now c.args.target.now c.args.parts.now =
    c.in-Ok.ensures.made
    ∙ (λ k. made_over (c.schema_of-schema.ensures k) (c.generators_of-generators.ensures.generators k) (c.generators_of-others.ensures.generators k) c.args.parts.now) in
    images_sorted c.args.source.now c.args.target.now c.args.parts.now c.in-Ok.images.items c.requires.schema none made

pub returns-in-Err-clause-refused : goal.returns-in-Err-clause-refused
returns-in-Err-clause-refused c =
    tells_fault c.args.source.now c.args.target.now c.args.parts.now c.schema_of-schema.result.now c.generators_of-generators.result.now c.generators_of-others.result.now c.in-Err.refusal
    c.schema_of-schema.ensures c.generators_of-generators.ensures.generators c.generators_of-others.ensures.generators c.in-Err.ensures.refused
