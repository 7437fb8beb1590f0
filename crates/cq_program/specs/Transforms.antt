-- The rules of names and parts of transforms, and of names of identities.
use Rattle.std.specs.Prelude.{List, Ok, Err, if◌then◌else◌}
use Rattle.cq_base.specs.declared.place.Place.{Place}
use Rattle.cq_base.specs.Names.{same_name}
use Rattle.cq_syntax.specs.declared.part.Spot.{Spot}
use Rattle.cq_syntax.specs.declared.literal.TransformLit.{TransformLit}
use Rattle.cq_instance.specs.InstanceData.{InstanceData}
use Rattle.cq_instance.specs.declared.transform.Image.{Image}
use Rattle.cq_transform.specs.Identities.{identity_images}
use Rattle.cq_transform.specs.Images.{images_made}
use Rattle.cq_environment.specs.declared.reason.Reason.TheVariants.{WrongSchema}
use Rattle.cq_program.specs.Images.{broken_by_images}
use Rattle.cq_parts.specs.Parts.{transform_parts, transform_places}
use Rattle.cq_environment.specs.Meanings.{Checked, Ends, Environment, InstanceMeant, and_then, instance_used}
use Rattle.cq_program.specs.Posed.{arrow_breach, of_parts, Posed, a_transform}

unfoldable pub images_given : Place → InstanceData → InstanceData → TransformLit → Checked (List Image)
images_given place i j lit = of_parts (arrow_breach place (transform_places lit)) (broken_by_images i j (transform_parts lit))
    (images_made i j (transform_parts lit))

abbrev pub ends_at : Spot → InstanceMeant → Ends
ends_at spot i = record { source = spot.name; target = spot.name; start = i; finish = i }

abbrev pub identical_posed : Environment → Spot → Checked Posed
identical_posed env spot = and_then (instance_used env spot) (λ i.
    Ok (a_transform (ends_at spot i) (identity_images i.instance.presentation.generators)))

abbrev pub ends_of : TransformLit → InstanceMeant → InstanceMeant → Ends
ends_of lit i j = record { source = lit.source.name; target = lit.target.name; start = i; finish = j }

abbrev pub images_posed : Place → TransformLit → Ends → Checked Posed
images_posed place lit e = and_then (images_given place e.start.instance e.finish.instance lit) (λ images. Ok (a_transform e images))

-- Two instances are over one schema, and then the images are checked.
abbrev pub transform_between : Place → TransformLit → InstanceMeant → InstanceMeant → Checked Posed
transform_between place lit i j =
    if same_name i.schema j.schema then images_posed place lit (ends_of lit i j)
    else Err (lit.target.place, WrongSchema)

abbrev pub transform_posed : Environment → Place → TransformLit → Checked Posed
transform_posed env place lit =
    and_then (instance_used env lit.source) (λ i.
    and_then (instance_used env lit.target) (λ j.
    transform_between place lit i j))
