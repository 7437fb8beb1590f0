-- The rules of names of instances that are moved along mappings.
use Rattle.std.specs.Prelude.{Ok, Err, if◌then◌else◌}
use Rattle.cq_base.specs.Names.{same_name}
use Rattle.cq_syntax.specs.declared.part.Spot.{Spot}
use Rattle.cq_mapping.specs.Images.{sigma}
use Rattle.cq_environment.specs.declared.reason.Reason.TheVariants.{WrongSchema}
use Rattle.cq_environment.specs.Meanings.{Checked, Environment, InstanceMeant, MappingMeant, and_then, instance_used, mapping_used}
use Rattle.cq_program.specs.Posed.{Posed, a_made, a_delta}

-- The instance is over the target of a mapping along which it is pulled back, and over the source of one along which it is moved.
abbrev pub delta_between : Spot → MappingMeant → InstanceMeant → Checked Posed
delta_between spot F i = if same_name F.target i.schema then Ok (a_delta F.source F.mapping i.instance.tables)
    else Err (spot.place, WrongSchema)

abbrev pub sigma_between : Spot → MappingMeant → InstanceMeant → Checked Posed
sigma_between spot F i =
    if same_name F.source i.schema then Ok (a_made F.target F.mapping.target (sigma F.mapping i.instance.presentation))
    else Err (spot.place, WrongSchema)

abbrev pub delta_posed : Environment → Spot → Spot → Checked Posed
delta_posed env along spot = and_then (mapping_used env along) (λ F. and_then (instance_used env spot) (λ i. delta_between spot F i))

abbrev pub sigma_posed : Environment → Spot → Spot → Checked Posed
sigma_posed env along spot = and_then (mapping_used env along) (λ F. and_then (instance_used env spot) (λ i. sigma_between spot F i))
