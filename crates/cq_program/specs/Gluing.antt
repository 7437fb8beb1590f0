-- The rules of names of coproducts and pushouts.
use Rattle.std.specs.Prelude.{List, Option, Ok, Err, if◌then◌else◌, map, option_map}
use Rattle.cq_base.specs.declared.name.Name.{Name}
use Rattle.cq_base.specs.declared.place.Place.{Place}
use Rattle.cq_base.specs.Names.{same_name}
use Rattle.cq_syntax.specs.declared.part.Spot.{Spot}
use Rattle.cq_theory.specs.declared.presentation.Presentation.{Presentation}
use Rattle.cq_transform.specs.Gluing.{coproduct_of, pushout_of}
use Rattle.cq_environment.specs.declared.reason.Reason.TheVariants.{WrongSchema, NotASpan}
use Rattle.cq_environment.specs.Meanings.{Checked, Environment, InstanceMeant, SchemaMeant, TransformMeant, and_then, instance_used}
use Rattle.cq_environment.specs.Meanings.{schema_used, transform_used}
use Rattle.cq_program.specs.Posed.{broken_or, Posed, all_used, first_other, a_made}

-- the operands of a coproduct, in order, each with its place
abbrev pub operands_used : Environment → List Spot → Checked (List (Place × InstanceMeant))
operands_used env spots = all_used (λ spot. spot.place) (instance_used env) spots

-- the place of the first operand that isn't over the schema of a printed name
abbrev pub first_misfit : Name → List (Place × InstanceMeant) → Option Place
first_misfit n operands = first_other (λ place. place) (λ i. i.schema) n operands

abbrev pub presentations_of : List (Place × InstanceMeant) → List Presentation
presentations_of operands = map (λ operand. operand.1.instance.presentation) operands

-- Each operand is over the stated schema.
abbrev pub coproduct_over : List (Place × InstanceMeant) → SchemaMeant → Checked Posed
coproduct_over operands over =
    broken_or (a_made over.name over.schema (coproduct_of (presentations_of operands)))
    (option_map (λ place. (place, WrongSchema)) (first_misfit over.name operands))

abbrev pub coproduct_posed : Environment → List Spot → Spot → Checked Posed
coproduct_posed env spots spot =
    and_then (operands_used env spots) (λ operands.
    and_then (schema_used env spot) (λ over.
    coproduct_over operands over))

-- the left and the right of two transforms, glued over the schema of their start
abbrev pub pushed_out : TransformMeant → TransformMeant → Posed
pushed_out f g =
    a_made f.ends.start.schema f.ends.start.instance.schema
    (pushout_of f.transform g.transform f.ends.finish.instance.presentation g.ends.finish.instance.presentation)

-- The transforms start in one instance declaration.
abbrev pub pushout_between : Spot → TransformMeant → TransformMeant → Checked Posed
pushout_between spot f g = if same_name f.ends.source g.ends.source then Ok (pushed_out f g) else Err (spot.place, NotASpan)

abbrev pub pushout_posed : Environment → Spot → Spot → Checked Posed
pushout_posed env first second = and_then (transform_used env first)
    (λ f. and_then (transform_used env second) (λ g. pushout_between second f g))
