-- The rules of names and parts of mappings, and of names of identities.
use Rattle.std.specs.Prelude.{Ok, Err, if◌then◌else◌}
use Rattle.cq_base.specs.declared.place.Place.{Place}
use Rattle.cq_base.specs.Names.{same_name}
use Rattle.cq_syntax.specs.declared.part.Spot.{Spot}
use Rattle.cq_syntax.specs.declared.literal.MappingLit.{MappingLit}
use Rattle.cq_theory.specs.SchemaData.{SchemaData}
use Rattle.cq_mapping.specs.MappingData.{MappingData}
use Rattle.cq_mapping.specs.MappingParts.{mapping_fault, mapping_made}
use Rattle.cq_environment.specs.declared.reason.Reason.TheVariants.{WrongSchema}
use Rattle.cq_parts.specs.Parts.{mapping_parts, mapping_places}
use Rattle.cq_environment.specs.Meanings.{Checked, Environment, SchemaMeant, and_then, schema_used}
use Rattle.cq_program.specs.Posed.{arrow_breach, of_parts, Posed, a_mapping, an_identity}

unfoldable pub mapping_given : Place → SchemaData → SchemaData → MappingLit → Checked MappingData
mapping_given place S T lit = of_parts (arrow_breach place (mapping_places lit)) (mapping_fault S T (mapping_parts lit))
    (mapping_made S T (mapping_parts lit))

-- Two schemas are over one typeside declaration, and then the parts are checked.
abbrev pub mapping_between : Place → MappingLit → SchemaMeant → SchemaMeant → Checked Posed
mapping_between place lit source target =
    if same_name source.typeside target.typeside then and_then (mapping_given place source.schema target.schema lit)
    (λ F. Ok (a_mapping source.name target.name F))
    else Err (lit.target.place, WrongSchema)

abbrev pub mapping_posed : Environment → Place → MappingLit → Checked Posed
mapping_posed env place lit =
    and_then (schema_used env lit.source) (λ source.
    and_then (schema_used env lit.target) (λ target.
    mapping_between place lit source target))

abbrev pub identity_posed : Environment → Spot → Checked Posed
identity_posed env spot = and_then (schema_used env spot) (λ over. Ok (an_identity over.name over.schema))
