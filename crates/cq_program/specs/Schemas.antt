-- The rules of names and parts of schemas.
use Rattle.std.specs.Prelude.{Ok}
use Rattle.cq_base.specs.declared.name.Name.{Name}
use Rattle.cq_base.specs.declared.place.Place.{Place}
use Rattle.cq_syntax.specs.declared.literal.SchemaLit.{SchemaLit}
use Rattle.cq_theory.specs.SchemaData.{SchemaData}
use Rattle.cq_theory.specs.TypesideData.{TypesideData}
use Rattle.cq_theory.specs.SchemaParts.{schema_fault, schema_made}
use Rattle.cq_parts.specs.Parts.{schema_parts, schema_places}
use Rattle.cq_environment.specs.Meanings.{Checked, Environment, and_then, typeside_used}
use Rattle.cq_program.specs.Posed.{part_breach, of_parts, Posed, a_schema}

unfoldable pub schema_given : Place → TypesideData → SchemaLit → Checked SchemaData
schema_given place T lit = of_parts (part_breach place (schema_places lit)) (schema_fault T (schema_parts lit))
    (schema_made T (schema_parts lit))

abbrev pub schema_posed : Environment → Place → Name → SchemaLit → Checked Posed
schema_posed env place name lit =
    and_then (typeside_used env lit.typeside) (λ T.
    and_then (schema_given place T lit) (λ S.
    Ok (a_schema (record { name = name; typeside = lit.typeside.name; schema = S }))))
