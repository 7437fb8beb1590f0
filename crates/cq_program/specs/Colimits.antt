-- The rules of names and parts of colimits of schemas, and of names of their schemas and inclusions.
use Rattle.std.specs.Prelude.{◌+◌, List, [], ◌∷◌, Option, Some, None, Ok, Err, if◌then◌else◌, map, option_map}
use Rattle.cq_base.specs.declared.name.Name.{Name}
use Rattle.cq_base.specs.declared.place.Place.{Place}
use Rattle.cq_base.specs.Names.{same_name}
use Rattle.cq_syntax.specs.declared.part.Spot.{Spot}
use Rattle.cq_syntax.specs.declared.literal.ColimitLit.{ColimitLit}
use Rattle.cq_theory.specs.TypesideData.{TypesideData}
use Rattle.cq_mapping.specs.MappingData.{MappingData}
use Rattle.cq_colimit.specs.declared.refusal.ColimitRefusal.{ColimitRefusal}
use Rattle.cq_colimit.specs.declared.refusal.ColimitRefusal.TheVariants as joining
use Rattle.cq_colimit.specs.Faults.{colimit_fault}
use Rattle.cq_colimit.specs.Joined.{joined, inclusions}
use Rattle.cq_colimit.specs.Placing.{Part}
use Rattle.cq_environment.specs.declared.reason.Reason.{Reason}
use Rattle.cq_environment.specs.declared.reason.Reason.TheVariants.{WrongSchema, Duplicate, Unknown, WrongCount, WrongSort, Reserved}
use Rattle.cq_environment.specs.declared.reason.Reason.TheVariants.{TooLarge, Oversized, NameClash, LongName}
use Rattle.cq_parts.specs.Parts.{colimit_parts, colimit_places}
use Rattle.cq_environment.specs.Meanings.{Checked, ColimitMeant, Environment, PartMeant, SchemaMeant, and_then, colimit_used}
use Rattle.cq_environment.specs.Meanings.{schema_used, typeside_used}
use Rattle.cq_program.specs.Posed.{place_of, broken_or, of_parts, Posed, all_used, first_other, a_schema, a_colimit, an_inclusion}

-- The rule that a part of a colimit breaks, at its place. Two joined names that are one, and one that is too long, are told with the
-- numbers of their schemas, from 1.
abbrev pub colimit_breach : Place → List Place → ColimitRefusal → Option (Place × Reason)
colimit_breach place places (joining.Duplicate n) = Some (place_of place places n, Duplicate)
colimit_breach place places (joining.Unknown n) = Some (place_of place places n, Unknown)
colimit_breach place places (joining.WrongCount n) = Some (place_of place places n, WrongCount)
colimit_breach place places (joining.WrongSort n) = Some (place_of place places n, WrongSort)
colimit_breach place places (joining.Reserved n) = Some (place_of place places n, Reserved)
colimit_breach place places (joining.TooLarge n) = Some (place_of place places n, TooLarge)
colimit_breach place places (joining.NameClash m n) = Some (place, NameClash (m + 1) (n + 1))
colimit_breach place places (joining.LongName n) = Some (place, LongName (n + 1))
colimit_breach place places joining.TooMany = Some (place, Oversized)
colimit_breach place places joining.Memory = None

-- the schemas that are joined, under their names, and their inclusions
abbrev pub named_schemas : List (Spot × SchemaMeant) → List Part
named_schemas parts = map (λ part. (part.0.name, part.1.schema)) parts

abbrev pub included : List (Spot × SchemaMeant) → List MappingData → List PartMeant
included (part ∷ parts) (F ∷ Fs) = record { name = part.0.name; source = part.1.name; inclusion = F } ∷ included parts Fs
included _ _ = []

-- the schemas that are joined, in order, each with the name under which it stands
abbrev pub parts_used : Environment → List Spot → Checked (List (Spot × SchemaMeant))
parts_used env spots = all_used (λ spot. spot) (schema_used env) spots

-- the place of the first of them that isn't over the typeside declaration of a name
abbrev pub first_apart : Name → List (Spot × SchemaMeant) → Option Place
first_apart n parts = first_other (λ spot. spot.place) (λ S. S.typeside) n parts

abbrev pub colimit_of : ColimitLit → Name → TypesideData → List (Spot × SchemaMeant) → ColimitMeant
colimit_of lit name T parts = record {
  schema = record { name = name; typeside = lit.typeside.name; schema = joined T (named_schemas parts) (colimit_parts lit) };
  parts = included parts (inclusions T (named_schemas parts) (colimit_parts lit));
}

unfoldable pub colimit_given : Place → ColimitLit → Name → TypesideData → List (Spot × SchemaMeant) → Checked ColimitMeant
colimit_given place lit name T parts = of_parts (colimit_breach place (colimit_places lit))
    (colimit_fault T (named_schemas parts) (colimit_parts lit)) (colimit_of lit name T parts)

abbrev pub posed_colimit : Checked ColimitMeant → Checked Posed
posed_colimit check = and_then check (λ c. Ok (a_colimit c))

-- Each part is over the stated typeside, and then the parts are joined.
abbrev pub colimit_over : Place → ColimitLit → Name → List (Spot × SchemaMeant) → TypesideData → Checked Posed
colimit_over place lit name parts T =
    and_then (broken_or parts (option_map (λ at. (at, WrongSchema)) (first_apart lit.typeside.name parts)))
    (λ over. posed_colimit (colimit_given place lit name T over))

abbrev pub colimit_posed : Environment → Place → Name → ColimitLit → Checked Posed
colimit_posed env place name lit =
    and_then (parts_used env lit.parts) (λ parts.
    and_then (typeside_used env lit.typeside) (λ T.
    colimit_over place lit name parts T))

-- the schema of a colimit, under the colimit's name
abbrev pub get_schema_posed : Environment → Spot → Checked Posed
get_schema_posed env spot = and_then (colimit_used env spot) (λ c. Ok (a_schema c.schema))

-- the part that stands under a name in the colimit's declaration
abbrev pub part_named : List PartMeant → Name → Option PartMeant
part_named [] name = None
part_named (part ∷ parts) name = if same_name name part.name then Some part else part_named parts name

abbrev pub inclusion_of : Spot → Name → Option PartMeant → Checked Posed
inclusion_of spot name None = Err (spot.place, WrongSchema)
inclusion_of spot name (Some part) = Ok (an_inclusion part.source name part.inclusion)

abbrev pub get_mapping_posed : Environment → Spot → Spot → Checked Posed
get_mapping_posed env along spot =
    and_then (colimit_used env along) (λ c.
    and_then (schema_used env spot) (λ S.
    inclusion_of spot c.schema.name (part_named c.parts spot.name)))
