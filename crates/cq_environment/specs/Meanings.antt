-- What declared names stand for, and what is used of it.
use Rattle.std.specs.Prelude.{List, [], ◌∷◌, Option, Some, None, Result, Ok, Err, if◌then◌else◌}
use Rattle.std.specs.Prelude.{option_and_then}
use Rattle.cq_base.specs.declared.name.Name.{Name}
use Rattle.cq_base.specs.declared.place.Place.{Place}
use Rattle.cq_base.specs.Names.{same_name}
use Rattle.cq_syntax.specs.declared.part.Spot.{Spot}
use Rattle.cq_syntax.specs.declared.program.Decl.{Decl}
use Rattle.cq_theory.specs.SchemaData.{SchemaData}
use Rattle.cq_theory.specs.TypesideData.{TypesideData}
use Rattle.cq_instance.specs.InstanceData.{InstanceData}
use Rattle.cq_instance.specs.declared.transform.Transform.{Transform}
use Rattle.cq_mapping.specs.MappingData.{MappingData}
use Rattle.cq_query.specs.QueryData.{QueryData}
use Rattle.cq_environment.specs.declared.moved.Moved.{Moved}
use Rattle.cq_environment.specs.declared.reason.Reason.{Reason}
use Rattle.cq_environment.specs.declared.reason.Reason.TheVariants.{NameUnknown, WrongKind}
use Rattle.cq_environment.specs.Moves.{moved_of}

-- A schema, with the name under which it is printed, that of its own declaration, and the name of its typeside's declaration. Two names
-- stand for one schema exactly where the printed names are one, and two schemas are over one typeside declaration exactly where the
-- typesides' names are one.
pub record SchemaMeant : Type 0 where
  pub name : Name
  pub typeside : Name
  pub schema : SchemaData

-- A part of a colimit: the name under which it stands in the colimit's declaration, the printed name of its schema, and its inclusion.
pub record PartMeant : Type 0 where
  pub name : Name
  pub source : Name
  pub inclusion : MappingData

-- a colimit: its schema, which is printed under its own name, and its parts in order
pub record ColimitMeant : Type 0 where
  pub schema : SchemaMeant
  pub parts : List PartMeant

-- A mapping or a query, with the printed names of its source and its target; an instance, with that of its schema.
pub record MappingMeant : Type 0 where
  pub source : Name
  pub target : Name
  pub mapping : MappingData

pub record QueryMeant : Type 0 where
  pub source : Name
  pub target : Name
  pub query : QueryData

pub record InstanceMeant : Type 0 where
  pub schema : Name
  pub instance : InstanceData

-- the declared names of the instances from which and to which a transform goes, and what they stand for
pub record Ends : Type 0 where
  pub source : Name
  pub target : Name
  pub start : InstanceMeant
  pub finish : InstanceMeant

pub record TransformMeant : Type 0 where
  pub ends : Ends
  pub transform : Transform

-- What a declared name stands for. Where a schema is wanted, the name of a colimit stands for its schema. An instance goes with the
-- printed name of its schema, a mapping and a query with those of their source and their target, and a transform with its ends.
pub data Meant : Type 0 where
  typeside : TypesideData → Meant
  schema : SchemaMeant → Meant
  colimit : ColimitMeant → Meant
  mapping : Name → Name → MappingData → Meant
  query : Name → Name → QueryData → Meant
  instance : Name → InstanceData → Meant
  transform : Ends → Transform → Meant

-- a declared name, what it stands for, and by what it was declared, if an operation moved it
abbrev pub Binding : Type 0
Binding = Name × Meant × Option Moved

-- the declared names in order
abbrev pub Environment : Type 0
Environment = List Binding

-- what a declaration adds under its name
abbrev pub binding : Decl → Meant → Binding
binding d m = (d.name, m, moved_of d.body)

abbrev pub meant_by : Environment → Name → Option Meant
meant_by [] name = None
meant_by (entry ∷ entries) name = if same_name name entry.0 then Some entry.1 else meant_by entries name

-- by what the instance of a name is declared
abbrev pub moved_under : Environment → Name → Option Moved
moved_under [] name = None
moved_under (entry ∷ entries) name = if same_name name entry.0 then entry.2 else moved_under entries name

-- the schema for which a name stands
abbrev pub schema_by : Meant → Option SchemaMeant
schema_by (schema S) = Some S
schema_by (colimit c) = Some c.schema
schema_by _ = None

abbrev pub schema_named : Environment → Name → Option SchemaMeant
schema_named env name = option_and_then schema_by (meant_by env name)

-- what a check gives, or the place and the reason of the first rule that is broken
abbrev pub Checked : Type 0 → Type 0
Checked A = Result A (Place × Reason)

-- one check and then, with what it gives, another
abbrev pub and_then : {A B : Type 0} → Checked A → (A → Checked B) → Checked B
and_then (Ok a) f = f a
and_then (Err broken) f = Err broken

-- A used name is declared, and then it is of the right kind.
abbrev pub as_typeside : Place → Option Meant → Checked TypesideData
as_typeside place None = Err (place, NameUnknown)
as_typeside place (Some (typeside T)) = Ok T
as_typeside place (Some _) = Err (place, WrongKind)

abbrev pub as_schema : Place → Option Meant → Checked SchemaMeant
as_schema place None = Err (place, NameUnknown)
as_schema place (Some (schema S)) = Ok S
as_schema place (Some (colimit c)) = Ok c.schema
as_schema place (Some _) = Err (place, WrongKind)

abbrev pub as_colimit : Place → Option Meant → Checked ColimitMeant
as_colimit place None = Err (place, NameUnknown)
as_colimit place (Some (colimit c)) = Ok c
as_colimit place (Some _) = Err (place, WrongKind)

abbrev pub as_mapping : Place → Option Meant → Checked MappingMeant
as_mapping place None = Err (place, NameUnknown)
as_mapping place (Some (mapping n m F)) = Ok (record { source = n; target = m; mapping = F })
as_mapping place (Some _) = Err (place, WrongKind)

abbrev pub as_query : Place → Option Meant → Checked QueryMeant
as_query place None = Err (place, NameUnknown)
as_query place (Some (query n m Q)) = Ok (record { source = n; target = m; query = Q })
as_query place (Some _) = Err (place, WrongKind)

abbrev pub as_instance : Place → Option Meant → Checked InstanceMeant
as_instance place None = Err (place, NameUnknown)
as_instance place (Some (instance n i)) = Ok (record { schema = n; instance = i })
as_instance place (Some _) = Err (place, WrongKind)

abbrev pub as_transform : Place → Option Meant → Checked TransformMeant
as_transform place None = Err (place, NameUnknown)
as_transform place (Some (transform e t)) = Ok (record { ends = e; transform = t })
as_transform place (Some _) = Err (place, WrongKind)

abbrev pub typeside_used : Environment → Spot → Checked TypesideData
typeside_used env spot = as_typeside spot.place (meant_by env spot.name)

abbrev pub schema_used : Environment → Spot → Checked SchemaMeant
schema_used env spot = as_schema spot.place (meant_by env spot.name)

abbrev pub colimit_used : Environment → Spot → Checked ColimitMeant
colimit_used env spot = as_colimit spot.place (meant_by env spot.name)

abbrev pub mapping_used : Environment → Spot → Checked MappingMeant
mapping_used env spot = as_mapping spot.place (meant_by env spot.name)

abbrev pub query_used : Environment → Spot → Checked QueryMeant
query_used env spot = as_query spot.place (meant_by env spot.name)

abbrev pub instance_used : Environment → Spot → Checked InstanceMeant
instance_used env spot = as_instance spot.place (meant_by env spot.name)

abbrev pub transform_used : Environment → Spot → Checked TransformMeant
transform_used env spot = as_transform spot.place (meant_by env spot.name)
