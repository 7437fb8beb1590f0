-- The environment that the code keeps, as the definitions see it, and what its functions answer.
use Rattle.std.specs.Prelude.{◌≡◌, ◌⊎◌, Box, List, Option, Some, Result, Ok, Err, All, map}
use Rattle.std.specs.declared.alloc.Global.{Global}
use Rattle.cq_base.specs.declared.name.Name.{Name}
use Rattle.cq_base.specs.declared.place.Place.{Place}
use Rattle.cq_environment.specs.declared.reason.Reason.{Reason}
use Rattle.cq_environment.specs.declared.refusal.ProgramRefusal.{ProgramRefusal}
use Rattle.cq_environment.specs.declared.refusal.ProgramRefusal.TheVariants as program_refusal
use Rattle.cq_environment.specs.declared.environment.Bound.{Bound}
use Rattle.cq_environment.specs.declared.environment.NamedSchema.{NamedSchema}
use Rattle.cq_environment.specs.declared.environment.NamedPart.{NamedPart}
use Rattle.cq_environment.specs.declared.environment.NamedColimit.{NamedColimit}
use Rattle.cq_environment.specs.declared.environment.NamedInstance.{NamedInstance}
use Rattle.cq_environment.specs.declared.environment.NamedEnds.{NamedEnds}
use Rattle.cq_environment.specs.declared.environment.NamedTransform.{NamedTransform}
use Rattle.cq_environment.specs.declared.moved.Moved.{Moved}
use Rattle.cq_environment.specs.declared.used.NamedMapping.{NamedMapping}
use Rattle.cq_environment.specs.declared.used.NamedQuery.{NamedQuery}
use Rattle.cq_syntax.specs.declared.part.Spot.{Spot}
use Rattle.cq_environment.specs.declared.environment.Meaning.{Meaning}
use Rattle.cq_environment.specs.declared.environment.Meaning.TheVariants as meaning
use Rattle.cq_mapping.specs.Duties.{Preserves}
use Rattle.cq_query.specs.Duties.{Sound}
use Rattle.cq_theory.specs.SchemaData.{SchemaData}
use Rattle.cq_theory.specs.Tables.{Initial}
use Rattle.cq_instance.specs.InstanceData.{InstanceData}
use Rattle.cq_instance.specs.Given.{HasLeastNames, given}
use Rattle.cq_instance.specs.Listed.{IsListed}
use Rattle.cq_transform.specs.Transforms.{GoesFrom}
use Rattle.cq_environment.specs.Routes.{Route, route_of, IsMovedAlong}
use Rattle.cq_environment.specs.Meanings.{Binding, Meant, PartMeant, ColimitMeant, colimit, schema_named, typeside, schema, mapping, query}
use Rattle.cq_environment.specs.Meanings.{instance, transform, Ends, SchemaMeant, MappingMeant}
use Rattle.cq_environment.specs.Meanings.{QueryMeant, InstanceMeant, TransformMeant, Environment, Checked, meant_by}

abbrev pub schema_meant : NamedSchema → SchemaMeant
schema_meant named = record { name = named.name; typeside = named.typeside; schema = named.schema.value }

abbrev pub instance_meant : NamedInstance → InstanceMeant
instance_meant named = record { schema = named.schema; instance = named.instance.value }

abbrev pub ends_meant : NamedEnds → Ends
ends_meant named = record {
  source = named.source;
  target = named.target;
  start = instance_meant named.start;
  finish = instance_meant named.finish;
}

abbrev pub part_meant : NamedPart → PartMeant
part_meant part = record { name = part.name; source = part.source; inclusion = part.inclusion.value }

abbrev pub colimit_meant : NamedColimit → ColimitMeant
colimit_meant named = record { schema = schema_meant named.schema; parts = map part_meant named.parts }

abbrev pub meant : Meaning → Meant
meant (meaning.Typeside t) = typeside t.value
meant (meaning.Schema s) = schema (schema_meant s)
meant (meaning.Colimit c) = colimit (colimit_meant c)
meant (meaning.Mapping n t F) = mapping n t F.value
meant (meaning.Query n t Q) = query n t Q.value
meant (meaning.Instance n i) = instance n i.value
meant (meaning.Transform t) = transform (ends_meant t.ends) t.transform.value

-- a declared name in the table of names, with what it stands for
abbrev pub Entry : Type 0
Entry = Name × Box Bound Global

abbrev pub environment_of : List Entry → Environment
environment_of entries = map (λ entry. (entry.0, meant entry.1.value.meaning, entry.1.value.moved)) entries

abbrev pub mapping_meant : NamedMapping → MappingMeant
mapping_meant named = record { source = named.source; target = named.target; mapping = named.mapping.value }

abbrev pub query_meant : NamedQuery → QueryMeant
query_meant named = record { source = named.source; target = named.target; query = named.query.value }

abbrev pub transform_meant : NamedTransform → TransformMeant
transform_meant named = record { ends = ends_meant named.ends; transform = named.transform.value }

-- a printed name stands for a schema, and is that under which the schema is printed
abbrev pub IsPrinted : Environment → Name → SchemaData → Type 0
IsPrinted env n S = (T : Name) × (schema_named env n ≡ Some (record { name = n; typeside = T; schema = S }))

-- an instance is the term model of its presentation, and its names are the least ones
abbrev pub IsTermModel : InstanceData → Type 0
IsTermModel i = Initial i.schema i.presentation i.tables i.assignment × HasLeastNames i

-- the same of an instance for which a name stands; and each duty of a query for which one stands is derivable
abbrev pub IsModelled : Meant → Type 0
IsModelled (query n t Q) = Sound Q
IsModelled (instance n i) = IsTermModel i
IsModelled _ = Unit {0}

-- the declared names of the ends stand for what they are
abbrev pub AreEnds : Environment → Ends → Type 0
AreEnds env e =
    (meant_by env e.source ≡ Some (instance e.start.schema e.start.instance))
    × (meant_by env e.target ≡ Some (instance e.finish.schema e.finish.instance))

-- a part of a colimit with this schema: its inclusion preserves equality, and goes from the schema of its printed name
abbrev pub IsPartSettled : Environment → SchemaData → PartMeant → Type 0
IsPartSettled env J part = Preserves part.inclusion × IsPrinted env part.source part.inclusion.source × (part.inclusion.target ≡ J)

-- the schema of a part stands for its printed name
abbrev pub IsPartPrinted : Environment → Spot × SchemaMeant → Type 0
IsPartPrinted env part = IsPrinted env part.1.name part.1.schema

-- What holds of each meaning: the name of a schema's typeside stands for that typeside, and its printed name for the schema; a colimit's
-- schema is so too, and each of its inclusions preserves equality and goes from the schema of its part; each duty of a mapping or a query
-- is derivable, and the printed names of its two schemas stand for them; that of an instance's schema stands for the schema, and the
-- instance is the term model of its presentation; the names of a transform's ends stand for these, and the transform goes from the one to
-- the other.
abbrev pub IsSettled : Environment → Meant → Type 0
IsSettled env (typeside T) = Unit {0}
IsSettled env (schema S) = (meant_by env S.typeside ≡ Some (typeside S.schema.typeside)) × (schema_named env S.name ≡ Some S)
IsSettled env (colimit c) =
    (meant_by env c.schema.typeside ≡ Some (typeside c.schema.schema.typeside)) × (schema_named env c.schema.name ≡ Some c.schema)
    × All (IsPartSettled env c.schema.schema) c.parts
IsSettled env (mapping n t F) = Preserves F × IsPrinted env n F.source × IsPrinted env t F.target
IsSettled env (query n t Q) = Sound Q × IsPrinted env n Q.source × IsPrinted env t Q.target
IsSettled env (instance n i) = IsPrinted env n i.schema × IsTermModel i
IsSettled env (transform e t) = AreEnds env e × GoesFrom t e.start.instance e.finish.instance

-- the same of a meaning that is to be put behind the others under a name
abbrev pub WillSettle : Environment → Name → Meant → Type 0
WillSettle env name (typeside T) = Unit {0}
WillSettle env name (schema S) =
    (meant_by env S.typeside ≡ Some (typeside S.schema.typeside)) × ((S.name ≡ name) ⊎ (schema_named env S.name ≡ Some S))
WillSettle env name (colimit c) =
    (meant_by env c.schema.typeside ≡ Some (typeside c.schema.schema.typeside)) × (c.schema.name ≡ name)
    × All (IsPartSettled env c.schema.schema) c.parts
WillSettle env name (mapping n t F) = IsSettled env (mapping n t F)
WillSettle env name (query n t Q) = IsSettled env (query n t Q)
WillSettle env name (instance n i) = IsSettled env (instance n i)
WillSettle env name (transform e t) = IsSettled env (transform e t)

-- the instance is the listed model of its presentation, or has its tables with their canonical presentation
abbrev pub IsBuilt : InstanceData → Type 0
IsBuilt i = IsListed i ⊎ (i ≡ given i.schema i.tables)

abbrev pub IsBuiltAs : Meant → Type 0
IsBuiltAs (instance n i) = IsBuilt i
IsBuiltAs _ = Unit {0}

-- what the names of a move stand for, and that the instance is what the move makes of the operand
pub record IsMovedBy (env : Environment) (v : Moved) (a : InstanceData) : Type 0 where
  pub along : Meant
  pub route : Route
  pub schema : Name
  pub operand : InstanceData
  pub along_is : meant_by env v.along ≡ Some along
  pub route_is : route_of v.operation along ≡ Some route
  pub operand_is : meant_by env v.operand ≡ Some (instance schema operand)
  pub moved : IsMovedAlong route operand a

abbrev pub IsMovedAs : Environment → Meant → Option Moved → Type 0
IsMovedAs env (instance n a) (Some v) = IsMovedBy env v a
IsMovedAs env _ _ = Unit {0}

-- each meaning is settled, and each instance is what its declaration makes of its operand
abbrev pub IsKnown : Environment → Binding → Type 0
IsKnown env entry = IsBuiltAs entry.1 × IsMovedAs env entry.1 entry.2

abbrev pub AreSettled : Environment → Type 0
AreSettled env = All (λ entry. IsSettled env entry.1) env × All (IsKnown env) env

-- the refusal tells what the check found, or want of memory
abbrev pub TellsChecked : {A : Type 0} → ProgramRefusal → Checked A → Type 0
TellsChecked (program_refusal.Broken place reason) check = check ≡ Err (place, reason)
TellsChecked (program_refusal.Read name cause) check = ⊥
TellsChecked program_refusal.Memory check = Unit {0}

-- the answer is what the check gives, or want of memory
abbrev pub Answers : {X A : Type 0} → (X → A) → Result X ProgramRefusal → Checked A → Type 0
Answers view (Ok x) check = check ≡ Ok (view x)
Answers view (Err refusal) check = TellsChecked refusal check

-- the refusal tells this rule and place, or want of memory
abbrev pub Tells : ProgramRefusal → Option (Place × Reason) → Type 0
Tells (program_refusal.Broken place reason) breach = breach ≡ Some (place, reason)
Tells (program_refusal.Read name cause) breach = ⊥
Tells program_refusal.Memory breach = Unit {0}
