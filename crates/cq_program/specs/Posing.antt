-- What the code states and poses, as the definitions see it.
use Rattle.std.specs.Prelude.{◌≡◌, ◌⊎◌, List, Some, All, map, string_bytes}
use Rattle.cq_base.specs.declared.name.Name.{Name}
use Rattle.cq_base.specs.declared.place.Place.{Place}
use Rattle.cq_theory.specs.declared.presentation.Presentation.{Presentation}
use Rattle.cq_theory.specs.Presentation.{IsPresentation}
use Rattle.cq_mapping.specs.Mapping.{identity_of}
use Rattle.cq_mapping.specs.Duties.{Preserves}
use Rattle.cq_mapping.specs.Images.{sigma}
use Rattle.cq_query.specs.Duties.{Sound}
use Rattle.cq_query.specs.Coeval.{coeval_of}
use Rattle.cq_instance.specs.declared.transform.Image.{Image}
use Rattle.cq_transform.specs.Images.{images_made}
use Rattle.cq_transform.specs.Refusals.{IsBrokenAt}
use Rattle.cq_transform.specs.Transforms.{GoesFrom}
use Rattle.cq_transform.specs.Gluing.{coproduct_of}
use Rattle.cq_environment.specs.declared.refusal.ProgramRefusal.{ProgramRefusal}
use Rattle.cq_environment.specs.declared.refusal.ProgramRefusal.TheVariants as program_refusal
use Rattle.cq_program.specs.declared.transforms.stating.BrokenImages.{BrokenImages}
use Rattle.cq_program.specs.declared.statement.Statement.{Statement}
use Rattle.cq_program.specs.declared.statement.Statement.TheVariants as statement
use Rattle.cq_import.specs.Faults as fault
use Rattle.cq_import.specs.Faults.{Fault}
use Rattle.cq_io.specs.FolderData.{FolderData}
use Rattle.cq_program.specs.declared.statement.Stated.{Stated as TheStated}
use Rattle.cq_program.specs.declared.statement.Stated.TheVariants as stated
use Rattle.cq_program.specs.Folders.{TellsFault, LacksFile, Raised, rule_of, unread_fault}
use Rattle.cq_instance.specs.InstanceData.{InstanceData}
use Rattle.cq_environment.specs.Routes.{Route, IsAround, IsMovedAlong, IsSound}
use Rattle.cq_program.specs.Movements.{Movement, Move, moved_along, there_and_back}
use Rattle.cq_environment.specs.Meanings.{Environment, TransformMeant, typeside, colimit, schema_named}
use Rattle.cq_program.specs.Posed.{Posed, a_typeside, a_schema, a_mapping, an_identity, a_colimit, an_inclusion, a_query, a_presentation}
use Rattle.cq_program.specs.Posed.{a_composite, a_mapping_query, a_made, a_delta, an_eval, a_transform, a_move}
use Rattle.cq_program.specs.Gluing.{pushed_out}
use Rattle.cq_program.specs.Checks.{Stated, at_once, a_folder}
use Rattle.cq_environment.specs.Meanings.{meant_by}
use Rattle.cq_environment.specs.Environment.{AreEnds, IsBuilt, IsPrinted, IsTermModel, WillSettle, colimit_meant, ends_meant}
use Rattle.cq_program.specs.Views.{move_meant}
use Rattle.cq_environment.specs.Environment.{schema_meant, transform_meant}
use Rattle.cq_theory.specs.Schema.{IsSchema}
use Rattle.cq_theory.specs.Tables.{Initial}
use Rattle.cq_instance.specs.declared.transform.Transform.{Transform}
use Rattle.cq_environment.specs.Meanings.{Ends}

-- two transforms go from the start of the first
abbrev pub AreSpan : TransformMeant → TransformMeant → Type 0
AreSpan f g =
    GoesFrom f.transform f.ends.start.instance f.ends.finish.instance
    × GoesFrom g.transform f.ends.start.instance g.ends.finish.instance

-- A transform of these images goes from the one end to the other, and the first is the term model of its presentation over a well-sorted
-- schema.
pub record IsTransformOf (e : Ends) (images : List Image) (t : Transform) : Type 0 where
  pub images_are : t.images ≡ images
  pub schema : IsSchema e.start.instance.schema
  pub initial : Initial e.start.instance.schema e.start.instance.presentation e.start.instance.tables e.start.instance.assignment
  pub goes : GoesFrom t e.start.instance e.finish.instance

-- the images that break an equation
abbrev pub broken_images : BrokenImages → List Image
broken_images b = images_made b.ends.start.instance.value b.ends.finish.instance.value b.parts

-- an instance for which a name stands: the term model of its presentation, and listed, or with its canonical presentation
pub record IsWhole (i : InstanceData) : Type 0 where
  pub model : IsTermModel i
  pub built : IsBuilt i

-- a transform between two instances, and the ends of the one to which it is moved
pub record Carried : Type 0 where
  pub moved : Transform
  pub source : InstanceData
  pub target : InstanceData
  pub start : InstanceData
  pub finish : InstanceData

abbrev pub carried : TransformMeant → Ends → Carried
carried h e = record {
  moved = h.transform;
  source = h.ends.start.instance;
  target = h.ends.finish.instance;
  start = e.start.instance;
  finish = e.finish.instance;
}

-- A route is sound, the transform goes from one instance to another, and the ends are what is made of these along the route; or the one
-- end is there and back from the other, by the instance that is made there.
pub record IsMovingAlong (route : Route) (k : Carried) : Type 0 where
  pub sound : IsSound route
  pub goes : GoesFrom k.moved k.source k.target
  pub source : IsWhole k.source
  pub target : IsWhole k.target
  pub start : IsWhole k.start
  pub finish : IsWhole k.finish
  pub start_moved : IsMovedAlong route k.source k.start
  pub finish_moved : IsMovedAlong route k.target k.finish

pub record IsMovingAround (route : Route) (start finish there : InstanceData) : Type 0 where
  pub sound : IsSound route
  pub whole : IsWhole there
  pub start_whole : IsWhole start
  pub finish_whole : IsWhole finish
  pub around : IsAround route start finish there

abbrev pub IsMovement : Movement → Ends → Type 0
IsMovement (moved_along route h) e = IsMovingAlong route (carried h e)
IsMovement (there_and_back route x) e = IsMovingAround route e.start.instance e.finish.instance x

abbrev pub IsMoving : Move → Type 0
IsMoving move = IsMovement move.movement move.ends

abbrev pub posed_as : Statement → Posed
posed_as (statement.Typeside t) = a_typeside t
posed_as (statement.Schema s) = a_schema (schema_meant s)
posed_as (statement.Mapping n t F) = a_mapping n t F
posed_as (statement.Identity n s) = an_identity n s.value
posed_as (statement.Colimit c) = a_colimit (colimit_meant c)
posed_as (statement.Inclusion n t F) = an_inclusion n t F.value
posed_as (statement.Query n t Q) = a_query n t Q
posed_as (statement.Composite n t Q W) = a_composite n t Q.value W.value
posed_as (statement.MappingQuery n t F) = a_mapping_query n t F.value
posed_as (statement.Presentation n s P) = a_presentation n s.value P
posed_as (statement.Delta n F i) = a_delta n F.value i.value.tables
posed_as (statement.Sigma n F i) = a_made n F.value.target (sigma F.value i.value.presentation)
posed_as (statement.Eval n Q i) = an_eval n Q.value i.value.tables
posed_as (statement.Coeval n Q i) = a_made n Q.value.source (coeval_of Q.value i.value.tables)
posed_as (statement.Coproduct n s parts) = a_made n s.value (coproduct_of (map (λ part. part.value.presentation) parts))
posed_as (statement.Pushout f g) = pushed_out (transform_meant f) (transform_meant g)
posed_as (statement.Transform e t) = a_transform (ends_meant e) t.images
posed_as (statement.Broken b) = a_transform (ends_meant b.ends) (broken_images b)
posed_as (statement.Move m) = a_move (move_meant m)

-- A presentation is one over its schema; an instance that is pulled back or read backwards is over the target, and one that is moved or
-- queried over the source; a mapping along which tables are pulled back, or whose query is made, preserves equality, and a query that is
-- answered or composed is sound. The second of two queries starts where the first ends. The operands of a coproduct are over its schema,
-- the transforms of a pushout go from one instance, and a transform goes from the one end to the other; images that are broken don't keep
-- an equation. The ends of a movement are what its route makes.
abbrev pub IsPosed : Statement → Type 0
IsPosed (statement.Typeside t) = Unit {0}
IsPosed (statement.Schema s) = Unit {0}
IsPosed (statement.Mapping n t F) = Unit {0}
IsPosed (statement.Identity n s) = Unit {0}
IsPosed (statement.Colimit c) = Unit {0}
IsPosed (statement.Inclusion n t F) = Unit {0}
IsPosed (statement.Query n t Q) = Unit {0}
IsPosed (statement.Composite n t Q W) = Sound Q.value × Sound W.value × (W.value.source ≡ Q.value.target)
IsPosed (statement.MappingQuery n t F) = Preserves F.value
IsPosed (statement.Presentation n s P) = IsPresentation s.value P
IsPosed (statement.Delta n F i) = Preserves F.value × (i.value.schema ≡ F.value.target)
IsPosed (statement.Sigma n F i) = i.value.schema ≡ F.value.source
IsPosed (statement.Eval n Q i) = Sound Q.value × (i.value.schema ≡ Q.value.source)
IsPosed (statement.Coeval n Q i) = i.value.schema ≡ Q.value.target
IsPosed (statement.Coproduct n s parts) = All (λ part. part.value.schema ≡ s.value) parts
IsPosed (statement.Pushout f g) = AreSpan (transform_meant f) (transform_meant g)
IsPosed (statement.Transform e t) = IsTransformOf (ends_meant e) t.images t
IsPosed (statement.Broken b) = IsBrokenAt b.ends.start.instance.value b.ends.finish.instance.value (broken_images b) b.number
IsPosed (statement.Move m) = IsMoving (move_meant m)

-- What is posed under a name is over what its names stand for: a schema over its typeside, under its printed name; all others over the
-- schemas that their printed names stand for, and a transform between the instances for which the names of its ends stand. An identity
-- preserves equality.
abbrev pub IsGrounded : Environment → Name → Posed → Type 0
IsGrounded env name (a_typeside T) = Unit {0}
IsGrounded env name (a_schema S) =
    (meant_by env S.typeside ≡ Some (typeside S.schema.typeside)) × ((S.name ≡ name) ⊎ (schema_named env S.name ≡ Some S))
IsGrounded env name (a_mapping n t F) = IsPrinted env n F.source × IsPrinted env t F.target
IsGrounded env name (an_identity n S) = Preserves (identity_of S) × IsPrinted env n S
IsGrounded env name (a_colimit c) = WillSettle env name (colimit c)
IsGrounded env name (an_inclusion n t F) = Preserves F × IsPrinted env n F.source × IsPrinted env t F.target
IsGrounded env name (a_query n t Q) = IsPrinted env n Q.source × IsPrinted env t Q.target
IsGrounded env name (a_composite n t Q W) = IsPrinted env n Q.source × IsPrinted env t W.target
IsGrounded env name (a_mapping_query n t F) = IsPrinted env n F.target × IsPrinted env t F.source
IsGrounded env name (a_presentation n S P) = IsPrinted env n S
IsGrounded env name (a_made n S P) = IsPrinted env n S
IsGrounded env name (a_delta n F M) = IsPrinted env n F.source
IsGrounded env name (an_eval n Q M) = IsPrinted env n Q.target
IsGrounded env name (a_transform e images) = AreEnds env e
IsGrounded env name (a_move move) = AreEnds env move.ends

-- what the code states
abbrev pub stated_as : TheStated → Stated
stated_as (stated.AtOnce s) = at_once (posed_as s)
stated_as (stated.Folder f) = a_folder f.format f.name f.schema.value f.dir

abbrev pub IsStated : TheStated → Type 0
IsStated (stated.AtOnce s) = IsPosed s
IsStated (stated.Folder f) = Unit {0}

-- the same as `IsGrounded`, of what is stated
abbrev pub IsStatedOver : Environment → Name → Stated → Type 0
IsStatedOver env name (at_once posed) = IsGrounded env name posed
IsStatedOver env name (a_folder format n S dir) = IsPrinted env n S

-- The refusal tells what an import tells: a rule that is broken, at the declaration's place; a file that was not read; or want of memory.
abbrev pub TellsImport : Place → Fault → ProgramRefusal → Type 0
TellsImport at told (program_refusal.Broken place reason) = (place ≡ at) × (rule_of told ≡ Some reason)
TellsImport at told (program_refusal.Read file cause) = told ≡ unread_fault (string_bytes file) cause
TellsImport at told program_refusal.Memory = told ≡ fault.Memory

-- the refusal tells the first fault in the files that are read, at the declaration's place, or a file that was not read, or want of memory
abbrev pub TellsReading : Place → FolderData → FolderData → Stated → ProgramRefusal → Type 0
TellsReading at old new s (program_refusal.Broken place reason) = (place ≡ at) × TellsFault old.files s reason
TellsReading at old new s (program_refusal.Read file cause) = LacksFile old.files s (string_bytes file) cause × Raised cause old new
TellsReading at old new s program_refusal.Memory = Unit {0}
