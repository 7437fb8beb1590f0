-- The rules of names and parts of each form of declaration.
use Rattle.std.specs.Prelude.{Option, Some, None, Ok, Err, if◌then◌else◌, is_some}
use Rattle.cq_base.specs.declared.name.Name.{Name}
use Rattle.cq_base.specs.declared.place.Place.{Place}
use Rattle.cq_syntax.specs.declared.part.Spot.{Spot}
use Rattle.cq_syntax.specs.declared.program.SchemaExp.TheVariants as schema_exp
use Rattle.cq_syntax.specs.declared.program.InstanceExp.TheVariants as instance_exp
use Rattle.cq_syntax.specs.declared.program.MappingExp.TheVariants as mapping_exp
use Rattle.cq_syntax.specs.declared.program.QueryExp.TheVariants as query_exp
use Rattle.cq_syntax.specs.declared.program.TransformExp.TheVariants as transform_exp
use Rattle.cq_syntax.specs.declared.program.MoveForm.{MoveForm}
use Rattle.cq_syntax.specs.declared.program.Body.{Body}
use Rattle.cq_syntax.specs.declared.program.Body.TheVariants.{Typeside, Schema, Colimit, Instance, Mapping, Query, Transform as Transformed}
use Rattle.cq_syntax.specs.declared.program.Decl.{Decl}
use Rattle.cq_theory.specs.SchemaData.{SchemaData}
use Rattle.cq_environment.specs.declared.reason.Reason.TheVariants.{NameTaken, WrongKind}
use Rattle.cq_program.specs.Movements.{move_checked}
use Rattle.cq_program.specs.declared.imports.stating.Format.{Format}
use Rattle.cq_program.specs.declared.imports.stating.Format.TheVariants.{First, Second}
use Rattle.cq_environment.specs.Meanings.{Checked, Environment, and_then, meant_by, schema_used}
use Rattle.cq_program.specs.Posed.{Posed, a_move}
use Rattle.cq_program.specs.Typesides.{typeside_posed}
use Rattle.cq_program.specs.Schemas.{schema_posed}
use Rattle.cq_program.specs.Colimits.{colimit_posed, get_schema_posed, get_mapping_posed}
use Rattle.cq_program.specs.Mappings.{mapping_posed, identity_posed}
use Rattle.cq_program.specs.Queries.{query_posed, composite_posed, mapping_query_posed}
use Rattle.cq_program.specs.Literals.{instance_posed}
use Rattle.cq_program.specs.Moves.{delta_posed, sigma_posed}
use Rattle.cq_program.specs.Evals.{eval_posed, coeval_posed}
use Rattle.cq_program.specs.Gluing.{coproduct_posed, pushout_posed}
use Rattle.cq_program.specs.Transforms.{identical_posed, transform_posed}

abbrev pub move_posed : Environment → MoveForm → Spot → Spot → Spot → Spot → Checked Posed
move_posed env form along moved source target = and_then (move_checked env form along moved source target) (λ move. Ok (a_move move))

-- What a body poses that reads no files. A folder of files poses what these give, and nothing by itself.
abbrev pub body_posed : Environment → Place → Name → Body → Checked Posed
body_posed env place name (Typeside lit) = typeside_posed place lit
body_posed env place name (Schema (schema_exp.Literal lit)) = schema_posed env place name lit
body_posed env place name (Schema (schema_exp.GetSchema spot)) = get_schema_posed env spot
body_posed env place name (Colimit lit) = colimit_posed env place name lit
body_posed env place name (Mapping (mapping_exp.GetMapping along spot)) = get_mapping_posed env along spot
body_posed env place name (Mapping (mapping_exp.Literal lit)) = mapping_posed env place lit
body_posed env place name (Mapping (mapping_exp.Identity spot)) = identity_posed env spot
body_posed env place name (Query (query_exp.Literal lit)) = query_posed env place lit
body_posed env place name (Query (query_exp.Compose first second)) = composite_posed env first second
body_posed env place name (Query (query_exp.OfMapping spot)) = mapping_query_posed env spot
body_posed env place name (Instance (instance_exp.Literal lit)) = instance_posed env place lit
body_posed env place name (Instance (instance_exp.Delta along spot)) = delta_posed env along spot
body_posed env place name (Instance (instance_exp.Sigma along spot)) = sigma_posed env along spot
body_posed env place name (Instance (instance_exp.Eval along spot)) = eval_posed env along spot
body_posed env place name (Instance (instance_exp.Coeval along spot)) = coeval_posed env along spot
body_posed env place name (Instance (instance_exp.Coproduct spots spot)) = coproduct_posed env spots spot
body_posed env place name (Instance (instance_exp.Pushout first second)) = pushout_posed env first second
body_posed env place name (Transformed (transform_exp.Literal lit)) = transform_posed env place lit
body_posed env place name (Transformed (transform_exp.Identity spot)) = identical_posed env spot
body_posed env place name (Transformed (transform_exp.Move form along moved source target)) = move_posed env form along moved source target
body_posed env place name _ = Err (place, WrongKind)

-- What a declaration states whose names and parts break no rule: what it poses at once, or a folder of files, by its format, over the
-- schema of a printed name, whose files are to be read.
pub data Stated : Type 0 where
  at_once : Posed → Stated
  a_folder : Format → Name → SchemaData → Name → Stated

-- a folder, with the format of its files and the name of its schema
pub record FolderNamed : Type 0 where
  pub format : Format
  pub dir : Name
  pub schema : Spot

abbrev pub folder_stated : Environment → FolderNamed → Checked Stated
folder_stated env folder = and_then (schema_used env folder.schema) (λ over. Ok (a_folder folder.format over.name over.schema folder.dir))

-- the folder that a body names
abbrev pub folder_of : Body → Option FolderNamed
folder_of (Instance (instance_exp.ImportCsv dir spot options)) = Some (record { format = First; dir = dir; schema = spot })
folder_of (Instance (instance_exp.ImportCsv2 dir spot options)) = Some (record { format = Second; dir = dir; schema = spot })
folder_of _ = None

abbrev pub stated_from : Environment → Option FolderNamed → Checked Posed → Checked Stated
stated_from env None check = and_then check (λ posed. Ok (at_once posed))
stated_from env (Some folder) check = folder_stated env folder

-- A body that names a folder states it, and each other one states what it poses.
abbrev pub body_stated : Environment → Place → Name → Body → Checked Stated
body_stated env place name body = stated_from env (folder_of body) (body_posed env place name body)

-- The checks of names and parts of a declaration, in their order: its name is new, and then those of its body.
unfoldable pub stated_by : Environment → Decl → Checked Stated
stated_by env d =
    if is_some (meant_by env d.name) then Err (d.name_place, NameTaken) else body_stated env d.place d.name d.body
