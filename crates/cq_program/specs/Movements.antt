-- The checks of names of transforms that operations move, and of units and counits.
use Rattle.std.specs.Prelude.{Bool, false, ◌&&◌, Option, Some, None, Ok, Err, if◌then◌else◌, option_and_then}
use Rattle.cq_base.specs.declared.name.Name.{Name}
use Rattle.cq_base.specs.declared.place.Place.{Place}
use Rattle.cq_base.specs.Names.{same_name}
use Rattle.cq_instance.specs.InstanceData.{InstanceData}
use Rattle.cq_syntax.specs.declared.part.Spot.{Spot}
use Rattle.cq_syntax.specs.declared.program.MoveForm.{MoveForm}
use Rattle.cq_syntax.specs.declared.program.MoveForm.TheVariants as forms
use Rattle.cq_environment.specs.declared.moved.Moved.{Moved}
use Rattle.cq_environment.specs.declared.moved.Operation.{Operation}
use Rattle.cq_environment.specs.declared.moved.Operation.TheVariants as operation
use Rattle.cq_environment.specs.declared.reason.Reason.TheVariants.{WrongOperand, WrongSchema}
use Rattle.cq_environment.specs.Meanings.{Checked, Ends, Environment, InstanceMeant, Meant, TransformMeant, and_then, instance}
use Rattle.cq_environment.specs.Meanings.{instance_used, mapping_used, meant_by, moved_under, query_used, transform_used}
use Rattle.cq_environment.specs.Moves.{back, same_operation}
use Rattle.cq_environment.specs.Routes.{Route, by_sigma, by_delta, by_eval, by_coeval}

-- What is moved along a route: a transform; or an instance, there and back, with what is made of it there.
pub data Movement : Type 0 where
  moved_along : Route → TransformMeant → Movement
  there_and_back : Route → InstanceData → Movement

-- a movement, and the ends of the transform that it gives
pub record Move : Type 0 where
  pub ends : Ends
  pub movement : Movement

-- the route of an operation along what a used name stands for, with the printed name of the schema whose instances it moves
abbrev pub route_used : Environment → Operation → Spot → Checked (Name × Route)
route_used env operation.Sigma spot = and_then (mapping_used env spot) (λ F. Ok (F.source, by_sigma F.mapping))
route_used env operation.Delta spot = and_then (mapping_used env spot) (λ F. Ok (F.target, by_delta F.mapping))
route_used env operation.Eval spot = and_then (query_used env spot) (λ Q. Ok (Q.source, by_eval Q.query))
route_used env operation.Coeval spot = and_then (query_used env spot) (λ Q. Ok (Q.target, by_coeval Q.query))

abbrev pub two_ends : Spot → Spot → InstanceMeant → InstanceMeant → Ends
two_ends source target i j = record { source = source.name; target = target.name; start = i; finish = j }

abbrev pub ends_used : Environment → Spot → Spot → Checked Ends
ends_used env source target = and_then (instance_used env source) (λ i.
    and_then (instance_used env target) (λ j. Ok (two_ends source target i j)))

-- the operand of what an instance is declared by, where this is an operation along a name
abbrev pub operand_in : Operation → Name → Option Moved → Option Name
operand_in op along None = None
operand_in op along (Some v) = if same_operation op v.operation && same_name along v.along then Some v.operand else None

abbrev pub operand_of : Environment → Operation → Name → Name → Option Name
operand_of env op along name = operand_in op along (moved_under env name)

abbrev pub is_named : Name → Option Name → Bool
is_named n None = false
is_named n (Some m) = same_name n m

-- the instance of a name is declared by an operation, along a name, of an operand
abbrev pub is_declared : Environment → Operation → Name → Name → Name → Bool
is_declared env op along operand name = is_named operand (operand_of env op along name)

abbrev pub instance_by : Meant → Option InstanceData
instance_by (instance n i) = Some i
instance_by _ = None

abbrev pub instance_named : Environment → Name → Option InstanceData
instance_named env name = option_and_then instance_by (meant_by env name)

abbrev pub middle_named : Environment → Operation → Name → Name → Name → Option InstanceData
middle_named env op along operand middle = if is_declared env op along operand middle then instance_named env middle else None

-- Where the instance of a name is declared by the operation that goes back, of an instance that is declared by the operation of the
-- operand, along one name: the instance between them.
abbrev pub instance_between : Environment → Operation → Name → Name → Name → Option InstanceData
instance_between env op along operand name = option_and_then (middle_named env op along operand) (operand_of env (back op) along name)

abbrev pub or_wrong_operand : Place → Option InstanceData → Checked InstanceData
or_wrong_operand place None = Err (place, WrongOperand)
or_wrong_operand place (Some x) = Ok x

abbrev pub between_used : Environment → Operation → Spot → Spot → Spot → Checked InstanceData
between_used env op along operand spot = or_wrong_operand spot.place (instance_between env op along.name operand.name spot.name)

-- The names of a form: of a mapping or a query, of what is moved, and of the two ends.
module _ (env : Environment) (op : Operation) (by moved source target : Spot) where
  -- The transform is over the schema whose instances are moved, and then each end is declared by the operation, of the transform's.
  abbrev pub along_fits : Name × Route → TransformMeant → Ends → Checked Move
  along_fits route h e =
      if same_name route.0 h.ends.start.schema then
      if is_declared env op by.name h.ends.source source.name then
      if is_declared env op by.name h.ends.target target.name then Ok (record { ends = e; movement = moved_along route.1 h })
      else Err (target.place, WrongOperand)
      else Err (source.place, WrongOperand)
      else Err (moved.place, WrongSchema)

  abbrev pub along_checked : Checked Move
  along_checked =
      and_then (route_used env op by) (λ route.
      and_then (transform_used env moved) (λ h.
      and_then (ends_used env source target) (λ e.
      along_fits route h e)))

  -- The instance is over the schema whose instances are moved; and then it is the start, and the finish is declared as there and back.
  abbrev pub unit_fits : Name × Route → InstanceMeant → Ends → Checked Move
  unit_fits route i e =
      if same_name route.0 i.schema then
      if same_name moved.name source.name then
      and_then (between_used env op by moved target) (λ x. Ok (record { ends = e; movement = there_and_back route.1 x }))
      else Err (source.place, WrongOperand)
      else Err (moved.place, WrongSchema)

  abbrev pub unit_checked : Checked Move
  unit_checked =
      and_then (route_used env op by) (λ route.
      and_then (instance_used env moved) (λ i.
      and_then (ends_used env source target) (λ e.
      unit_fits route i e)))

  -- the same with the start declared as there and back, and then the instance for the finish
  abbrev pub counit_fits : Name × Route → InstanceMeant → Ends → Checked Move
  counit_fits route i e =
      if same_name route.0 i.schema then
      and_then (between_used env op by moved source) (λ x.
      if same_name moved.name target.name then Ok (record { ends = e; movement = there_and_back route.1 x })
      else Err (target.place, WrongOperand))
      else Err (moved.place, WrongSchema)

  abbrev pub counit_checked : Checked Move
  counit_checked =
      and_then (route_used env op by) (λ route.
      and_then (instance_used env moved) (λ i.
      and_then (ends_used env source target) (λ e.
      counit_fits route i e)))

-- The unit of sigma and delta goes from an instance to delta of its sigma, and that of coeval and eval likewise; each counit goes to an
-- instance from sigma of its delta, or from coeval of its eval.
abbrev pub move_checked : Environment → MoveForm → Spot → Spot → Spot → Spot → Checked Move
move_checked env forms.Sigma = along_checked env operation.Sigma
move_checked env forms.Delta = along_checked env operation.Delta
move_checked env forms.Eval = along_checked env operation.Eval
move_checked env forms.Coeval = along_checked env operation.Coeval
move_checked env forms.Unit = unit_checked env operation.Sigma
move_checked env forms.Counit = counit_checked env operation.Delta
move_checked env forms.UnitQuery = unit_checked env operation.Coeval
move_checked env forms.CounitQuery = counit_checked env operation.Eval
