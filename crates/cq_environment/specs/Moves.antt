-- By which operation, along what and of what an instance is declared.
use Rattle.std.specs.Prelude.{Bool, true, false, Option, Some, None}
use Rattle.cq_base.specs.declared.name.Name.{Name}
use Rattle.cq_syntax.specs.declared.program.Body.{Body}
use Rattle.cq_syntax.specs.declared.program.Body.TheVariants.{Instance}
use Rattle.cq_syntax.specs.declared.program.InstanceExp.TheVariants as instance_exp
use Rattle.cq_environment.specs.declared.moved.Moved.{Moved}
use Rattle.cq_environment.specs.declared.moved.Operation.{Operation}
use Rattle.cq_environment.specs.declared.moved.Operation.TheVariants as operation

abbrev pub moved_by : Operation → Name → Name → Moved
moved_by op along operand = record { operation = op; along = along; operand = operand }

-- by what a body moves an instance, if it does
abbrev pub moved_of : Body → Option Moved
moved_of (Instance (instance_exp.Delta along spot)) = Some (moved_by operation.Delta along.name spot.name)
moved_of (Instance (instance_exp.Sigma along spot)) = Some (moved_by operation.Sigma along.name spot.name)
moved_of (Instance (instance_exp.Eval along spot)) = Some (moved_by operation.Eval along.name spot.name)
moved_of (Instance (instance_exp.Coeval along spot)) = Some (moved_by operation.Coeval along.name spot.name)
moved_of _ = None

abbrev pub same_operation : Operation → Operation → Bool
same_operation operation.Sigma operation.Sigma = true
same_operation operation.Delta operation.Delta = true
same_operation operation.Eval operation.Eval = true
same_operation operation.Coeval operation.Coeval = true
same_operation _ _ = false

-- the operation that goes the other way along the same mapping or query
abbrev pub back : Operation → Operation
back operation.Sigma = operation.Delta
back operation.Delta = operation.Sigma
back operation.Eval = operation.Coeval
back operation.Coeval = operation.Eval

-- sigma and coeval, from which units go; from delta and eval go counits
abbrev pub is_left : Operation → Bool
is_left operation.Sigma = true
is_left operation.Delta = false
is_left operation.Eval = false
is_left operation.Coeval = true
