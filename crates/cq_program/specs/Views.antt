-- Routes, movements, parts of colimits and operands that the code keeps, as the definitions see them.
use Rattle.std.specs.Prelude.{List, map}
use Rattle.cq_base.specs.declared.name.Name.{Name}
use Rattle.cq_base.specs.declared.place.Place.{Place}
use Rattle.cq_syntax.specs.declared.part.Spot.{Spot}
use Rattle.cq_environment.specs.Environment.{ends_meant, instance_meant, schema_meant, transform_meant}
use Rattle.cq_environment.specs.Meanings.{InstanceMeant, SchemaMeant}
use Rattle.cq_environment.specs.Routes.{Route, by_sigma, by_delta, by_eval, by_coeval}
use Rattle.cq_program.specs.declared.movements.stating.Route.{Route as TheRoute}
use Rattle.cq_program.specs.declared.movements.stating.Route.TheVariants as route
use Rattle.cq_program.specs.declared.movements.stating.NamedRoute.{NamedRoute}
use Rattle.cq_program.specs.declared.movements.stating.Movement.{Movement as TheMovement}
use Rattle.cq_program.specs.declared.movements.stating.Movement.TheVariants as movement
use Rattle.cq_program.specs.declared.movements.stating.Moving.{Moving}
use Rattle.cq_program.specs.declared.gluing.stating.Operand.{Operand}
use Rattle.cq_program.specs.declared.colimits.stating.UsedSchema.{UsedSchema}
use Rattle.cq_program.specs.Movements.{Movement, Move, moved_along, there_and_back}

abbrev pub route_meant : TheRoute → Route
route_meant (route.Sigma F) = by_sigma F.value
route_meant (route.Delta F) = by_delta F.value
route_meant (route.Eval Q) = by_eval Q.value
route_meant (route.Coeval Q) = by_coeval Q.value

abbrev pub named_route_meant : NamedRoute → Name × Route
named_route_meant named = (named.taken, route_meant named.route)

abbrev pub movement_meant : TheMovement → Movement
movement_meant (movement.Along r h) = moved_along (route_meant r) (transform_meant h)
movement_meant (movement.Around r x) = there_and_back (route_meant r) x.value

abbrev pub move_meant : Moving → Move
move_meant moving = record { ends = ends_meant moving.ends; movement = movement_meant moving.movement }

abbrev pub used_meant : UsedSchema → Spot × SchemaMeant
used_meant used = (record { place = used.place; name = used.name }, schema_meant used.part)

abbrev pub useds_meant : List UsedSchema → List (Spot × SchemaMeant)
useds_meant parts = map used_meant parts

abbrev pub operand_meant : Operand → Place × InstanceMeant
operand_meant operand = (operand.place, instance_meant operand.part)

abbrev pub operands_meant : List Operand → List (Place × InstanceMeant)
operands_meant operands = map operand_meant operands
