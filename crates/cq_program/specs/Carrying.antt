-- A transform that is moved, and the instances about it, as the definitions see them.
use Rattle.cq_program.specs.declared.movements.carrying.Carrying.{Carrying}
use Rattle.cq_program.specs.Posing.{Carried}

abbrev pub carried_as : Carrying → Carried
carried_as c = record {
  moved = c.moved.now;
  source = c.source.now;
  target = c.target.now;
  start = c.start.now;
  finish = c.finish.now;
}
