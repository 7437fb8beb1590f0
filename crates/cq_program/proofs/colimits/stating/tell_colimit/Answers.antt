use Rattle.std.proofs.Common.{ap}
use Rattle.cq_program.specs.Colimits.{colimit_breach}
use Rattle.cq_program.proofs.colimits.stating.tell_colimit.Goals as goal

pub returns-in-NameClash : goal.returns-in-NameClash
returns-in-NameClash c = ap (colimit_breach c.args.place c.args.places.now) c.in-NameClash.is
