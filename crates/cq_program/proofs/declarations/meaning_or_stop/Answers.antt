use Rattle.std.proofs.Common.{map}
use Rattle.cq_environment.specs.Environment.{environment_of}
use Rattle.cq_program.specs.Named.{listed_as}
use Rattle.cq_program.proofs.Initials.{are_initial}
use Rattle.cq_program.proofs.declarations.meaning_or_stop.Goals as goal

pub returns-clause-initial : goal.returns-clause-initial
returns-clause-initial g c =
    are_initial (environment_of c.in_ok-env.env.names.entries) (map listed_as c.in_ok-named.named.items) c.in_ok-env.ensures.settled c.in_ok-named.ensures
