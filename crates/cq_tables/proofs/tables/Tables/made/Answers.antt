use Rattle.std.proofs.Common.{arith}
use Rattle.std.proofs.lemmas.Grind.{common_steps}
use Rattle.cq_tables.specs.Content.{made_of}
use Rattle.cq_tables.proofs.tables.Tables.made.Goals as goal

pub returns : goal.returns
unfolding made_of
returns c = rw (← c.self.view_is) (grind (arith, common_steps))
