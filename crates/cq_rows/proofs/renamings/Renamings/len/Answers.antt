use Rattle.std.proofs.Common.{arith}
use Rattle.std.proofs.lemmas.Grind.{common_steps}
use Rattle.cq_rows.proofs.Renamed.{length-renamed_by}
use Rattle.cq_rows.proofs.renamings.Renamings.len.Goals as goal

pub returns : goal.returns
returns c = rw (← c.self.view_is, length-renamed_by c.self.inside.parent.items c.self.inside.at.items) (grind (arith, common_steps))
