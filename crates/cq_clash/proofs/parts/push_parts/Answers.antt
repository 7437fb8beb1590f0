use Rattle.cq_clash.proofs.Telling.{told_over}
use Rattle.cq_clash.proofs.parts.push_parts.Goals as goal

pub returns-clause-told : goal.returns-clause-told
returns-clause-told g c = told_over _ _ _ _ _ _ c.push_conflict.result c.push_conflict.ensures.told
