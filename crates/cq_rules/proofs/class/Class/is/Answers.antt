use Rattle.std.proofs.Common.{refl}
use Rattle.cq_rules.proofs.Tags.{tag-code}
use Rattle.cq_rules.proofs.class.Class.is.Goals as goal

pub returns : goal.returns
returns c = rw (tag-code c.args.self, tag-code c.args.other) refl
