use Rattle.cq_eval.proofs.Noted.{noted_at}
use Rattle.cq_eval.proofs.known.Known.set.Goals as goal

pub returns-then-bound-len-clause-noted : goal.returns-then-bound-len-clause-noted
returns-then-bound-len-clause-noted c = λ place other at. noted_at c.args.self.now.noted.items c.args.bound place c.args.stretch other at
