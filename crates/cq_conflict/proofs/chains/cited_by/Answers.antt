use Rattle.std.proofs.Common.{◌≡◌, [], arith}
use Rattle.std.proofs.lemmas.Grind.{common_steps}
use Rattle.cq_conflict.proofs.Seen.{waiting_end, waiting_more}
use Rattle.cq_conflict.proofs.chains.cited_by.Goals as goal

pub waiting-preserved : goal.waiting-preserved
waiting-preserved c =
    waiting_more c.args.steps.now c.waiting.cited.items c.cite.new.cited.items c.waiting.waiting.items c.pop.new.self.items c.args.step.now.from c.in-Some.number c.in-Some.ensures.items
    c.in_ok-cite.ensures.seen c.in_ok-cite.ensures.more c.waiting.invariant

pub returns : goal.returns
returns c =
    let none : c.waiting.waiting.items ≡ [] = grind (arith, common_steps) in
    waiting_end c.args.steps.now c.waiting.cited.items c.waiting.waiting.items c.args.step.now.from none c.waiting.invariant
