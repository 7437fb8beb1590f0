use Rattle.std.proofs.Common.{List, ℕ, set, ap, ◌∙◌}
use Rattle.cq_eval.proofs.Chosen.{set_stand, set_chosen}
use Rattle.cq_eval.proofs.choice.Choice.set.Goals as goal

pub invariant_of-self : goal.invariant_of-self
invariant_of-self c = set_stand c.self.inside.standings.items c.args.variable c.args.row c.self.invariant

pub returns : goal.returns
returns c = set_chosen c.self.inside.standings.items c.args.variable c.args.row ∙ ap (λ (l : List ℕ). set l c.args.variable c.args.row) c.self.view_is
