use Rattle.std.proofs.Common.{ap, ◌∙◌}
use Rattle.std.proofs.lemmas.Option.{get_or_from_slice_get}
use Rattle.cq_eval.specs.Testing.{holds_at}
use Rattle.cq_eval.proofs.joining.Join.is_met.Goals as goal

pub returns : goal.returns
returns c = λ e at.
    c.in_ok-met.ensures
    ∙ ap (holds_at c.args.self.now.instance.now.tables c.args.choice.now) (get_or_from_slice_get c.args.self.now.tests.now c.args.place e c.index-self-place.result at)
