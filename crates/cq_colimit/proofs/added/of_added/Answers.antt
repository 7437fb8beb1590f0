use Rattle.std.proofs.Common.{◌+◌, ◌∙◌}
use Rattle.cq_colimit.proofs.Renumbering.{told_at}
use Rattle.cq_colimit.proofs.added.of_added.Goals as goal

pub returns-clause-paths : goal.returns-clause-paths
returns-clause-paths c = λ k rule is below fits.
    c.with_number.ensures ∙ told_at (c.args.before + k) c.place_of-number.result (c.args.first + k) c.args.refusal rule is
    (λ e. c.place_of-number.ensures.paths k (c.number_of.ensures ∙ e) below fits)

pub returns-clause-observations : goal.returns-clause-observations
returns-clause-observations c = λ k rule is fits.
    c.with_number.ensures ∙ told_at (c.args.before + c.args.paths + c.args.attributes + k) c.place_of-number.result (c.args.first + c.args.paths + k) c.args.refusal rule is
    (λ e. c.place_of-number.ensures.observations k (c.number_of.ensures ∙ e) fits)
