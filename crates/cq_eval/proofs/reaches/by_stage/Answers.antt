use Rattle.std.proofs.Common.{length, ◌∙◌}
use Rattle.cq_eval.proofs.Staged.{stages_within}
use Rattle.cq_eval.proofs.reaches.by_stage.Goals as goal

pub grouped-requires : goal.grouped-requires
grouped-requires c = record {
  within = stages_within (length c.args.counts.now) c.args.tests.now c.as_slice.result.now (c.as_slice.ensures.value ∙ c.in_ok-stages.ensures);
}
