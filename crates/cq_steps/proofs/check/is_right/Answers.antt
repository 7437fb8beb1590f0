use Rattle.cq_steps.proofs.Deciding.{by_observation}
use Rattle.cq_steps.proofs.check.is_right.Goals as goal

pub returns-in_ok-is_obs_at-in-Obs : goal.returns-in_ok-is_obs_at-in-Obs
returns-in_ok-is_obs_at-in-Obs c =
    by_observation c.args.schema.now c.args.presentation.now c.args.earlier.now c.args.step.now c.in-Obs.number c.in-Obs.at c.in_ok-is_obs_at-in-Obs.field-0 c.is_empty-in-Obs.result c.as_slice-from.result.now
    c.in-Obs.is c.as_slice-from.ensures c.is_empty-in-Obs.ensures c.if-is_empty-4.true c.in_ok-is_obs_at-in-Obs.ensures
