use Rattle.std.proofs.Common.{◌<◌, ◌≤◌, length, refl, arith}
use Rattle.cq_theory.specs.declared.schema.ObsEq.{ObsEq}
use Rattle.cq_theory.proofs.PartLoops.{map_more, map_whole}
use Rattle.cq_theory.proofs.beginnings.obs_eq_sources.Goals as goal

pub loop-obs_eq-init : goal.loop-obs_eq-init
loop-obs_eq-init c = c.new-sources.ensures.items

pub loop-obs_eq-preserved : goal.loop-obs_eq-preserved
loop-obs_eq-preserved c =
    let within : c.loop-obs_eq.obs_eq-index < length c.args.obs_eqs.now = omega arith in
    map_more (λ (e : ObsEq). e.entity) c.args.obs_eqs.now c.loop-obs_eq.obs_eq-index c.obs_eq-item.result c.loop-obs_eq.sources.items c.push.new.self.items _ within c.obs_eq-item.is c.loop-obs_eq.invariant refl c.in_ok-push.ensures.items

pub returns : goal.returns
returns c =
    let end : length c.args.obs_eqs.now ≤ c.loop-obs_eq.obs_eq-index = omega arith in
    map_whole (λ (e : ObsEq). e.entity) c.args.obs_eqs.now c.loop-obs_eq.obs_eq-index _ end c.loop-obs_eq.invariant
