use Rattle.std.proofs.Common.{◌<◌, ◌≤◌, length, refl, arith}
use Rattle.cq_theory.specs.declared.schema.PathEq.{PathEq}
use Rattle.cq_theory.proofs.PartLoops.{map_more, map_whole}
use Rattle.cq_theory.proofs.beginnings.path_eq_sources.Goals as goal

pub loop-path_eq-init : goal.loop-path_eq-init
loop-path_eq-init c = c.new-sources.ensures.items

pub loop-path_eq-preserved : goal.loop-path_eq-preserved
loop-path_eq-preserved c =
    let within : c.loop-path_eq.path_eq-index < length c.args.path_eqs.now = omega arith in
    map_more (λ (e : PathEq). e.entity) c.args.path_eqs.now c.loop-path_eq.path_eq-index c.path_eq-item.result c.loop-path_eq.sources.items c.push.new.self.items _ within c.path_eq-item.is c.loop-path_eq.invariant refl c.in_ok-push.ensures.items

pub returns : goal.returns
returns c =
    let end : length c.args.path_eqs.now ≤ c.loop-path_eq.path_eq-index = omega arith in
    map_whole (λ (e : PathEq). e.entity) c.args.path_eqs.now c.loop-path_eq.path_eq-index _ end c.loop-path_eq.invariant
