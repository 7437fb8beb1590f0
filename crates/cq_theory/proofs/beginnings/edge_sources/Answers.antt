use Rattle.std.proofs.Common.{◌<◌, ◌≤◌, length, refl, arith}
use Rattle.cq_theory.specs.declared.schema.Edge.{Edge}
use Rattle.cq_theory.proofs.PartLoops.{map_more, map_whole}
use Rattle.cq_theory.proofs.beginnings.edge_sources.Goals as goal

pub loop-edge-init : goal.loop-edge-init
loop-edge-init c = c.new-sources.ensures.items

pub loop-edge-preserved : goal.loop-edge-preserved
loop-edge-preserved c =
    let within : c.loop-edge.edge-index < length c.args.edges.now = omega arith in
    map_more (λ (e : Edge). e.from) c.args.edges.now c.loop-edge.edge-index c.edge-item.result c.loop-edge.sources.items c.push.new.self.items _ within c.edge-item.is c.loop-edge.invariant refl c.in_ok-push.ensures.items

pub returns : goal.returns
returns c =
    let end : length c.args.edges.now ≤ c.loop-edge.edge-index = omega arith in
    map_whole (λ (e : Edge). e.from) c.args.edges.now c.loop-edge.edge-index _ end c.loop-edge.invariant
