use Rattle.std.proofs.Common.{◌<◌, subst, sym}
use Rattle.cq_theory.specs.declared.schema.Edge.{Edge}
use Rattle.cq_text.proofs.Groups.{IsGrouped-more}
use Rattle.cq_text.proofs.edges.group_by_source.Goals as goal

pub loop-number-preserved : goal.loop-number-preserved
loop-number-preserved c =
    let edge = c.index-edges-number.result in
    let source : edge.from < c.args.entities =
    subst (λ (e : Edge). e.from < c.args.entities) (sym c.index-edges-number.is) (c.requires.sources c.loop-number.number edge c.loop-number-test.true) in
    IsGrouped-more c.args.edges.now c.args.entities c.loop-number.number c.loop-number.groups.items edge c.index_mut.result.now c.push.new.self
    c.loop-number-test.true c.index-edges-number.is source c.loop-number.invariant c.index_mut.ensures.value c.in_ok-push.ensures.items
