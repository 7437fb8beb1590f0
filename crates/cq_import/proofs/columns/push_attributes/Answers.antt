use Rattle.std.proofs.Common.{[], ◌<◌, subst, sym}
use Rattle.cq_theory.specs.declared.schema.Edge.{Edge}
use Rattle.cq_import.specs.Columns.{IsGrouped, attribute_of}
use Rattle.cq_import.proofs.Grouping.{IsGrouped-more, IsGrouped-next}
use Rattle.cq_import.proofs.columns.push_attributes.Goals as goal

pub loop-number-preserved : goal.loop-number-preserved
loop-number-preserved c =
    let edge = c.index-edges-number.result in
    let source : edge.from < c.args.count =
    subst (λ (e : Edge). e.from < c.args.count) (sym c.index-edges-number.is) (c.requires.sources c.loop-number.number edge c.loop-number-test.true) in
    IsGrouped-more (λ _. []) attribute_of c.args.edges.now c.args.count c.loop-number.number c.loop-number.lists.items edge c.index_mut.result.now c.push.new.self
    c.loop-number-test.true c.index-edges-number.is source c.loop-number.invariant c.index_mut.ensures.value c.in_ok-push.ensures.items
