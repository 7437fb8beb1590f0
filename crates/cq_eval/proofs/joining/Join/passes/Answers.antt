use Rattle.cq_eval.proofs.Staged.{met_more, all_met, one_not, place_within}
use Rattle.cq_eval.proofs.joining.Join.passes.Goals as goal

pub is_met-requires-clause-place : goal.is_met-requires-clause-place
is_met-requires-clause-place c =
    place_within c.args.self.now.instance.now.tables c.args.self.now.tests.now c.args.self.now.counts c.args.self.now.groups c.requires.join.staged c.args.bound c.requires.bound
    c.tested-places.result.now c.tested-places.ensures c.loop-place.place-index c.loop-place-test.true

pub loop-place-preserved : goal.loop-place-preserved
loop-place-preserved c =
    met_more c.args.self.now.instance.now.tables c.args.self.now.tests.now c.args.choice.now c.tested-places.result.now c.loop-place.place-index c.in_ok-is_met.field-0 c.loop-place.invariant
    c.in_ok-is_met.ensures c.if-not-branch.false

pub returns-then-not-branch : goal.returns-then-not-branch
returns-then-not-branch c =
    one_not c.args.self.now.instance.now.tables c.args.self.now.tests.now c.args.self.now.counts c.args.self.now.groups c.requires.join.staged c.args.bound c.requires.bound
    c.args.choice.now c.tested-places.result.now c.tested-places.ensures c.loop-place.place-index c.loop-place-test.true c.in_ok-is_met.field-0 c.in_ok-is_met.ensures c.if-not-branch.true

pub returns : goal.returns
returns c =
    all_met c.args.self.now.instance.now.tables c.args.self.now.tests.now c.args.self.now.counts c.args.self.now.groups c.requires.join.staged c.args.bound c.requires.bound
    c.args.choice.now c.tested-places.result.now c.tested-places.ensures c.loop-place.place-index c.loop-place-test.false c.loop-place.invariant
