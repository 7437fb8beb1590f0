use Rattle.std.proofs.Common.{◌+◌, arith}
use Rattle.cq_eval.proofs.Staged.{place_within}
use Rattle.cq_eval.proofs.joining.Join.candidates.Goals as goal

pub fewer-requires-clause-place : goal.fewer-requires-clause-place
fewer-requires-clause-place c =
    place_within c.args.self.now.instance.now.tables c.args.self.now.tests.now c.args.self.now.counts c.args.self.now.groups c.requires.join.staged (c.args.bound + 1) (omega (arith, c.requires.bound))
    c.tested-places.result.now c.tested-places.ensures c.loop-place.place-index c.loop-place-test.true
