use Rattle.std.proofs.Common.{◌≡◌, map, take}
use Rattle.cq_check.specs.declared.asking.Asked.TheVariants.{Answered}
use Rattle.cq_check.proofs.closing.answered.Given as goal

abbrev pub invariant-loop-one : goal.invariant-loop-one
invariant-loop-one l = map Answered l.answers.items ≡ take l.one-index l.asked
