use Rattle.std.proofs.Common.{take}
use Rattle.std.specs.Prelude.{All}
use Rattle.cq_lazy.specs.Lengths.{AreWider, IsShortKey}
use Rattle.cq_lazy.proofs.lengths.widen_by_keys.Given as goal

abbrev pub invariant-loop-terms : goal.invariant-loop-terms
invariant-loop-terms l = AreWider l.fn.found l.wide × All (All (IsShortKey l.under l.wide)) (take l.terms-index l.keys)
