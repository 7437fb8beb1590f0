use Rattle.std.proofs.Common.{take}
use Rattle.std.specs.Prelude.{All}
use Rattle.cq_lazy.specs.Lengths.{AreWider, IsShortKey}
use Rattle.cq_lazy.proofs.lengths.widen_by_terms.Given as goal

abbrev pub invariant-loop-term : goal.invariant-loop-term
invariant-loop-term l = AreWider l.fn.found l.wide × All (IsShortKey l.under l.wide) (take l.term-index l.terms)
