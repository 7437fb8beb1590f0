use Rattle.std.proofs.Common.{take, IfSome}
use Rattle.std.specs.Prelude.{slice_index}
use Rattle.cq_eval.specs.Index.{IsCover}
use Rattle.cq_eval.proofs.joining.Join.candidates.Given as goal

abbrev pub invariant-loop-place : goal.invariant-loop-place
invariant-loop-place l = IfSome l.fewest (λ rows. IsCover l.self.instance.now.tables l.self.tests.now l.self.counts (take l.bound l.choice) (slice_index l.self.counts l.bound) rows.now)
