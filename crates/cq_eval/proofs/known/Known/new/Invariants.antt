use Rattle.std.proofs.Common.{ℕ, Some, ◌≡◌}
use Rattle.std.specs.Prelude.{slice_get}
use Rattle.cq_eval.specs.declared.known.Stretch.{Stretch}
use Rattle.cq_eval.proofs.known.Known.new.Given as goal

abbrev pub invariant-loop-border : goal.invariant-loop-border
invariant-loop-border l = (bound : ℕ) (stretch : Stretch) → slice_get l.noted.items bound ≡ Some (Some stretch) → ⊥
