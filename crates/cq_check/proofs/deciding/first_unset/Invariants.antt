use Rattle.std.proofs.Common.{ℕ, ◌≡◌, ◌<◌, Some}
use Rattle.std.specs.Prelude.{slice_get, true}
use Rattle.cq_check.proofs.deciding.first_unset.Given as goal

abbrev pub invariant-loop-place : goal.invariant-loop-place
invariant-loop-place l = (n : ℕ) → n < l.place → slice_get l.flags n ≡ Some true
