use Rattle.std.proofs.Common.{ℕ, ◌≡◌, ◌<◌, Some}
use Rattle.std.specs.Prelude.{slice_get}
use Rattle.cq_check.proofs.mappings.places_below.Given as goal

abbrev pub invariant-loop-count : goal.invariant-loop-count
invariant-loop-count l = (r place : ℕ) → r < l.count → slice_get l.places r ≡ Some place → place < l.bound
