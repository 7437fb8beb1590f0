use Rattle.std.proofs.Common.{ℕ, ◌<◌, ◌≤◌, length, get_or}
use Rattle.cq_growth.proofs.counts.greatest.Given as goal

abbrev pub invariant-loop-place : goal.invariant-loop-place
invariant-loop-place l = (l.best < length l.numbers) × ((n : ℕ) → n < l.place → get_or l.numbers n 0 ≤ get_or l.numbers l.best 0)
