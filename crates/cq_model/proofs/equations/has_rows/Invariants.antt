use Rattle.std.proofs.Common.{ℕ, [], ◌≡◌, ◌<◌, slice_index_or}
use Rattle.cq_model.proofs.equations.has_rows.Given as goal

abbrev pub invariant-loop-rows : goal.invariant-loop-rows
invariant-loop-rows l = (e : ℕ) → e < l.rows-index → slice_index_or l.order e [] ≡ []
