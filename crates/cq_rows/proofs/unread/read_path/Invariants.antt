use Rattle.std.proofs.Common.{ℕ, ◌≡◌, ◌<◌, false, length, Some}
use Rattle.std.specs.Prelude.{slice_get}
use Rattle.cq_rows.specs.Unread.{is_free}
use Rattle.cq_rows.proofs.unread.read_path.Given as goal

abbrev pub invariant-loop-key : goal.invariant-loop-key
invariant-loop-key l = record {
  none : (i k : ℕ) → i < l.key-index → slice_get l.path i ≡ Some k → is_free l.free k ≡ false;
  kept : (k : ℕ) → is_free l.fn.free k ≡ false → is_free l.free k ≡ false;
  len : length l.free ≡ length l.fn.free;
}
