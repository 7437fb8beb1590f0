use Rattle.std.proofs.Common.{ℕ, ◌≡◌, ◌<◌, false, length, map, Some}
use Rattle.std.specs.Prelude.{slice_get}
use Rattle.cq_rows.specs.Plain.{entity_sides}
use Rattle.cq_rows.specs.Theory.{Term}
use Rattle.cq_rows.specs.Unread.{is_free, HasNone}
use Rattle.cq_rows.proofs.unread.read_given.Given as goal

abbrev pub invariant-loop-equation : goal.invariant-loop-equation
invariant-loop-equation l = record {
  none : (i : ℕ) (t u : Term) → i < l.equation-index → slice_get (map entity_sides l.presentation.equations) i ≡ Some (Some (t, u)) → HasNone l.free t.path × HasNone l.free u.path;
  kept : (k : ℕ) → is_free l.fn.free k ≡ false → is_free l.free k ≡ false;
  len : length l.free ≡ length l.fn.free;
}
