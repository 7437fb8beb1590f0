use Rattle.std.proofs.Common.{ℕ, ◌≡◌, ◌<◌, false, length, Some}
use Rattle.std.specs.Prelude.{slice_get}
use Rattle.cq_rows.specs.Theory.{Rule}
use Rattle.cq_rows.specs.Unread.{is_free, HasNone}
use Rattle.cq_rows.proofs.unread.read_rules.Given as goal

abbrev pub invariant-loop-rule : goal.invariant-loop-rule
invariant-loop-rule l = record {
  none : (i : ℕ) (r : Rule) → i < l.rule-index → slice_get l.schema.path_eqs i ≡ Some r → HasNone l.free r.left × HasNone l.free r.right;
  kept : (k : ℕ) → is_free l.fn.free k ≡ false → is_free l.free k ≡ false;
  len : length l.free ≡ length l.fn.free;
}
