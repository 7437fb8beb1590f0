use Rattle.std.proofs.Common.{◌≡◌, ℕ, ◌<◌, Some}
use Rattle.std.specs.Prelude.{slice_get}
use Rattle.cq_rows.specs.Rows.{RowFilled}
use Rattle.cq_growth.specs.declared.levels.Member.{Member}
use Rattle.cq_growth.proofs.news.open_member.Given as goal

abbrev pub invariant-loop-member : goal.invariant-loop-member
invariant-loop-member l = (n : ℕ) (x : Member) → n < l.member-index → slice_get l.members n ≡ Some x → RowFilled l.tables x.row
