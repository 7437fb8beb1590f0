use Rattle.std.proofs.Common.{◌≤◌, sym, subst}
use Rattle.cq_colimit.proofs.Numbering.{first_not_behind}
use Rattle.cq_colimit.proofs.Least.{one_with_first, same_first}
use Rattle.cq_colimit.proofs.laws.first_members.Goals as goal

pub returns-clause-member : goal.returns-clause-member
returns-clause-member c = one_with_first

pub returns-clause-first : goal.returns-clause-first
returns-clause-first c = λ links x y h. subst (λ z. z ≤ y) (sym (same_first links h)) (first_not_behind links y)
