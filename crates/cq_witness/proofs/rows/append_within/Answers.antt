use Rattle.std.proofs.Common.{◌≡◌, refl, sym, subst, ◌∙◌}
use Rattle.std.specs.Prelude.{MatchOption}
use Rattle.cq_growth.specs.Counts.{IsMost}
use Rattle.cq_witness.specs.Rows.{most, empty}
use Rattle.cq_witness.proofs.Told.{two}
use Rattle.cq_witness.proofs.rows.append_within.Goals as goal

pub returns-in_default : goal.returns-in_default
returns-in_default c =
    let m = c.args.within.now.rows.tables in
    let n = c.entity_count-entities.result in
    let none = subst (λ o. MatchOption o (n ≡ 0) (IsMost m n)) c.in_default.is c.in_ok-most.ensures in
    empty (sym c.entity_count-entities.ensures ∙ none) refl

pub returns : goal.returns
returns c =
    let m = c.args.within.now.rows.tables in
    let n = c.entity_count-entities.result in
    let found = subst (λ o. MatchOption o (n ≡ 0) (IsMost m n)) c.in-Some.is c.in_ok-most.ensures in
    most c.in-Some.most (subst (λ k. IsMost m k c.in-Some.most) c.entity_count-entities.ensures found)
    (two _ _ _ _ _ c.in_ok-append_most.ensures c.in_ok-append_wide.ensures)
