use Rattle.std.proofs.Common.{subst}
use Rattle.std.specs.Prelude.{MatchOption}
use Rattle.cq_rows.specs.Saturated.{IsSaturated, SomeWide}
use Rattle.cq_growth.proofs.Growing.{tells_later}
use Rattle.cq_growth.specs.Limits.{IsSoFar}
use Rattle.cq_growth.proofs.limits.behind.Goals as goal

pub returns-in-Some-2 : goal.returns-in-Some-2
returns-in-Some-2 c = λ stage less so_far.
    let S = c.args.schema.now in
    let P = c.args.presentation.now in
    let depth = c.args.depth in
    let rows = subst (λ o. MatchOption o (SomeWide S P depth) (IsSaturated S P depth)) c.in-Some-2.is c.in_ok-rows_up_to.ensures in
    (_, rows)

pub returns-in-None : goal.returns-in-None
returns-in-None c = λ stage less so_far.
    let S = c.args.schema.now in
    let P = c.args.presentation.now in
    let depth = c.args.depth in
    let wide = subst (λ o. MatchOption o (SomeWide S P depth) (IsSaturated S P depth)) c.in-None.is c.in_ok-rows_up_to.ensures in
    tells_later S P depth stage c.in-Some.within less (subst (IsSoFar S P stage) c.in-Some.is so_far) wide
