use Rattle.std.proofs.Common.{refl, subst}
use Rattle.std.specs.Prelude.{MatchOption}
use Rattle.cq_growth.specs.News.{IsNew}
use Rattle.cq_rows.specs.Rows.{AllFilled}
use Rattle.cq_witness.specs.Depth.{open_at, closed, wide}
use Rattle.cq_witness.proofs.depth.append_depth.Goals as goal

pub returns-in-Err-TooManyRows : goal.returns-in-Err-TooManyRows
returns-in-Err-TooManyRows c = wide (c.in-Err-TooManyRows.ensures.many (cc)) refl

pub returns-in_default : goal.returns-in_default
returns-in_default c =
    let p = c.in-Ok.rows in
    let filled = subst (λ o. MatchOption o (AllFilled p.tables) (IsNew c.args.schema.now c.args.presentation.now c.args.depth)) c.in_default.is c.in_ok-term.ensures in
    closed p c.in-Ok.ensures.made filled refl

pub returns : goal.returns
returns c =
    let p = c.in-Ok.rows in
    let new = subst (λ o. MatchOption o (AllFilled p.tables) (IsNew c.args.schema.now c.args.presentation.now c.args.depth)) c.in-Some.is c.in_ok-term.ensures in
    let told = c.in_ok-append_term.ensures in
    open_at c.in-Some.term told.0 new told.1 told.2
