use Rattle.std.proofs.Common.{refl, subst}
use Rattle.cq_growth.specs.Limits.{TellsGrowth}
use Rattle.cq_witness.specs.Rows.{at_once, kept, later, passed}
use Rattle.cq_witness.proofs.rows.append_rows.Goals as goal

pub returns-in-Kept : goal.returns-in-Kept
returns-in-Kept c =
    let rows = subst (TellsGrowth c.args.schema.now c.args.presentation.now c.args.depth) c.in-Kept.is c.in_ok-grown.ensures in
    kept rows.0 rows.1 refl

pub append_within-requires : goal.append_within-requires
append_within-requires c =
    let last = subst (TellsGrowth c.args.schema.now c.args.presentation.now c.args.depth) c.in-Passed.is c.in_ok-grown.ensures in
    record { whole = last.rows.whole; entities = last.rows.entities }

pub returns-in-Passed : goal.returns-in-Passed
returns-in-Passed c =
    let last = subst (TellsGrowth c.args.schema.now c.args.presentation.now c.args.depth) c.in-Passed.is c.in_ok-grown.ensures in
    passed c.in-Passed.within last c.in_ok-append_within-in-Passed.ensures

pub append_within-requires-in-Later : goal.append_within-requires-in-Later
append_within-requires-in-Later c =
    let last = subst (TellsGrowth c.args.schema.now c.args.presentation.now c.args.depth) c.in-Later.is c.in_ok-grown.ensures in
    record { whole = last.rows.whole; entities = last.rows.entities }

pub returns-in-Later : goal.returns-in-Later
returns-in-Later c =
    let last = subst (TellsGrowth c.args.schema.now c.args.presentation.now c.args.depth) c.in-Later.is c.in_ok-grown.ensures in
    later c.in-Later.within last c.in_ok-append_within-in-Later.ensures

pub returns : goal.returns
returns c =
    let wide = subst (TellsGrowth c.args.schema.now c.args.presentation.now c.args.depth) c.in-AtOnce.is c.in_ok-grown.ensures in
    at_once wide c.in_ok-append_phrase-in-AtOnce.ensures
