use Rattle.std.proofs.Common.{◌-◌, ◌≤◌, ap, map, arith}
use Rattle.std.specs.Prelude.{sum}
use Rattle.std.proofs.lemmas.Result.{MatchResult-weaker}
use Rattle.cq_cells.specs.declared.index.Indexed.{Indexed}
use Rattle.cq_cells.proofs.Listing.{lists_same}
use Rattle.cq_cells.proofs.Whole.{contents_few, contents_large}
use Rattle.cq_cells.proofs.folder.check_cells.Goals as goal

pub returns-in_default : goal.returns-in_default
returns-in_default c =
    let S = c.args.schema.now in
    let R = c.args.readings.now in
    let made = c.args.indexed.now in
    let indexed = c.requires.indexed in
    MatchResult-weaker c.too_large.result c.too_large.ensures
    (λ list lists. lists_same c.args.faults list _ _ (λ name. contents_large name S R made c.requires.readings indexed c.in_default.ensures) lists) (λ e ok. ok)

pub returns : goal.returns
returns c =
    let S = c.args.schema.now in
    let R = c.args.readings.now in
    let made = c.args.indexed.now in
    let indexed = c.requires.indexed in
    let few : sum (map (λ (i : Indexed). i.count) made) ≤ 16000000 = omega (arith, c.in-Some.ensures.0, c.in-Some.ensures.1) in
    MatchResult-weaker c.check_over.result c.check_over.ensures
    (λ list lists. lists_same c.args.faults list _ _
    (λ name. contents_few name S R made c.requires.readings indexed (16000000 - c.in-Some.total) few (ap (λ n. 16000000 - n) c.in-Some.ensures.0)) lists) (λ e ok. ok)
