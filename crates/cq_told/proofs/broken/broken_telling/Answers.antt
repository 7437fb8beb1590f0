use Rattle.cq_told.proofs.Claims.{has_derived, placed}
use Rattle.cq_told.proofs.broken.broken_telling.Goals as goal

pub returns-clause-place : goal.returns-clause-place
returns-clause-place g c =
    placed c.args.case.book.page.tokens.now c.args.reason.now c.args.case.place c.shown_place-place.result c.in_ok-unknown.unknown
    c.in_ok-unknown.ensures.reason c.in_ok-unknown.ensures.place c.shown_place-place.ensures

pub returns-clause-derived : goal.returns-clause-derived
returns-clause-derived g c =
    has_derived c.args.reason.now c.in_ok-words.words.items c.in_ok-front.front.items c.as_slice-2.result.now c.as_slice-3.result.now
    c.in_ok-details.details.items c.in_ok-words.ensures c.as_slice-2.ensures.value c.in_ok-details.ensures.derived
