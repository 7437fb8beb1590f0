use Rattle.std.proofs.Common.{sym, ap, ◌∙◌, false, refl}
use Rattle.cq_lex.specs.Front as found
use Rattle.cq_lex.specs.Front.{behind}
use Rattle.cq_lex.proofs.Contents.{closes, goes_on, breaks_off, is_wrong, escapes, runs_out, no_more, is_byte, is_other}
use Rattle.cq_lex.proofs.text.content.Goals as goal

pub returns-then-first-eq34 : goal.returns-then-first-eq34
returns-then-first-eq34 c =
    let so_far = c.bytes.invariant ∙ ap (λ z. behind c.bytes.content.items (found.content false z)) c.in-Some.ensures.cases.0 in
    closes _ c.bytes.content.items c.in-Some.first.now c.in-Some.after.now so_far (is_byte _ _ c.if-first-eq34.true)

pub bytes-preserved-then-first-ne92 : goal.bytes-preserved-then-first-ne92
bytes-preserved-then-first-ne92 c =
    let so_far = c.bytes.invariant ∙ ap (λ z. behind c.bytes.content.items (found.content false z)) c.in-Some.ensures.cases.0 in
    goes_on _ c.bytes.content.items c.in-Some.first.now c.in-Some.after.now so_far (is_other _ _ c.if-first-eq34.false) (is_other _ _ c.if-first-ne92.true) ∙ ap (λ z. behind z (found.content false c.in-Some.after.now)) (sym c.in_ok-push.ensures.items)

pub returns-in_default-split_first : goal.returns-in_default-split_first
returns-in_default-split_first c =
    let so_far = c.bytes.invariant ∙ ap (λ z. behind c.bytes.content.items (found.content false z)) c.in-Some.ensures.cases.0 in
    (breaks_off _ c.bytes.content.items c.in-Some.first.now c.in-Some.after.now so_far (is_other _ _ c.if-first-eq34.false) (is_byte _ _ c.if-first-ne92.false) (no_more _ c.in_default-split_first.ensures.cases), refl)

pub returns-in_default-unescape : goal.returns-in_default-unescape
returns-in_default-unescape c =
    let so_far = c.bytes.invariant ∙ ap (λ z. behind c.bytes.content.items (found.content false z)) c.in-Some.ensures.cases.0 in
    is_wrong _ c.bytes.content.items c.in-Some.first.now c.in-Some.after.now so_far c.in-Some-split_first.second.now c.in-Some-split_first.behind.now (is_other _ _ c.if-first-eq34.false) (is_byte _ _ c.if-first-ne92.false) c.in-Some-split_first.ensures.cases.0 (sym c.in_default-unescape.ensures)

pub bytes-preserved : goal.bytes-preserved
bytes-preserved c =
    let so_far = c.bytes.invariant ∙ ap (λ z. behind c.bytes.content.items (found.content false z)) c.in-Some.ensures.cases.0 in
    escapes _ c.bytes.content.items c.in-Some.first.now c.in-Some.after.now so_far c.in-Some-split_first.second.now c.in-Some-split_first.behind.now c.in-Some-unescape.byte (is_other _ _ c.if-first-eq34.false) (is_byte _ _ c.if-first-ne92.false) c.in-Some-split_first.ensures.cases.0 (sym c.in-Some-unescape.ensures) ∙ ap (λ z. behind z (found.content false c.in-Some-split_first.behind.now)) (sym c.in_ok-push-2.ensures.items)

pub returns : goal.returns
returns c = (runs_out _ c.bytes.content.items c.bytes.rest.now c.in_default.ensures.cases c.bytes.invariant, refl)
