use Rattle.std.proofs.Common.{◌≡◌, ◌+◌, ◌++◌, Bor, List, ℕ, ap, sym, ◌∙◌, drop, map}
use Rattle.cq_sentences.proofs.Pieces.{left_filled, next_text, piece_filled}
use Rattle.cq_sentences.proofs.filling.append_byte.Goals as goal

pub returns-in_ok-extend_from_slice-in-Some-clause-piece :
    goal.returns-in_ok-extend_from_slice-in-Some-clause-piece
returns-in_ok-extend_from_slice-in-Some-clause-piece c =
    let found = c.in-Some.ensures.lookup in
    let texts : List (List ℕ) = map (λ (t : Bor (List ℕ)). t.now) c.args.texts.now in
    let next = next_text c.args.texts.now c.args.used c.in-Some.text.now found.3.0 (found.3.1 c.in-Some.text.now) in
    c.in_ok-extend_from_slice-in-Some.ensures.items
    ∙ ap (λ (t : List ℕ). c.args.out.now.items ++ t) (sym (piece_filled c.args.byte (drop c.args.used texts) (drop (c.args.used + 1) texts) c.in-Some.text.now.now c.if-byte-ne35.false next))

pub returns-in_ok-extend_from_slice-in-Some-clause-left :
    goal.returns-in_ok-extend_from_slice-in-Some-clause-left
returns-in_ok-extend_from_slice-in-Some-clause-left c =
    let found = c.in-Some.ensures.lookup in
    let texts : List (List ℕ) = map (λ (t : Bor (List ℕ)). t.now) c.args.texts.now in
    let next = next_text c.args.texts.now c.args.used c.in-Some.text.now found.3.0 (found.3.1 c.in-Some.text.now) in
    sym (left_filled c.args.byte (drop c.args.used texts) (drop (c.args.used + 1) texts) c.in-Some.text.now.now c.if-byte-ne35.false next)
