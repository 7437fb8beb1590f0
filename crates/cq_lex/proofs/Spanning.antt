-- Where the spans of tokens lie, and where their list ends.
use Rattle.std.proofs.Common.{◌≡◌, ℕ, ◌+◌, ◌≤◌, List, [], ◌∷◌, ◌++◌, length, take, drop, refl, sym, ap, ◌∙◌, append_assoc, arith, ◌<◌}
use Rattle.std.proofs.lemmas.List.{length-append}
use Rattle.std.proofs.lemmas.List.Elements.{All-cons, All-nil}
use Rattle.std.proofs.Math.Seq.{take-append_seam, drop-append_seam, drop-append-add}
use Rattle.std.proofs.Math.Nat.{add-sub_cancel_left}
use Rattle.std.specs.Prelude.{◌≢◌, All, slice_range}
use Rattle.cq_lex.specs.declared.token.Token.{Token}
use Rattle.cq_lex.specs.declared.token.Kind.{Kind}
use Rattle.cq_lex.specs.declared.token.Kind.TheVariants as kinds
use Rattle.cq_lex.specs.declared.token.Mark.{Mark}
use Rattle.cq_lex.specs.declared.token.Mark.TheVariants as marks
use Rattle.cq_lex.specs.Bytes.{mark_bytes}
use Rattle.cq_lex.specs.Place.{place_behind}
use Rattle.cq_lex.specs.Spans.{InOrder, EndsOnce, IsSpelled, StandsIn}
use Rattle.cq_lex.specs.Tokens.{Spells, token_behind, Lexes, ends, gap, token}

from_earlier : (n m : ℕ) (ts : List Token) → n ≤ m → InOrder m ts → InOrder n ts
from_earlier n m [] le h = tt
from_earlier n m (t ∷ ts) le h = (omega arith, h.1, h.2)

pub in_order : {before bs : List ℕ} {ts : List Token} → Lexes before bs ts → InOrder (length before) ts
in_order ends = (omega arith, omega arith, tt)
in_order (gap {before} {gap = g} {tokens} split is x) =
    from_earlier (length before) (length (before ++ g)) tokens (omega (arith, length-append before g)) (in_order x)
in_order (token {before} {tokens} kind spelled split is x) =
    (omega arith, omega arith, from_earlier (length before + length spelled) (length (before ++ spelled)) tokens (omega (arith, length-append before spelled)) (in_order x))

no_end : (kind : Kind) (spelled after : List ℕ) → Spells kind spelled after → kind ≢ kinds.End
no_end (kinds.Word name) spelled after h e = cc
no_end (kinds.Text text) spelled after h e = cc
no_end (kinds.Mark mark) spelled after h e = cc
no_end kinds.End spelled after h e = h

one_more : (t : Token) (ts : List Token) → t.kind ≢ kinds.End → EndsOnce ts → EndsOnce (t ∷ ts)
one_more t ts differs h = record {
  front = t ∷ h.front;
  last = h.last;
  split = ap (λ z. t ∷ z) h.split;
  is_end = h.is_end;
  others = All-cons (λ u. u.kind ≢ kinds.End) t h.front differs h.others;
}

pub ends_once : {before bs : List ℕ} {ts : List Token} → Lexes before bs ts → EndsOnce ts
ends_once (ends {before}) = record { front = []; last = token_behind before kinds.End []; split = refl; is_end = refl; others = All-nil (λ u. u.kind ≢ kinds.End) }
ends_once (gap split is x) = ends_once x
ends_once (token {before} {after} {tokens} kind spelled split is x) = one_more (token_behind before kind spelled) tokens (no_end kind spelled after is) (ends_once x)

is_spelled : (kind : Kind) (spelled after : List ℕ) → Spells kind spelled after → IsSpelled kind spelled after
is_spelled (kinds.Word name) spelled after h = h
is_spelled (kinds.Text text) spelled after h = h
is_spelled (kinds.Mark mark) spelled after h = h
is_spelled kinds.End spelled after h = absurd h

stands_in : (before spelled after whole : List ℕ) (kind : Kind) → whole ≡ before ++ (spelled ++ after) → IsSpelled kind spelled after → StandsIn whole (token_behind before kind spelled)
stands_in before spelled after whole kind e h =
    let front : take (length before) whole ≡ before = rw e (take-append_seam before (spelled ++ after)) in
    let rest : drop (length before) whole ≡ spelled ++ after = rw e (drop-append_seam before (spelled ++ after)) in
    let span : slice_range whole (length before) (length before + length spelled) ≡ spelled = rw (rest, add-sub_cancel_left (length before) (length spelled)) (take-append_seam spelled after) in
    let back : drop (length before + length spelled) whole ≡ after = rw (e, drop-append-add before (spelled ++ after) (length spelled)) (drop-append_seam spelled after) in
    record { place = ap place_behind (sym front); spelled = rw (span, back) h }

pub stand_in : (whole : List ℕ) {before bs : List ℕ} {ts : List Token} → Lexes before bs ts → whole ≡ before ++ bs → All (StandsIn whole) ts
stand_in whole (ends {before}) e =
    All-cons (StandsIn whole) (token_behind before kinds.End []) [] (stands_in before [] [] whole kinds.End e (refl, refl)) (All-nil (StandsIn whole))
stand_in whole (gap {before} {gap = g} {after} split is x) e =
    stand_in whole x (e ∙ ap (λ z. before ++ z) split ∙ sym (append_assoc before g after))
stand_in whole (token {before} {after} {tokens} kind spelled split is x) e =
    let parts : whole ≡ before ++ (spelled ++ after) = e ∙ ap (λ z. before ++ z) split in
    All-cons (StandsIn whole) (token_behind before kind spelled) tokens (stands_in before spelled after whole kind parts (is_spelled kind spelled after is)) (stand_in whole x (parts ∙ sym (append_assoc before spelled after)))

some_spelled : (kind : Kind) (spelled after : List ℕ) → Spells kind spelled after → 0 < length spelled
some_spelled (kinds.Word name) spelled after (same, some, run, short) = rw same some
some_spelled (kinds.Text text) spelled after (written, same, w, utf8, short) = rw same (omega arith)
some_spelled (kinds.Mark mark) spelled after same = rw same (mark_some mark)
  where
    mark_some : (mark : Mark) → 0 < length (mark_bytes mark)
    mark_some marks.LeftBrace = omega arith
    mark_some marks.RightBrace = omega arith
    mark_some marks.LeftParen = omega arith
    mark_some marks.RightParen = omega arith
    mark_some marks.LeftBracket = omega arith
    mark_some marks.RightBracket = omega arith
    mark_some marks.Colon = omega arith
    mark_some marks.Semicolon = omega arith
    mark_some marks.Comma = omega arith
    mark_some marks.Dot = omega arith
    mark_some marks.Equals = omega arith
    mark_some marks.Plus = omega arith
    mark_some marks.Arrow = omega arith
some_spelled kinds.End spelled after h = absurd h

-- each token but the End has a byte of its own
pub few : {before bs : List ℕ} {ts : List Token} → Lexes before bs ts → length ts ≤ length bs + 1
few ends = omega arith
few (gap {gap = g} {after} split is x) = let len = ap length split ∙ length-append g after in omega (arith, few x)
few (token {after} kind spelled split is x) =
    let len = ap length split ∙ length-append spelled after in
    omega (arith, few x, some_spelled kind spelled after is)
