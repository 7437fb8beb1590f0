use Rattle.std.proofs.Common.{◌≡◌, refl, arith}
use Rattle.cq_lex.specs.Front.{Done, Gap, Next, front, passed}
use Rattle.cq_lex.proofs.Lexing.{one_list, gap_moves, token_moves, room, lies_in, is_refused, refused_only, refusal_only, not_both, place_moves, gap_tokens, token_tokens, end_tokens, gap_refusal, token_refusal, nothing_left, made_token, made_end}
use Rattle.cq_lex.proofs.Spanning.{stand_in, in_order, ends_once, few}
use Rattle.cq_lex.proofs.lexer.lex.Goals as goal

pub advance-place-requires-clause-col : goal.advance-place-requires-clause-col
advance-place-requires-clause-col c = (room c.args.bytes.now c.fronts.rest.now c.fronts.invariant.split c.fronts.place c.fronts.invariant.place c.requires).1

pub advance-place-requires-clause-inside : goal.advance-place-requires-clause-inside
advance-place-requires-clause-inside c =
    let e : front c.fronts.rest.now ≡ Gap c.in-Ok-Gap.after.now = rw c.in-Ok-Gap.field-0-is at c.in-Ok-Gap.ensures in
    let (s, m, is) = gap_moves c.args.bytes.now c.fronts.rest.now c.fronts.invariant.split c.in-Ok-Gap.after.now e in
    omega (arith, m.shorter)

pub fronts-smaller-in-Ok-Gap : goal.fronts-smaller-in-Ok-Gap
fronts-smaller-in-Ok-Gap c =
    let e : front c.fronts.rest.now ≡ Gap c.in-Ok-Gap.after.now = rw c.in-Ok-Gap.field-0-is at c.in-Ok-Gap.ensures in
    let (s, m, is) = gap_moves c.args.bytes.now c.fronts.rest.now c.fronts.invariant.split c.in-Ok-Gap.after.now e in
    m.shorter

pub fronts-preserved-in-Ok-Gap : goal.fronts-preserved-in-Ok-Gap
fronts-preserved-in-Ok-Gap c =
    let e : front c.fronts.rest.now ≡ Gap c.in-Ok-Gap.after.now = rw c.in-Ok-Gap.field-0-is at c.in-Ok-Gap.ensures in
    let (s, m, is) = gap_moves c.args.bytes.now c.fronts.rest.now c.fronts.invariant.split c.in-Ok-Gap.after.now e in
    record {
      split = m.whole;
      place = place_moves m c.fronts.invariant.place c.advance-place.result c.advance-place.ensures;
      tokens = gap_tokens c.args.bytes.now c.fronts.rest.now c.fronts.tokens.items c.fronts.invariant.tokens c.in-Ok-Gap.after.now s m is;
      refusal = gap_refusal c.args.bytes.now c.fronts.rest.now c.fronts.invariant.refusal c.in-Ok-Gap.after.now s m is;
    }

pub overflow_sub-to : goal.overflow_sub-to
overflow_sub-to c =
    let e : front c.fronts.rest.now ≡ Next c.in-Ok-Token.kind c.in-Ok-Token.after.now = rw c.in-Ok-Token.field-0-is at c.in-Ok-Token.ensures in
    let (s, m, is) = token_moves c.args.bytes.now c.fronts.rest.now c.fronts.invariant.split c.in-Ok-Token.kind c.in-Ok-Token.after.now e in
    omega (arith, m.shorter, m.within)

pub advance-place-requires-in-Ok-Token-clause-col : goal.advance-place-requires-in-Ok-Token-clause-col
advance-place-requires-in-Ok-Token-clause-col c = (room c.args.bytes.now c.fronts.rest.now c.fronts.invariant.split c.fronts.place c.fronts.invariant.place c.requires).1

pub advance-place-requires-in-Ok-Token-clause-inside : goal.advance-place-requires-in-Ok-Token-clause-inside
advance-place-requires-in-Ok-Token-clause-inside c =
    let e : front c.fronts.rest.now ≡ Next c.in-Ok-Token.kind c.in-Ok-Token.after.now = rw c.in-Ok-Token.field-0-is at c.in-Ok-Token.ensures in
    let (s, m, is) = token_moves c.args.bytes.now c.fronts.rest.now c.fronts.invariant.split c.in-Ok-Token.kind c.in-Ok-Token.after.now e in
    omega (arith, m.shorter)

pub fronts-smaller : goal.fronts-smaller
fronts-smaller c =
    let e : front c.fronts.rest.now ≡ Next c.in-Ok-Token.kind c.in-Ok-Token.after.now = rw c.in-Ok-Token.field-0-is at c.in-Ok-Token.ensures in
    let (s, m, is) = token_moves c.args.bytes.now c.fronts.rest.now c.fronts.invariant.split c.in-Ok-Token.kind c.in-Ok-Token.after.now e in
    m.shorter

pub fronts-preserved : goal.fronts-preserved
fronts-preserved c =
    let e : front c.fronts.rest.now ≡ Next c.in-Ok-Token.kind c.in-Ok-Token.after.now = rw c.in-Ok-Token.field-0-is at c.in-Ok-Token.ensures in
    let (s, m, is) = token_moves c.args.bytes.now c.fronts.rest.now c.fronts.invariant.split c.in-Ok-Token.kind c.in-Ok-Token.after.now e in
    record {
      split = m.whole;
      place = place_moves m c.fronts.invariant.place c.advance-place-in-Ok-Token.result c.advance-place-in-Ok-Token.ensures;
      tokens = token_tokens c.args.bytes.now c.fronts.rest.now c.fronts.tokens.items c.fronts.invariant.tokens c.in-Ok-Token.kind c.in-Ok-Token.after.now s m is _ _ c.in_ok-push-in-Ok-Token.ensures.items (made_token c.fronts.invariant.split m c.in-Ok-Token.kind _ _ _ refl refl c.fronts.invariant.place);
      refusal = token_refusal c.args.bytes.now c.fronts.rest.now c.fronts.invariant.refusal c.in-Ok-Token.kind c.in-Ok-Token.after.now s m is;
    }

pub told-requires-clause-col : goal.told-requires-clause-col
told-requires-clause-col c = (room c.args.bytes.now c.fronts.rest.now c.fronts.invariant.split c.fronts.place c.fronts.invariant.place c.requires).1

pub told-requires-clause-inside : goal.told-requires-clause-inside
told-requires-clause-inside c = lies_in c.fronts.rest.now c.in-Err.fault c.in-Err.ensures

pub returns-in-Err-clause-refused : goal.returns-in-Err-clause-refused
returns-in-Err-clause-refused c =
    let before = passed c.args.bytes.now c.fronts.rest.now in
    rw (c.told.ensures before c.fronts.invariant.place) (is_refused c.args.bytes.now before c.fronts.rest.now c.fronts.invariant.refusal c.in-Err.fault c.in-Err.ensures)

pub returns-in-Err-clause-tokens : goal.returns-in-Err-clause-tokens
returns-in-Err-clause-tokens c ts h = refused_only c.args.bytes.now c.told.result (returns-in-Err-clause-refused c) ts h

pub returns-in-Err-clause-refusal : goal.returns-in-Err-clause-refusal
returns-in-Err-clause-refusal c r h = refusal_only c.args.bytes.now c.told.result (returns-in-Err-clause-refused c) r h

pub returns-clause-ok : goal.returns-clause-ok
returns-clause-ok c =
    let e : front c.fronts.rest.now ≡ Done = rw c.in-Ok-End.field-0-is at c.in-Ok-End.ensures in
    let none = nothing_left c.fronts.rest.now e in
    end_tokens c.args.bytes.now c.fronts.rest.now c.fronts.tokens.items c.fronts.invariant.tokens _ _ none c.in_ok-push.ensures.items (made_end c.fronts.invariant.split none _ _ refl c.fronts.invariant.place)

pub returns-clause-tokens : goal.returns-clause-tokens
returns-clause-tokens c ts h = one_list (returns-clause-ok c) h

pub returns-clause-refusal : goal.returns-clause-refusal
returns-clause-refusal c r h = not_both (returns-clause-ok c) h

pub returns-clause-spans : goal.returns-clause-spans
returns-clause-spans c = in_order (returns-clause-ok c)

pub returns-clause-ends : goal.returns-clause-ends
returns-clause-ends c = ends_once (returns-clause-ok c)

pub returns-clause-slices : goal.returns-clause-slices
returns-clause-slices c = stand_in c.args.bytes.now (returns-clause-ok c) refl

pub returns-clause-few : goal.returns-clause-few
returns-clause-few c = few (returns-clause-ok c)
