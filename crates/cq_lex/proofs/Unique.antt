-- The lexical rules leave no choice: what stands at the front by the rules is what is computed.
use Rattle.std.proofs.Common.{◌≡◌, ℕ, ◌<◌, List, [], ◌∷◌, ◌++◌, length, drop, Bool, true, false, refl, sym, ap, ◌∙◌, subst, append_assoc, arith}
use Rattle.std.proofs.lemmas.Bool.Decides.{nat_tests}
use Rattle.std.proofs.lemmas.List.{append-nil}
use Rattle.std.proofs.lemmas.Str.{is_utf8-from_IsUtf8}
use Rattle.std.proofs.Math.Seq.{take-append_seam, drop-append_seam}
use Rattle.std.specs.Prelude.{◌≢◌, Option, Some, None, nat_eq, nat_lt, if◌then◌else◌}
use Rattle.std.specs.List.{prefix_len, list_all}
use Rattle.cq_lex.specs.declared.token.Kind.{Kind}
use Rattle.cq_lex.specs.declared.token.Kind.TheVariants as kinds
use Rattle.cq_lex.specs.declared.token.Mark.{Mark}
use Rattle.cq_lex.specs.declared.token.Mark.TheVariants as marks
use Rattle.cq_lex.specs.declared.refusal.LexRefusal.{LexRefusal}
use Rattle.cq_lex.specs.Place.{place_behind, stays_on_line}
use Rattle.cq_base.specs.Escapes.{unescape}
use Rattle.cq_lex.specs.Bytes.{is_blank, is_word_byte, quote, backslash, mark_bytes}
use Rattle.cq_lex.specs.Front.{Cause, BadByte, OpenText, OpenComment, LongName, Gap, Next, Fails, Closed, Wrong, Open, content, behind_block, mark_of, at_word, at_text, at_block, at_slash, at_minus, at_mark, front}
use Rattle.cq_lex.specs.Tokens.{Begins, IsRun, NeverEnds, IsGap, blank, line_comment, block_comment, Writes, Spells, CannotMake, stray, wrong_escape, open_text, open_escape, no_utf8, long_text, long_word, open_comment}
use Rattle.cq_lex.proofs.Runs.{run_len, fits, too_long, utf8_false, and_left}
use Rattle.cq_lex.proofs.Contents.{is_other}
use Rattle.cq_lex.proofs.Written.{reads_written, byte_is}
use Rattle.cq_lex.proofs.Comments.{block_found, block_open}
use Rattle.cq_lex.proofs.Marks.{mark_split}
use Rattle.cq_lex.proofs.Rules.{refusal_of}

no_blank : (b : ℕ) → is_word_byte b ≡ true → is_blank b ≡ false
no_blank b e = grind (arith, nat_tests)

-- the run at the front of bytes
run_front : (run after : List ℕ) → IsRun stays_on_line run after → drop (prefix_len stays_on_line (run ++ after)) (run ++ after) ≡ after
run_front run after h = rw (run_len stays_on_line run after h.0 h.1) (drop-append_seam run after)

pub gap_front : (gap after : List ℕ) → IsGap gap after → front (gap ++ after) ≡ Gap after
unfolding front
gap_front gap after (blank {b} e) = rw e refl
gap_front gap after (line_comment {text} h) = ap Gap (run_front text after h)
gap_front gap after (block_comment {text} h) =
    let parts : (text ++ 42 ∷ 47 ∷ []) ++ after ≡ text ++ 42 ∷ 47 ∷ after = append_assoc text (42 ∷ 47 ∷ []) after in
    let found : behind_block ((text ++ 42 ∷ 47 ∷ []) ++ after) ≡ Some after = ap behind_block parts ∙ block_found text after h in
    ap (λ z. at_block z (47 ∷ 42 ∷ (text ++ 42 ∷ 47 ∷ []) ++ after)) found

-- a word at the front
word_front : (name after : List ℕ) → 0 < length name → IsRun is_word_byte name after → front (name ++ after) ≡ at_word (length name) (name ++ after)
unfolding front
word_front [] after some h = absurd (omega arith)
word_front (b ∷ name) after some h =
    let first : is_word_byte b ≡ true = and_left (is_word_byte b) (list_all is_word_byte name) h.0 in
    let len : prefix_len is_word_byte ((b ∷ name) ++ after) ≡ length (b ∷ name) = run_len is_word_byte (b ∷ name) after h.0 h.1 in
    rw (no_blank b first, first) (ap (λ z. at_word z ((b ∷ name) ++ after)) (rw first at len))

text_front : (bs : List ℕ) → front (quote ∷ bs) ≡ at_text (content false bs) (quote ∷ bs)
unfolding front
text_front bs = refl

closed_text : {written text : List ℕ} → Writes written text → (after : List ℕ) → content false (written ++ quote ∷ after) ≡ Closed text after
unfolding content
closed_text {written} {text} w after = reads_written w (quote ∷ after) ∙ ap (λ z. Closed z after) (append-nil text)

mark_front : (mark : Mark) (after : List ℕ) → front (mark_bytes mark ++ after) ≡ Next (kinds.Mark mark) after
unfolding front
mark_front marks.LeftBrace after = refl
mark_front marks.RightBrace after = refl
mark_front marks.LeftParen after = refl
mark_front marks.RightParen after = refl
mark_front marks.LeftBracket after = refl
mark_front marks.RightBracket after = refl
mark_front marks.Colon after = refl
mark_front marks.Semicolon after = refl
mark_front marks.Comma after = refl
mark_front marks.Dot after = refl
mark_front marks.Equals after = refl
mark_front marks.Plus after = refl
mark_front marks.Arrow after = refl

pub token_front : (kind : Kind) (spelled after : List ℕ) → Spells kind spelled after → front (spelled ++ after) ≡ Next kind after
token_front (kinds.Word name) spelled after (same, some, run, short) =
    let fit : nat_lt 255 (length name) ≡ false = fits (length name) (λ lt. omega arith) in
    let found : front (name ++ after) ≡ Next (kinds.Word name) after = word_front name after some run ∙ rw (fit, take-append_seam name after, drop-append_seam name after) refl in
    subst (λ z. front (z ++ after) ≡ Next (kinds.Word name) after) (sym same) found
token_front (kinds.Text text) spelled after (written, same, w, utf8, short) =
    let fit : nat_lt 255 (length text) ≡ false = fits (length text) (λ lt. omega arith) in
    let parts : spelled ++ after ≡ quote ∷ (written ++ quote ∷ after) = ap (λ z. z ++ after) same ∙ ap (λ z. quote ∷ z) (append_assoc written (quote ∷ []) after) in
    ap front parts ∙ text_front (written ++ quote ∷ after) ∙ rw (closed_text w after, is_utf8-from_IsUtf8 text utf8, fit) refl
token_front (kinds.Mark mark) spelled after same = ap (λ z. front (z ++ after)) same ∙ mark_front mark after
token_front kinds.End spelled after h = absurd h

-- a fault that is computed, and its place
pub record Told (before bs : List ℕ) (e : LexRefusal) : Type 0 where
  pub cause : Cause
  pub good : List ℕ
  pub at : List ℕ
  pub found : front bs ≡ Fails cause at
  pub split : bs ≡ good ++ at
  pub told : e ≡ refusal_of cause (place_behind (before ++ good))

here : (before bs : List ℕ) (cause : Cause) → front bs ≡ Fails cause bs → Told before bs (refusal_of cause (place_behind before))
here before bs cause e = record { cause = cause; good = []; at = bs; found = e; split = refl; told = ap (λ z. refusal_of cause (place_behind z)) (sym (append-nil before)) }

module _ (b : ℕ) (bs : List ℕ) (no_mark : (mark : Mark) → Begins (mark_bytes mark) (b ∷ bs) → ⊥) where
  stray_minus : b ≡ 45 → (rest : List ℕ) → bs ≡ rest → at_minus rest (b ∷ bs) ≡ Fails BadByte (b ∷ bs)
  stray_minus is [] same = refl
  stray_minus is (c ∷ cs) same = at_test (nat_eq c 62) refl
    where
      at_test : (k : Bool) → nat_eq c 62 ≡ k → (if k then Next (kinds.Mark marks.Arrow) cs else Fails BadByte (b ∷ bs)) ≡ Fails BadByte (b ∷ bs)
      at_test true e = absurd (no_mark marks.Arrow (cs, rw (is, same, byte_is c 62 e) refl))
      at_test false e = refl

  stray_mark : (o : Option Mark) → mark_of b ≡ o → at_mark o b bs (b ∷ bs) ≡ Fails BadByte (b ∷ bs)
  stray_mark (Some mark) e = absurd (no_mark mark (bs, mark_split b bs mark e))
  stray_mark None e = at_test (nat_eq b 45) refl
    where
      at_test : (k : Bool) → nat_eq b 45 ≡ k → (if k then at_minus bs (b ∷ bs) else Fails BadByte (b ∷ bs)) ≡ Fails BadByte (b ∷ bs)
      at_test true f = stray_minus (byte_is b 45 f) bs refl
      at_test false f = refl

stray_slash : (b : ℕ) (bs : List ℕ) → b ≡ 47 → (Begins (47 ∷ 47 ∷ []) (b ∷ bs) → ⊥) → (Begins (47 ∷ 42 ∷ []) (b ∷ bs) → ⊥) → at_slash bs (b ∷ bs) ≡ Fails BadByte (b ∷ bs)
stray_slash b [] is line block = refl
stray_slash b (c ∷ cs) is line block = at_test (nat_eq c 47) refl (nat_eq c 42) refl
  where
    at_test : (k : Bool) → nat_eq c 47 ≡ k → (j : Bool) → nat_eq c 42 ≡ j → (if k then Gap (drop (prefix_len stays_on_line cs) cs) else (if j then at_block (behind_block cs) (b ∷ c ∷ cs) else Fails BadByte (b ∷ c ∷ cs))) ≡ Fails BadByte (b ∷ c ∷ cs)
    at_test true e j f = absurd (line (cs, rw (is, byte_is c 47 e) refl))
    at_test false e true f = absurd (block (cs, rw (is, byte_is c 42 f) refl))
    at_test false e false f = refl

stray_front : (b : ℕ) (bs : List ℕ) → is_blank b ≡ false → is_word_byte b ≡ false → b ≢ quote → ((mark : Mark) → Begins (mark_bytes mark) (b ∷ bs) → ⊥) → (Begins (47 ∷ 47 ∷ []) (b ∷ bs) → ⊥) → (Begins (47 ∷ 42 ∷ []) (b ∷ bs) → ⊥) → front (b ∷ bs) ≡ Fails BadByte (b ∷ bs)
unfolding front
stray_front b bs blanks words quotes marks line block = rw (blanks, words, is_other b quote quotes) (at_test (nat_eq b 47) refl)
  where
    at_test : (k : Bool) → nat_eq b 47 ≡ k → (if k then at_slash bs (b ∷ bs) else at_mark (mark_of b) b bs (b ∷ bs)) ≡ Fails BadByte (b ∷ bs)
    at_test true e = stray_slash b bs (byte_is b 47 e) line block
    at_test false e = stray_mark b bs marks (mark_of b) refl

open_front : {written text : List ℕ} → Writes written text → content false written ≡ Open
unfolding content
open_front {written} {text} w = ap (λ z. content false z) (sym (append-nil written)) ∙ reads_written w []

open_escape_front : {written text : List ℕ} → Writes written text → content false (written ++ backslash ∷ []) ≡ Open
unfolding content
open_escape_front w = reads_written w (backslash ∷ [])

wrong_front : {written text : List ℕ} (e : ℕ) (after : List ℕ) → Writes written text → unescape e ≡ None → content false (written ++ backslash ∷ e ∷ after) ≡ Wrong (e ∷ after)
unfolding content
wrong_front e after w none = reads_written w (backslash ∷ e ∷ after) ∙ rw none refl

comment_front : (text : List ℕ) → NeverEnds text → front (47 ∷ 42 ∷ text) ≡ Fails OpenComment (47 ∷ 42 ∷ text)
unfolding front
comment_front text h = ap (λ z. at_block z (47 ∷ 42 ∷ text)) (block_open text h)

pub fault_front : (before bs : List ℕ) (e : LexRefusal) → CannotMake before bs e → Told before bs e
fault_front before bs e (stray {b} {bytes} blanks words quotes marks line block) = here before (b ∷ bytes) BadByte (stray_front b bytes blanks words quotes marks line block)
fault_front before bs e (wrong_escape {written} {content = text} byte after w none) = record {
  cause = BadByte;
  good = quote ∷ written ++ backslash ∷ [];
  at = byte ∷ after;
  found = text_front (written ++ backslash ∷ byte ∷ after) ∙ rw (wrong_front byte after w none) refl;
  split = ap (λ z. quote ∷ z) (sym (append_assoc written (backslash ∷ []) (byte ∷ after)));
  told = refl;
}
fault_front before bs e (open_text {written} w) = here before (quote ∷ written) OpenText (text_front written ∙ rw (open_front w) refl)
fault_front before bs e (open_escape {written} w) = here before (quote ∷ written ++ backslash ∷ []) OpenText (text_front (written ++ backslash ∷ []) ∙ rw (open_escape_front w) refl)
fault_front before bs e (no_utf8 {written} {content = text} after w bad) =
    here before (quote ∷ written ++ quote ∷ after) BadByte (text_front (written ++ quote ∷ after) ∙ rw (closed_text w after, utf8_false text bad) refl)
fault_front before bs e (long_text {written} {content = text} after w utf8 long) =
    here before (quote ∷ written ++ quote ∷ after) LongName (text_front (written ++ quote ∷ after) ∙ rw (closed_text w after, is_utf8-from_IsUtf8 text utf8, too_long (length text) long) refl)
fault_front before bs e (long_word name after run long) =
    here before (name ++ after) LongName (word_front name after (omega arith) run ∙ rw (too_long (length name) long) refl)
fault_front before bs e (open_comment {text} h) = here before (47 ∷ 42 ∷ text) OpenComment (comment_front text h)
