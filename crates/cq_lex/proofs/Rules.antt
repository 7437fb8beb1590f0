-- What stands at the front of bytes, as computed, is what the lexical rules say.
use Rattle.std.proofs.Common.{◌≡◌, ℕ, ◌<◌, ◌≤◌, List, [], ◌∷◌, ◌++◌, length, take, drop, Bool, true, false, refl, sym, ap, ◌∙◌, subst, append_assoc, arith, inl, inr}
use Rattle.std.proofs.lemmas.Bool.Decides.{nat_tests}
use Rattle.std.proofs.lemmas.List.{append-nil, take-append-drop}
use Rattle.std.proofs.lemmas.List.Folds.{length-prefix_len}
use Rattle.std.proofs.lemmas.Str.{IsUtf8-from_is_utf8, is_utf8-from_IsUtf8}
use Rattle.std.specs.Prelude.{Option, Some, None, nat_eq, nat_lt, if◌then◌else◌}
use Rattle.std.specs.List.{prefix_len}
use Rattle.std.specs.Str.{is_utf8}
use Rattle.cq_base.specs.declared.place.Place.{Place}
use Rattle.cq_lex.specs.declared.token.Mark.{Mark}
use Rattle.cq_lex.specs.declared.refusal.LexRefusal.{LexRefusal}
use Rattle.cq_lex.specs.declared.refusal.LexRefusal.TheVariants as refusals
use Rattle.cq_lex.specs.Place.{place_behind, stays_on_line}
use Rattle.cq_lex.specs.Bytes.{is_blank, is_word_byte, quote, backslash, mark_bytes}
use Rattle.cq_lex.specs.Front.{Cause, BadByte, OpenText, OpenComment, LongName, Found, Done, Gap, Next, Fails, Content, Closed, Wrong, Open, content, behind_block, mark_of, at_word, at_text, at_block, at_slash, at_minus, at_mark, front}
use Rattle.cq_lex.specs.Tokens.{Begins, IsRun, IsGap, blank, line_comment, block_comment, Spells, CannotMake, stray, wrong_escape, open_text, open_escape, no_utf8, long_text, long_word, open_comment}
use Rattle.cq_lex.proofs.Runs.{run_passes, run_stops}
use Rattle.cq_lex.proofs.Written.{IsContent, is_content, byte_is, byte_differs}
use Rattle.cq_lex.proofs.Comments.{IsBlock, is_block}
use Rattle.cq_lex.proofs.Marks.{no_mark, mark_split, mark_some}

-- a fault, told with its place
abbrev pub refusal_of : Cause → Place → LexRefusal
refusal_of BadByte place = refusals.BadByte place
refusal_of OpenText place = refusals.OpenText place
refusal_of OpenComment place = refusals.OpenComment place
refusal_of LongName place = refusals.LongName place

-- what stands at the front, by the rules
abbrev pub ByRules : List ℕ → Found → Type 0
ByRules bs Done = bs ≡ []
ByRules bs (Gap rest) = (gap : List ℕ) × (bs ≡ gap ++ rest) × IsGap gap rest × (0 < length gap)
ByRules bs (Next kind rest) = (spelled : List ℕ) × (bs ≡ spelled ++ rest) × Spells kind spelled rest × (0 < length spelled)
ByRules bs (Fails cause at) = (good : List ℕ) × (bs ≡ good ++ at) × ((before : List ℕ) → CannotMake before bs (refusal_of cause (place_behind (before ++ good))))

choose : (P : Found → Type 0) (k : Bool) (x y : Found) → (k ≡ true → P x) → (k ≡ false → P y) → P (if k then x else y)
choose P true x y f g = f refl
choose P false x y f g = g refl

-- a fault at the first byte
at_first : (bs : List ℕ) (cause : Cause) → ((before : List ℕ) → CannotMake before bs (refusal_of cause (place_behind before))) → ByRules bs (Fails cause bs)
at_first bs cause h = ([], refl, λ before. subst (λ z. CannotMake before bs (refusal_of cause (place_behind z))) (sym (append-nil before)) (h before))

is_long : (n : ℕ) → nat_lt 255 n ≡ true → 255 < n
is_long n e = grind (arith, nat_tests)

is_short : (n : ℕ) → nat_lt 255 n ≡ false → n ≤ 255
is_short n e = grind (arith, nat_tests)

some_bytes : (b : ℕ) (bs : List ℕ) → is_word_byte b ≡ true → 0 < prefix_len is_word_byte (b ∷ bs)
some_bytes b bs e = rw e (omega arith)

word_rules : (b : ℕ) (bs : List ℕ) → is_word_byte b ≡ true → ByRules (b ∷ bs) (at_word (prefix_len is_word_byte (b ∷ bs)) (b ∷ bs))
word_rules b bs e =
    let all : List ℕ = b ∷ bs in
    let n : ℕ = prefix_len is_word_byte all in
    let name : List ℕ = take n all in
    let rest : List ℕ = drop n all in
    let long : length name ≡ n = length-prefix_len is_word_byte all in
    let some : 0 < length name = rw long (some_bytes b bs e) in
    let split : name ++ rest ≡ all = take-append-drop n all in
    let run : IsRun is_word_byte name rest = (run_passes is_word_byte all, run_stops is_word_byte all) in
    choose (ByRules all) (nat_lt 255 n) _ _ (λ l. at_first all LongName (λ before. subst (λ z. CannotMake before z (refusals.LongName (place_behind before))) split (long_word name rest run (rw long (is_long n l))))) (λ l. (name, sym split, (refl, some, run, rw long (is_short n l)), some))

text_rules : (bs : List ℕ) (c : Content) → IsContent bs c → ByRules (quote ∷ bs) (at_text c (quote ∷ bs))
text_rules bs (Closed text rest) (written, split, w) =
    let all : quote ∷ bs ≡ quote ∷ written ++ quote ∷ rest = ap (λ z. quote ∷ z) split in
    let spelled : quote ∷ bs ≡ (quote ∷ written ++ quote ∷ []) ++ rest = all ∙ ap (λ z. quote ∷ z) (sym (append_assoc written (quote ∷ []) rest)) in
    choose (ByRules (quote ∷ bs)) (is_utf8 text) _ _ (λ u. choose (ByRules (quote ∷ bs)) (nat_lt 255 (length text)) _ _ (λ l. at_first (quote ∷ bs) LongName (λ before. subst (λ z. CannotMake before z (refusals.LongName (place_behind before))) (sym all) (long_text rest w (IsUtf8-from_is_utf8 text u) (is_long (length text) l)))) (λ l. (quote ∷ written ++ quote ∷ [], spelled, (written, refl, w, IsUtf8-from_is_utf8 text u, is_short (length text) l), omega arith))) (λ u. at_first (quote ∷ bs) BadByte (λ before. subst (λ z. CannotMake before z (refusals.BadByte (place_behind before))) (sym all) (no_utf8 rest w (λ i. cc (is_utf8-from_IsUtf8 text i, u)))))
text_rules bs (Wrong at) (written, text, e, rest, split, is, w, none) =
    let all : quote ∷ bs ≡ quote ∷ written ++ backslash ∷ e ∷ rest = ap (λ z. quote ∷ z) split in
    let parts : quote ∷ bs ≡ (quote ∷ written ++ backslash ∷ []) ++ at = all ∙ ap (λ z. quote ∷ z) (sym (append_assoc written (backslash ∷ []) (e ∷ rest)) ∙ ap (λ z. (written ++ backslash ∷ []) ++ z) (sym is)) in
    (quote ∷ written ++ backslash ∷ [], parts, λ before. subst (λ z. CannotMake before z (refusals.BadByte (place_behind (before ++ (quote ∷ written ++ backslash ∷ []))))) (sym all) (wrong_escape e rest w none))
text_rules bs Open (written, text, w, inl split) =
    at_first (quote ∷ bs) OpenText (λ before. subst (λ z. CannotMake before z (refusals.OpenText (place_behind before))) (sym (ap (λ z. quote ∷ z) split)) (open_text w))
text_rules bs Open (written, text, w, inr split) =
    at_first (quote ∷ bs) OpenText (λ before. subst (λ z. CannotMake before z (refusals.OpenText (place_behind before))) (sym (ap (λ z. quote ∷ z) split)) (open_escape w))

block_rules : (bs : List ℕ) (o : Option (List ℕ)) → IsBlock bs o → ByRules (47 ∷ 42 ∷ bs) (at_block o (47 ∷ 42 ∷ bs))
block_rules bs None h = at_first (47 ∷ 42 ∷ bs) OpenComment (λ before. open_comment h)
block_rules bs (Some rest) (text, split, h) =
    let parts : bs ≡ (text ++ 42 ∷ 47 ∷ []) ++ rest = split ∙ sym (append_assoc text (42 ∷ 47 ∷ []) rest) in
    (47 ∷ 42 ∷ text ++ 42 ∷ 47 ∷ [], ap (λ z. 47 ∷ 42 ∷ z) parts, block_comment h, omega arith)

no_arrow : (b : ℕ) (bs : List ℕ) → nat_eq b 45 ≡ false → Begins (45 ∷ 62 ∷ []) (b ∷ bs) → ⊥
no_arrow b bs e (rest, same) = byte_differs b 45 e (cc same)

starts_no_comment : (b c : ℕ) (bs : List ℕ) → nat_eq b 47 ≡ false → Begins (47 ∷ c ∷ []) (b ∷ bs) → ⊥
starts_no_comment b c bs e (rest, same) = byte_differs b 47 e (cc same)

slash_rules : (bs : List ℕ) → ByRules (47 ∷ bs) (at_slash bs (47 ∷ bs))
slash_rules [] =
    at_first (47 ∷ []) BadByte (λ before. stray refl refl (byte_differs 47 quote refl) (no_mark 47 [] refl (no_arrow 47 [] refl)) (λ (rest, e). cc e) (λ (rest, e). cc e))
slash_rules (c ∷ cs) =
    choose (ByRules (47 ∷ c ∷ cs)) (nat_eq c 47) _ _ (λ e. line_rules (byte_is c 47 e)) (λ e. choose (ByRules (47 ∷ c ∷ cs)) (nat_eq c 42) _ _ (λ f. subst (λ z. ByRules (47 ∷ z ∷ cs) (at_block (behind_block cs) (47 ∷ z ∷ cs))) (sym (byte_is c 42 f)) (block_rules cs (behind_block cs) (is_block cs))) (λ f. at_first (47 ∷ c ∷ cs) BadByte (λ before. stray refl refl (byte_differs 47 quote refl) (no_mark 47 (c ∷ cs) refl (no_arrow 47 (c ∷ cs) refl)) (λ (rest, g). byte_differs c 47 e (cc g)) (λ (rest, g). byte_differs c 42 f (cc g)))))
  where
    line_rules : c ≡ 47 → ByRules (47 ∷ c ∷ cs) (Gap (drop (prefix_len stays_on_line cs) cs))
    line_rules e =
        let n : ℕ = prefix_len stays_on_line cs in
        let text : List ℕ = take n cs in
        let rest : List ℕ = drop n cs in
        let split : 47 ∷ c ∷ cs ≡ (47 ∷ 47 ∷ text) ++ rest = rw e (ap (λ z. 47 ∷ 47 ∷ z) (sym (take-append-drop n cs))) in
        (47 ∷ 47 ∷ text, split, line_comment (run_passes stays_on_line cs, run_stops stays_on_line cs), omega arith)

-- a byte that begins no blank, no word, no text and no comment
module _ (b : ℕ) (bs : List ℕ) (blanks : is_blank b ≡ false) (words : is_word_byte b ≡ false) (quotes : nat_eq b quote ≡ false) (slashes : nat_eq b 47 ≡ false) where
  stray_rules : mark_of b ≡ None → (Begins (45 ∷ 62 ∷ []) (b ∷ bs) → ⊥) → ByRules (b ∷ bs) (Fails BadByte (b ∷ bs))
  stray_rules none arrow =
      at_first (b ∷ bs) BadByte (λ before. stray blanks words (byte_differs b quote quotes) (no_mark b bs none arrow) (starts_no_comment b 47 bs slashes) (starts_no_comment b 42 bs slashes))

  minus_rules : mark_of b ≡ None → b ≡ 45 → (rest : List ℕ) → bs ≡ rest → ByRules (b ∷ bs) (at_minus rest (b ∷ bs))
  minus_rules none is [] same = stray_rules none (λ (rest, e). cc (e, same))
  minus_rules none is (c ∷ cs) same =
      choose (ByRules (b ∷ bs)) (nat_eq c 62) _ _ (λ e. (45 ∷ 62 ∷ [], rw (is, same, byte_is c 62 e) refl, refl, omega arith)) (λ e. stray_rules none (λ (rest, f). byte_differs c 62 e (cc (f, same))))

  mark_rules : (o : Option Mark) → mark_of b ≡ o → ByRules (b ∷ bs) (at_mark o b bs (b ∷ bs))
  mark_rules (Some mark) e = (mark_bytes mark, mark_split b bs mark e, refl, mark_some b mark e)
  mark_rules None e =
      choose (ByRules (b ∷ bs)) (nat_eq b 45) _ _ (λ f. minus_rules e (byte_is b 45 f) bs refl) (λ f. stray_rules e (no_arrow b bs f))

pub by_rules : (bs : List ℕ) → ByRules bs (front bs)
unfolding front
by_rules [] = refl
by_rules (b ∷ bs) =
    choose (ByRules (b ∷ bs)) (is_blank b) _ _ (λ e. (b ∷ [], refl, blank e, omega arith)) (λ blanks. choose (ByRules (b ∷ bs)) (is_word_byte b) _ _ (λ e. word_rules b bs e) (λ words. choose (ByRules (b ∷ bs)) (nat_eq b quote) _ _ (λ e. subst (λ z. ByRules (z ∷ bs) (at_text (content false bs) (z ∷ bs))) (sym (byte_is b quote e)) (text_rules bs (content false bs) (is_content bs))) (λ quotes. choose (ByRules (b ∷ bs)) (nat_eq b 47) _ _ (λ e. subst (λ z. ByRules (z ∷ bs) (at_slash bs (z ∷ bs))) (sym (byte_is b 47 e)) (slash_rules bs)) (λ slashes. mark_rules b bs blanks words quotes slashes (mark_of b) refl))))
