-- Runs of bytes, and the names that they make.
use Rattle.std.proofs.Common.{◌≡◌, ℕ, suc, ◌+◌, ◌<◌, List, [], ◌∷◌, ◌++◌, length, take, drop, Bool, true, false, refl, arith}
use Rattle.std.proofs.lemmas.Bool.Decides.{nat_tests}
use Rattle.std.proofs.lemmas.Str.{IsUtf8-from_is_utf8, is_utf8-from_IsUtf8, IsUtf8-from_ascii}
use Rattle.std.proofs.lemmas.Str.Ascii.{IsAscii-from_all}
use Rattle.std.proofs.lemmas.List.Sums.{AllPass-from_list_all}
use Rattle.std.proofs.lemmas.List.Folds.{length-prefix_len}
use Rattle.std.specs.Prelude.{All, Ok, Err, nat_lt, ◌&&◌}
use Rattle.std.specs.List.{prefix_len, list_all}
use Rattle.std.specs.Str.{IsUtf8, is_utf8}
use Rattle.cq_lex.specs.Tokens.{StopsAt}
use Rattle.cq_lex.specs.declared.token.Kind.TheVariants as kinds
use Rattle.cq_lex.specs.declared.fault.Fault.{Fault}
use Rattle.cq_lex.specs.declared.fault.Fault.TheVariants as faults
use Rattle.cq_lex.specs.Bytes.{is_word_byte}
use Rattle.cq_lex.specs.Front.{Next, at_word, Gives, Names}

one_more : (n : ℕ) → 1 + n ≡ suc n
one_more n = omega arith

-- the front that passes is a run
pub run_passes : (p : ℕ → Bool) (bs : List ℕ) → list_all p (take (prefix_len p bs) bs) ≡ true
run_passes p [] = refl
run_passes p (b ∷ bs) = at_first (p b) refl (run_passes p bs)
  where
    at_first : (k : Bool) → p b ≡ k → list_all p (take (prefix_len p bs) bs) ≡ true → list_all p (take (prefix_len p (b ∷ bs)) (b ∷ bs)) ≡ true
    at_first true e h = rw (e, one_more (prefix_len p bs), e) h
    at_first false e h = rw e refl

pub run_stops : (p : ℕ → Bool) (bs : List ℕ) → StopsAt p (drop (prefix_len p bs) bs)
run_stops p [] = tt
run_stops p (b ∷ bs) = at_first (p b) refl (run_stops p bs)
  where
    at_first : (k : Bool) → p b ≡ k → StopsAt p (drop (prefix_len p bs) bs) → StopsAt p (drop (prefix_len p (b ∷ bs)) (b ∷ bs))
    at_first true e h = rw (e, one_more (prefix_len p bs)) h
    at_first false e h = rw e e

none_pass : (p : ℕ → Bool) (after : List ℕ) → StopsAt p after → prefix_len p after ≡ 0
none_pass p [] h = refl
none_pass p (b ∷ bs) h = rw h refl

pub and_left : (a b : Bool) → (a && b) ≡ true → a ≡ true
and_left true b e = refl
and_left false b e = e

pub and_right : (a b : Bool) → (a && b) ≡ true → b ≡ true
and_right true b e = e
and_right false b e = cc

-- a run is the front that passes
pub run_len : (p : ℕ → Bool) (run after : List ℕ) → list_all p run ≡ true → StopsAt p after → prefix_len p (run ++ after) ≡ length run
run_len p [] after h s = none_pass p after s
run_len p (b ∷ bs) after h s =
    let one = and_left (p b) (list_all p bs) h in
    let more = run_len p bs after (and_right (p b) (list_all p bs) h) s in
    rw (one, more) (one_more (length bs))

pub utf8_false : (bs : List ℕ) → (IsUtf8 bs → ⊥) → is_utf8 bs ≡ false
utf8_false bs h = at_test (is_utf8 bs) refl
  where
    at_test : (k : Bool) → is_utf8 bs ≡ k → k ≡ false
    at_test true e = absurd (h (IsUtf8-from_is_utf8 bs e))
    at_test false e = refl

word_small : (b : ℕ) → is_word_byte b ≡ true → b < 128
word_small b h = grind (arith, nat_tests)

-- words are ASCII
pub word_utf8 : (bs : List ℕ) → list_all is_word_byte bs ≡ true → is_utf8 bs ≡ true
word_utf8 bs h =
    let small : All (λ b. b < 128) bs = λ k d lt. word_small _ (AllPass-from_list_all is_word_byte bs h k d lt) in
    is_utf8-from_IsUtf8 bs (IsUtf8-from_ascii bs (IsAscii-from_all bs small))

-- the name of the word at the front
module _ (bs : List ℕ) (n : ℕ) (is : n ≡ prefix_len is_word_byte bs) where
  word_text : is_utf8 (take n bs) ≡ true
  word_text = rw is (word_utf8 _ (run_passes is_word_byte bs))

  word_long : length (take n bs) ≡ n
  word_long = rw is (length-prefix_len is_word_byte bs)

  pub word_err : (e : Fault) → Names (Err e) (take n bs) bs → Gives (Err e) (at_word (prefix_len is_word_byte bs) bs)
  word_err faults.Memory h = tt
  word_err (faults.BadByte start) h = absurd (cc (h.1, word_text))
  word_err (faults.LongName start) h =
      let long : nat_lt 255 n ≡ true = rw word_long at h.2 in
      rw (← is, long, h.0) refl
  word_err (faults.OpenText start) h = absurd h
  word_err (faults.OpenComment start) h = absurd h

  pub word_ok : (name : List ℕ) → Names (Ok name) (take n bs) bs → at_word (prefix_len is_word_byte bs) bs ≡ Next (kinds.Word name) (drop n bs)
  word_ok name h =
      let short : nat_lt 255 n ≡ false = rw word_long at h.2 in
      rw (← is, short, h.0) refl

pub fits : (n : ℕ) → (255 < n → ⊥) → nat_lt 255 n ≡ false
fits n h = grind (arith, nat_tests)

pub too_long : (n : ℕ) → 255 < n → nat_lt 255 n ≡ true
too_long n h = grind (arith, nat_tests)
