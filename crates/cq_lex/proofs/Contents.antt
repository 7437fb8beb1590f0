-- The content of a text, a byte at a time.
use Rattle.std.proofs.Common.{◌≡◌, ℕ, suc, ◌+◌, List, [], ◌∷◌, ◌++◌, length, take, drop, Bool, true, false, refl, sym, ap, ◌∙◌, append_assoc, arith}
use Rattle.std.proofs.lemmas.Bool.Decides.{nat_tests}
use Rattle.std.specs.Prelude.{Some, None, nat_eq, Ok, Err}
use Rattle.std.specs.List.{prefix_len}
use Rattle.cq_lex.specs.declared.token.Kind.TheVariants as kinds
use Rattle.cq_lex.specs.declared.fault.Fault.{Fault}
use Rattle.cq_lex.specs.declared.fault.Fault.TheVariants as faults
use Rattle.cq_base.specs.Escapes.{unescape}
use Rattle.cq_lex.specs.Bytes.{is_plain}
use Rattle.cq_lex.specs.Front.{Content, Closed, Wrong, Open, behind, content, Next, at_text, Gives, Names}

pub append_nil : {A : Type 0} (xs : List A) → xs ++ [] ≡ xs
append_nil [] = refl
append_nil (x ∷ xs) = ap (λ z. x ∷ z) (append_nil xs)

behind_none : (c : Content) → c ≡ behind [] c
behind_none (Closed c rest) = refl
behind_none (Wrong at) = refl
behind_none Open = refl

behind_one : (front : List ℕ) (b : ℕ) (c : Content) → behind front (behind (b ∷ []) c) ≡ behind (front ++ b ∷ []) c
behind_one front b (Closed c rest) = ap (λ z. Closed z rest) (sym (append_assoc front (b ∷ []) c))
behind_one front b (Wrong at) = refl
behind_one front b Open = refl

pub begins : (bytes : List ℕ) → content false bytes ≡ behind [] (content false bytes)
begins bytes = behind_none (content false bytes)

module _ (whole : Content) (front : List ℕ) (b : ℕ) (after : List ℕ) (so_far : whole ≡ behind front (content false (b ∷ after))) where
  pub closes : nat_eq b 34 ≡ true → whole ≡ Closed front after
  unfolding content
  closes q = so_far ∙ rw q (ap (λ z. Closed z after) (append_nil front))

  pub goes_on : nat_eq b 34 ≡ false → nat_eq b 92 ≡ false → whole ≡ behind (front ++ b ∷ []) (content false after)
  unfolding content
  goes_on q s = so_far ∙ rw (q, s) (behind_one front b (content false after))

  pub breaks_off : nat_eq b 34 ≡ false → nat_eq b 92 ≡ true → after ≡ [] → whole ≡ Open
  unfolding content
  breaks_off q s e = so_far ∙ rw (q, s, e) refl

  pub is_wrong : (e : ℕ) (rest : List ℕ) → nat_eq b 34 ≡ false → nat_eq b 92 ≡ true → after ≡ e ∷ rest → unescape e ≡ None → whole ≡ Wrong after
  unfolding content
  is_wrong e rest q s is n = so_far ∙ rw (q, s, is, n) refl

  pub escapes : (e : ℕ) (rest : List ℕ) (c : ℕ) → nat_eq b 34 ≡ false → nat_eq b 92 ≡ true → after ≡ e ∷ rest → unescape e ≡ Some c → whole ≡ behind (front ++ c ∷ []) (content false rest)
  unfolding content
  escapes e rest c q s is n = so_far ∙ rw (q, s, is, n) (behind_one front c (content false rest))

pub runs_out : (whole : Content) (front rest : List ℕ) → length rest ≡ 0 → whole ≡ behind front (content false rest) → whole ≡ Open
unfolding content
runs_out whole front [] e so_far = so_far
runs_out whole front (b ∷ bs) e so_far = absurd (omega arith)

pub no_more : (bs : List ℕ) → length bs ≡ 0 → bs ≡ []
no_more [] e = refl
no_more (b ∷ bs) e = absurd (omega arith)

pub is_byte : (a b : ℕ) → a ≡ b → nat_eq a b ≡ true
is_byte a b e = grind (arith, nat_tests)

pub is_other : (a b : ℕ) → (a ≡ b → ⊥) → nat_eq a b ≡ false
is_other a b e = grind (arith, nat_tests)

one_more : (n : ℕ) → 1 + n ≡ suc n
one_more n = omega arith

behind_cons : (b : ℕ) (c : Content) (front rest : List ℕ) → c ≡ Closed front rest → behind (b ∷ []) c ≡ Closed (b ∷ front) rest
behind_cons b c front rest e = rw e refl

-- a text whose closing quote stands before any backslash is its own content
pub plain_text : (bs rest : List ℕ) → drop (prefix_len is_plain bs) bs ≡ 34 ∷ rest → content false bs ≡ Closed (take (prefix_len is_plain bs) bs) rest
unfolding content
plain_text [] rest e = cc
plain_text (b ∷ bs) rest e = at_first (nat_eq b 34) refl (nat_eq b 92) refl e (plain_text bs rest)
  where
    at_first : (q : Bool) → nat_eq b 34 ≡ q → (s : Bool) → nat_eq b 92 ≡ s → drop (prefix_len is_plain (b ∷ bs)) (b ∷ bs) ≡ 34 ∷ rest → (drop (prefix_len is_plain bs) bs ≡ 34 ∷ rest → content false bs ≡ Closed (take (prefix_len is_plain bs) bs) rest) → content false (b ∷ bs) ≡ Closed (take (prefix_len is_plain (b ∷ bs)) (b ∷ bs)) rest
    at_first true f s g h more =
        let here : b ∷ bs ≡ 34 ∷ rest = rw f at h in
        let same : bs ≡ rest = cc here in
        rw f (ap (λ z. Closed [] z) same)
    at_first false f true g h more =
        let here : b ∷ bs ≡ 34 ∷ rest = rw (f, g) at h in
        let is_quote : b ≡ 34 = cc here in
        absurd (cc (is_byte b 34 is_quote, f))
    at_first false f false g h more =
        let later : drop (prefix_len is_plain bs) bs ≡ 34 ∷ rest = rw (f, g, one_more (prefix_len is_plain bs)) at h in
        rw (f, g, one_more (prefix_len is_plain bs)) (behind_cons b (content false bs) (take (prefix_len is_plain bs) bs) rest (more later))

-- the name of a text whose content has been read
module _ (whole : Content) (c rest at : List ℕ) (is : whole ≡ Closed c rest) where
  pub text_err : (e : Fault) → Names (Err e) c at → Gives (Err e) (at_text whole at)
  text_err faults.Memory h = tt
  text_err (faults.BadByte start) h = rw (is, h.1, h.0) refl
  text_err (faults.LongName start) h = rw (is, h.1, h.2, h.0) refl
  text_err (faults.OpenText start) h = absurd h
  text_err (faults.OpenComment start) h = absurd h

  pub text_ok : (name : List ℕ) → Names (Ok name) c at → at_text whole at ≡ Next (kinds.Text name) rest
  text_ok name h = rw (is, h.1, h.2, h.0) refl

-- the content of a text whose plain front ends at its closing quote
pub plain_read : (bs plain tail rest : List ℕ) (n q : ℕ) → n ≡ prefix_len is_plain bs → plain ≡ take n bs → tail ≡ drop n bs → tail ≡ q ∷ rest → q ≡ 34 → content false bs ≡ Closed plain rest
plain_read bs plain tail rest n q len front back split is =
    let ends : drop (prefix_len is_plain bs) bs ≡ 34 ∷ rest = rw (← len, ← back, split, is) refl in
    plain_text bs rest ends ∙ ap (λ z. Closed z rest) (ap (λ z. take z bs) (sym len) ∙ sym front)
