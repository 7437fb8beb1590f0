-- Bytes that are names.
use Rattle.std.proofs.Common.{ℕ, List, Some, None, ◌≡◌, ◌≤◌, ◌<◌, ◌&&◌, Bool, true, false, length, refl, sym, ap, subst, ◌∙◌, arith}
use Rattle.std.specs.Prelude.{nat_le, cond}
use Rattle.std.specs.Str.{IsUtf8, is_utf8}
use Rattle.std.proofs.lemmas.Bool.Decides.{nat_tests}
use Rattle.std.proofs.lemmas.Str.{IsUtf8-from_is_utf8, is_utf8-from_IsUtf8}
use Rattle.cq_values.specs.Readable.{is_name}
use Rattle.cq_values.specs.Reading.{as_name}

pub utf8_false : (bs : List ℕ) → (IsUtf8 bs → ⊥) → is_utf8 bs ≡ false
utf8_false bs h = at_test (is_utf8 bs) refl
  where
    at_test : (b : Bool) → is_utf8 bs ≡ b → is_utf8 bs ≡ false
    at_test true e = absurd (h (IsUtf8-from_is_utf8 bs e))
    at_test false e = e

and_false : (b : Bool) → (b && false) ≡ false
and_false true = refl
and_false false = refl

pub no_text : (bs : List ℕ) → (IsUtf8 bs → ⊥) → None ≡ as_name bs
no_text bs h = sym (ap (λ t. cond (nat_le (length bs) 255 && t) (Some bs) None) (utf8_false bs h) ∙ ap (λ t. cond t (Some bs) None) (and_false (nat_le (length bs) 255)))

short : (n : ℕ) → n ≤ 255 → nat_le n 255 ≡ true
short n h = grind (arith, nat_tests)

pub is_named : (bs : List ℕ) → length bs ≤ 255 → IsUtf8 bs → is_name bs ≡ true
is_named bs h u = ap (λ t. t && is_utf8 bs) (short (length bs) h) ∙ is_utf8-from_IsUtf8 bs u

pub named : (bs : List ℕ) → is_name bs ≡ true → as_name bs ≡ Some bs
named bs h = ap (λ t. cond t (Some bs) None) h

-- the name that was made of a text
pub made : (bs text name : List ℕ) → name ≡ text → text ≡ bs → IsUtf8 bs → (255 < length text → ⊥) → Some name ≡ as_name bs
made bs text name same is text_bytes short_text =
    let len : length text ≡ length bs = ap length is in
    let fits : length bs ≤ 255 = fits_name (length bs) (λ h. short_text (subst (λ (n : ℕ). 255 < n) (sym len) h)) in
    ap (λ (n : List ℕ). Some n) (same ∙ is) ∙ sym (named bs (is_named bs fits text_bytes))
  where
    fits_name : (n : ℕ) → (255 < n → ⊥) → n ≤ 255
    fits_name n h = grind arith
