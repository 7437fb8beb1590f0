-- What leads past bytes, by whether they are a text.
use Rattle.std.proofs.Common.{◌≡◌, ℕ, Bool, true, false, List, ap, sym, ◌∙◌, refl, cond}
use Rattle.std.proofs.lemmas.Str.{IsUtf8-from_is_utf8, is_utf8-from_IsUtf8}
use Rattle.std.specs.List.{flat_map}
use Rattle.std.specs.Str.{IsUtf8, chars, is_utf8}
use Rattle.cq_place.specs.Shown.{past, past_byte, past_char}

no_text : (bytes : List ℕ) → (IsUtf8 bytes → ⊥) → (b : Bool) → is_utf8 bytes ≡ b → b ≡ false
no_text bytes none true is = absurd (none (IsUtf8-from_is_utf8 bytes is))
no_text bytes none false is = refl

pub past_text : (bytes text : List ℕ) → IsUtf8 bytes → text ≡ bytes → past bytes ≡ flat_map past_char (chars text)
past_text bytes text is same =
    ap (λ b. cond b (flat_map past_char (chars bytes)) (flat_map past_byte bytes)) (is_utf8-from_IsUtf8 bytes is)
    ∙ ap (λ t. flat_map past_char (chars t)) (sym same)

pub past_bytes : (bytes : List ℕ) → (IsUtf8 bytes → ⊥) → past bytes ≡ flat_map past_byte bytes
past_bytes bytes none =
    ap (λ b. cond b (flat_map past_char (chars bytes)) (flat_map past_byte bytes)) (no_text bytes none (is_utf8 bytes) refl)
