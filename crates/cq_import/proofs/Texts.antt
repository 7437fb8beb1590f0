-- Whether bytes are UTF-8.
use Rattle.std.proofs.Common.{ℕ, List, ◌≡◌, false, inl, inr}
use Rattle.std.specs.Prelude.{IsUtf8}
use Rattle.std.specs.Str.{is_utf8}
use Rattle.std.proofs.lemmas.Bool.{cases_Bool}
use Rattle.std.proofs.lemmas.Str.{IsUtf8-from_is_utf8}

pub is_utf8-not : (bytes : List ℕ) → ¬ (IsUtf8 bytes) → is_utf8 bytes ≡ false
is_utf8-not bytes not_text = elim (cases_Bool (is_utf8 bytes)) [
  | inl text ↦ absurd (not_text (IsUtf8-from_is_utf8 bytes text))
  | inr other ↦ other
]
