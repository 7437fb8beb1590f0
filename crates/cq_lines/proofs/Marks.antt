-- The mark of byte order at the head of a text.
use Rattle.std.proofs.Common.{◌≡◌, ◌∷◌, [], ℕ, List, true, false, refl, get_or, drop, length, ◌<◌, ◌≤◌, arith}
use Rattle.csv.specs.Reading.{is_bom, strip_bom}

pub short_text : (text : List ℕ) → length text < 3 → text ≡ strip_bom text
unfolding strip_bom
short_text [] short = refl
short_text (a ∷ []) short = refl
short_text (a ∷ b ∷ []) short = refl
short_text (a ∷ b ∷ c ∷ rest) short = absurd (omega arith)

pub marked : (text : List ℕ) → 3 ≤ length text → is_bom (get_or text 0 0) (get_or text 1 0) (get_or text 2 0) ≡ true → drop 3 text ≡ strip_bom text
unfolding strip_bom
marked [] long mark = absurd (omega arith)
marked (a ∷ []) long mark = absurd (omega arith)
marked (a ∷ b ∷ []) long mark = absurd (omega arith)
marked (a ∷ b ∷ c ∷ rest) long mark = rw mark refl

pub unmarked : (text : List ℕ) → 3 ≤ length text → is_bom (get_or text 0 0) (get_or text 1 0) (get_or text 2 0) ≡ false → text ≡ strip_bom text
unfolding strip_bom
unmarked [] long mark = absurd (omega arith)
unmarked (a ∷ []) long mark = absurd (omega arith)
unmarked (a ∷ b ∷ []) long mark = absurd (omega arith)
unmarked (a ∷ b ∷ c ∷ rest) long mark = rw mark refl
