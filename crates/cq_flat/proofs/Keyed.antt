-- A table of two kinds of keys, which their first numbers tell apart.
use Rattle.std.proofs.Common.{◌≡◌, ◌≢◌, ℕ, zero, suc, cond, List, [], ◌∷◌, ◌++◌, Option, Some, None, sym, ◌∙◌, ap, refl, arith, ◌&&◌}
use Rattle.std.proofs.lemmas.Bool.{ne_eqb}
use Rattle.cq_flat.specs.Keys.{found, same_key, tagged}

abbrev Entries : Type 0
Entries = List (List ℕ × ℕ)

abbrev both : Entries → Entries → Entries
both numbers texts = tagged 0 numbers ++ tagged 1 texts

-- keys that begin otherwise are passed over
found_past : (tag t : ℕ) (es : Entries) (q : List ℕ) → t ≢ tag → found (tagged tag es) (t ∷ q) ≡ None
found_past tag t [] q n = refl
found_past tag t (e ∷ es) q n = ap (λ b. cond (b && same_key q e.0) (Some e.1) (found (tagged tag es) (t ∷ q))) (ne_eqb t tag n) ∙ found_past tag t es q n

found_behind : (numbers texts : Entries) (t : ℕ) (q : List ℕ) → t ≢ 0 → found (both numbers texts) (t ∷ q) ≡ found (tagged 1 texts) (t ∷ q)
found_behind [] texts t q n = refl
found_behind (e ∷ es) texts t q n = ap (λ b. cond (b && same_key q e.0) (Some e.1) (found (both es texts) (t ∷ q))) (ne_eqb t 0 n) ∙ found_behind es texts t q n

found_own : (texts : Entries) (q : List ℕ) → found (tagged 1 texts) (1 ∷ q) ≡ found texts q
found_own [] q = refl
found_own (e ∷ es) q = ap (λ o. cond (same_key q e.0) (Some e.1) o) (found_own es q)

pub found_number : (numbers texts : Entries) (q : List ℕ) → found (both numbers texts) (0 ∷ q) ≡ found numbers q
found_number [] texts q = found_past 1 0 texts q (λ e. omega (arith, e))
found_number (e ∷ es) texts q = ap (λ o. cond (same_key q e.0) (Some e.1) o) (found_number es texts q)

pub found_text : (numbers texts : Entries) (q : List ℕ) → found (both numbers texts) (1 ∷ q) ≡ found texts q
found_text numbers texts q = found_behind numbers texts 1 q (λ e. omega (arith, e)) ∙ found_own texts q

found_high : (numbers texts : Entries) (n : ℕ) (q : List ℕ) → found (both numbers texts) (suc (suc n) ∷ q) ≡ None
found_high numbers texts n q = found_behind numbers texts (suc (suc n)) q (λ e. omega (arith, e)) ∙ found_past 1 (suc (suc n)) texts q (λ e. omega (arith, e))

found_nothing : (tag : ℕ) (es : Entries) → found (tagged tag es) [] ≡ None
found_nothing tag [] = refl
found_nothing tag (e ∷ es) = found_nothing tag es

found_empty : (numbers texts : Entries) → found (both numbers texts) [] ≡ None
found_empty [] texts = found_nothing 1 texts
found_empty (e ∷ es) texts = found_empty es texts

-- keys of another kind stay
other : (tag t : ℕ) (key q : List ℕ) (node : ℕ) (o : Option ℕ) → tag ≢ t → o ≡ cond (same_key (tag ∷ key) (t ∷ q)) (Some node) o
other tag t key q node o n = sym (ap (λ b. cond (b && same_key key q) (Some node) o) (ne_eqb tag t n))

-- an entry is put into one of the two
pub put_number : (old new texts : Entries) (key : List ℕ) (node : ℕ) → ((q : List ℕ) → found new q ≡ cond (same_key key q) (Some node) (found old q))
    → (q : List ℕ) → found (both new texts) q ≡ cond (same_key (0 ∷ key) q) (Some node) (found (both old texts) q)
put_number old new texts key node put [] = found_empty new texts ∙ sym (found_empty old texts)
put_number old new texts key node put (zero ∷ q) = found_number new texts q ∙ put q ∙ ap (λ o. cond (same_key key q) (Some node) o) (sym (found_number old texts q))
put_number old new texts key node put (suc zero ∷ q) =
    found_text new texts q ∙ sym (found_text old texts q) ∙ other 0 1 key q node (found (both old texts) (1 ∷ q)) (λ e. omega (arith, e))
put_number old new texts key node put (suc (suc n) ∷ q) =
    found_high new texts n q ∙ sym (found_high old texts n q) ∙ other 0 (suc (suc n)) key q node (found (both old texts) (suc (suc n) ∷ q)) (λ e. omega (arith, e))

pub put_text : (numbers old new : Entries) (key : List ℕ) (node : ℕ) → ((q : List ℕ) → found new q ≡ cond (same_key key q) (Some node) (found old q))
    → (q : List ℕ) → found (both numbers new) q ≡ cond (same_key (1 ∷ key) q) (Some node) (found (both numbers old) q)
put_text numbers old new key node put [] = found_empty numbers new ∙ sym (found_empty numbers old)
put_text numbers old new key node put (zero ∷ q) =
    found_number numbers new q ∙ sym (found_number numbers old q) ∙ other 1 0 key q node (found (both numbers old) (0 ∷ q)) (λ e. omega (arith, e))
put_text numbers old new key node put (suc zero ∷ q) = found_text numbers new q ∙ put q ∙ ap (λ o. cond (same_key key q) (Some node) o) (sym (found_text numbers old q))
put_text numbers old new key node put (suc (suc n) ∷ q) =
    found_high numbers new n q ∙ sym (found_high numbers old n q) ∙ other 1 (suc (suc n)) key q node (found (both numbers old) (suc (suc n) ∷ q)) (λ e. omega (arith, e))
