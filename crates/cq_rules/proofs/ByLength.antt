-- A word has the class that it has among the words of its length.
use Rattle.std.proofs.Common.{◌≡◌, ℕ, List, [], ◌∷◌, length, Bool, true, false, refl, sym, ap, ◌∙◌}
use Rattle.std.specs.Prelude.{if◌then◌else◌, nat_eq}
use Rattle.std.specs.Str.{bytes_eq}
use Rattle.std.specs.Cmp.{unsigned_Decides}
use Rattle.std.proofs.lemmas.Slice.Eq.{bytes_eq-Decides}
use Rattle.cq_rules.specs.declared.class.Class.{Class}
use Rattle.cq_rules.specs.declared.class.Class.TheVariants as classes
use Rattle.cq_rules.specs.Class.{Entry, class_in, word_class, words, both}
use Rattle.cq_rules.specs.Words.{with_length, words_of}

same_length : (w : List ℕ) (e : Entry) → bytes_eq w e.word ≡ true → length e.word ≡ length w
same_length w e h = ap length (sym ((bytes_eq-Decides w e.word).0 h))

false_or : (b : Bool) → (b ≡ true → ⊥) → b ≡ false
false_or true h = absurd (h refl)
false_or false h = refl

other_length : (n : ℕ) (w : List ℕ) (e : Entry) → length w ≡ n → nat_eq (length e.word) n ≡ false → bytes_eq w e.word ≡ false
other_length n w e is h =
    false_or (bytes_eq w e.word) (λ k. let there : nat_eq (length e.word) n ≡ true = (unsigned_Decides (length e.word) n).1 (same_length w e k ∙ is) in cc (there, h))

by_first : (n : ℕ) (w : List ℕ) (e : Entry) (es : List Entry) → length w ≡ n → class_in w (with_length n es) ≡ class_in w es → (b : Bool) → nat_eq (length e.word) n ≡ b → class_in w (with_length n (e ∷ es)) ≡ class_in w (e ∷ es)
by_first n w e es is ih true h = rw h (ap (λ z. if bytes_eq w e.word then e.class else z) ih)
by_first n w e es is ih false h = rw (h, other_length n w e is h) ih

by_length : (n : ℕ) (w : List ℕ) (es : List Entry) → length w ≡ n → class_in w (with_length n es) ≡ class_in w es
by_length n w [] is = refl
by_length n w (e ∷ es) is = by_first n w e es is (by_length n w es is) (nat_eq (length e.word) n) refl

pub class_of_length : (n : ℕ) (w : List ℕ) (c : Class) → length w ≡ n → c ≡ class_in w (words_of n) → c ≡ word_class w
unfolding word_class
class_of_length n w c is e = e ∙ by_length n w words is

-- no word of the table has this length
abbrev pub Missing : ℕ → List ℕ → Type 0
Missing n [] = Unit {0}
Missing n (k ∷ ks) = (n ≡ k → ⊥) × Missing n ks

abbrev has : List ℕ → ℕ → Bool
has [] n = false
has (k ∷ ks) n = if nat_eq n k then true else has ks n

abbrev covered : List ℕ → List Entry → Bool
covered ks [] = true
covered ks (e ∷ es) = both (has ks (length e.word)) (covered ks es)

has_not : (ks : List ℕ) (n : ℕ) → Missing n ks → has ks n ≡ false
has_not [] n h = refl
has_not (k ∷ ks) n h = rw (false_or (nat_eq n k) (λ e. h.0 ((unsigned_Decides n k).0 e))) (has_not ks n h.1)

left : (a b : Bool) → both a b ≡ true → a ≡ true
left true b e = refl
left false b e = e

right : (a b : Bool) → both a b ≡ true → b ≡ true
right true b e = e
right false b e = cc

not_there : (ks : List ℕ) (w : List ℕ) (e : Entry) → Missing (length w) ks → has ks (length e.word) ≡ true → bytes_eq w e.word ≡ false
not_there ks w e h k =
    false_or (bytes_eq w e.word) (λ is. let none : has ks (length e.word) ≡ false = ap (has ks) (same_length w e is) ∙ has_not ks (length w) h in cc (none, k))

none_in : (ks : List ℕ) (w : List ℕ) (es : List Entry) → Missing (length w) ks → covered ks es ≡ true → class_in w es ≡ classes.Name
none_in ks w [] h c = refl
none_in ks w (e ∷ es) h c = rw (not_there ks w e h (left _ _ c)) (none_in ks w es h (right (has ks (length e.word)) _ c))

abbrev pub lengths : List ℕ
lengths = 2 ∷ 3 ∷ 4 ∷ 5 ∷ 6 ∷ 7 ∷ 8 ∷ 9 ∷ 10 ∷ 11 ∷ 12 ∷ 14 ∷ 16 ∷ 18 ∷ 21 ∷ []

pub class_of_other : (w : List ℕ) → Missing (length w) lengths → classes.Name ≡ word_class w
unfolding word_class
class_of_other w h = sym (none_in lengths w words h refl)
