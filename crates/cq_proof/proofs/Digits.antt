-- Lists of digits, and the list that comes next.
use Rattle.std.proofs.Common.{ℕ, zero, suc, List, [], ◌∷◌, ◌++◌, ◌≡◌, ◌<◌, ◌≤◌, ◌+◌, length, drop, get_or, set, replicate, refl, sym, ap, ◌∙◌, subst, arith, add-one, drop-cons}
use Rattle.std.specs.Prelude.{All}
use Rattle.std.proofs.Math.ListN.{drop_of_length-le}
use Rattle.std.proofs.lemmas.List.{append-nil}
use Rattle.std.proofs.lemmas.List.Elements.{All-set}
use Rattle.cq_proof.specs.Counting.{behind}

abbrev MOST : ℕ
MOST = 18446744073709551615

abbrev AreBelow : List ℕ → Type 0
AreBelow = All (λ d. d < 18446744073709551616)

-- the same number of lists behind
pub same_behind : (xs ys : List ℕ) → length xs ≡ length ys → AreBelow xs → AreBelow ys → behind xs ≡ behind ys → xs ≡ ys
same_behind [] [] len below below' e = refl
same_behind [] (y ∷ ys) len below below' e = absurd (omega arith)
same_behind (x ∷ xs) [] len below below' e = absurd (omega arith)
same_behind (x ∷ xs) (y ∷ ys) len below below' e =
    let x_below : x < 18446744073709551616 = below 0 0 (omega arith) in
    let y_below : y < 18446744073709551616 = below' 0 0 (omega arith) in
    let same_head : x ≡ y = omega arith in
    let same_rest : behind xs ≡ behind ys = omega arith in
    let same_tail : xs ≡ ys = same_behind xs ys (omega (arith, len)) (λ k d h. below (suc k) d (omega (arith, h))) (λ k d h. below' (suc k) d (omega (arith, h))) same_rest in
    cc

-- most lists are behind the zeros
pub first_behind : (n : ℕ) (digits : List ℕ) → length digits ≡ n → behind digits ≤ behind (replicate n 0)
first_behind zero [] len = omega arith
first_behind zero (d ∷ digits) len = absurd (omega arith)
first_behind (suc n) [] len = absurd (omega arith)
first_behind (suc n) (d ∷ digits) len = let rest = first_behind n digits (omega (arith, len)) in omega arith

-- a list whose first digits are the greatest, and the next one
pub raised : (i d : ℕ) (rest : List ℕ) → d < MOST → behind (replicate i MOST ++ d ∷ rest) ≡ behind (replicate i 0 ++ (d + 1) ∷ rest) + 1
raised zero d rest below = omega arith
raised (suc i) d rest below = let more = raised i d rest below in omega arith

-- there is none behind the greatest
pub none_behind : (n : ℕ) → behind (replicate n MOST) ≡ 0
none_behind zero = refl
none_behind (suc n) = let more = none_behind n in omega arith

set_behind : (i d v z : ℕ) (rest : List ℕ) → set (replicate i z ++ d ∷ rest) i v ≡ replicate i z ++ v ∷ rest
set_behind zero d v z rest = refl
set_behind (suc i) d v z rest = ap (λ xs. z ∷ xs) (set_behind i d v z rest)

drop_behind : (i v z : ℕ) (rest : List ℕ) → drop (suc i) (replicate i z ++ v ∷ rest) ≡ rest
drop_behind zero v z rest = refl
drop_behind (suc i) v z rest = drop_behind i v z rest

one_more : (i z : ℕ) (rest : List ℕ) → replicate i z ++ z ∷ rest ≡ replicate (suc i) z ++ rest
one_more zero z rest = refl
one_more (suc i) z rest = ap (λ xs. z ∷ xs) (one_more i z rest)

-- the first i digits were the greatest and are 0
pub record AreCarried (old digits : List ℕ) (i : ℕ) : Type 0 where
  pub before : old ≡ replicate i 18446744073709551615 ++ drop i digits
  pub now : digits ≡ replicate i 0 ++ drop i digits
  pub below : All (λ d. d < 18446744073709551616) digits

module _ (old digits : List ℕ) (i : ℕ) (within : i < length digits) (carried : AreCarried old digits i) where
  here : drop i digits ≡ get_or digits i 0 ∷ drop (suc i) digits
  here = drop-cons digits i 0 within

  digits_is : digits ≡ replicate i 0 ++ get_or digits i 0 ∷ drop (suc i) digits
  digits_is = carried.now ∙ ap (λ xs. replicate i 0 ++ xs) here

  old_is : old ≡ replicate i 18446744073709551615 ++ get_or digits i 0 ∷ drop (suc i) digits
  old_is = carried.before ∙ ap (λ xs. replicate i 18446744073709551615 ++ xs) here

  set_is : (v : ℕ) → set digits i v ≡ replicate i 0 ++ v ∷ drop (suc i) digits
  set_is v = ap (λ xs. set xs i v) digits_is ∙ set_behind i (get_or digits i 0) v 0 (drop (suc i) digits)

  pub raised_by : (v : ℕ) → v ≡ get_or digits i 0 + 1 → get_or digits i 0 < MOST → behind old ≡ behind (set digits i v) + 1
  raised_by v is below =
      ap behind old_is ∙ raised i (get_or digits i 0) (drop (suc i) digits) below
      ∙ ap (λ xs. behind xs + 1) (ap (λ w. replicate i 0 ++ w ∷ drop (suc i) digits) (sym is) ∙ sym (set_is v))

  pub carried_on : get_or digits i 0 ≡ MOST → AreCarried old (set digits i 0) (i + 1)
  carried_on most =
      let rest : List ℕ = drop (suc i) digits in
      let after : drop (suc i) (set digits i 0) ≡ drop (suc i) digits = ap (drop (suc i)) (set_is 0) ∙ drop_behind i 0 0 (drop (suc i) digits) in
      subst (AreCarried old (set digits i 0)) (sym (add-one i)) (record {
        before = old_is ∙ ap (λ d. replicate i 18446744073709551615 ++ d ∷ drop (suc i) digits) most ∙ one_more i 18446744073709551615 (drop (suc i) digits)
            ∙ ap (λ xs. replicate (suc i) 18446744073709551615 ++ xs) (sym after);
        now = set_is 0 ∙ one_more i 0 (drop (suc i) digits) ∙ ap (λ xs. replicate (suc i) 0 ++ xs) (sym after);
        below = All-set (λ d. d < 18446744073709551616) digits i 0 (omega arith) carried.below;
      })

pub carried_all : (old digits : List ℕ) (i : ℕ) → length digits ≤ i → AreCarried old digits i → behind old ≡ 0
carried_all old digits i all carried =
    ap behind (carried.before ∙ ap (λ xs. replicate i 18446744073709551615 ++ xs) (drop_of_length-le digits all) ∙ append-nil (replicate i 18446744073709551615)) ∙ none_behind i
