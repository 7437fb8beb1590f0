-- Two lists of labels that are alike, of which each has its labels in order of first appearance, are equal.
use Rattle.std.proofs.Common.{ℕ, zero, suc, Bool, true, false, not, List, [], ◌∷◌, Option, Some, None, ◌≡◌, ◌<◌, ◌≤◌, ◌+◌, ◌↔◌, cond, filter, refl, sym, ap, subst, ◌∙◌, inl, inr, arith}
use Rattle.std.specs.Prelude.{nat_eq}
use Rattle.std.specs.List.{range_with_len, cons_option}
use Rattle.std.proofs.lemmas.Bool.{eqb-true, eqb-false, eq-eqb, ne_eqb, cases_lt}
use Rattle.cq_theory.specs.Listed.{firsts}

module _ (R : ℕ → ℕ → Type 0) where
  -- R holds of the labels at each place
  abbrev pub Aligned : List ℕ → List ℕ → Type 0
  Aligned [] [] = Unit {0}
  Aligned (x ∷ xs) (y ∷ ys) = R x y × Aligned xs ys
  Aligned _ _ = ⊥

  joined : (b c : Bool) (x y : ℕ) (xs ys : List ℕ) → b ≡ c → R x y → Aligned xs ys → Aligned (cond (not b) (x ∷ xs) xs) (cond (not c) (y ∷ ys) ys)
  joined true true x y xs ys e r h = h
  joined false false x y xs ys e r h = (r, h)
  joined true false x y xs ys e r h = cc
  joined false true x y xs ys e r h = cc

  -- both labels, or none
  abbrev pub BothLabelled : Option ℕ → Option ℕ → Type 0
  BothLabelled None None = Unit {0}
  BothLabelled (Some x) (Some y) = R x y
  BothLabelled _ _ = ⊥

  pub aligned-cons : (o p : Option ℕ) (xs ys : List ℕ) → BothLabelled o p → Aligned xs ys → Aligned (cons_option o xs) (cons_option p ys)
  aligned-cons None None xs ys b h = h
  aligned-cons (Some x) (Some y) xs ys b h = (b, h)
  aligned-cons None (Some y) xs ys b h = absurd b
  aligned-cons (Some x) None xs ys b h = absurd b

  -- R relates each label to one label alone, both ways
  module _ (one : (x x' y y' : ℕ) → R x y → R x' y' → (x ≡ x') ↔ (y ≡ y')) where
    same_tests : (x x' y y' : ℕ) → R x y → R x' y' → nat_eq x x' ≡ nat_eq y y'
    same_tests x x' y y' r r' = at_test (nat_eq x x') refl
      where
        at_test : (b : Bool) → nat_eq x x' ≡ b → nat_eq x x' ≡ nat_eq y y'
        at_test true e = e ∙ sym (eq-eqb y y' ((one x x' y y' r r').0 (eqb-true x x' e)))
        at_test false e = e ∙ sym (ne_eqb y y' (λ h. eqb-false x x' e ((one x x' y y' r r').1 h)))

    aligned-filter : (x y : ℕ) (xs ys : List ℕ) → R x y → Aligned xs ys → Aligned (filter (λ z. not (nat_eq x z)) xs) (filter (λ z. not (nat_eq y z)) ys)
    aligned-filter x y [] [] r h = tt
    aligned-filter x y (x' ∷ xs) (y' ∷ ys) r h =
        joined (nat_eq x x') (nat_eq y y') x' y' (filter (λ z. not (nat_eq x z)) xs) (filter (λ z. not (nat_eq y z)) ys) (same_tests x x' y y' r h.0) h.0 (aligned-filter x y xs ys r h.1)
    aligned-filter x y [] (y' ∷ ys) r h = absurd h
    aligned-filter x y (x' ∷ xs) [] r h = absurd h

    pub aligned-firsts : (xs ys : List ℕ) → Aligned xs ys → Aligned (firsts nat_eq xs) (firsts nat_eq ys)
    aligned-firsts [] [] h = tt
    aligned-firsts (x ∷ xs) (y ∷ ys) h = (h.0, aligned-filter x y (firsts nat_eq xs) (firsts nat_eq ys) h.0 (aligned-firsts xs ys h.1))
    aligned-firsts [] (y ∷ ys) h = absurd h
    aligned-firsts (x ∷ xs) [] h = absurd h

  -- consecutive numbers are related each to itself
  pub diagonal : (s m n : ℕ) → Aligned (range_with_len s m) (range_with_len s n) → (m ≡ n) × ((k : ℕ) → s ≤ k → k < s + m → R k k)
  diagonal s zero zero h = (refl, λ k low high. absurd (omega arith))
  diagonal s (suc m) (suc n) h =
      let rest = diagonal (s + 1) m n h.1 in (
        ap suc rest.0,
        λ k low high. elim (cases_lt s k) [
          | inl above ↦ rest.1 k (omega arith) (omega arith)
          | inr here ↦ let same : s ≡ k = omega arith in subst (λ x. R x x) same h.0
        ],
      )
  diagonal s zero (suc n) h = absurd h
  diagonal s (suc m) zero h = absurd h
