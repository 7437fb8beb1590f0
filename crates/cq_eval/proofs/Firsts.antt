-- The first variables of where equations, and borders that are found by them.
use Rattle.std.proofs.Common.{ℕ, zero, suc, Bool, true, false, List, [], ◌∷◌, Some, ◌≡◌, ◌<◌, ◌≤◌, ◌+◌, ◌-◌, ◌⊎◌, inl, inr, min, set, length, get_or, refl, sym, ap, subst, ◌∙◌, arith}
use Rattle.std.specs.Prelude.{slice_get, slice_index, replicate}
use Rattle.std.proofs.lemmas.Bool.{cases_order, cases_lt}
use Rattle.std.proofs.lemmas.Option.{get_or_from_slice_get}
use Rattle.std.proofs.lemmas.List.{get_or-set_same, get_or-set_other}
use Rattle.cq_theory.specs.declared.presentation.Equation.{Equation}
use Rattle.cq_eval.specs.Border.{least, first_variable, IsBorder, AreLeast}
use Rattle.cq_eval.specs.Testing.{stage}

pub least_most : (width : ℕ) (ns : List ℕ) → least width ns ≤ width
least_most width [] = omega arith
least_most width (n ∷ ns) = let rest = least_most width ns in omega (arith, rest)

pub least_init : (width : ℕ) (ns : List ℕ) → min width (least width ns) ≡ least width ns
least_init width ns = let most = least_most width ns in omega (arith, most)

-- the members of a list of which one is set
pub set_at : {X : Type 0} (xs : List X) (i k : ℕ) (x y : X) → slice_get (set xs i x) k ≡ Some y → (slice_get xs k ≡ Some y) ⊎ ((k ≡ i) × (y ≡ x))
set_at [] i k x y h = inl h
set_at (z ∷ xs) zero zero x y h = let same : x ≡ y = cc in inr (refl, sym same)
set_at (z ∷ xs) zero (suc k) x y h = inl h
set_at (z ∷ xs) (suc i) zero x y h = inl h
set_at (z ∷ xs) (suc i) (suc k) x y h = elim (set_at xs i k x y h) [ inl old ↦ inl old | inr new ↦ inr (ap suc new.0, new.1) ]

pub none_true : (n k : ℕ) → slice_get (replicate n false) k ≡ Some true → ⊥
none_true zero k h = cc
none_true (suc n) zero h = cc
none_true (suc n) (suc k) h = none_true n k h

-- a number is lowered
pub lowered : (numbers : List ℕ) (place to n : ℕ) → place < length numbers → to < slice_index numbers place → slice_index (set numbers place to) n ≤ slice_index numbers n
lowered numbers place to n inside less = elim (cases_order n place) [
  | inl same ↦ subst (λ k. slice_index (set numbers place to) k ≤ slice_index numbers k) (sym same) (let here = get_or-set_same numbers place to 0 inside in omega (arith, here, less))
  | inr other ↦ elim other [
    | inl below_it ↦ let there = get_or-set_other numbers place n to 0 (omega (arith, below_it)) in omega (arith, there)
    | inr above ↦ let there = get_or-set_other numbers place n to 0 (omega (arith, above)) in omega (arith, there)
  ]
]

module _ (width : ℕ) (tests : List Equation) where
  -- the first variables that are known of the first equations
  abbrev pub AreSoFar : ℕ → List ℕ → Type 0
  AreSoFar count firsts = (n : ℕ) (e : Equation) → n < count → slice_get tests n ≡ Some e → slice_index firsts (stage width e) ≤ first_variable width e

  pub first_more : (count : ℕ) (e : Equation) (firsts firsts' : List ℕ) → AreSoFar count firsts → count < length tests → e ≡ get_or tests count e
      → ((n : ℕ) → slice_index firsts' n ≤ slice_index firsts n) → slice_index firsts' (stage width e) ≤ first_variable width e → AreSoFar (count + 1) firsts'
  first_more count e firsts firsts' are inside is falls here n x less at = elim (cases_order n count) [
    | inl same ↦
        let read : x ≡ e = sym (get_or_from_slice_get tests count x e (ap (slice_get tests) (sym same) ∙ at)) ∙ sym is in
        subst (λ z. slice_index firsts' (stage width z) ≤ first_variable width z) (sym read) here
    | inr other ↦ elim other [
      | inl before ↦ let old = are n x before at in let fell = falls (stage width x) in omega (arith, old, fell)
      | inr after ↦ absurd (omega (arith, less, after))
    ]
  ]

  -- the first variable of the equations that are tested when at least so many variables are bound
  abbrev pub IsFirstFrom : ℕ → ℕ → Type 0
  IsFirstFrom from first = (n : ℕ) (e : Equation) → slice_get tests n ≡ Some e → from < stage width e → first ≤ first_variable width e

  pub first_from : (firsts : List ℕ) → AreLeast width tests firsts → (from first first' : ℕ) → IsFirstFrom (from + 1) first → first' ≤ first → first' ≤ slice_index firsts (from + 1) → IsFirstFrom from first'
  first_from firsts are from first first' before less here n e at later = elim (cases_lt (from + 1) (stage width e)) [
    | inl after ↦ let old = before n e at after in omega (arith, old, less)
    | inr last ↦
        let same : stage width e ≡ from + 1 = omega (arith, later, last) in
        let told = are.first n e at in
        let there : slice_index firsts (from + 1) ≤ first_variable width e = subst (λ k. slice_index firsts k ≤ first_variable width e) same told in
        omega (arith, there, here)
  ]

  abbrev pub AreBorders : List Bool → Type 0
  AreBorders borders = (bound : ℕ) → slice_get borders bound ≡ Some true → IsBorder width tests bound

  pub border_more : (borders : List Bool) (bound first : ℕ) (is : Bool) → AreBorders borders → IsFirstFrom bound first → (is ≡ true → bound ≤ first) → AreBorders (set borders bound is)
  border_more borders bound first is are from told place at = elim (set_at borders bound place is true at) [
    | inl old ↦ are place old
    | inr new ↦ subst (IsBorder width tests) (sym new.0) (λ n e there later. let old = from n e there later in let past = told (sym new.1) in omega (arith, old, past))
  ]
