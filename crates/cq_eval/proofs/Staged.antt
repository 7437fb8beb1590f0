-- The where equations of a stage are those at the places that are listed for it.
use Rattle.std.proofs.Common.{ℕ, zero, suc, Bool, true, false, not, List, [], ◌∷◌, Some, ◌≡◌, ◌<◌, ◌≤◌, ◌+◌, ◌==◌, ◌||◌, cond, inl, inr, map, length, get_or, refl, sym, ap, subst, ◌∙◌, arith}
use Rattle.std.specs.Prelude.{slice_get, slice_index_or, All}
use Rattle.std.proofs.lemmas.Bool.{cases_order, eqb-true, eq-eqb}
use Rattle.std.proofs.lemmas.List.{length-map}
use Rattle.std.proofs.lemmas.List.FromFn.{get_or-map-range_with_len}
use Rattle.std.proofs.lemmas.Option.{slice_get-get_or, get_or_from_slice_get, slice_get_within}
use Rattle.cq_theory.specs.declared.presentation.Equation.{Equation}
use Rattle.cq_theory.specs.Canonical.{below}
use Rattle.cq_theory.specs.Groups.{positions_from, positions}
use Rattle.cq_theory.specs.Tables.{Tables}
use Rattle.cq_theory.proofs.Faults.{made_of}
use Rattle.cq_instance.proofs.Lists.{All_from}
use Rattle.cq_query.proofs.Answering.{IsIn}
use Rattle.cq_query.proofs.Holding.{position_of_member}
use Rattle.cq_eval.specs.Testing.{holds_at, stage}
use Rattle.cq_eval.specs.Join.{test_passes_at}
use Rattle.cq_eval.proofs.Answered.{all_at, all_from_each}
use Rattle.cq_eval.proofs.Covered.{position_within}

-- a number stands at each of its places
abbrev StandsAt : ℕ → List ℕ → ℕ → ℕ → Type 0
StandsAt s xs e p = (n : ℕ) × (p ≡ s + n) × (slice_get xs n ≡ Some e)

one_later : (s x : ℕ) (xs : List ℕ) (e p : ℕ) → StandsAt (s + 1) xs e p → StandsAt s (x ∷ xs) e p
one_later s x xs e p h = (suc h.0, (let is = h.1 in omega (arith, is)), h.2)

either_place : (s x : ℕ) (xs rest : List ℕ) (e k p : ℕ) (b : Bool) → (x == e) ≡ b → slice_get (cond b (s ∷ rest) rest) k ≡ Some p → ((j : ℕ) → slice_get rest j ≡ Some p → StandsAt (s + 1) xs e p) → StandsAt s (x ∷ xs) e p
either_place s x xs rest e zero p true h there later = let same : s ≡ p = cc in (0, omega (arith, same), ap (λ y. Some y) (eqb-true x e h))
either_place s x xs rest e (suc k) p true h there later = one_later s x xs e p (later k there)
either_place s x xs rest e k p false h there later = one_later s x xs e p (later k there)

place_of_number : (s : ℕ) (xs : List ℕ) (e k p : ℕ) → slice_get (positions_from s xs e) k ≡ Some p → StandsAt s xs e p
place_of_number s [] e k p at = cc
place_of_number s (x ∷ xs) e k p at = either_place s x xs (positions_from (s + 1) xs e) e k p (x == e) refl at (λ j there. place_of_number (s + 1) xs e j p there)

-- each where equation at the first of these places holds
abbrev pub Met : Tables → List Equation → List ℕ → List ℕ → ℕ → Type 0
Met M tests rows places count = (k : ℕ) → k < count → (e : Equation) → slice_get tests (get_or places k 0) ≡ Some e → holds_at M rows e ≡ true

pub met_more : (M : Tables) (tests : List Equation) (rows places : List ℕ) (count : ℕ) (passed : Bool) → Met M tests rows places count
    → ((e : Equation) → slice_get tests (get_or places count 0) ≡ Some e → passed ≡ holds_at M rows e) → passed ≡ true → Met M tests rows places (count + 1)
met_more M tests rows places count passed before here is k less e at = elim (cases_order k count) [
  | inl same ↦ sym (here e (ap (λ n. slice_get tests (get_or places n 0)) (sym same) ∙ at)) ∙ is
  | inr other ↦ elim other [ inl lower ↦ before k lower e at | inr upper ↦ absurd (omega (arith, upper, less)) ]
]

some_at : {X : Type 0} (xs : List X) (n : ℕ) → n < length xs → (x : X) × (slice_get xs n ≡ Some x)
some_at [] n less = absurd (omega (arith, less))
some_at (x ∷ xs) zero less = (x, refl)
some_at (x ∷ xs) (suc n) less = some_at xs n (omega (arith, less))

module _ (M : Tables) (tests : List Equation) (counts : List ℕ) (groups : List (List ℕ)) (staged : groups ≡ map (positions (map (stage (length counts)) tests)) (below (length counts + 1)))
    (bound : ℕ) (within : bound ≤ length counts) where
  abbrev stages : List ℕ
  stages = map (stage (length counts)) tests

  are : (places : List ℕ) → places ≡ slice_index_or groups bound [] → places ≡ positions stages bound
  are places is =
      let here : 0 + bound ≡ bound = omega arith in
      let inside : bound < length counts + 1 = omega (arith, within) in
      is ∙ ap (λ g. slice_index_or g bound []) staged ∙ get_or-map-range_with_len (positions stages) 0 (length counts + 1) bound bound [] inside here

  pub place_within : (places : List ℕ) → places ≡ slice_index_or groups bound [] → (k : ℕ) → k < length places → get_or places k 0 < length tests
  place_within places is k less =
      let at : slice_get (positions stages bound) k ≡ Some (get_or places k 0) = ap (λ l. slice_get l k) (sym (are places is)) ∙ slice_get-get_or places k 0 less in
      let inside : get_or places k 0 < 0 + length stages = position_within 0 stages bound k (get_or places k 0) at in
      omega (arith, inside, length-map tests (stage (length counts)))

  module _ (rows places : List ℕ) (listed : places ≡ slice_index_or groups bound []) where
    either : (b c : Bool) → (b ≡ true → c ≡ true) → (not b || c) ≡ true
    either true c h = h refl
    either false c h = refl

    pub all_met : (count : ℕ) → length places ≤ count → Met M tests rows places count → true ≡ test_passes_at M tests counts bound rows
    all_met count past met = sym (all_from_each (λ e. not (stage (length counts) e == bound) || holds_at M rows e) tests
        (λ n e at. either (stage (length counts) e == bound) (holds_at M rows e) (λ same.
        let found : IsIn n (positions stages (stage (length counts) e)) = position_of_member (stage (length counts)) tests n e at in
        let there : slice_get places found.0 ≡ Some n = ap (λ l. slice_get l found.0) (are places listed ∙ ap (positions stages) (sym (eqb-true (stage (length counts) e) bound same))) ∙ found.1 in
        let read : get_or places found.0 0 ≡ n = get_or_from_slice_get places found.0 n 0 there in
        met found.0 (inside found.0 n there) e (ap (slice_get tests) read ∙ at))))
      where
        inside : (k n : ℕ) → slice_get places k ≡ Some n → k < count
        inside k n h = omega (arith, past, slice_get_within places k n h)

    fails_at : (k : ℕ) → k < length places → (e : Equation) → slice_get tests (get_or places k 0) ≡ Some e → holds_at M rows e ≡ false → false ≡ test_passes_at M tests counts bound rows
    fails_at k less e at fails = by (test_passes_at M tests counts bound rows) refl
      where
        second : (b c : Bool) → b ≡ true → (not b || c) ≡ true → c ≡ true
        second true c h k = k
        second false c h k = cc

        by : (b : Bool) → test_passes_at M tests counts bound rows ≡ b → false ≡ b
        by false h = refl
        by true h =
            let place : ℕ = get_or places k 0 in
            let standing : slice_get (positions stages bound) k ≡ Some place = ap (λ l. slice_get l k) (sym (are places listed)) ∙ slice_get-get_or places k 0 less in
            let found = place_of_number 0 stages bound k place standing in
            let here : found.0 ≡ place = (let there = found.1 in omega (arith, there)) in
            let made = made_of (stage (length counts)) tests place bound (ap (slice_get stages) (sym here) ∙ found.2) in
            let both : Some made.0 ≡ Some e = sym made.1 ∙ at in
            let same : made.0 ≡ e = cc in
            let staged_here : (stage (length counts) e == bound) ≡ true = eq-eqb (stage (length counts) e) bound (ap (stage (length counts)) (sym same) ∙ sym made.2) in
            let holds = second (stage (length counts) e == bound) (holds_at M rows e) staged_here (all_at (λ x. not (stage (length counts) x == bound) || holds_at M rows x) tests h place e at) in
            let clash : true ≡ false = sym holds ∙ fails in
            cc

    pub one_not : (k : ℕ) → k < length places → (passed : Bool) → ((e : Equation) → slice_get tests (get_or places k 0) ≡ Some e → passed ≡ holds_at M rows e) → passed ≡ false
        → false ≡ test_passes_at M tests counts bound rows
    one_not k less passed here is =
        let some = some_at tests (get_or places k 0) (place_within places listed k less) in
        fails_at k less some.0 some.1 (sym (here some.0 some.1) ∙ is)

-- no stage is behind the last
pub stages_within : (width : ℕ) (tests : List Equation) (stages : List ℕ) → stages ≡ map (stage width) tests → All (λ s. s < width + 1) stages
stages_within width tests stages are = subst (All (λ s. s < width + 1)) (sym are)
    (All_from (λ s. s < width + 1) (map (stage width) tests) (λ n s at.
    let made = made_of (stage width) tests n s at in
    let is = made.2 in
    let few : stage width made.0 ≤ width = omega arith in
    omega (arith, is, few)))
