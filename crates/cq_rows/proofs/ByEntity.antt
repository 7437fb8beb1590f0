-- The equations of one entity, by their places among all.
use Rattle.std.proofs.Common.{ℕ, zero, suc, List, [], ◌∷◌, Some, ◌≡◌, ◌<◌, ◌+◌, if◌then◌else◌, inl, inr, map, length, get_or, sym, ap, subst, ◌∙◌, ◌≤◌, arith, eq-eqb, ⊎_elim}
use Rattle.std.specs.Prelude.{slice_get, option_map}
use Rattle.std.proofs.lemmas.Bool.{cases_eq, ne_eqb}
use Rattle.std.proofs.lemmas.List.{length-map}
use Rattle.std.proofs.lemmas.Option.{slice_get-map, slice_get-get_or, slice_get_within}
use Rattle.cq_tables.specs.Content.{Content, entity_of}
use Rattle.cq_theory.specs.Groups.{positions_from, positions, path_eq_sources}
use Rattle.cq_rows.specs.Theory.{Rule, Theory}
use Rattle.cq_rows.specs.Rows.{RuleHolds, HoldIfLive}
use Rattle.cq_rows.proofs.Cells.{below_or_at}

first_below : (s n k : ℕ) (later : List ℕ) → s < k → ((r : ℕ) → slice_get later r ≡ Some n → n < k) → (r : ℕ) → slice_get (s ∷ later) r ≡ Some n → n < k
first_below s n k later h rest zero is = let first : s ≡ n = cc in omega (arith, h, first)
first_below s n k later h rest (suc r) is = rest r is

below_from : (s : ℕ) (xs : List ℕ) (e r n : ℕ) → slice_get (positions_from s xs e) r ≡ Some n → n < s + length xs
below_from s [] e r n h = cc
below_from s (x ∷ xs) e r n h =
    let later : (q : ℕ) → slice_get (positions_from (s + 1) xs e) q ≡ Some n → n < s + suc (length xs) = λ q is. omega (arith, below_from (s + 1) xs e q n is) in
    elim (cases_eq x e) [
      | inl same ↦ first_below s n (s + suc (length xs)) (positions_from (s + 1) xs e) (omega arith) later r (ap (λ b. slice_get (if b then s ∷ positions_from (s + 1) xs e else positions_from (s + 1) xs e) r) (sym (eq-eqb x e same)) ∙ h)
      | inr other ↦ later r (ap (λ b. slice_get (if b then s ∷ positions_from (s + 1) xs e else positions_from (s + 1) xs e) r) (sym (ne_eqb x e other)) ∙ h)
    ]

there_from : (s : ℕ) (xs : List ℕ) (e i : ℕ) → slice_get xs i ≡ Some e → (r : ℕ) × (slice_get (positions_from s xs e) r ≡ Some (s + i))
there_from s [] e i h = cc
there_from s (x ∷ xs) e zero h =
    let same : x ≡ e = cc in
    let here : s ≡ s + 0 = omega arith in
    (0, ap (λ b. slice_get (if b then s ∷ positions_from (s + 1) xs e else positions_from (s + 1) xs e) 0) (eq-eqb x e same) ∙ ap (λ n. Some n) here)
there_from s (x ∷ xs) e (suc i) h =
    let p = there_from (s + 1) xs e i h in
    let there : s + 1 + i ≡ s + suc i = omega arith in
    elim (cases_eq x e) [
      | inl same ↦ (suc p.0, ap (λ b. slice_get (if b then s ∷ positions_from (s + 1) xs e else positions_from (s + 1) xs e) (suc p.0)) (eq-eqb x e same) ∙ p.1 ∙ ap (λ n. Some n) there)
      | inr other ↦ (p.0, ap (λ b. slice_get (if b then s ∷ positions_from (s + 1) xs e else positions_from (s + 1) xs e) p.0) (ne_eqb x e other) ∙ p.1 ∙ ap (λ n. Some n) there)
    ]

-- each position is that of a member
pub position_below : {X : Type 0} (source : X → ℕ) (xs : List X) (e r n : ℕ) → slice_get (positions (map source xs) e) r ≡ Some n → n < length xs
position_below source xs e r n h =
    let size : length (map source xs) ≡ length xs = length-map xs source in
    omega (arith, below_from 0 (map source xs) e r n h, size)

-- each member that begins at e stands at one of the positions of e
pub at_position : {X : Type 0} (source : X → ℕ) (xs : List X) (e i : ℕ) (x : X) → slice_get xs i ≡ Some x → source x ≡ e → (r : ℕ) × (slice_get (positions (map source xs) e) r ≡ Some i)
at_position source xs e i x is begins =
    let found : slice_get (map source xs) i ≡ Some e = slice_get-map source xs i ∙ ap (option_map source) is ∙ ap (λ y. Some y) begins in
    let p = there_from 0 (map source xs) e i found in
    let here : 0 + i ≡ i = omega arith in
    (p.0, p.1 ∙ ap (λ n. Some n) here)

-- the path equations at the first n of the places hold at a row
abbrev pub HoldAt : Theory → Content → ℕ → List ℕ → ℕ → Type 0
HoldAt s m row places n = (r i : ℕ) → r < n → slice_get places r ≡ Some i → RuleHolds s m row i

pub one_more_place : (s : Theory) (m old : Content) (row : ℕ) (places : List ℕ) (n : ℕ) → m ≡ old → n < length places → RuleHolds s m row (get_or places n 0) → HoldAt s old row places n → HoldAt s old row places (n + 1)
one_more_place s m old row places n is within here before r j less found =
    ⊎_elim (λ l. before r j l found) (λ q.
    let same : Some (get_or places n 0) ≡ Some j = sym (slice_get-get_or places n 0 within) ∙ ap (slice_get places) (sym q) ∙ found in
    let number : get_or places n 0 ≡ j = cc in
    subst (λ (x : Content). RuleHolds s x row j) is (subst (RuleHolds s m row) number here)) (below_or_at r n less)

-- the path equations at the places of a row's entity are all that speak of the row
pub hold_there : (s : Theory) (m : Content) (row : ℕ) (places : List ℕ) (n : ℕ) → places ≡ positions (path_eq_sources s.rules) (entity_of m row) → length places ≤ n → HoldAt s m row places n → HoldIfLive s m row
hold_there s m row places n are all hold l i u found kind =
    let p = at_position (λ (e : Rule). e.entity) s.rules (entity_of m row) i u found (sym kind) in
    let at : slice_get places p.0 ≡ Some i = ap (λ g. slice_get g p.0) are ∙ p.1 in
    hold p.0 i (omega (arith, slice_get_within places p.0 i at, all)) at l u found kind
