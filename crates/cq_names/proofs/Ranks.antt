-- The numbers of the members of a list that are one number, and the rank of each among them.
use Rattle.std.proofs.Common.{ℕ, zero, suc, Bool, true, false, List, [], ◌∷◌, Some, ◌≡◌, ◌≤◌, ◌<◌, ◌+◌, ◌==◌, if◌then◌else◌, inl, inr, map, length, get_or, refl, sym, ap, subst, ◌∙◌, arith, eq-eqb}
use Rattle.std.specs.Prelude.{slice_get}
use Rattle.std.proofs.lemmas.Bool.{cases_eq, cases_lt, ne_eqb}
use Rattle.std.proofs.lemmas.List.{same_lists, length-map, get_or-map}
use Rattle.std.proofs.lemmas.List.FromFn.{length-range_with_len, get_or-range_with_len}
use Rattle.std.proofs.lemmas.Option.{slice_get-get_or, slice_get_within}
use Rattle.cq_theory.specs.Canonical.{below}
use Rattle.cq_theory.specs.Groups.{positions_from, positions}
use Rattle.cq_instance.proofs.Positions.{positions_same, positions_other}
use Rattle.cq_names.specs.Ranks.{rank, members}

module _ (x : ℕ) (xs : List ℕ) (e : ℕ) where
  rank_same : (x == e) ≡ true → (n : ℕ) → rank (x ∷ xs) e (suc n) ≡ suc (rank xs e n)
  rank_same h n = ap (λ b. if b then suc (rank xs e n) else rank xs e n) h

  rank_other : (x == e) ≡ false → (n : ℕ) → rank (x ∷ xs) e (suc n) ≡ rank xs e n
  rank_other h n = ap (λ b. if b then suc (rank xs e n) else rank xs e n) h

-- n is the number of the member at some place, which is e and has rank r
pub record IsPosition (s : ℕ) (xs : List ℕ) (e r n : ℕ) : Type 0 where
  pub place : ℕ
  pub number : n ≡ s + place
  pub is : slice_get xs place ≡ Some e
  pub ranked : rank xs e place ≡ r

first_or_later : (s x : ℕ) (xs : List ℕ) (e n : ℕ) → x ≡ e → ((r : ℕ) → slice_get (positions_from (s + 1) xs e) r ≡ Some n → IsPosition (s + 1) xs e r n)
    → (r : ℕ) → slice_get (s ∷ positions_from (s + 1) xs e) r ≡ Some n → IsPosition s (x ∷ xs) e r n
first_or_later s x xs e n same later zero h =
    let here : s ≡ n = cc in
    record { place = 0; number = omega arith; is = ap (λ y. Some y) same; ranked = refl }
first_or_later s x xs e n same later (suc r) h =
    let p = later r h in
    record { place = suc p.place; number = omega (arith, p.number); is = p.is; ranked = rank_same x xs e (eq-eqb x e same) p.place ∙ ap suc p.ranked }

positions_from_at : (s : ℕ) (xs : List ℕ) (e r n : ℕ) → slice_get (positions_from s xs e) r ≡ Some n → IsPosition s xs e r n
positions_from_at s [] e r n h = cc
positions_from_at s (x ∷ xs) e r n h = elim (cases_eq x e) [
  | inl same ↦ first_or_later s x xs e n same (λ q. positions_from_at (s + 1) xs e q n) r (ap (λ l. slice_get l r) (sym (positions_same x xs e (eq-eqb x e same) s)) ∙ h)
  | inr other ↦
      let unlike : (x == e) ≡ false = ne_eqb x e other in
      let p = positions_from_at (s + 1) xs e r n (ap (λ l. slice_get l r) (sym (positions_other x xs e unlike s)) ∙ h) in
      record { place = suc p.place; number = omega (arith, p.number); is = p.is; ranked = rank_other x xs e unlike p.place ∙ p.ranked }
]

-- what stands at a place of the positions is a member that is e, and the place is its rank
pub positions_at : (xs : List ℕ) (e r n : ℕ) → slice_get (positions xs e) r ≡ Some n → (slice_get xs n ≡ Some e) × (rank xs e n ≡ r)
positions_at xs e r n h =
    let p = positions_from_at 0 xs e r n h in
    let here : p.place ≡ n = omega (arith, p.number) in
    (subst (λ m. slice_get xs m ≡ Some e) here p.is, subst (λ m. rank xs e m ≡ r) here p.ranked)

positions_from_rank : (s : ℕ) (xs : List ℕ) (e n : ℕ) → slice_get xs n ≡ Some e → slice_get (positions_from s xs e) (rank xs e n) ≡ Some (s + n)
positions_from_rank s [] e n h = cc
positions_from_rank s (x ∷ xs) e zero h =
    let same : x ≡ e = cc in
    let here : s ≡ s + 0 = omega arith in
    ap (λ l. slice_get l 0) (positions_same x xs e (eq-eqb x e same) s) ∙ ap (λ m. Some m) here
positions_from_rank s (x ∷ xs) e (suc n) h =
    let later : slice_get (positions_from (s + 1) xs e) (rank xs e n) ≡ Some (s + 1 + n) = positions_from_rank (s + 1) xs e n h in
    let there : s + 1 + n ≡ s + suc n = omega arith in
    elim (cases_eq x e) [
      | inl same ↦
          let alike : (x == e) ≡ true = eq-eqb x e same in
          ap (λ l. slice_get l (rank (x ∷ xs) e (suc n))) (positions_same x xs e alike s) ∙ ap (slice_get (s ∷ positions_from (s + 1) xs e)) (rank_same x xs e alike n)
          ∙ later ∙ ap (λ m. Some m) there
      | inr other ↦
          let unlike : (x == e) ≡ false = ne_eqb x e other in
          ap (λ l. slice_get l (rank (x ∷ xs) e (suc n))) (positions_other x xs e unlike s) ∙ ap (slice_get (positions_from (s + 1) xs e)) (rank_other x xs e unlike n)
          ∙ later ∙ ap (λ m. Some m) there
    ]

-- a member that is e stands in the positions at its rank
pub positions_rank : (xs : List ℕ) (e n : ℕ) → slice_get xs n ≡ Some e → slice_get (positions xs e) (rank xs e n) ≡ Some n
positions_rank xs e n h =
    let here : 0 + n ≡ n = omega arith in
    positions_from_rank 0 xs e n h ∙ ap (λ m. Some m) here

pub rank_within : (xs : List ℕ) (e n : ℕ) → slice_get xs n ≡ Some e → rank xs e n < members xs e
rank_within xs e n h = slice_get_within (positions xs e) (rank xs e n) n (positions_rank xs e n h)

-- the ranks of the positions are 0, 1, and so on
pub map_rank : (xs : List ℕ) (e : ℕ) → map (rank xs e) (positions xs e) ≡ below (members xs e)
map_rank xs e =
    let whole : length (map (rank xs e) (positions xs e)) ≡ members xs e = length-map (positions xs e) (rank xs e) in
    same_lists (map (rank xs e) (positions xs e)) (below (members xs e)) (whole ∙ sym (length-range_with_len 0 (members xs e))) (λ k d within.
    let inside : k < members xs e = omega arith in
    let here : slice_get (positions xs e) k ≡ Some (get_or (positions xs e) k 0) = slice_get-get_or (positions xs e) k 0 inside in
    let zeroth : k ≡ 0 + k = omega arith in
    get_or-map (rank xs e) (positions xs e) k 0 d inside ∙ (positions_at xs e k (get_or (positions xs e) k 0) here).1 ∙ zeroth ∙ sym (get_or-range_with_len 0 (members xs e) k d inside))

rank-monotone : (xs : List ℕ) (e m n : ℕ) → m ≤ n → rank xs e m ≤ rank xs e n
rank-monotone [] e m n h = omega arith
rank-monotone (x ∷ xs) e zero n h = omega arith
rank-monotone (x ∷ xs) e (suc m) zero h = absurd (omega arith)
rank-monotone (x ∷ xs) e (suc m) (suc n) h =
    let rest : rank xs e m ≤ rank xs e n = rank-monotone xs e m n (omega arith) in
    elim (cases_eq x e) [
      | inl same ↦ let alike : (x == e) ≡ true = eq-eqb x e same in omega (arith, rank_same x xs e alike m, rank_same x xs e alike n)
      | inr other ↦ let unlike : (x == e) ≡ false = ne_eqb x e other in omega (arith, rank_other x xs e unlike m, rank_other x xs e unlike n)
    ]

-- the positions increase
pub positions-increasing : (xs : List ℕ) (e r next m n : ℕ) → r < next → slice_get (positions xs e) r ≡ Some m → slice_get (positions xs e) next ≡ Some n → m < n
positions-increasing xs e r next m n less at_r at_next =
    let first : rank xs e m ≡ r = (positions_at xs e r m at_r).1 in
    let second : rank xs e n ≡ next = (positions_at xs e next n at_next).1 in
    elim (cases_lt m n) [ inl lt ↦ lt | inr le ↦ absurd (omega (arith, rank-monotone xs e n m le)) ]

suc_if : (b : Bool) (m : ℕ) → suc (if b then m + 1 else m) ≡ (if b then suc m + 1 else suc m)
suc_if true m = omega arith
suc_if false m = refl

pub rank_zero : (xs : List ℕ) (e : ℕ) → rank xs e 0 ≡ 0
rank_zero [] e = refl
rank_zero (x ∷ xs) e = refl

one_if : (b : Bool) (m : ℕ) → m ≡ 0 → (if b then suc m else m) ≡ (if b then 1 else 0)
one_if true m h = ap suc h
one_if false m h = h

-- the rank one place on
pub rank_more : (xs : List ℕ) (e n x : ℕ) → slice_get xs n ≡ Some x → rank xs e (n + 1) ≡ (if x == e then rank xs e n + 1 else rank xs e n)
rank_more [] e n x h = cc
rank_more (y ∷ ys) e zero x h =
    let same : y ≡ x = cc in
    one_if (y == e) (rank ys e 0) (rank_zero ys e) ∙ ap (λ z. if z == e then 1 else 0) same
rank_more (y ∷ ys) e (suc n) x h =
    let there : suc n + 1 ≡ suc (n + 1) = omega arith in
    let rest : rank ys e (n + 1) ≡ (if x == e then rank ys e n + 1 else rank ys e n) = rank_more ys e n x h in
    ap (rank (y ∷ ys) e) there ∙ elim (cases_eq y e) [
      | inl same ↦
          let alike : (y == e) ≡ true = eq-eqb y e same in
          rank_same y ys e alike (n + 1) ∙ ap suc rest ∙ suc_if (x == e) (rank ys e n) ∙ ap (λ m. if x == e then m + 1 else m) (sym (rank_same y ys e alike n))
      | inr other ↦
          let unlike : (y == e) ≡ false = ne_eqb y e other in
          rank_other y ys e unlike (n + 1) ∙ rest ∙ ap (λ m. if x == e then m + 1 else m) (sym (rank_other y ys e unlike n))
    ]

-- no more members than the list has
pub members-length : (xs : List ℕ) (e : ℕ) → members xs e ≤ length xs
members-length xs e = go 0 xs
  where
    go : (s : ℕ) (ys : List ℕ) → length (positions_from s ys e) ≤ length ys
    go s [] = omega arith
    go s (y ∷ ys) =
        let rest : length (positions_from (s + 1) ys e) ≤ length ys = go (s + 1) ys in
        elim (cases_eq y e) [
          | inl same ↦ omega (arith, ap length (positions_same y ys e (eq-eqb y e same) s))
          | inr other ↦ omega (arith, ap length (positions_other y ys e (ne_eqb y e other) s))
        ]

pub rank-length : (xs : List ℕ) (e n : ℕ) → rank xs e n ≤ length xs
rank-length [] e n = omega arith
rank-length (x ∷ xs) e zero = omega arith
rank-length (x ∷ xs) e (suc n) =
    let rest : rank xs e n ≤ length xs = rank-length xs e n in
    elim (cases_eq x e) [
      | inl same ↦ omega (arith, rank_same x xs e (eq-eqb x e same) n)
      | inr other ↦ omega (arith, rank_other x xs e (ne_eqb x e other) n)
    ]
