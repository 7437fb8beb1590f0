-- Lists by places: groups, and writes at one number.
use Rattle.std.proofs.Common.{ℕ, zero, suc, true, false, List, [], ◌∷◌, ◌++◌, Some, ◌≡◌, ◌≢◌, ◌<◌, ◌≤◌, ◌+◌, ◌==◌, if◌then◌else◌, inl, inr, map, take, length, get_or, slice_set, refl, sym, ap, ◌∙◌, arith, eq-eqb}
use Rattle.std.specs.Prelude.{slice_get}
use Rattle.std.specs.List.{range_with_len}
use Rattle.std.proofs.lemmas.Bool.{cases_eq, ne_eqb}
use Rattle.std.proofs.lemmas.List.{append-nil, get_or-set_same, get_or-set_other, length-set, take_more, length-take-le}
use Rattle.std.proofs.lemmas.List.FromFn.{fill_by_all, length-map-range_with_len, get_or-map-range_with_len, map-range_with_len_more}
use Rattle.cq_theory.specs.Canonical.{below}
use Rattle.cq_theory.specs.declared.groups.Groups.{Groups}
use Rattle.cq_theory.specs.Groups.{positions_from, positions, place_of, AreGroups}

-- one empty list more
pub empties_more : {X : Type 0} (n : ℕ) → map (λ (_ : ℕ). let none : List X = [] in none) (below (n + 1)) ≡ map (λ (_ : ℕ). let none : List X = [] in none) (below n) ++ [] ∷ []
empties_more n = map-range_with_len_more (λ (_ : ℕ). []) 0 n n (omega arith)

-- a write at one number turns what f gives below n into what g gives
pub set-map_below : {X : Type 0} (f g : ℕ → X) (n i : ℕ) (x : X) → i < n → x ≡ g i → ((k : ℕ) → k ≢ i → f k ≡ g k) → slice_set (map f (below n)) i x ≡ map g (below n)
set-map_below f g n i x within here others =
    let size : length (map f (below n)) ≡ n = length-map-range_with_len f 0 n in
    fill_by_all g (slice_set (map f (below n)) i x) n x (length-set (map f (below n)) i x ∙ size) (λ k below_n. elim (cases_eq k i) [
      | inl same ↦
          let inside : i < length (map f (below n)) = omega arith in
          ap (λ m. get_or (slice_set (map f (below n)) i x) m x) same ∙ get_or-set_same (map f (below n)) i x x inside ∙ here ∙ ap g (sym same)
      | inr other ↦ get_or-set_other (map f (below n)) i k x x other ∙ get_or-map-range_with_len f 0 n k k x below_n (omega arith) ∙ others k other
    ])

module _ (x : ℕ) (xs : List ℕ) (e : ℕ) where
  positions_same : (x == e) ≡ true → (s : ℕ) → positions_from s (x ∷ xs) e ≡ s ∷ positions_from (s + 1) xs e
  positions_same h s = ap (λ b. if b then s ∷ positions_from (s + 1) xs e else positions_from (s + 1) xs e) h

  positions_other : (x == e) ≡ false → (s : ℕ) → positions_from s (x ∷ xs) e ≡ positions_from (s + 1) xs e
  positions_other h s = ap (λ b. if b then s ∷ positions_from (s + 1) xs e else positions_from (s + 1) xs e) h

positions_from-append : (s : ℕ) (xs : List ℕ) (x e : ℕ) → positions_from s (xs ++ x ∷ []) e ≡ positions_from s xs e ++ (if x == e then (s + length xs) ∷ [] else [])
positions_from-append s [] x e =
    let here : s ≡ s + 0 = omega arith in
    ap (λ m. if x == e then m ∷ [] else []) here
positions_from-append s (y ∷ ys) x e =
    let there : s + 1 + length ys ≡ s + suc (length ys) = omega arith in
    let rest : positions_from (s + 1) (ys ++ x ∷ []) e ≡ positions_from (s + 1) ys e ++ (if x == e then (s + suc (length ys)) ∷ [] else []) =
    positions_from-append (s + 1) ys x e ∙ ap (λ m. positions_from (s + 1) ys e ++ (if x == e then m ∷ [] else [])) there in
    elim (cases_eq y e) [
      | inl same ↦
          let alike : (y == e) ≡ true = eq-eqb y e same in
          positions_same y (ys ++ x ∷ []) e alike s ∙ ap (λ l. s ∷ l) rest ∙ ap (λ l. l ++ (if x == e then (s + suc (length ys)) ∷ [] else [])) (sym (positions_same y ys e alike s))
      | inr other ↦
          let unlike : (y == e) ≡ false = ne_eqb y e other in
          positions_other y (ys ++ x ∷ []) e unlike s ∙ rest ∙ ap (λ l. l ++ (if x == e then (s + suc (length ys)) ∷ [] else [])) (sym (positions_other y ys e unlike s))
    ]

-- an owner stands at no more places than there are
positions_from-few : (s : ℕ) (xs : List ℕ) (e : ℕ) → length (positions_from s xs e) ≤ length xs
positions_from-few s [] e = omega arith
positions_from-few s (x ∷ xs) e =
    let rest : length (positions_from (s + 1) xs e) ≤ length xs = positions_from-few (s + 1) xs e in
    elim (cases_eq x e) [
      | inl same ↦
          let here : length (positions_from s (x ∷ xs) e) ≡ suc (length (positions_from (s + 1) xs e)) = ap length (positions_same x xs e (eq-eqb x e same) s) in
          omega (arith, here, rest)
      | inr other ↦
          let here : length (positions_from s (x ∷ xs) e) ≡ length (positions_from (s + 1) xs e) = ap length (positions_other x xs e (ne_eqb x e other) s) in
          omega (arith, here, rest)
    ]

-- one more member
pub positions-append : (xs : List ℕ) (x e : ℕ) → positions (xs ++ x ∷ []) e ≡ positions xs e ++ (if x == e then length xs ∷ [] else [])
positions-append xs x e =
    let here : 0 + length xs ≡ length xs = omega arith in
    positions_from-append 0 xs x e ∙ ap (λ m. positions xs e ++ (if x == e then m ∷ [] else [])) here

module _ (count n member : ℕ) (members : List ℕ) (groups : List (List ℕ)) (are : groups ≡ map (positions (take n members)) (below count)) (within : n < length members)
    (is : member ≡ get_or members n 0) (member_within : member < count) where
  -- the group of a member before it is put there
  pub group_before : get_or groups member [] ≡ positions (take n members) member
  group_before = ap (λ l. get_or l member []) are ∙ get_or-map-range_with_len (positions (take n members)) 0 count member member [] member_within (omega arith)

  pub place_read : length (get_or groups member []) ≡ place_of members n
  place_read = ap length group_before ∙ ap (λ m. length (positions (take n members) m)) is

  -- so a place fits the numbers that members have
  pub place_few : length (get_or groups member []) ≤ n
  place_few =
      let few : length (positions (take n members) member) ≤ length (take n members) = positions_from-few 0 (take n members) member in
      let size : length (take n members) ≡ n = length-take-le n members (omega arith) in
      omega (arith, ap length group_before, few, size)

  -- a number is put at the end of its group
  pub grouped_more : (group : List ℕ) → group ≡ get_or groups member [] ++ n ∷ [] → slice_set groups member group ≡ map (positions (take (n + 1) members)) (below count)
  grouped_more group group_is =
      let longer : take (n + 1) members ≡ take n members ++ member ∷ [] = take_more members n 0 within ∙ ap (λ m. take n members ++ m ∷ []) (sym is) in
      let size : length (take n members) ≡ n = length-take-le n members (omega arith) in
      let one_more : (e : ℕ) → positions (take (n + 1) members) e ≡ positions (take n members) e ++ (if member == e then n ∷ [] else []) =
      λ e. ap (λ l. positions l e) longer ∙ positions-append (take n members) member e ∙ ap (λ m. positions (take n members) e ++ (if member == e then m ∷ [] else [])) size in
      ap (λ l. slice_set l member group) are
      ∙ set-map_below (positions (take n members)) (positions (take (n + 1) members)) count member group member_within
      (group_is ∙ ap (λ l. l ++ n ∷ []) group_before ∙ ap (λ b. positions (take n members) member ++ (if b then n ∷ [] else [])) (sym (eq-eqb member member refl)) ∙ sym (one_more member))
      (λ k other.
      let unlike : (member == k) ≡ false = ne_eqb member k (λ same. other (sym same)) in
      sym (append-nil (positions (take n members) k)) ∙ ap (λ b. positions (take n members) k ++ (if b then n ∷ [] else [])) (sym unlike) ∙ sym (one_more k))

-- what is read of a list made from a function of the place
pub made_at : {X : Type 0} (f : ℕ → X) (n k : ℕ) → k < n → slice_get (map f (below n)) k ≡ Some (f k)
made_at f n k h = let here : 0 + k ≡ k = omega arith in from 0 n k h ∙ ap (λ i. Some (f i)) here
  where
    from : (s m j : ℕ) → j < m → slice_get (map f (range_with_len s m)) j ≡ Some (f (s + j))
    from s zero j h' = absurd (omega arith)
    from s (suc m) zero h' = let here : s ≡ s + 0 = omega arith in ap (λ i. Some (f i)) here
    from s (suc m) (suc j) h' = let there : s + 1 + j ≡ s + suc j = omega arith in from (s + 1) m j (omega arith) ∙ ap (λ i. Some (f i)) there

module _ (owners : List ℕ) (count e : ℕ) (made : Groups) (are : AreGroups owners count made) (within : e < count) where
  pub group_within : e < length made.groups
  group_within =
      let size : length made.groups ≡ count = ap length are.each_group ∙ length-map-range_with_len (positions owners) 0 count in
      omega arith

  pub group_read : (group : List ℕ) → slice_get made.groups e ≡ Some group → group ≡ positions owners e
  group_read group is =
      let found : Some group ≡ Some (positions owners e) = sym is ∙ ap (λ l. slice_get l e) are.each_group ∙ made_at (positions owners) count e within in
      cc
