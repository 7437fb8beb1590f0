-- Paths of free keys, one key longer: by their first keys.
use Rattle.std.proofs.Common.{◌≡◌, ℕ, zero, suc, ◌+◌, ◌<◌, ◌≤◌, Bool, true, List, [], ◌∷◌, ◌++◌, All, length, get_or, set, replicate, Some, map, refl, sym, ◌∙◌, ap, arith, ⊎_elim, ◌⊎◌, inl, inr, length-append}
use Rattle.std.proofs.lemmas.Bool.{cases_eq, cases_lt, eq-eqb}
use Rattle.std.proofs.lemmas.List.{length-map, length-replicate, get_or-replicate, get_or_past, get_or-set_same, get_or-set_other}
use Rattle.std.proofs.lemmas.List.Elements.{All-get_or}
use Rattle.std.proofs.lemmas.Option.{none-some, same_Some, slice_get-map}
use Rattle.std.specs.Prelude.{slice_get}
use Rattle.cq_tables.specs.Content.{step_of}
use Rattle.cq_rows.specs.Unread.{is_free, IsFreePath, HasFreePaths, AreCounts}
use Rattle.cq_rows.proofs.Bridge.{map_some}

-- an element of two lists
append_at : {A : Type 0} (xs ys : List A) (i : ℕ) (x : A) → slice_get (xs ++ ys) i ≡ Some x → (slice_get xs i ≡ Some x) ⊎ ((j : ℕ) × (i ≡ length xs + j) × (slice_get ys j ≡ Some x))
append_at [] ys i x h = inr (i, omega arith, h)
append_at (y ∷ xs) ys zero x h = inl h
append_at (y ∷ xs) ys (suc i) x h = ⊎_elim (λ p. inl p) (λ q. inr (q.0, omega (arith, q.1), q.2)) (append_at xs ys i x h)

module _ (keys : List (ℕ × ℕ)) (free : List Bool) where
  -- some of the paths of free keys from an entity whose first key is below a number
  pub record IsBelow (e n first count : ℕ) : Type 0 where
    pub paths : List (List ℕ)
    pub many : count ≤ length paths
    pub each : (i : ℕ) (p : List ℕ) → slice_get paths i ≡ Some p → IsFreePath keys free e n p
    pub below : (i k : ℕ) (p : List ℕ) → slice_get paths i ≡ Some (k ∷ p) → k < first
    pub apart : (i j : ℕ) (p : List ℕ) → slice_get paths i ≡ Some p → slice_get paths j ≡ Some p → i ≡ j

  only_at : (i : ℕ) (p : List ℕ) → slice_get ([] ∷ []) i ≡ Some p → (p ≡ []) × (i ≡ 0)
  only_at zero p h = (sym (same_Some [] p h), refl)
  only_at (suc i) p h = absurd (none-some p h)

  empty_path : (e n : ℕ) → IsFreePath keys free e n []
  empty_path e n = record { end = refl; few = omega arith; all_free = λ i k h. absurd (none-some k h) }

  -- the path without keys
  pub below_none : (e n first count : ℕ) → count ≤ 1 → IsBelow e n first count
  below_none e n first count few = record {
    paths = [] ∷ [];
    many = few;
    each = λ i p h. rw (only_at i p h).0 (empty_path e n);
    below = λ i k p h. absurd (omega (arith, ap length (only_at i (k ∷ p) h).0));
    apart = λ i j p h k. (only_at i p h).1 ∙ sym (only_at j p k).1;
  }

  pub below_skip : (e n first count : ℕ) → IsBelow e n first count → IsBelow e n (first + 1) count
  below_skip e n first count h = record { paths = h.paths; many = h.many; each = h.each; below = λ i k p at. omega (arith, h.below i k p at); apart = h.apart }

  pub below_all : (e n first count : ℕ) → IsBelow e n first count → HasFreePaths keys free e n count
  below_all e n first count h = record { paths = h.paths; many = h.many; each = h.each; apart = h.apart }

  -- paths behind one more key
  module _ (e d n key : ℕ) (step : step_of keys e key ≡ Some d) (is : is_free free key ≡ true) where
    longer_path : (p : List ℕ) → IsFreePath keys free d n p → IsFreePath keys free e (n + 1) (key ∷ p)
    longer_path p h = record { end = rw step h.end; few = omega (arith, h.few); all_free = read }
      where
        read : (i k : ℕ) → slice_get (key ∷ p) i ≡ Some k → is_free free k ≡ true
        read zero k at = rw (← same_Some key k at) is
        read (suc i) k at = h.all_free i k at

    abbrev behind : List ℕ → List ℕ
    behind p = key ∷ p

    same_behind : (p q : List ℕ) → behind p ≡ behind q → p ≡ q
    same_behind p q h = cc

    same_first : (k : ℕ) (p q : List ℕ) → behind p ≡ k ∷ q → key ≡ k
    same_first k p q h = cc

    module _ (c more : ℕ) (h : IsBelow e (n + 1) key c) (rest : HasFreePaths keys free d n more) where
      abbrev all_paths : List (List ℕ)
      all_paths = h.paths ++ map behind rest.paths

      -- where a path of both lists stands
      pub record IsBehind (i : ℕ) (p : List ℕ) : Type 0 where
        pub place : ℕ
        pub at : i ≡ length h.paths + place
        pub tail : List ℕ
        pub found : slice_get rest.paths place ≡ Some tail
        pub path : behind tail ≡ p

      stands : (i : ℕ) (p : List ℕ) → slice_get all_paths i ≡ Some p → (slice_get h.paths i ≡ Some p) ⊎ IsBehind i p
      stands i p at = ⊎_elim (λ l. inl l) (λ r. inr (from_map r.0 r.1 r.2)) (append_at h.paths (map behind rest.paths) i p at)
        where
          from_map : (j : ℕ) → i ≡ length h.paths + j → slice_get (map behind rest.paths) j ≡ Some p → IsBehind i p
          from_map j same there =
              let o = map_some behind (slice_get rest.paths j) p (sym (slice_get-map behind rest.paths j) ∙ there) in
              record { place = j; at = same; tail = o.0; found = o.1; path = o.2 }

      never_both : (i j : ℕ) (p : List ℕ) → slice_get h.paths i ≡ Some p → IsBehind j p → ⊥
      never_both i j p at o = omega (arith, h.below i key o.tail (at ∙ ap (λ (q : List ℕ). Some q) (sym o.path)))

      one_place : (i j : ℕ) (p : List ℕ) → IsBehind i p → IsBehind j p → i ≡ j
      one_place i j p o q =
          let tails : o.tail ≡ q.tail = same_behind o.tail q.tail (o.path ∙ sym q.path) in
          let places : o.place ≡ q.place = rest.apart o.place q.place q.tail (o.found ∙ ap (λ (x : List ℕ). Some x) tails) q.found in
          o.at ∙ ap (λ x. length h.paths + x) places ∙ sym q.at

      pub below_more : (count : ℕ) → count ≤ c + more → IsBelow e (n + 1) (key + 1) count
      below_more count few = record {
        paths = all_paths;
        many = omega (arith, few, h.many, rest.many, length-append h.paths (map behind rest.paths), length-map rest.paths behind);
        each = λ i p at. ⊎_elim (λ l. h.each i p l) (λ o. subst_path p o) (stands i p at);
        below = λ i k p at. ⊎_elim (λ l. omega (arith, h.below i k p l)) (λ o. omega (arith, same_first k o.tail p o.path)) (stands i (k ∷ p) at);
        apart = λ i j p at there. ⊎_elim
            (λ l. ⊎_elim (λ m. h.apart i j p l m) (λ o. absurd (never_both i j p l o)) (stands j p there))
            (λ o. ⊎_elim (λ m. absurd (never_both j i p m o)) (λ q. one_place i j p o q) (stands j p there))
            (stands i p at);
      } where
        subst_path : {i : ℕ} (p : List ℕ) → IsBehind i p → IsFreePath keys free e (n + 1) p
        subst_path p o = rw (← o.path) (longer_path o.tail (rest.each o.place o.tail o.found))

-- the entity from which a key goes
pub range_at : (keys : List (ℕ × ℕ)) (n i : ℕ) → All (λ (k : ℕ × ℕ). (k.0 < n) × (k.1 < n)) keys → i < length keys → (get_or keys i (0, 0)).0 < n
range_at keys n i range within = (All-get_or (λ (k : ℕ × ℕ). (k.0 < n) × (k.1 < n)) keys i (0, 0) within range).0

-- one for each entity
abbrev ones : ℕ → List ℕ
ones n = replicate n 1

one_at : (n e : ℕ) → e < n → get_or (ones n) e 0 ≡ 1
one_at n e l = get_or-replicate {A = ℕ} n e 1 0 l

ones_length : (n : ℕ) → length (ones n) ≡ n
ones_length n = length-replicate n 1

no_more : (n e : ℕ) → n ≤ e → get_or (ones n) e 0 ≡ 0
no_more n e past = get_or_past (ones n) e 0 (omega (arith, past, ones_length n))

pub ones_few : (n e : ℕ) → get_or (ones n) e 0 ≤ 1
ones_few n e = ⊎_elim (λ l. omega (arith, one_at n e l)) (λ past. omega (arith, no_more n e past)) (cases_lt e n)

pub AreCounts-start : (keys : List (ℕ × ℕ)) (free : List Bool) (n entities : ℕ) → AreCounts keys free n (ones entities)
AreCounts-start keys free n entities e = below_all keys free e n 0 (get_or (ones entities) e 0) (below_none keys free e n 0 (get_or (ones entities) e 0) (ones_few entities e))

goes_by : (keys : List (ℕ × ℕ)) (i : ℕ) (key : ℕ × ℕ) → slice_get keys i ≡ Some key → step_of keys key.0 i ≡ Some key.1
unfolding step_of
goes_by keys i key found = rw (found, eq-eqb key.0 key.0 refl) refl

-- the paths whose first key is below a number, from each entity
abbrev pub AreBelow : List (ℕ × ℕ) → List Bool → ℕ → ℕ → List ℕ → Type 0
AreBelow keys free n first next = (e : ℕ) → IsBelow keys free e (n + 1) first (get_or next e 0)

pub counts_more : (keys : List (ℕ × ℕ)) (free : List Bool) (counts next : List ℕ) (i sum : ℕ) (key : ℕ × ℕ) → slice_get keys i ≡ Some key → is_free free i ≡ true → key.0 < length next
    → sum ≤ get_or next key.0 0 + get_or counts key.1 0 → (n : ℕ) → AreCounts keys free n counts → AreBelow keys free n i next → AreBelow keys free n (i + 1) (set next key.0 sum)
counts_more keys free counts next i sum key found is within few n h b e = elim (cases_eq e key.0) as (λ _. IsBelow keys free e (n + 1) (i + 1) (get_or (set next key.0 sum) e 0)) [
  | inl same ↦
      let more = below_more keys free key.0 key.1 n i (goes_by keys i key found) is (get_or next key.0 0) (get_or counts key.1 0) (b key.0) (h key.1) sum few in
      rw (same, get_or-set_same next key.0 sum 0 within) more
  | inr other ↦ rw (get_or-set_other next key.0 e sum 0 other) (below_skip keys free e (n + 1) i (get_or next e 0) (b e))
]
