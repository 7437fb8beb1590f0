-- Numbers that are given out to the members of groups, one after the other.
use Rattle.std.proofs.Common.{ℕ, List, Some, ◌≡◌, ◌≢◌, ◌<◌, ◌+◌, ◌*◌, ◌⊎◌, if◌then◌else◌, inl, inr, map, length, get_or, replicate, refl, sym, ap, ◌∙◌, arith, eq-eqb}
use Rattle.std.specs.Prelude.{slice_get, slice_set, slice_index}
use Rattle.std.proofs.lemmas.Bool.{ne_eqb}
use Rattle.std.proofs.lemmas.List.{get_or-set_same, get_or-set_other, get_or-replicate}
use Rattle.std.proofs.lemmas.List.FromFn.{fill_by_all, get_or-map-range_with_len}
use Rattle.std.proofs.lemmas.Option.{slice_get_within, slice_get-get_or, same_Some}
use Rattle.cq_theory.specs.Canonical.{below}
use Rattle.cq_names.specs.Ranks.{rank}
use Rattle.cq_names.specs.RowNumbers.{AreNumbers}
use Rattle.cq_instance.proofs.Positions.{set-map_below}
use Rattle.cq_names.proofs.Ranks.{positions_at, rank_more, rank_zero}

-- Each of the first i members has what stands next for its group, which then goes on by the group's width.
pub record AreSpread (starts members rows : List ℕ) (width : ℕ → ℕ) (n i : ℕ) (next found : List ℕ) : Type 0 where
  pub next_are : next ≡ map (λ e. slice_index starts e + rank members e i * width e) (below n)
  pub found_are : (p r e : ℕ) → p < i → slice_get rows p ≡ Some r → slice_get members p ≡ Some e → slice_index found r ≡ slice_index starts e + rank members e p * width e

pub spread_none : (starts members rows : List ℕ) (width : ℕ → ℕ) (n : ℕ) (found : List ℕ) → length starts ≡ n → AreSpread starts members rows width n 0 starts found
spread_none starts members rows width n found size = record {
  next_are = fill_by_all (λ e. slice_index starts e + rank members e 0 * width e) starts n 0 size (λ k within. zero_more (slice_index starts k) (width k) (rank members k 0) (rank_zero members k));
  found_are = λ p r e less a b. absurd (omega arith);
}
  where
    zero_more : (a w r : ℕ) → r ≡ 0 → a ≡ a + r * w
    zero_more a w r e = rw e (omega arith)

pub next_read : (starts members rows : List ℕ) (width : ℕ → ℕ) (n i e first : ℕ) (next found : List ℕ) → AreSpread starts members rows width n i next found → e < n
    → first ≡ get_or next e 0 → first ≡ slice_index starts e + rank members e i * width e
next_read starts members rows width n i e first next found spread within read =
    read ∙ ap (λ l. get_or l e 0) spread.next_are ∙ get_or-map-range_with_len (λ k. slice_index starts k + rank members k i * width k) 0 n e e 0 within (omega arith)

pub spread_more : (starts members rows : List ℕ) (width : ℕ → ℕ) (n i e row first step : ℕ) (next found : List ℕ) → ((j k r : ℕ) → slice_get rows j ≡ Some r → slice_get rows k ≡ Some r → j ≡ k)
    → AreSpread starts members rows width n i next found → slice_get members i ≡ Some e → slice_get rows i ≡ Some row → e < n → row < length found
    → first ≡ get_or next e 0 → step ≡ width e → AreSpread starts members rows width n (i + 1) (slice_set next e (first + step)) (slice_set found row first)
spread_more starts members rows width n i e row first step next found once spread member at within inside read step_is = record {
  next_are = ap (λ l. slice_set l e (first + step)) spread.next_are ∙ set-map_below before after n e (first + step) within here others;
  found_are = λ p r f less a b. elim (below_or_at p i less) [
    | inl earlier ↦ get_or-set_other found row r first 0 (λ same. not_this p r earlier a same) ∙ spread.found_are p r f earlier a b
    | inr this ↦
        let same_row : r ≡ row = same_Some r row (sym a ∙ ap (slice_get rows) this ∙ at) in
        let same_group : f ≡ e = same_Some f e (sym b ∙ ap (slice_get members) this ∙ member) in
        ap (λ x. get_or (slice_set found row first) x 0) same_row ∙ get_or-set_same found row first 0 inside ∙ first_is
        ∙ (λ j. slice_index starts (sym same_group j) + rank members (sym same_group j) (sym this j) * width (sym same_group j))
  ];
}
  where
    before : ℕ → ℕ
    before k = slice_index starts k + rank members k i * width k

    after : ℕ → ℕ
    after k = slice_index starts k + rank members k (i + 1) * width k

    first_is : first ≡ slice_index starts e + rank members e i * width e
    first_is = next_read starts members rows width n i e first next found spread within read

    here : first + step ≡ after e
    here =
        let more : rank members e (i + 1) ≡ rank members e i + 1 = rank_more members e i e member ∙ ap (λ b. if b then rank members e i + 1 else rank members e i) (eq-eqb e e refl) in
        sum_is (slice_index starts e) (rank members e i) (width e) first step (rank members e (i + 1)) first_is step_is more
      where
        sum_is : (s r w f st r' : ℕ) → f ≡ s + r * w → st ≡ w → r' ≡ r + 1 → f + st ≡ s + r' * w
        sum_is s r w f st r' a b c = rw (a, b, c) (omega arith)

    others : (k : ℕ) → k ≢ e → before k ≡ after k
    others k other =
        let unlike = ne_eqb e k (λ same. other (sym same)) in
        ap (λ z. slice_index starts k + z * width k) (sym (rank_more members k i e member ∙ ap (λ b. if b then rank members k i + 1 else rank members k i) unlike))

    below_or_at : (a b : ℕ) → a < b + 1 → (a < b) ⊎ (a ≡ b)
    below_or_at a b h = grind arith

    not_this : (p r : ℕ) → p < i → slice_get rows p ≡ Some r → r ≡ row → ⊥
    not_this p r earlier a same =
        let p_is : p ≡ i = once p i row (a ∙ ap (λ x. Some x) same) at in
        omega (arith, earlier, p_is)

-- in steps of one from 0 each member has its place in its group
pub spread_numbers : (members rows : List ℕ) (n i : ℕ) (next found : List ℕ) → AreSpread (replicate n 0) members rows (λ _. 1) n i next found → length members ≡ i → length rows ≡ i
    → ((p e : ℕ) → slice_get members p ≡ Some e → e < n) → AreNumbers members rows found
spread_numbers members rows n i next found spread size size' within e k place at =
    let there = positions_at members e k place at in
    let inside : place < length rows = omega (arith, slice_get_within members place e there.0, size, size') in
    let row : slice_get rows place ≡ Some (slice_index rows place) = slice_get-get_or rows place 0 inside in
    let found_is = spread.found_are place (slice_index rows place) e (omega (arith, inside, size')) row there.0 in
    let zero_is : slice_index (replicate n 0) e ≡ 0 = get_or-replicate n e 0 0 (within place e there.0) in
    sum_is (slice_index (replicate n 0) e) (rank members e place) k (slice_index found (slice_index rows place)) found_is zero_is there.1
  where
    sum_is : (z r k' f : ℕ) → f ≡ z + r * 1 → z ≡ 0 → r ≡ k' → f ≡ k'
    sum_is z r k' f a b c = omega (arith, a, b, c)
