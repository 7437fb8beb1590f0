-- Two rings are joined: what follows a node of one follows a node of the other.
use Rattle.std.proofs.Common.{◌≡◌, ◌≢◌, ℕ, ◌<◌, List, length, get_or, sym, ◌∙◌, ap, refl, arith, ◌⊎◌, inl, inr, ⊎_elim, map, zero-add}
use Rattle.std.proofs.lemmas.Bool.{cases_eq}
use Rattle.std.proofs.lemmas.List.{length-map, length-set, map-id, get_or-map}
use Rattle.std.proofs.lemmas.List.FromFn.{map-range_with_len_more, length-range_with_len, get_or-range_with_len}
use Rattle.std.specs.Prelude.{slice_index, ◌+◌, ◌++◌, ◌∷◌, []}
use Rattle.std.specs.List.{range_with_len, SwappedAt}
use Rattle.cq_flat.specs.Partition.{IsIn, Through, here, on, AreRings, joined}
use Rattle.cq_flat.proofs.Paths.{through_start, through_both, through_map, through_until, through_after, Besides}
use Rattle.cq_flat.proofs.Relabelling.{joined_from, joined_other}

pub range_more : (n : ℕ) → range_with_len 0 (n + 1) ≡ range_with_len 0 n ++ n ∷ []
range_more n =
    sym (map-id (range_with_len 0 (n + 1))) ∙ map-range_with_len_more (λ x. x) 0 n n (zero-add n) ∙ ap (λ xs. xs ++ n ∷ []) (map-id (range_with_len 0 n))

-- each node is alone
pub rings_alone : (n : ℕ) → AreRings (range_with_len 0 n) (range_with_len 0 n)
rings_alone n = record {
  count = refl;
  kept = λ x l. rw (at x l) (l, at x l);
  linked = λ k a b i j. rw (sym (at b j.0) ∙ j.1 ∙ sym i.1 ∙ at a i.0) (here i);
} where
  at : (x : ℕ) → x < length (range_with_len 0 n) → get_or (range_with_len 0 n) x 0 ≡ x
  at x l = let h : x < n = omega (arith, l, length-range_with_len 0 n) in get_or-range_with_len 0 n x 0 h ∙ zero-add x

-- one of two rings, with z, where what follows z follows y afterwards
module _ (P Q : ℕ → Type 0) (follow after : ℕ → ℕ) (z y : ℕ) (into : (k : ℕ) → P k → Q k) (same : (k : ℕ) → P k → k ≢ z → after k ≡ follow k) where
  pub comes_to : {a : ℕ} → Through P follow a z → Through Q after a z
  comes_to t = through_until P Q follow after z into same t refl

  pub comes_from : {b : ℕ} → b ≢ z → Q y → after y ≡ follow z → Through P follow z b → Through Q after y b
  comes_from {b} n q e t = on q (rw e (turned t)) where
    turned : Through P follow z b → Through Q after (follow z) b
    turned t = ⊎_elim
        (λ p. absurd ((through_start (Besides P z) follow p).1 refl))
        (λ p. through_map (Besides P z) Q follow after (λ k i. into k i.0) (λ k i. same k i.0 i.1) p)
        (through_after P follow z n t)

module _ (old new following after : List ℕ) (from to : ℕ) (r : AreRings old following) (lf : from < length old) (lt : to < length old)
    (rf : get_or old from 0 ≡ from) (rt : get_or old to 0 ≡ to) (ne : from ≢ to) (ec : new ≡ map (joined from to) old) (es : SwappedAt following after from to) where
  count : length new ≡ length old
  count = ap length ec ∙ length-map old (joined from to)

  count_after : length after ≡ length old
  count_after = ap length (es.3 0) ∙ length-set _ to _ ∙ length-set following from _ ∙ r.count

  at : (x : ℕ) → x < length old → get_or new x 0 ≡ joined from to (get_or old x 0)
  at x l = ap (λ z. get_or z x 0) ec ∙ get_or-map (joined from to) old x 0 0 l

  abbrev From : ℕ → Type 0
  From = IsIn old from

  abbrev To : ℕ → Type 0
  To = IsIn old to

  abbrev Now : ℕ → Type 0
  Now = IsIn new to

  from_now : (k : ℕ) → From k → Now k
  from_now k i = (omega (arith, i.0, count), at k i.0 ∙ ap (joined from to) i.1 ∙ joined_from from to)

  to_now : (k : ℕ) → To k → Now k
  to_now k i = (omega (arith, i.0, count), at k i.0 ∙ ap (joined from to) i.1 ∙ joined_other from to to (λ e. ne (sym e)))

  from_same : (k : ℕ) → From k → k ≢ from → get_or after k 0 ≡ get_or following k 0
  from_same k i n = es.2 k 0 n (λ e. ne (sym i.1 ∙ ap (λ z. get_or old z 0) e ∙ rt))

  to_same : (k : ℕ) → To k → k ≢ to → get_or after k 0 ≡ get_or following k 0
  to_same k i n = es.2 k 0 (λ e. ne (sym rf ∙ sym (ap (λ z. get_or old z 0) e) ∙ i.1)) n

  after_from : From (get_or following from 0)
  after_from = rw rf at (r.kept from lf)

  after_to : To (get_or following to 0)
  after_to = rw rt at (r.kept to lt)

  abbrev Comes : ℕ → ℕ → Type 0
  Comes = Through Now (slice_index after)

  to_from : (a : ℕ) → From a → Comes a from
  to_from a i = comes_to From Now (slice_index following) (slice_index after) from to from_now from_same (r.linked from a from i (lf, rf))

  to_to : (a : ℕ) → To a → Comes a to
  to_to a i = comes_to To Now (slice_index following) (slice_index after) to from to_now to_same (r.linked to a to i (lt, rt))

  from_to : Comes from to
  from_to = on (from_now from (lf, rf)) (rw (es.0 0) (to_to (get_or following to 0) after_to))

  back : Comes to from
  back = on (to_now to (lt, rt)) (rw (es.1 0) (to_from (get_or following from 0) after_from))

  to_of_from : (b : ℕ) → From b → Comes to b
  to_of_from b i = elim (cases_eq b from) as (λ _. Comes to b) [
    | inl e ↦ rw e back
    | inr n ↦ comes_from From Now (slice_index following) (slice_index after) from to from_now from_same n (to_now to (lt, rt)) (es.1 0) (r.linked from from b (lf, rf) i)
  ]

  from_of_to : (b : ℕ) → To b → Comes from b
  from_of_to b i = elim (cases_eq b to) as (λ _. Comes from b) [
    | inl e ↦ rw e from_to
    | inr n ↦ comes_from To Now (slice_index following) (slice_index after) to from to_now to_same n (from_now from (lf, rf)) (es.0 0) (r.linked to to b (lt, rt) i)
  ]

  both : {a b c : ℕ} → Comes a b → Comes b c → Comes a c
  both s t = through_both Now (slice_index after) s t

  was : (k : ℕ) → Now k → From k ⊎ To k
  was k i =
      let l : k < length old = omega (arith, i.0, count) in
      elim (cases_eq (get_or old k 0) from) as (λ _. From k ⊎ To k) [
        | inl e ↦ inl (l, e)
        | inr n ↦ inr (l, sym (joined_other from to (get_or old k 0) n) ∙ sym (at k l) ∙ i.1)
      ]

  linked_now : (a b : ℕ) → Now a → Now b → Comes a b
  linked_now a b i j = ⊎_elim
      (λ f. ⊎_elim (λ g. both (to_from a f) (both from_to (to_of_from b g))) (λ g. both (to_from a f) (from_of_to b g)) (was b j))
      (λ f. ⊎_elim (λ g. both (to_to a f) (to_of_from b g)) (λ g. both (to_to a f) (both back (from_of_to b g))) (was b j))
      (was a i)

  -- a class that stays
  module _ (k : ℕ) (n : k ≢ to) where
    stayed : (a : ℕ) → IsIn new k a → IsIn old k a × (k ≢ from)
    stayed a i =
        let l : a < length old = omega (arith, i.0, count) in
        elim (cases_eq (get_or old a 0) from) as (λ _. IsIn old k a × (k ≢ from)) [
          | inl e ↦ absurd (n (sym i.1 ∙ at a l ∙ ap (joined from to) e ∙ joined_from from to))
          | inr m ↦
              let e : get_or old a 0 ≡ k = sym (joined_other from to (get_or old a 0) m) ∙ sym (at a l) ∙ i.1 in
              ((l, e), λ q. m (e ∙ q))
        ]

    linked_other : (a b : ℕ) → IsIn new k a → IsIn new k b → Through (IsIn new k) (slice_index after) a b
    linked_other a b i j =
        let s = stayed a i in
        through_map (IsIn old k) (IsIn new k) (slice_index following) (slice_index after)
        (λ c o. (omega (arith, o.0, count), at c o.0 ∙ ap (joined from to) o.1 ∙ joined_other from to k s.1))
        (λ c o. es.2 c 0 (λ q. s.1 (sym o.1 ∙ ap (λ z. get_or old z 0) q ∙ rf)) (λ q. n (sym o.1 ∙ ap (λ z. get_or old z 0) q ∙ rt)))
        (r.linked k a b s.0 (stayed b j).0)

  kept_new : (x : ℕ) → x < length old → IsIn new (get_or new x 0) (get_or after x 0)
  kept_new x l = elim (cases_eq x from) as (λ _. IsIn new (get_or new x 0) (get_or after x 0)) [
    | inl e ↦ rw (e, (from_now from (lf, rf)).1, es.0 0) (to_now (get_or following to 0) after_to)
    | inr n ↦ elim (cases_eq x to) as (λ _. IsIn new (get_or new x 0) (get_or after x 0)) [
      | inl e ↦ rw (e, (to_now to (lt, rt)).1, es.1 0) (from_now (get_or following from 0) after_from)
      | inr m ↦
          let o = r.kept x l in
          rw (es.2 x 0 n m) (omega (arith, o.0, count), at (get_or following x 0) o.0 ∙ ap (joined from to) o.1 ∙ sym (at x l))
    ]
  ]

  pub rings_joined : AreRings new after
  rings_joined = record {
    count = count_after ∙ sym count;
    kept = λ x l. kept_new x (omega (arith, l, count));
    linked = λ k a b i j. elim (cases_eq k to) as (λ _. Through (IsIn new k) (slice_index after) a b) [
      | inl e ↦ rw e (linked_now a b (rw e at i) (rw e at j))
      | inr n ↦ linked_other k n a b i j
    ];
  }
