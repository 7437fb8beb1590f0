-- The nodes of a class are put into another one, round the ring.
use Rattle.std.proofs.Common.{◌≡◌, ◌≢◌, ℕ, ◌<◌, List, length, get_or, cond, eqb, sym, ◌∙◌, ap, refl, arith, ◌⊎◌, inl, inr, ⊎_elim, map}
use Rattle.std.proofs.Math.ListN.{set}
use Rattle.std.proofs.lemmas.Bool.{cases_eq, eq-eqb, ne_eqb}
use Rattle.std.proofs.lemmas.List.{length-set, length-map, get_or-map, ext_get_or, get_or-set_same, get_or-set_other}
use Rattle.std.proofs.lemmas.List.Sums.{sum_by-set}
use Rattle.std.specs.Prelude.{slice_index}
use Rattle.std.specs.List.{sum_by}
use Rattle.cq_flat.specs.Partition.{IsIn, Through, AreRings, joined}
use Rattle.cq_flat.proofs.Paths.{through_start, through_map, through_after, Besides}

pub joined_from : (from to : ℕ) → joined from to from ≡ to
joined_from from to = rw (eq-eqb from from refl) refl

pub joined_other : (from to k : ℕ) → k ≢ from → joined from to k ≡ k
joined_other from to k n = rw (ne_eqb k from n) refl

pub joined_differs : (from to k : ℕ) → from ≢ to → joined from to k ≢ from
joined_differs from to k ne e = elim (cases_eq k from) as (λ _. ⊥) [
  | inl i ↦ ne (sym e ∙ ap (joined from to) i ∙ joined_from from to)
  | inr n ↦ n (sym (joined_other from to k n) ∙ e)
]

-- a node has its class after the joining, or one is yet to come to it
pub record IsRelabelling (old now following : List ℕ) (from to node : ℕ) : Type 0 where
  pub count : length now ≡ length old
  pub within : node < length old
  pub each : (x : ℕ) → x < length old → (get_or now x 0 ≡ joined from to (get_or old x 0)) ⊎ ((get_or old x 0 ≡ from) × Through (IsIn now from) (slice_index following) node x)

pub relabelling_start : (old following : List ℕ) (from to : ℕ) → AreRings old following → from < length old → get_or old from 0 ≡ from → IsRelabelling old old following from to from
relabelling_start old following from to r l root = record {
  count = refl;
  within = l;
  each = λ x h. elim (cases_eq (get_or old x 0) from) as (λ _. (get_or old x 0 ≡ joined from to (get_or old x 0)) ⊎ ((get_or old x 0 ≡ from) × Through (IsIn old from) (slice_index following) from x)) [
    | inl e ↦ inr (e, r.linked from from x (l, root) (h, e))
    | inr n ↦ inl (sym (joined_other from to (get_or old x 0) n))
  ];
}

-- how many nodes are in a class
abbrev pub in_class : ℕ → List ℕ → ℕ
in_class class classes = sum_by (λ c. cond (eqb c class) 1 0) classes

module _ (old now following : List ℕ) (from to node : ℕ) (r : AreRings old following) (ne : from ≢ to) (s : IsRelabelling old now following from to node) where
  module _ (e : get_or now node 0 ≡ from) where
    within_now : node < length now
    within_now = omega (arith, s.within, s.count)

    still : (k : ℕ) → Besides (IsIn now from) node k → IsIn (set now node to) from k
    still k q = (rw (length-set now node to) q.0.0, get_or-set_other now node k to 0 q.1 ∙ q.0.1)

    each_more : (x : ℕ) → x < length old → (get_or (set now node to) x 0 ≡ joined from to (get_or old x 0)) ⊎ ((get_or old x 0 ≡ from) × Through (IsIn (set now node to) from) (slice_index following) (get_or following node 0) x)
    each_more x l = elim (cases_eq x node) as (λ _. (get_or (set now node to) x 0 ≡ joined from to (get_or old x 0)) ⊎ ((get_or old x 0 ≡ from) × Through (IsIn (set now node to) from) (slice_index following) (get_or following node 0) x)) [
      | inl i ↦ ⊎_elim
          (λ j. absurd (joined_differs from to (get_or old x 0) ne (sym j ∙ ap (λ z. get_or now z 0) i ∙ e)))
          (λ o. inl (ap (λ z. get_or (set now node to) z 0) i ∙ get_or-set_same now node to 0 within_now ∙ sym (ap (joined from to) o.0 ∙ joined_from from to)))
          (s.each x l)
      | inr n ↦ ⊎_elim
          (λ j. inl (get_or-set_other now node x to 0 n ∙ j))
          (λ o. inr (
            o.0,
            ⊎_elim
                (λ p. absurd ((through_start (Besides (IsIn now from) node) (slice_index following) p).1 refl))
                (λ p. through_map (Besides (IsIn now from) node) (IsIn (set now node to) from) (slice_index following) (slice_index following) still (λ k q. refl) p)
                (through_after (IsIn now from) (slice_index following) node n o.1),
          ))
          (s.each x l)
    ]

    pub relabelling_more : IsRelabelling old (set now node to) following from to (get_or following node 0)
    relabelling_more = record {
      count = length-set now node to ∙ s.count;
      within = (r.kept node s.within).0;
      each = each_more;
    }

    pub relabelling_fewer : in_class from (set now node to) < in_class from now
    relabelling_fewer =
        let k = sum_by-set (λ c. cond (eqb c from) 1 0) now node to 0 within_now in
        let one : ◌≡◌ {A = ℕ} (cond (eqb (get_or now node 0) from) 1 0) 1 = rw (eq-eqb (get_or now node 0) from e) refl in
        let none : ◌≡◌ {A = ℕ} (cond (eqb to from) 1 0) 0 = rw (ne_eqb to from (λ i. ne (sym i))) refl in
        omega (arith, k, one, none)

  -- the ring is gone round
  module _ (n : get_or now node 0 ≢ from) where
    pub relabelled : now ≡ map (joined from to) old
    relabelled = ext_get_or 0 now (map (joined from to) old) (s.count ∙ sym (length-map old (joined from to)))
        (λ x h.
        let l : x < length old = omega (arith, h, s.count) in
        ⊎_elim (λ j. j) (λ o. absurd (n (through_start (IsIn now from) (slice_index following) o.1).1)) (s.each x l)
        ∙ sym (get_or-map (joined from to) old x 0 0 l))
