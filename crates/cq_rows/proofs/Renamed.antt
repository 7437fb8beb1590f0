-- The list of the row to which each row was renamed.
use Rattle.std.proofs.Common.{◌≡◌, ◌≢◌, ◌<◌, ◌≤◌, ◌+◌, ◌∷◌, ◌++◌, [], ℕ, List, length, get_or, map, cond, eqb, sym, ◌∙◌, ap, arith, refl, ⊎_elim, ◌⊎◌, inl, inr, length-append}
use Rattle.std.proofs.Math.ListN.{set}
use Rattle.std.proofs.lemmas.Bool.{cases_eq, cases_lt, eq-eqb, ne_eqb}
use Rattle.std.proofs.lemmas.List.{length-map, get_or-map, ext_get_or, length-set, get_or-set_same, get_or-set_other, get_or_append_left, get_or_push}
use Rattle.std.proofs.lemmas.List.FromFn.{get_or-map-range_with_len, length-range_with_len}
use Rattle.cq_rows.proofs.Roots.{unique, GivesRoots-root_of, root_fixed}
use Rattle.cq_rows.specs.Forest.{root_of, IsForest, renamed_by, joined_root, AreClasses}

pub length-renamed_by : (ps at : List ℕ) → length (renamed_by ps at) ≡ length ps
length-renamed_by ps at = rw length-map (length-range_with_len 0 (length ps))

pub renamed_at : (ps at : List ℕ) (r : ℕ) → r < length ps → get_or (renamed_by ps at) r 0 ≡ get_or at (root_of ps r) 0
renamed_at ps at r l = get_or-map-range_with_len (λ k. get_or at (root_of ps k) 0) 0 (length ps) r r 0 l (omega arith)

pub renamed_same : (ps qs at : List ℕ) → length qs ≡ length ps → ((r : ℕ) → r < length ps → root_of qs r ≡ root_of ps r) → renamed_by qs at ≡ renamed_by ps at
renamed_same ps qs at len same = ext_get_or 0 (renamed_by qs at) (renamed_by ps at) (length-renamed_by qs at ∙ len ∙ sym (length-renamed_by ps at))
    (λ r h. let l : r < length qs = omega (arith, h, length-renamed_by qs at) in
    renamed_at qs at r l ∙ ap (λ z. get_or at z 0) (same r (omega (arith, l, len))) ∙ sym (renamed_at ps at r (omega (arith, l, len))))

pub classes_same : (ps qs at : List ℕ) → IsForest qs → length qs ≡ length ps → ((r : ℕ) → r < length ps → root_of qs r ≡ root_of ps r) → AreClasses ps at → AreClasses qs at
classes_same ps qs at f len same c = record {
  forest = f;
  count = c.count ∙ sym len;
  inside = λ r l. let k : r < length ps = omega (arith, l, len) in rw (same r k) (omega (arith, c.inside r k, len));
  own = λ r l. let k : r < length ps = omega (arith, l, len) in rw (same r k) (same (get_or at (root_of ps r) 0) (c.inside r k) ∙ c.own r k);
}

module _ (ps qs at : List ℕ) (from to low : ℕ) (c : AreClasses ps at) (f : IsForest qs) (len : length qs ≡ length ps) (lf : from < length ps) (lt : to < length ps)
    (vf : get_or at (root_of ps from) 0 ≡ from) (vt : get_or at (root_of ps to) 0 ≡ to) (ne : from ≢ to) (below : low < length ps)
    (is : (low ≡ root_of ps from) ⊎ (low ≡ root_of ps to)) (roots : (r : ℕ) → r < length ps → root_of qs r ≡ joined_root ps from to low r) where
  -- a row of neither class, and of one of them
  other_root : (r : ℕ) → r < length ps → root_of ps r ≢ root_of ps from → root_of ps r ≢ root_of ps to → root_of qs r ≡ root_of ps r
  other_root r l n m = roots r l ∙ rw (ne_eqb (root_of ps r) (root_of ps from) n, ne_eqb (root_of ps r) (root_of ps to) m) refl

  from_root : (r : ℕ) → r < length ps → root_of ps r ≡ root_of ps from → root_of qs r ≡ low
  from_root r l e = roots r l ∙ rw (eq-eqb (root_of ps r) (root_of ps from) e) refl

  to_root : (r : ℕ) → r < length ps → root_of ps r ≡ root_of ps to → root_of qs r ≡ low
  to_root r l e = elim (cases_eq (root_of ps r) (root_of ps from)) as (λ _. root_of qs r ≡ low) [
    | inl q ↦ from_root r l q
    | inr n ↦ roots r l ∙ rw (ne_eqb (root_of ps r) (root_of ps from) n, eq-eqb (root_of ps r) (root_of ps to) e) refl
  ]

  at_low : get_or (set at low to) low 0 ≡ to
  at_low = get_or-set_same at low to 0 (omega (arith, below, c.count))

  -- what the joined classes say of a row
  value : (r : ℕ) → r < length ps → get_or (set at low to) (root_of qs r) 0 ≡ cond (eqb (get_or at (root_of ps r) 0) from) to (get_or at (root_of ps r) 0)
  value r l = elim (cases_eq (root_of ps r) (root_of ps from)) as (λ _. get_or (set at low to) (root_of qs r) 0 ≡ cond (eqb (get_or at (root_of ps r) 0) from) to (get_or at (root_of ps r) 0)) [
    | inl e ↦ ap (λ z. get_or (set at low to) z 0) (from_root r l e) ∙ at_low ∙ sym (moved_from (get_or at (root_of ps r) 0) (ap (λ z. get_or at z 0) e ∙ vf))
    | inr n ↦ elim (cases_eq (root_of ps r) (root_of ps to)) as (λ _. get_or (set at low to) (root_of qs r) 0 ≡ cond (eqb (get_or at (root_of ps r) 0) from) to (get_or at (root_of ps r) 0)) [
      | inl e ↦ ap (λ z. get_or (set at low to) z 0) (to_root r l e) ∙ at_low ∙ sym (moved_to (get_or at (root_of ps r) 0) (ap (λ z. get_or at z 0) e ∙ vt))
      | inr m ↦
          let v : get_or at (root_of ps r) 0 ≢ from = λ q. n (sym (c.own r l) ∙ ap (root_of ps) q) in
          ap (λ z. get_or (set at low to) z 0) (other_root r l n m)
          ∙ get_or-set_other at low (root_of ps r) to 0 (λ q. ⊎_elim (λ i. n (q ∙ i)) (λ i. m (q ∙ i)) is)
          ∙ sym (moved_other (get_or at (root_of ps r) 0) v)
    ]
  ]
    where
      moved_from : (x : ℕ) → x ≡ from → cond (eqb x from) to x ≡ to
      moved_from x e = rw (eq-eqb x from e) refl

      moved_to : (x : ℕ) → x ≡ to → cond (eqb x from) to x ≡ to
      moved_to x e = rw (e, ne_eqb to from (λ q. ne (sym q))) refl

      moved_other : (x : ℕ) → x ≢ from → cond (eqb x from) to x ≡ x
      moved_other x n = rw (ne_eqb x from n) refl

  pub renamed_joined : renamed_by qs (set at low to) ≡ map (λ x. cond (eqb x from) to x) (renamed_by ps at)
  renamed_joined = ext_get_or 0 (renamed_by qs (set at low to)) (map (λ x. cond (eqb x from) to x) (renamed_by ps at)) (length-renamed_by qs (set at low to) ∙ len ∙ sym (rw length-map (length-renamed_by ps at)))
      (λ r h. let k : r < length qs = omega (arith, h, length-renamed_by qs (set at low to)) in
      let l : r < length ps = omega (arith, k, len) in
      renamed_at qs (set at low to) r k ∙ value r l ∙ ap (λ x. cond (eqb x from) to x) (sym (renamed_at ps at r l))
      ∙ sym (get_or-map (λ x. cond (eqb x from) to x) (renamed_by ps at) r 0 0 (omega (arith, l, length-renamed_by ps at))))

  value_inside : (r : ℕ) → r < length ps → get_or (set at low to) (root_of qs r) 0 < length ps
  value_inside r l = elim (cases_eq (root_of qs r) low) as (λ _. get_or (set at low to) (root_of qs r) 0 < length ps) [
    | inl e ↦ rw (e, at_low) lt
    | inr n ↦ rw (get_or-set_other at low (root_of qs r) to 0 n) (rw (unmoved r l n) (c.inside r l))
  ]
    where
      unmoved : (r : ℕ) → r < length ps → root_of qs r ≢ low → root_of qs r ≡ root_of ps r
      unmoved r l n = elim (cases_eq (root_of ps r) (root_of ps from)) as (λ _. root_of qs r ≡ root_of ps r) [
        | inl e ↦ absurd (n (from_root r l e))
        | inr x ↦ elim (cases_eq (root_of ps r) (root_of ps to)) as (λ _. root_of qs r ≡ root_of ps r) [
          | inl e ↦ absurd (n (to_root r l e))
          | inr y ↦ other_root r l x y
        ]
      ]

  value_own : (r : ℕ) → r < length ps → root_of qs (get_or (set at low to) (root_of qs r) 0) ≡ root_of qs r
  value_own r l = elim (cases_eq (root_of ps r) (root_of ps from)) as (λ _. root_of qs (get_or (set at low to) (root_of qs r) 0) ≡ root_of qs r) [
    | inl e ↦ rw (from_root r l e, at_low) (to_root to lt refl)
    | inr n ↦ elim (cases_eq (root_of ps r) (root_of ps to)) as (λ _. root_of qs (get_or (set at low to) (root_of qs r) 0) ≡ root_of qs r) [
      | inl e ↦ rw (to_root r l e, at_low) (to_root to lt refl)
      | inr m ↦
          let q = other_root r l n m in
          rw (q, get_or-set_other at low (root_of ps r) to 0 (λ z. ⊎_elim (λ i. n (z ∙ i)) (λ i. m (z ∙ i)) is))
          (other_root (get_or at (root_of ps r) 0) (c.inside r l) (λ z. n (sym (c.own r l) ∙ z)) (λ z. m (sym (c.own r l) ∙ z)) ∙ c.own r l)
    ]
  ]

  pub classes_joined : AreClasses qs (set at low to)
  classes_joined = record {
    forest = f;
    count = length-set at low to ∙ c.count ∙ sym len;
    inside = λ r l. omega (arith, value_inside r (omega (arith, l, len)), len);
    own = λ r l. value_own r (omega (arith, l, len));
  }

-- one more row
module _ (ps at : List ℕ) (c : AreClasses ps at) where
  abbrev pub more : List ℕ → List ℕ
  more xs = xs ++ length ps ∷ []

  parent_old : (r : ℕ) → r < length ps → get_or (more ps) r 0 ≡ get_or ps r 0
  parent_old r l = get_or_append_left ps (length ps ∷ []) 0 r l

  parent_new : get_or (more ps) (length ps) 0 ≡ length ps
  parent_new = get_or_push ps (length ps) 0 (length ps) refl

  length_more : (xs : List ℕ) → length (more xs) ≡ length xs + 1
  length_more xs = length-append xs (length ps ∷ [])

  forest_more : IsForest (more ps)
  forest_more r l = elim (cases_lt r (length ps)) as (λ _. get_or (more ps) r 0 ≤ r) [
    | inl lt ↦ rw (parent_old r lt) (c.forest r lt)
    | inr g ↦
        let e : r ≡ length ps = omega (arith, l, length_more ps, g) in
        rw (e, parent_new) (omega arith)
  ]

  root_old : (r : ℕ) → r < length ps → root_of (more ps) r ≡ root_of ps r
  root_old r l = unique ps c.forest (root_of (more ps)) (record {
    here = λ q lq e. (GivesRoots-root_of (more ps) forest_more).here q (omega (arith, lq, length_more ps)) (parent_old q lq ∙ e);
    up = λ q lq n. (GivesRoots-root_of (more ps) forest_more).up q (omega (arith, lq, length_more ps)) (λ e. n (sym (parent_old q lq) ∙ e)) ∙ ap (root_of (more ps)) (parent_old q lq);
  }) r l

  root_new : root_of (more ps) (length ps) ≡ length ps
  root_new = (GivesRoots-root_of (more ps) forest_more).here (length ps) (omega (arith, length_more ps)) parent_new

  at_old : (r : ℕ) → r < length ps → get_or (more at) r 0 ≡ get_or at r 0
  at_old r l = get_or_append_left at (length ps ∷ []) 0 r (omega (arith, l, c.count))

  at_new : get_or (more at) (length ps) 0 ≡ length ps
  at_new = get_or_push at (length ps) 0 (length ps) c.count

  value_old : (r : ℕ) → r < length ps → get_or (more at) (root_of (more ps) r) 0 ≡ get_or at (root_of ps r) 0
  value_old r l = ap (λ z. get_or (more at) z 0) (root_old r l) ∙ at_old (root_of ps r) (root_fixed ps c.forest r l).0

  value_new : get_or (more at) (root_of (more ps) (length ps)) 0 ≡ length ps
  value_new = ap (λ z. get_or (more at) z 0) root_new ∙ at_new

  pub renamed_more : renamed_by (more ps) (more at) ≡ renamed_by ps at ++ length ps ∷ []
  renamed_more = ext_get_or 0 (renamed_by (more ps) (more at)) (renamed_by ps at ++ length ps ∷ [])
      (length-renamed_by (more ps) (more at) ∙ length_more ps ∙ sym (length-append (renamed_by ps at) (length ps ∷ []) ∙ ap (λ x. x + 1) (length-renamed_by ps at)))
      (λ r h. let k : r < length ps + 1 = omega (arith, h, length-renamed_by (more ps) (more at), length_more ps) in
      renamed_at (more ps) (more at) r (omega (arith, k, length_more ps)) ∙ pushed r k)
    where
      pushed : (r : ℕ) → r < length ps + 1 → get_or (more at) (root_of (more ps) r) 0 ≡ get_or (renamed_by ps at ++ length ps ∷ []) r 0
      pushed r k = elim (cases_lt r (length ps)) as (λ _. get_or (more at) (root_of (more ps) r) 0 ≡ get_or (renamed_by ps at ++ length ps ∷ []) r 0) [
        | inl l ↦ value_old r l ∙ sym (renamed_at ps at r l) ∙ sym (get_or_append_left (renamed_by ps at) (length ps ∷ []) 0 r (omega (arith, l, length-renamed_by ps at)))
        | inr g ↦
            let e : r ≡ length ps = omega (arith, k, g) in
            ap (λ z. get_or (more at) (root_of (more ps) z) 0) e ∙ value_new ∙ sym (get_or_push (renamed_by ps at) (length ps) 0 r (length-renamed_by ps at ∙ sym e))
      ]

  pub classes_more : AreClasses (more ps) (more at)
  classes_more = record {
    forest = forest_more;
    count = length_more at ∙ ap (λ x. x + 1) c.count ∙ sym (length_more ps);
    inside = λ r l. elim (cases_lt r (length ps)) as (λ _. get_or (more at) (root_of (more ps) r) 0 < length (more ps)) [
      | inl lt ↦ omega (arith, value_old r lt, c.inside r lt, length_more ps)
      | inr g ↦
          let e : r ≡ length ps = omega (arith, l, length_more ps, g) in
          omega (arith, ap (λ z. get_or (more at) (root_of (more ps) z) 0) e, value_new, length_more ps)
    ];
    own = λ r l. elim (cases_lt r (length ps)) as (λ _. root_of (more ps) (get_or (more at) (root_of (more ps) r) 0) ≡ root_of (more ps) r) [
      | inl lt ↦ ap (root_of (more ps)) (value_old r lt) ∙ root_old (get_or at (root_of ps r) 0) (c.inside r lt) ∙ c.own r lt ∙ sym (root_old r lt)
      | inr g ↦
          let e : r ≡ length ps = omega (arith, l, length_more ps, g) in
          ap (λ z. root_of (more ps) (get_or (more at) (root_of (more ps) z) 0)) e ∙ ap (root_of (more ps)) value_new ∙ ap (root_of (more ps)) (sym e)
    ];
  }
