-- Roots are determined by their equations.
use Rattle.std.proofs.Common.{◌≡◌, ◌≢◌, ℕ, zero, suc, ◌<◌, ◌≤◌, List, length, get_or, cond, eqb, refl, sym, ◌∙◌, ap, arith, inl, inr}
use Rattle.std.proofs.Math.ListN.{set}
use Rattle.std.proofs.lemmas.Bool.{cases_eq, eq-eqb, ne_eqb}
use Rattle.std.proofs.lemmas.List.{length-set, get_or-set_same, get_or-set_other}
use Rattle.cq_rows.specs.Forest.{root_from, root_of, IsForest, joined_root}

-- what a function that gives roots meets
pub record GivesRoots (ps : List ℕ) (f : ℕ → ℕ) : Type 0 where
  pub here : (r : ℕ) → r < length ps → get_or ps r 0 ≡ r → f r ≡ r
  pub up : (r : ℕ) → r < length ps → get_or ps r 0 ≢ r → f r ≡ f (get_or ps r 0)

module _ (ps : List ℕ) (forest : IsForest ps) where
  from_root : (n r : ℕ) → get_or ps r 0 ≡ r → root_from ps n r ≡ r
  from_root zero r e = refl
  from_root (suc n) r e = rw (eq-eqb (get_or ps r 0) r e) refl

  from_up : (n r : ℕ) → get_or ps r 0 ≢ r → root_from ps (suc n) r ≡ root_from ps n (get_or ps r 0)
  from_up n r ne = rw (ne_eqb (get_or ps r 0) r ne) refl

  unique_from : (f : ℕ → ℕ) → GivesRoots ps f → (n r : ℕ) → r ≤ n → r < length ps → f r ≡ root_from ps n r
  unique_from f g zero r le lt = g.here r lt (omega (arith, forest r lt))
  unique_from f g (suc n) r le lt = elim (cases_eq (get_or ps r 0) r) as (λ _. f r ≡ root_from ps (suc n) r) [
    | inl e ↦ g.here r lt e ∙ sym (from_root (suc n) r e)
    | inr ne ↦
        let b = forest r lt in
        g.up r lt ne ∙ unique_from f g n (get_or ps r 0) (omega (arith, b, ne)) (omega (arith, b)) ∙ sym (from_up n r ne)
  ]

  fuel : (n m r : ℕ) → r ≤ n → r ≤ m → r < length ps → root_from ps n r ≡ root_from ps m r
  fuel zero m r l k lt = sym (from_root m r (omega (arith, forest r lt))) ∙ refl
  fuel (suc n) zero r l k lt = from_root (suc n) r (omega (arith, forest r lt))
  fuel (suc n) (suc m) r l k lt = elim (cases_eq (get_or ps r 0) r) as (λ _. root_from ps (suc n) r ≡ root_from ps (suc m) r) [
    | inl e ↦ from_root (suc n) r e ∙ sym (from_root (suc m) r e)
    | inr ne ↦
        let b = forest r lt in
        from_up n r ne ∙ fuel n m (get_or ps r 0) (omega (arith, b, ne)) (omega (arith, b, ne)) (omega (arith, b)) ∙ sym (from_up m r ne)
  ]

  up_at : (n r : ℕ) → n ≡ r → r < length ps → get_or ps r 0 ≢ r → root_from ps n r ≡ root_from ps (get_or ps r 0) (get_or ps r 0)
  up_at zero r e lt ne = absurd (ne (omega (arith, forest r lt)))
  up_at (suc n) r e lt ne = let b = forest r lt in from_up n r ne ∙ fuel n (get_or ps r 0) (get_or ps r 0) (omega (arith, b, ne)) (omega arith) (omega (arith, b))

  pub GivesRoots-root_of : GivesRoots ps (root_of ps)
  unfolding root_of
  GivesRoots-root_of = record { here = λ r lt e. from_root r r e; up = λ r lt ne. up_at r r refl lt ne }

  pub unique : (f : ℕ → ℕ) → GivesRoots ps f → (r : ℕ) → r < length ps → f r ≡ root_of ps r
  unfolding root_of
  unique f g r lt = unique_from f g r r (omega arith) lt

  root_fixed_from : (n r : ℕ) → r ≤ n → r < length ps → (root_from ps n r < length ps) × (get_or ps (root_from ps n r) 0 ≡ root_from ps n r) × (root_from ps n r ≤ r)
  root_fixed_from zero r le lt = (lt, omega (arith, forest r lt), omega arith)
  root_fixed_from (suc n) r le lt = elim (cases_eq (get_or ps r 0) r) as (λ _. (root_from ps (suc n) r < length ps) × (get_or ps (root_from ps (suc n) r) 0 ≡ root_from ps (suc n) r) × (root_from ps (suc n) r ≤ r)) [
    | inl e ↦ rw (from_root (suc n) r e) (lt, e, omega arith)
    | inr ne ↦
        let b = forest r lt in
        let o = root_fixed_from n (get_or ps r 0) (omega (arith, b, ne)) (omega (arith, b)) in
        rw (from_up n r ne) (o.0, o.1, omega (arith, o.2, b))
  ]

  pub root_fixed : (r : ℕ) → r < length ps → (root_of ps r < length ps) × (get_or ps (root_of ps r) 0 ≡ root_of ps r) × (root_of ps r ≤ r)
  unfolding root_of
  root_fixed r lt = root_fixed_from r r (omega arith) lt

  -- a path is halved
  module _ (a : ℕ) (within : a < length ps) where
    abbrev halved : List ℕ
    halved = set ps a (get_or ps (get_or ps a 0) 0)

    pub forest_halved : IsForest halved
    forest_halved r lt = elim (cases_eq r a) as (λ _. get_or halved r 0 ≤ r) [
      | inl e ↦ rw (e, get_or-set_same ps a (get_or ps (get_or ps a 0) 0) 0 within) (omega (arith, forest a within, forest (get_or ps a 0) (omega (arith, forest a within))))
      | inr ne ↦ rw (get_or-set_other ps a r (get_or ps (get_or ps a 0) 0) 0 ne) (forest r (rw length-set at lt))
    ]

    at_halved : get_or halved a 0 ≡ get_or ps (get_or ps a 0) 0
    at_halved = get_or-set_same ps a (get_or ps (get_or ps a 0) 0) 0 within

    other_halved : (r : ℕ) → r ≢ a → get_or halved r 0 ≡ get_or ps r 0
    other_halved r ne = get_or-set_other ps a r (get_or ps (get_or ps a 0) 0) 0 ne

    -- the root of a row is that of its parent, whether it is a root or not
    root_parent : (r : ℕ) → r < length ps → root_of ps r ≡ root_of ps (get_or ps r 0)
    root_parent r lt = elim (cases_eq (get_or ps r 0) r) as (λ _. root_of ps r ≡ root_of ps (get_or ps r 0)) [
      | inl e ↦ ap (root_of ps) (sym e)
      | inr ne ↦ GivesRoots-root_of.up r lt ne
    ]

    pub root_grand : root_of ps a ≡ root_of ps (get_or ps (get_or ps a 0) 0)
    root_grand = root_parent a within ∙ root_parent (get_or ps a 0) (omega (arith, forest a within))

    halved_here : (r : ℕ) → r < length ps → get_or halved r 0 ≡ r → root_of ps r ≡ r
    halved_here r lt h = elim (cases_eq r a) as (λ _. root_of ps r ≡ r) [
      | inl e ↦
          let g : get_or ps (get_or ps a 0) 0 ≡ a = sym at_halved ∙ (rw e at h) in
          let b = forest a within in
          let c = forest (get_or ps a 0) (omega (arith, b)) in
          rw e (GivesRoots-root_of.here a within (omega (arith, b, c, g)))
      | inr ne ↦ GivesRoots-root_of.here r lt (sym (other_halved r ne) ∙ h)
    ]

    halved_up : (r : ℕ) → r < length ps → root_of ps r ≡ root_of ps (get_or halved r 0)
    halved_up r lt = elim (cases_eq r a) as (λ _. root_of ps r ≡ root_of ps (get_or halved r 0)) [
      | inl e ↦ rw (e, at_halved) root_grand
      | inr ne ↦ rw (other_halved r ne) (root_parent r lt)
    ]

pub roots_halved : (ps : List ℕ) (forest : IsForest ps) (a : ℕ) (within : a < length ps) (r : ℕ) → r < length ps → root_of (set ps a (get_or ps (get_or ps a 0) 0)) r ≡ root_of ps r
roots_halved ps forest a within r lt =
    sym (unique (halved ps forest a within) (forest_halved ps forest a within) (root_of ps)
    (record { here = λ q l h. halved_here ps forest a within q (rw length-set at l) h; up = λ q l n. halved_up ps forest a within q (rw length-set at l) })
    r (rw length-set lt))

-- a root is put under a lower one
module _ (ps : List ℕ) (forest : IsForest ps) (x y : ℕ) (lx : x < length ps) (ly : y < length ps) (rx : get_or ps x 0 ≡ x) (ry : get_or ps y 0 ≡ y) (low : y < x) where
  abbrev pub joined : List ℕ
  joined = set ps x y

  abbrev pub new_root : ℕ → ℕ
  new_root r = cond (eqb (root_of ps r) x) y (root_of ps r)

  at_x : get_or joined x 0 ≡ y
  at_x = get_or-set_same ps x y 0 lx

  at_other : (r : ℕ) → r ≢ x → get_or joined r 0 ≡ get_or ps r 0
  at_other r ne = get_or-set_other ps x r y 0 ne

  pub forest_joined : IsForest joined
  forest_joined r lt = elim (cases_eq r x) as (λ _. get_or joined r 0 ≤ r) [
    | inl e ↦ rw (e, at_x) (omega (arith, low))
    | inr ne ↦ rw (at_other r ne) (forest r (rw length-set at lt))
  ]

  new_at_x : new_root x ≡ y
  new_at_x = rw ((GivesRoots-root_of ps forest).here x lx rx, eq-eqb x x refl) refl

  new_at_y : new_root y ≡ y
  new_at_y = rw ((GivesRoots-root_of ps forest).here y ly ry, ne_eqb y x (λ e. omega (arith, e, low))) refl

  here_joined : (r : ℕ) → r < length ps → get_or joined r 0 ≡ r → new_root r ≡ r
  here_joined r lt h = elim (cases_eq r x) as (λ _. new_root r ≡ r) [
    | inl e ↦ absurd (omega (arith, rw (e, at_x) at h, low))
    | inr ne ↦ rw ((GivesRoots-root_of ps forest).here r lt (sym (at_other r ne) ∙ h), ne_eqb r x ne) refl
  ]

  up_joined : (r : ℕ) → r < length ps → get_or joined r 0 ≢ r → new_root r ≡ new_root (get_or joined r 0)
  up_joined r lt n = elim (cases_eq r x) as (λ _. new_root r ≡ new_root (get_or joined r 0)) [
    | inl e ↦ ap new_root e ∙ new_at_x ∙ sym new_at_y ∙ ap new_root (sym (ap (λ z. get_or joined z 0) e ∙ at_x))
    | inr ne ↦ ap (λ z. cond (eqb z x) y z) ((GivesRoots-root_of ps forest).up r lt (λ q. n (at_other r ne ∙ q))) ∙ ap new_root (sym (at_other r ne))
  ]

  pub roots_joined : (r : ℕ) → r < length ps → root_of joined r ≡ new_root r
  roots_joined r lt = sym (unique joined forest_joined new_root (record { here = λ q l h. here_joined q (rw length-set at l) h; up = λ q l n. up_joined q (rw length-set at l) n }) r (rw length-set lt))

-- the roots, where a is that of `from` and b that of `to` in the list before, and `ps` has the same roots
pub joined_high_from : (old ps : List ℕ) (forest : IsForest ps) (from to a b : ℕ) → ((r : ℕ) → r < length old → root_of ps r ≡ root_of old r) → length ps ≡ length old
    → a ≡ root_of old from → b ≡ root_of old to → a < length ps → b < length ps → get_or ps a 0 ≡ a → get_or ps b 0 ≡ b → b < a
    → (r : ℕ) → r < length old → root_of (set ps a b) r ≡ joined_root old from to b r
joined_high_from old ps forest from to a b same len ea eb la lb ra rb low r l =
    roots_joined ps forest a b la lb ra rb low r (omega (arith, l, len))
    ∙ rw (same r l) (elim (cases_eq (root_of old r) a) as (λ _. cond (eqb (root_of old r) a) b (root_of old r) ≡ joined_root old from to b r) [
      | inl e ↦ rw (eq-eqb (root_of old r) a e, eq-eqb (root_of old r) (root_of old from) (e ∙ ea)) refl
      | inr n ↦ rw (ne_eqb (root_of old r) a n, ne_eqb (root_of old r) (root_of old from) (λ q. n (q ∙ sym ea)))
          (elim (cases_eq (root_of old r) (root_of old to)) as (λ _. root_of old r ≡ cond (eqb (root_of old r) (root_of old to)) b (root_of old r)) [
            | inl q ↦ rw (eq-eqb (root_of old r) (root_of old to) q) (q ∙ sym eb)
            | inr m ↦ rw (ne_eqb (root_of old r) (root_of old to) m) refl
          ])
    ])

pub joined_high_to : (old ps : List ℕ) (forest : IsForest ps) (from to a b : ℕ) → ((r : ℕ) → r < length old → root_of ps r ≡ root_of old r) → length ps ≡ length old
    → a ≡ root_of old from → b ≡ root_of old to → a < length ps → b < length ps → get_or ps a 0 ≡ a → get_or ps b 0 ≡ b → a < b
    → (r : ℕ) → r < length old → root_of (set ps b a) r ≡ joined_root old from to a r
joined_high_to old ps forest from to a b same len ea eb la lb ra rb low r l =
    roots_joined ps forest b a lb la rb ra low r (omega (arith, l, len))
    ∙ rw (same r l) (elim (cases_eq (root_of old r) (root_of old from)) as (λ _. cond (eqb (root_of old r) b) a (root_of old r) ≡ joined_root old from to a r) [
      | inl e ↦
          let n : root_of old r ≢ b = λ q. omega (arith, e, ea, q, low) in
          rw (eq-eqb (root_of old r) (root_of old from) e, ne_eqb (root_of old r) b n) (e ∙ sym ea)
      | inr n ↦ rw (ne_eqb (root_of old r) (root_of old from) n)
          (elim (cases_eq (root_of old r) b) as (λ _. cond (eqb (root_of old r) b) a (root_of old r) ≡ cond (eqb (root_of old r) (root_of old to)) a (root_of old r)) [
            | inl q ↦ rw (eq-eqb (root_of old r) b q, eq-eqb (root_of old r) (root_of old to) (q ∙ eb)) refl
            | inr m ↦ rw (ne_eqb (root_of old r) b m, ne_eqb (root_of old r) (root_of old to) (λ q. m (q ∙ sym eb))) refl
          ])
    ])

pub kept_root : (ps qs : List ℕ) → IsForest ps → IsForest qs → length qs ≡ length ps → ((r : ℕ) → r < length ps → root_of qs r ≡ root_of ps r) → (a : ℕ) → a < length ps → get_or ps a 0 ≡ a → get_or qs a 0 ≡ a
kept_root ps qs fp fq len same a l e =
    let q = same a l ∙ (GivesRoots-root_of ps fp).here a l e in
    let o = root_fixed qs fq a (omega (arith, l, len)) in
    sym (ap (λ z. get_or qs z 0) q) ∙ o.1 ∙ q
