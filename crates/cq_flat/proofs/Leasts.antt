-- One more node, for the least constants of classes.
use Rattle.std.proofs.Common.{◌≡◌, ◌≢◌, ℕ, ◌+◌, ◌<◌, Bool, true, false, cond, ◌&&◌, List, length, get_or, replicate, Option, Some, None, sym, subst, ◌∙◌, ap, refl, arith, ◌⊎◌, inl, inr, ⊎_elim}
use Rattle.std.proofs.Math.ListN.{set}
use Rattle.std.proofs.lemmas.Bool.{cases_eq, cases_lt}
use Rattle.std.proofs.lemmas.Option.{same_Some}
use Rattle.std.specs.Ordering.{is_lt, is_gt, ordering_then}
use Rattle.std.specs.declared.cmp.Ordering.{Ordering}
use Rattle.std.specs.declared.cmp.Ordering.TheVariants.{Less, Equal, Greater}
use Rattle.std.proofs.lemmas.List.{length-set, get_or-set_same, get_or-set_other, get_or-replicate, length-replicate}
use Rattle.std.specs.Prelude.{slice_get}
use Rattle.cq_theory.specs.declared.constant.Con.{Con}
use Rattle.cq_theory.specs.Constant.{con_cmp, IsLesser, IsAtMost}
use Rattle.cq_theory.proofs.Constants.{con_tied, lesser-transitive, lesser-at_most, greater-lesser, at_most-itself, at_most-transitive, at_most-not_lesser}
use Rattle.cq_flat.specs.declared.node.Node.{Node}
use Rattle.cq_flat.specs.declared.node.Node.TheVariants.{Const}
use Rattle.cq_flat.specs.Constants.{IsLeastOf, AreLeast, lesser, Exceeds, IsLeastExcess, IsExcess, is_replaced, lesser_clash}

lesser_le : (o : Option Con) (c : Con) → IsAtMost (lesser o c) c
lesser_le None c = at_most-itself c
lesser_le (Some d) c = by (is_gt (con_cmp d c)) refl
  where
    by : (b : Bool) → is_gt (con_cmp d c) ≡ b → IsAtMost (cond b c d) c
    by true e = at_most-itself c
    by false e = e

lesser_old : (o : Option Con) (c d : Con) → o ≡ Some d → IsAtMost (lesser o c) d
lesser_old None c d e = absurd (cc)
lesser_old (Some b) c d e = subst (IsAtMost (lesser (Some b) c)) (same_Some b d e) (by (is_gt (con_cmp b c)) refl)
  where
    by : (t : Bool) → is_gt (con_cmp b c) ≡ t → IsAtMost (cond t c b) b
    by true f = lesser-at_most c b (greater-lesser b c f)
    by false f = at_most-itself b

lesser_is : (o : Option Con) (c : Con) → (lesser o c ≡ c) ⊎ (o ≡ Some (lesser o c))
lesser_is None c = inl refl
lesser_is (Some d) c = by (is_gt (con_cmp d c))
  where
    by : (b : Bool) → (cond b c d ≡ c) ⊎ (Some d ≡ Some (cond b c d))
    by true = inl refl
    by false = inr refl

module _ (nodes : List Node) (classes : List ℕ) where
  pub least_none : AreLeast nodes classes 0 (replicate (length nodes) None)
  least_none = record {
    count = length-replicate (length nodes) None;
    each = λ k l. rw (get_or-replicate {A = Option Con} (length nodes) k None None l) (record { held = λ c e. absurd (cc); least = λ a c b is at. absurd (omega (arith, b)) });
  }

  module _ (n : ℕ) (all : List (Option Con)) (s : AreLeast nodes classes n all) where
    pub least_plain : ((c : Con) → slice_get nodes n ≡ Some (Const c) → ⊥) → AreLeast nodes classes (n + 1) all
    least_plain plain = record {
      count = s.count;
      each = λ k l. record {
        held = (s.each k l).held;
        least = λ a c b is at. elim (cases_lt a n) as (λ _. (d : Con) × (get_or all k None ≡ Some d) × IsAtMost d c) [
          | inl h ↦ (s.each k l).least a c h is at
          | inr g ↦ let e : a ≡ n = omega arith in absurd (plain c (rw e at is))
        ];
      };
    }

    module _ (c : Con) (is : slice_get nodes n ≡ Some (Const c)) (within : get_or classes n 0 < length nodes) where
      abbrev k : ℕ
      k = get_or classes n 0

      abbrev x : Con
      x = lesser (get_or all k None) c

      least_here : IsLeastOf nodes classes (n + 1) k (Some x)
      least_here = record {
        held = λ b e. let i : x ≡ b = cc in rw (← i) (⊎_elim (λ o. (n, is ∙ ap (λ z. Some (Const z)) (sym o), refl)) (λ o. (s.each k within).held x o) (lesser_is (get_or all k None) c));
        least = λ a b h ia at. elim (cases_lt a n) as (λ _. (d : Con) × (Some x ≡ Some d) × IsAtMost d b) [
          | inl l ↦ let o = (s.each k within).least a b l ia at in (x, refl, at_most-transitive x o.0 b (lesser_old (get_or all k None) c o.0 o.1) o.2)
          | inr g ↦
              let e : a ≡ n = omega arith in
              let i : Some (Const b) ≡ Some (Const c) = sym ia ∙ ap (slice_get nodes) e ∙ is in
              let j : b ≡ c = cc in
              (x, refl, subst (IsAtMost x) (sym j) (lesser_le (get_or all k None) c))
        ];
      }

      least_other : (j : ℕ) → j < length nodes → j ≢ k → IsLeastOf nodes classes (n + 1) j (get_or all j None)
      least_other j l m = record {
        held = (s.each j l).held;
        least = λ a b h ia at. elim (cases_lt a n) as (λ _. (d : Con) × (get_or all j None ≡ Some d) × IsAtMost d b) [
          | inl q ↦ (s.each j l).least a b q ia at
          | inr g ↦ let e : a ≡ n = omega arith in absurd (m (sym at ∙ ap (λ z. get_or classes z 0) e))
        ];
      }

      pub least_more : AreLeast nodes classes (n + 1) (set all k (Some x))
      least_more = record {
        count = length-set all k (Some x) ∙ s.count;
        each = λ j l. elim (cases_eq j k) as (λ _. IsLeastOf nodes classes (n + 1) j (get_or (set all k (Some x)) j None)) [
          | inl e ↦ rw (e, get_or-set_same all k (Some x) None (omega (arith, within, s.count))) least_here
          | inr m ↦ rw (get_or-set_other all k j (Some x) None m) (least_other j l m)
        ];
      }

module _ (nodes : List Node) (classes : List ℕ) (all : List (Option Con)) where
  pub excess_none : IsExcess nodes classes all 0 None
  excess_none = λ a d c l e. omega (arith, l)

  module _ (n : ℕ) where
    pub excess_plain : (clash : Option (Con × Con)) → ((c d : Con) → Exceeds nodes classes all n d c → ⊥) → IsExcess nodes classes all n clash → IsExcess nodes classes all (n + 1) clash
    excess_plain None plain s = λ a d c l e. elim (cases_lt a n) as (λ _. ⊥) [
      | inl h ↦ s a d c h e
      | inr g ↦ let i : a ≡ n = omega arith in plain c d (rw i at e)
    ]
    excess_plain (Some p) plain s = record {
      node = s.node;
      exceeds = s.exceeds;
      least = λ a d c l e. elim (cases_lt a n) as (λ _. IsLesser p.0 d ⊎ ((p.0 ≡ d) × IsAtMost p.1 c)) [
        | inl h ↦ s.least a d c h e
        | inr g ↦ let i : a ≡ n = omega arith in absurd (plain c d (rw i at e))
      ];
    }

    module _ (d c : Con) (exceeds : Exceeds nodes classes all n d c) where
      only : (b e : Con) → Exceeds nodes classes all n b e → (b ≡ d) × (e ≡ c)
      only b e x =
          let i : Some (Const e) ≡ Some (Const c) = sym x.0 ∙ exceeds.0 in
          let j : Some b ≡ Some d = sym x.1 ∙ exceeds.1 in
          (cc, cc)

      keeps : (p : Con × Con) → IsLesser p.0 d ⊎ ((p.0 ≡ d) × IsAtMost p.1 c) → IsLeastExcess nodes classes all n p → IsLeastExcess nodes classes all (n + 1) p
      keeps p less s = record {
        node = s.node;
        exceeds = s.exceeds;
        least = λ a b e l x. elim (cases_lt a n) as (λ _. IsLesser p.0 b ⊎ ((p.0 ≡ b) × IsAtMost p.1 e)) [
          | inl h ↦ s.least a b e h x
          | inr g ↦
              let i : a ≡ n = omega arith in
              let o = only b e (rw i at x) in
              rw (o.0, o.1) less
        ];
      }

      takes : ((a : ℕ) (b e : Con) → a < n → Exceeds nodes classes all a b e → IsLesser d b ⊎ ((d ≡ b) × IsAtMost c e)) → IsLeastExcess nodes classes all (n + 1) (d, c)
      takes less = record {
        node = n;
        exceeds = exceeds;
        least = λ a b e l x. elim (cases_lt a n) as (λ _. IsLesser d b ⊎ ((d ≡ b) × IsAtMost c e)) [
          | inl h ↦ less a b e h x
          | inr g ↦
              let i : a ≡ n = omega arith in
              let o = only b e (rw i at x) in
              inr (sym o.0, subst (IsAtMost c) (sym o.1) (at_most-itself c))
        ];
      }

      takes_over : (x y : Con) → IsLesser d x ⊎ ((d ≡ x) × IsLesser c y) → IsLeastExcess nodes classes all n (x, y) → IsLeastExcess nodes classes all (n + 1) (d, c)
      takes_over x y less s = takes (λ a b e l h. both b e less (s.least a b e l h)) where
        both : (b e : Con) → IsLesser d x ⊎ ((d ≡ x) × IsLesser c y) → IsLesser x b ⊎ ((x ≡ b) × IsAtMost y e) → IsLesser d b ⊎ ((d ≡ b) × IsAtMost c e)
        both b e (inl f) (inl g) = inl (lesser-transitive d x b f g)
        both b e (inl f) (inr g) = inl (subst (IsLesser d) g.0 f)
        both b e (inr f) (inl g) = inl (subst (λ z. IsLesser z b) (sym f.0) g)
        both b e (inr f) (inr g) = inr (f.0 ∙ g.0, at_most-transitive c y e (lesser-at_most c y f.1) g.1)

      -- the comparison of two pairs
      greater_pair : (x y : Con) → is_gt (ordering_then (con_cmp x d) (con_cmp y c)) ≡ true → IsLesser d x ⊎ ((d ≡ x) × IsLesser c y)
      greater_pair x y h = by (con_cmp x d) refl h where
        by : (o : Ordering) → con_cmp x d ≡ o → is_gt (ordering_then o (con_cmp y c)) ≡ true → IsLesser d x ⊎ ((d ≡ x) × IsLesser c y)
        by Less e k = absurd (cc)
        by Equal e k = inr (sym (con_tied x d e), greater-lesser y c k)
        by Greater e k = inl (greater-lesser x d (ap is_gt e))

      at_most_pair : (x y : Con) → is_gt (ordering_then (con_cmp x d) (con_cmp y c)) ≡ false → IsLesser x d ⊎ ((x ≡ d) × IsAtMost y c)
      at_most_pair x y h = by (con_cmp x d) refl h where
        by : (o : Ordering) → con_cmp x d ≡ o → is_gt (ordering_then o (con_cmp y c)) ≡ false → IsLesser x d ⊎ ((x ≡ d) × IsAtMost y c)
        by Less e k = inl (ap is_lt e)
        by Equal e k = inr (con_tied x d e, k)
        by Greater e k = absurd (cc)

      excess_pair : (clash : Option (Con × Con)) → IsExcess nodes classes all n clash → (b : Bool) → is_replaced clash d c ≡ b → IsExcess nodes classes all (n + 1) (cond b (Some (d, c)) clash)
      excess_pair None s true e = takes (λ a b e l h. absurd (s a b e l h))
      excess_pair None s false e = absurd (cc)
      excess_pair (Some p) s true e = takes_over p.0 p.1 (greater_pair p.0 p.1 e) s
      excess_pair (Some p) s false e = keeps p (at_most_pair p.0 p.1 e) s

    -- a node that is a constant of a class whose least constant is o
    pub excess_more : (clash : Option (Con × Con)) (c : Con) (o : Option Con) → slice_get nodes n ≡ Some (Const c) → get_or all (get_or classes n 0) None ≡ o → IsExcess nodes classes all n clash → IsExcess nodes classes all (n + 1) (lesser_clash clash o c)
    excess_more clash c None is at s = excess_plain clash (λ b d e. let i : None ≡ Some d = sym at ∙ e.1 in absurd (cc)) s
    excess_more clash c (Some d) is at s = by (is_gt (con_cmp c d)) refl
      where
        by : (b : Bool) → is_gt (con_cmp c d) ≡ b → IsExcess nodes classes all (n + 1) (cond (b && is_replaced clash d c) (Some (d, c)) clash)
        by true e = excess_pair d c (is, at, greater-lesser c d e) clash s (is_replaced clash d c) refl
        by false e = excess_plain clash (λ b f x.
            let i : Some (Const b) ≡ Some (Const c) = sym x.0 ∙ is in
            let j : Some f ≡ Some d = sym x.1 ∙ at in
            let h : b ≡ c = cc in
            let k : f ≡ d = cc in
            at_most-not_lesser c d e (subst (λ z. IsLesser z c) k (subst (IsLesser f) h x.2))) s
