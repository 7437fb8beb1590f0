-- Each step of a closure leaves fewer.
use Rattle.std.proofs.Common.{◌≡◌, ℕ, zero, suc, ◌<◌, ◌≤◌, List, [], ◌∷◌, ap, refl, arith, ◌∙◌}
use Rattle.cq_flat.specs.declared.node.Node.{Node}
use Rattle.cq_flat.specs.declared.closing.Closing.{Closing}
use Rattle.cq_flat.specs.Closing.{roots_below}
use Rattle.cq_flat.specs.State.{class_in, waits, steps_left, Refreshes}
use Rattle.cq_flat.proofs.Merged.{Pairs}

pub waits_most : {A : Type 0} (xs : List A) → waits xs ≤ 1
waits_most [] = omega arith
waits_most (x ∷ xs) = omega arith

pub waits_none : {A : Type 0} (xs : List A) → waits xs ≡ 0 → xs ≡ []
waits_none [] e = refl
waits_none (x ∷ xs) e = absurd (cc)

-- two classes are joined
pub fewer_merged : (n : ℕ) (old new : Closing) → roots_below (class_in new) n < roots_below (class_in old) n → steps_left n new < steps_left n old
fewer_merged n old new l = omega (arith, l, waits_most new.stale.items, waits_most new.pending.items)

-- functions are looked up anew
pub fewer_refreshed : (n : ℕ) (nodes : List Node) (old : Closing) (v : Pairs) (new : Closing) → (waits old.pending.items ≡ 0 → waits old.stale.items ≡ 0 → ⊥)
    → Refreshes nodes (record old { pending = v }) new → v.items ≡ [] → steps_left n new < steps_left n old
fewer_refreshed n nodes old v new some m e = by (waits old.stale.items) refl (waits old.pending.items) refl where
  same_roots : roots_below (class_in new) n ≡ roots_below (class_in old) n
  same_roots = rw m.classes refl

  none_stale : waits new.stale.items ≡ 0
  none_stale = ap waits m.stale

  by : (w : ℕ) → waits old.stale.items ≡ w → (p : ℕ) → waits old.pending.items ≡ p → steps_left n new < steps_left n old
  by (suc w) i p j = omega (arith, same_roots, none_stale, waits_most new.pending.items, i)
  by zero i (suc p) j =
      let q : waits new.pending.items ≡ 0 = ap waits (m.idle (waits_none old.stale.items i) ∙ e) in
      omega (arith, same_roots, none_stale, q, i, j)
  by zero i zero j = absurd (some j i)
