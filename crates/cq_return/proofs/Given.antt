-- Labels that are given in order, each with its type.
use Rattle.std.proofs.Common.{ℕ, zero, suc, List, ◌∷◌, Some, None, ◌≡◌, ◌<◌, ◌≤◌, ◌+◌, cond, map, length, refl, sym, ap, ◌∙◌, arith}
use Rattle.std.specs.Prelude.{slice_get, slice_index, nat_eq, unwrap_or, position, option_map}
use Rattle.std.specs.List.{range_with_len}
use Rattle.std.specs.Map.{lookup}
use Rattle.std.proofs.lemmas.Bool.{eq-eqb, ne_eqb}
use Rattle.std.proofs.lemmas.Option.{slice_get_within, get_or_from_slice_get}
use Rattle.cq_base.proofs.Numbers.{position-cons}
use Rattle.cq_theory.specs.Canonical.{below}
use Rattle.cq_import.specs.Labels.{Use, Labels, place_of_label}
use Rattle.cq_import.proofs.LabelPlaces.{Has}

module _ (f : ℕ → ℕ) where
  -- a label with its type
  abbrev pub use_of : ℕ → Use
  use_of label = (label, f label)

  looked_up : (s m n : ℕ) → n < m → lookup (nat_eq (s + n)) (map use_of (range_with_len s m)) ≡ Some (f (s + n))
  looked_up s zero n h = absurd (omega arith)
  looked_up s (suc m) zero h =
      let here : s + 0 ≡ s = omega arith in
      ap (λ b. cond b (Some (f s)) (lookup (nat_eq (s + 0)) (map use_of (range_with_len (s + 1) m)))) (eq-eqb (s + 0) s here) ∙ ap (λ k. Some (f k)) (sym here)
  looked_up s (suc m) (suc n) h =
      let there : s + suc n ≡ s + 1 + n = omega arith in
      ap (λ b. cond b (Some (f s)) (lookup (nat_eq (s + suc n)) (map use_of (range_with_len (s + 1) m)))) (ne_eqb (s + suc n) s (λ e. omega arith))
      ∙ ap (λ k. lookup (nat_eq k) (map use_of (range_with_len (s + 1) m))) there
      ∙ looked_up (s + 1) m n (omega arith) ∙ ap (λ k. Some (f k)) (sym there)

  -- a label behind all of them isn't among them
  pub not_yet : (s m k : ℕ) → s + m ≤ k → lookup (nat_eq k) (map use_of (range_with_len s m)) ≡ None
  not_yet s zero k h = refl
  not_yet s (suc m) k h =
      ap (λ b. cond b (Some (f s)) (lookup (nat_eq k) (map use_of (range_with_len (s + 1) m)))) (ne_eqb k s (λ e. omega arith))
      ∙ not_yet (s + 1) m k (omega arith)

  names_are : (s m : ℕ) → map (λ (u : Use). u.0) (map use_of (range_with_len s m)) ≡ range_with_len s m
  names_are s zero = refl
  names_are s (suc m) = ap (λ l. s ∷ l) (names_are (s + 1) m)

placed_at : (s m n : ℕ) → n < m → position (nat_eq (s + n)) (range_with_len s m) ≡ Some n
placed_at s zero n h = absurd (omega arith)
placed_at s (suc m) zero h =
    let here : s + 0 ≡ s = omega arith in
    position-cons (nat_eq (s + 0)) s (range_with_len (s + 1) m)
    ∙ ap (λ b. cond b (Some 0) (option_map suc (position (nat_eq (s + 0)) (range_with_len (s + 1) m)))) (eq-eqb (s + 0) s here)
placed_at s (suc m) (suc n) h =
    let there : s + suc n ≡ s + 1 + n = omega arith in
    position-cons (nat_eq (s + suc n)) s (range_with_len (s + 1) m)
    ∙ ap (λ b. cond b (Some 0) (option_map suc (position (nat_eq (s + suc n)) (range_with_len (s + 1) m)))) (ne_eqb (s + suc n) s (λ e. omega arith))
    ∙ ap (λ k. option_map suc (position (nat_eq k) (range_with_len (s + 1) m))) there
    ∙ ap (option_map suc) (placed_at (s + 1) m n (omega arith))

-- each label from 0 on, with its type
abbrev pub labels_for : List ℕ → Labels
labels_for nulls = map (use_of (slice_index nulls)) (below (length nulls))

-- each null's label has its type, and stands at its own place
pub record AreGiven (nulls : List ℕ) (labels : Labels) : Type 0 where
  pub typed : (n type : ℕ) → slice_get nulls n ≡ Some type → Has labels (n, type)
  pub placed : (n type : ℕ) → slice_get nulls n ≡ Some type → place_of_label labels n ≡ n

pub labels_given : (nulls : List ℕ) → AreGiven nulls (labels_for nulls)
labels_given nulls = record {
  typed = λ n type at.
      let here : 0 + n ≡ n = omega arith in
      ap (λ k. lookup (nat_eq k) (labels_for nulls)) (sym here)
      ∙ looked_up (slice_index nulls) 0 (length nulls) n (slice_get_within nulls n type at)
      ∙ ap (λ k. Some (slice_index nulls k)) here ∙ ap (λ k. Some k) (get_or_from_slice_get nulls n type 0 at);
  placed = λ n type at.
      let here : 0 + n ≡ n = omega arith in
      ap (λ l. unwrap_or (position (nat_eq n) l) 0) (names_are (slice_index nulls) 0 (length nulls))
      ∙ ap (λ k. unwrap_or (position (nat_eq k) (below (length nulls))) 0) (sym here)
      ∙ ap (λ o. unwrap_or o 0) (placed_at 0 (length nulls) n (slice_get_within nulls n type at));
}
