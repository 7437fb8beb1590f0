-- Rows by their numbers from 1.
use Rattle.std.proofs.Common.{ℕ, zero, suc, Bool, true, false, List, Some, None, ◌≡◌, ◌<◌, ◌≤◌, ◌+◌, ◌^◌, cond, map, length, refl, sym, ap, ◌∙◌, arith}
use Rattle.std.specs.Prelude.{decimal, option_map}
use Rattle.std.specs.List.{range_with_len}
use Rattle.std.specs.Cmp.Lexicographic.{nat_list_eq_equiv, same_text}
use Rattle.std.proofs.lemmas.Fmt.{decimal_injective, decimal_nonempty}
use Rattle.cq_base.specs.Names.{number_of, same_name}
use Rattle.cq_base.proofs.Numbers.{position-cons}

-- the id of a row
abbrev pub id_text : ℕ → List ℕ
id_text row = decimal (row + 1)

pub other_id : (m n : ℕ) → m < 2 ^ 63 → n < 2 ^ 63 → (m ≡ n → ⊥) → same_name (id_text m) (id_text n) ≡ false
other_id m n small fits other = at_test (same_name (id_text m) (id_text n)) refl
  where
    at_test : (b : Bool) → same_name (id_text m) (id_text n) ≡ b → same_name (id_text m) (id_text n) ≡ false
    at_test false e = e
    at_test true e = absurd (other (omega (arith, decimal_injective (m + 1) (n + 1) (omega arith) (omega arith) (same_text (id_text m) (id_text n) (sym e)))))

-- a row behind others has none of their ids
pub no_such : (s m k : ℕ) → s + m ≤ k → k < 2 ^ 63 → number_of (map id_text (range_with_len s m)) (id_text k) ≡ None
no_such s zero k h small = refl
no_such s (suc m) k h small =
    position-cons (same_name (id_text k)) (id_text s) (map id_text (range_with_len (s + 1) m))
    ∙ ap (λ b. cond b (Some 0) (option_map suc (number_of (map id_text (range_with_len (s + 1) m)) (id_text k)))) (other_id k s small (omega arith) (λ e. omega arith))
    ∙ ap (option_map suc) (no_such (s + 1) m k (omega arith) small)

-- each row is found at its place
pub found_at : (s m n : ℕ) → n < m → s + m < 2 ^ 63 → number_of (map id_text (range_with_len s m)) (id_text (s + n)) ≡ Some n
found_at s zero n h small = absurd (omega arith)
found_at s (suc m) zero h small =
    let here : s + 0 ≡ s = omega arith in
    position-cons (same_name (id_text (s + 0))) (id_text s) (map id_text (range_with_len (s + 1) m))
    ∙ ap (λ b. cond b (Some 0) (option_map suc (number_of (map id_text (range_with_len (s + 1) m)) (id_text (s + 0)))))
    (ap (λ k. same_name (id_text k) (id_text s)) here ∙ nat_list_eq_equiv.refl (id_text s))
found_at s (suc m) (suc n) h small =
    let there : s + suc n ≡ s + 1 + n = omega arith in
    position-cons (same_name (id_text (s + suc n))) (id_text s) (map id_text (range_with_len (s + 1) m))
    ∙ ap (λ b. cond b (Some 0) (option_map suc (number_of (map id_text (range_with_len (s + 1) m)) (id_text (s + suc n)))))
    (other_id (s + suc n) s (omega arith) (omega arith) (λ e. omega arith))
    ∙ ap (λ k. option_map suc (number_of (map id_text (range_with_len (s + 1) m)) (id_text k))) there
    ∙ ap (option_map suc) (found_at (s + 1) m n (omega arith) (omega arith))

pub some_bytes : (row : ℕ) → row < 2 ^ 63 → 0 < length (id_text row)
some_bytes row small = decimal_nonempty (row + 1) (omega arith)
