-- What is read of a front by its first byte.
use Rattle.std.proofs.Common.{◌≡◌, ℕ, zero, suc, ◌-◌, List, ◌∷◌, Bool, true, false, refl, sym, ap, ◌∙◌, arith}
use Rattle.std.specs.Prelude.{None, cond, ◌==◌}
use Rattle.cq_theory.specs.TypesideData.{TypesideData as Typeside}
use Rattle.cq_theory.specs.ValueText.{is_word_byte}
use Rattle.cq_values.specs.Reading.{unquoted, at_content, null_front, word_front, value_front, value_at}
use Rattle.cq_values.proofs.Contents.{is_byte, is_other}

module _ (T : Typeside) (levels sort : ℕ) (bytes : List ℕ) (b : ℕ) (bs : List ℕ) (some : levels ≡ 0 → ⊥) (is : bytes ≡ b ∷ bs) where
  one_level : value_at T levels sort bytes ≡ value_front (value_at T (levels - 1)) T sort (b ∷ bs)
  unfolding value_at
  one_level = ap (value_at T levels sort) is ∙ at_levels levels some
    where
      at_levels : (n : ℕ) → (n ≡ 0 → ⊥) → value_at T n sort (b ∷ bs) ≡ value_front (value_at T (n - 1)) T sort (b ∷ bs)
      at_levels zero h = absurd (h refl)
      at_levels (suc n) h = let e : suc n - 1 ≡ n = omega arith in ap (λ m. value_front (value_at T m) T sort (b ∷ bs)) (sym e)

  by_tests : (q n w : Bool) → (b == 34) ≡ q → (b == 63) ≡ n → is_word_byte b ≡ w
      → value_at T levels sort bytes ≡ cond q (at_content T sort (unquoted false bs)) (cond n (null_front bs) (cond w (word_front (value_at T (levels - 1)) T sort (b ∷ bs)) None))
  by_tests q n w i j k =
      one_level
      ∙ ap (λ t. cond t (at_content T sort (unquoted false bs)) (cond (b == 63) (null_front bs) (cond (is_word_byte b) (word_front (value_at T (levels - 1)) T sort (b ∷ bs)) None))) i
      ∙ ap (λ t. cond q (at_content T sort (unquoted false bs)) (cond t (null_front bs) (cond (is_word_byte b) (word_front (value_at T (levels - 1)) T sort (b ∷ bs)) None))) j
      ∙ ap (λ t. cond q (at_content T sort (unquoted false bs)) (cond n (null_front bs) (cond t (word_front (value_at T (levels - 1)) T sort (b ∷ bs)) None))) k

  pub at_quote : b ≡ 34 → value_at T levels sort bytes ≡ at_content T sort (unquoted false bs)
  at_quote e = by_tests true (b == 63) (is_word_byte b) (is_byte b 34 e) refl refl

  pub at_word : (b ≡ 34 → ⊥) → (b ≡ 63 → ⊥) → is_word_byte b ≡ true → value_at T levels sort bytes ≡ word_front (value_at T (levels - 1)) T sort bytes
  at_word q n w = by_tests false false true (is_other b 34 q) (is_other b 63 n) w ∙ ap (word_front (value_at T (levels - 1)) T sort) (sym is)
