-- The content of a quoted text, a byte at a time.
use Rattle.std.proofs.Common.{◌≡◌, ℕ, List, [], ◌∷◌, ◌++◌, length, Bool, true, false, refl, sym, ap, ◌∙◌, append_assoc, arith}
use Rattle.std.proofs.lemmas.Bool.Decides.{nat_tests}
use Rattle.std.proofs.lemmas.List.{append-nil}
use Rattle.std.specs.Prelude.{Some, None, ◌==◌, cond}
use Rattle.cq_base.specs.Escapes.{unescape}
use Rattle.cq_values.specs.Reading.{Front, behind, behind_escape, stands_alone, unquoted}

behind_none : (c : Front (List ℕ)) → c ≡ behind [] c
behind_none None = refl
behind_none (Some x) = refl

pub begins : (bytes : List ℕ) → unquoted false bytes ≡ behind [] (unquoted false bytes)
begins bytes = behind_none (unquoted false bytes)

behind_more : (front more : List ℕ) (found : Front (List ℕ)) → behind front (behind more found) ≡ behind (front ++ more) found
behind_more front more None = refl
behind_more front more (Some x) = ap (λ l. Some (l, x.1)) (sym (append_assoc front more x.0))

module _ (whole : Front (List ℕ)) (front : List ℕ) (b : ℕ) (after : List ℕ) (so_far : whole ≡ behind front (unquoted false (b ∷ after))) where
  by_tests : (q s a : Bool) → (b == 34) ≡ q → (b == 92) ≡ s → stands_alone b ≡ a
      → whole ≡ behind front (cond q (Some ([], after)) (cond s (unquoted true after) (cond a (behind (b ∷ []) (unquoted false after)) None)))
  unfolding unquoted
  by_tests q s a i j k =
      so_far ∙ ap (λ t. behind front (cond t (Some ([], after)) (cond (b == 92) (unquoted true after) (cond (stands_alone b) (behind (b ∷ []) (unquoted false after)) None)))) i
      ∙ ap (λ t. behind front (cond q (Some ([], after)) (cond t (unquoted true after) (cond (stands_alone b) (behind (b ∷ []) (unquoted false after)) None)))) j
      ∙ ap (λ t. behind front (cond q (Some ([], after)) (cond s (unquoted true after) (cond t (behind (b ∷ []) (unquoted false after)) None)))) k

  pub closes : (b == 34) ≡ true → whole ≡ Some (front, after)
  closes q = by_tests true (b == 92) (stands_alone b) q refl refl ∙ ap (λ c. Some (c, after)) (append-nil front)

  pub is_spoilt : (b == 34) ≡ false → (b == 92) ≡ false → stands_alone b ≡ false → whole ≡ None
  is_spoilt q s a = by_tests false false false q s a

  pub goes_on : (b == 34) ≡ false → (b == 92) ≡ false → stands_alone b ≡ true → whole ≡ behind (front ++ b ∷ []) (unquoted false after)
  goes_on q s a = by_tests false false true q s a ∙ behind_more front (b ∷ []) (unquoted false after)

  escaping : (b == 34) ≡ false → (b == 92) ≡ true → whole ≡ behind front (unquoted true after)
  escaping q s = by_tests false true (stands_alone b) q s refl

  pub breaks_off : (b == 34) ≡ false → (b == 92) ≡ true → after ≡ [] → whole ≡ None
  unfolding unquoted
  breaks_off q s e = escaping q s ∙ ap (λ bs. behind front (unquoted true bs)) e

  module _ (e : ℕ) (rest : List ℕ) (q : (b == 34) ≡ false) (s : (b == 92) ≡ true) (is : after ≡ e ∷ rest) where
    at_letter : whole ≡ behind front (behind_escape (unescape e) (unquoted false rest))
    unfolding unquoted
    at_letter = escaping q s ∙ ap (λ bs. behind front (unquoted true bs)) is

    pub is_wrong : unescape e ≡ None → whole ≡ None
    is_wrong n = at_letter ∙ ap (λ o. behind front (behind_escape o (unquoted false rest))) n

    pub escapes : (c : ℕ) → unescape e ≡ Some c → whole ≡ behind (front ++ c ∷ []) (unquoted false rest)
    escapes c n = at_letter ∙ ap (λ o. behind front (behind_escape o (unquoted false rest))) n ∙ behind_more front (c ∷ []) (unquoted false rest)

pub runs_out : (whole : Front (List ℕ)) (front rest : List ℕ) → length rest ≡ 0 → whole ≡ behind front (unquoted false rest) → whole ≡ None
unfolding unquoted
runs_out whole front [] e so_far = so_far
runs_out whole front (b ∷ bs) e so_far = absurd (omega arith)

pub no_more : (bs : List ℕ) → length bs ≡ 0 → bs ≡ []
no_more [] e = refl
no_more (b ∷ bs) e = absurd (omega arith)

pub is_byte : (a b : ℕ) → a ≡ b → (a == b) ≡ true
is_byte a b e = grind (arith, nat_tests)

pub is_other : (a b : ℕ) → (a ≡ b → ⊥) → (a == b) ≡ false
is_other a b e = grind (arith, nat_tests)
