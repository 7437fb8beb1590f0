-- The place at which an answer stands.
use Rattle.std.proofs.Common.{ℕ, zero, suc, Bool, true, false, List, [], ◌∷◌, Option, Some, None, ◌≡◌, ◌||◌, ◌<◌, length, get_or, refl, sym, ap, ◌∙◌, arith}
use Rattle.std.specs.Prelude.{slice_get, position, nat_eq, is_some}
use Rattle.std.specs.Option.{unwrap_or}
use Rattle.std.specs.List.{list_any}
use Rattle.std.specs.Cmp.Lexicographic.{pointwise, nat_list_eq_equiv, pointwise_decides}
use Rattle.std.proofs.lemmas.Bool.Decides.{Decides-eqb}
use Rattle.std.proofs.lemmas.List.Quantifiers.{position-Some}
use Rattle.std.proofs.lemmas.Option.{slice_get-get_or}
use Rattle.cq_base.proofs.Numbers.{position-any}
use Rattle.cq_adjoint.specs.Copies.{place_of}

pub same_rows : (rows others : List ℕ) → pointwise nat_eq rows others ≡ true → rows ≡ others
same_rows rows others h = (pointwise_decides Decides-eqb rows others).0 h

any_at : {X : Type 0} (p : X → Bool) (xs : List X) (n : ℕ) (x : X) → slice_get xs n ≡ Some x → p x ≡ true → list_any p xs ≡ true
any_at p [] n x at h = cc
any_at p (y ∷ xs) zero x at h = let same : y ≡ x = cc in ap (λ b. b || list_any p xs) (ap p same ∙ h)
any_at p (y ∷ xs) (suc n) x at h = ap (λ b. p y || b) (any_at p xs n x at h) ∙ or_true (p y)
  where
    or_true : (b : Bool) → (b || true) ≡ true
    or_true true = refl
    or_true false = refl

-- a list that stands among others stands at its place
pub place_found : (lists : List (List ℕ)) (p : ℕ) (rows : List ℕ) → slice_get lists p ≡ Some rows → slice_get lists (place_of lists rows) ≡ Some rows
place_found lists p rows at = found (position (pointwise nat_eq rows) lists) refl
  where
    found : (o : Option ℕ) → position (pointwise nat_eq rows) lists ≡ o → slice_get lists (unwrap_or o 0) ≡ Some rows
    found None is =
        let some = position-any (pointwise nat_eq rows) lists ∙ any_at (pointwise nat_eq rows) lists p rows at (nat_list_eq_equiv.refl rows) in
        let both : is_some {T = ℕ} None ≡ true = ap is_some (sym is) ∙ some in cc
    found (Some i) is =
        let here = position-Some (pointwise nat_eq rows) lists i [] is in
        slice_get-get_or lists i [] here.0 ∙ ap (λ l. Some l) (sym (same_rows rows (get_or lists i []) here.1))
