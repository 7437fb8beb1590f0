-- The limits on a presentation that is glued together.
use Rattle.std.proofs.Common.{ℕ, zero, suc, Bool, true, false, List, [], ◌∷◌, Some, ◌≡◌, ◌<◌, ◌≤◌, ◌||◌, ◌⊎◌, inl, inr, Result, Ok, Err, IfOk, length, sym, ap, subst, ◌∙◌, arith}
use Rattle.std.specs.Prelude.{slice_get, nat_lt, All}
use Rattle.std.specs.List.{list_any}
use Rattle.std.proofs.lemmas.Bool.Decides.{nat_tests}
use Rattle.cq_base.specs.declared.name.Name.{Name}
use Rattle.cq_theory.specs.declared.presentation.Sort.{Sort}
use Rattle.cq_theory.specs.declared.presentation.Equation.{Equation}
use Rattle.cq_theory.specs.declared.presentation.Presentation.{Presentation}
use Rattle.cq_theory.specs.SchemaData.{SchemaData as Schema}
use Rattle.cq_theory.specs.declared.refusal.SizeRefusal.{SizeRefusal}
use Rattle.cq_theory.specs.declared.refusal.SizeRefusal.TheVariants as size
use Rattle.cq_theory.specs.Canonical.{named}
use Rattle.cq_theory.specs.Derivation.{left_of, right_of}
use Rattle.cq_theory.specs.Presentation.{IsSort, IsEquation, IsPresentation, is_long, has_long_side, is_oversized}
use Rattle.cq_theory.proofs.Faults.{neither, at_most}
use Rattle.cq_model.specs.Moving.{Presents}
use Rattle.cq_instance.proofs.Lists.{All_at, All_from}
use Rattle.cq_transform.specs.Gluing.{presented}
use Rattle.cq_push.specs.Sorted.{HasOneSort, AreSorted}
use Rattle.cq_terms.proofs.Naming.{named_length, sort_of_named}

few : (n : ℕ) → n ≤ 16000000 → nat_lt 16000000 n ≡ false
few n h = grind (arith, nat_tests)

many : (n : ℕ) → 16000000 < n → nat_lt 16000000 n ≡ true
many n h = grind (arith, nat_tests)

-- which presentations are within the limits
pub within_limits : (sorts : List Sort) (equations : List Equation) → length sorts ≤ 16000000 → list_any has_long_side equations ≡ false → is_oversized (presented sorts equations) ≡ false
within_limits sorts equations h short =
    let count : length (named sorts) ≤ 16000000 = omega (arith, named_length sorts, h) in
    λ i. few (length (named sorts)) count i || short i

pub too_many : (sorts : List Sort) (equations : List Equation) → 16000000 < length sorts → is_oversized (presented sorts equations) ≡ true
too_many sorts equations h =
    let count : 16000000 < length (named sorts) = omega (arith, named_length sorts, h) in
    ap (λ (b : Bool). b || list_any has_long_side equations) (many (length (named sorts)) count)

none_at : {X : Type 0} (p : X → Bool) (xs : List X) (n : ℕ) (x : X) → list_any p xs ≡ false → slice_get xs n ≡ Some x → p x ≡ false
none_at p [] n x h at = cc
none_at p (y ∷ ys) zero x h at = let same : y ≡ x = cc in ap p (sym same) ∙ (neither (p y) (list_any p ys) h).0
none_at p (y ∷ ys) (suc n) x h at = none_at p ys n x (neither (p y) (list_any p ys) h).1 at

-- such a presentation is one over the schema
pub is_presentation : (S : Schema) (sorts : List Sort) (equations : List Equation) → All (IsSort S) sorts → AreSorted S (named sorts) equations → is_oversized (presented sorts equations) ≡ false
    → IsPresentation S (presented sorts equations)
is_presentation S sorts equations known sorted within = record {
  generators = All_from (λ (g : Name × Sort). IsSort S g.1) (named sorts) (λ n g at. All_at (IsSort S) sorts n g.1 known (sort_of_named sorts n g at));
  count = at_most 16000000 (length (named sorts)) both.0;
  equations = one;
}
  where
    both : (nat_lt 16000000 (length (named sorts)) ≡ false) × (list_any has_long_side equations ≡ false)
    both = neither (nat_lt 16000000 (length (named sorts))) (list_any has_long_side equations) within

    one : (n : ℕ) (e : Equation) → slice_get equations n ≡ Some e → IsEquation S (presented sorts equations) e
    one n e at =
        let is : HasOneSort S (named sorts) e = sorted n e at in
        let sides = neither (is_long (left_of e)) (is_long (right_of e)) (none_at has_long_side equations n e both.1 at) in
        record { sort = is.sort; left = is.left; right = is.right; left_fits = at_most 1024 _ sides.0; right_fits = at_most 1024 _ sides.1 }

pub glued_presentation : (S : Schema) (sorts : List Sort) (equations : List Equation) (r : Result Presentation SizeRefusal) → Presents (presented sorts equations) r
    → All (IsSort S) sorts → AreSorted S (named sorts) equations → IfOk r (λ made. IsPresentation S made)
glued_presentation S sorts equations (Ok made) is known sorted = subst (IsPresentation S) (sym is.0) (is_presentation S sorts equations known sorted is.1)
glued_presentation S sorts equations (Err refusal) is known sorted = tt

-- what a refusal for too many generators says
pub still_many : {N M : Type 0} (r : SizeRefusal) → (N → M) → (r ≡ size.Memory) ⊎ ((r ≡ size.TooLarge) × N) → (r ≡ size.Memory) ⊎ ((r ≡ size.TooLarge) × M)
still_many r f (inl h) = inl h
still_many r f (inr h) = inr (h.0, f h.1)
