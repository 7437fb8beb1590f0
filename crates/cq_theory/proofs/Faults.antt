-- What the tests of rules say where no rule is broken.
use Rattle.std.proofs.Common.{ℕ, zero, suc, Bool, true, false, not, List, [], ◌∷◌, Option, Some, None, ◌≡◌, ◌+◌, ◌≤◌, ◌||◌, map, refl, sym, ap, ◌∙◌, arith}
use Rattle.std.specs.Prelude.{cond, slice_get, nat_lt, option_map}
use Rattle.std.proofs.lemmas.Bool.Decides.{nat_tests}
use Rattle.cq_theory.specs.declared.refusal.TermRefusal.{TermRefusal}
use Rattle.cq_theory.specs.Resolve.{in_part, first_fault}
use Rattle.cq_theory.proofs.DeclaredParts.{or_else_none}

pub of_three : {X : Type 0} (a b c : Bool) (x y z : X) → cond a (Some x) (cond b (Some y) (cond c (Some z) None)) ≡ None → (a ≡ false) × (b ≡ false) × (c ≡ false)
of_three true b c x y z h = cc
of_three false true c x y z h = cc
of_three false false true x y z h = cc
of_three false false false x y z h = (refl, refl, refl)

pub of_four : {X : Type 0} (a b c d : Bool) (x y z w : X) → cond a (Some x) (cond b (Some y) (cond c (Some z) (cond d (Some w) None))) ≡ None
    → (a ≡ false) × (b ≡ false) × (c ≡ false) × (d ≡ false)
of_four true b c d x y z w h = cc
of_four false true c d x y z w h = cc
of_four false false true d x y z w h = cc
of_four false false false true x y z w h = cc
of_four false false false false x y z w h = (refl, refl, refl, refl)

pub of_five : {X : Type 0} (a b c d e : Bool) (x y z w v : X) → cond a (Some x) (cond b (Some y) (cond c (Some z) (cond d (Some w) (cond e (Some v) None)))) ≡ None
    → (a ≡ false) × (b ≡ false) × (c ≡ false) × (d ≡ false) × (e ≡ false)
of_five true b c d e x y z w v h = cc
of_five false b c d e x y z w v h = let rest = of_four b c d e y z w v h in (refl, rest.0, rest.1, rest.2, rest.3)

pub not_false : (b : Bool) → not b ≡ false → b ≡ true
not_false true h = refl
not_false false h = cc

pub neither : (a b : Bool) → (a || b) ≡ false → (a ≡ false) × (b ≡ false)
neither true b h = cc
neither false b h = (refl, h)

pub at_most : (n m : ℕ) → nat_lt n m ≡ false → m ≤ n
at_most n m h = grind (arith, nat_tests)

no_fault : {X : Type 0} (n : ℕ) (fault : X → Option TermRefusal) (x : X) → option_map (in_part n) (fault x) ≡ None → fault x ≡ None
no_fault n fault x h = at_fault (fault x) h
  where
    at_fault : (o : Option TermRefusal) → option_map (in_part n) o ≡ None → o ≡ None
    at_fault None e = refl
    at_fault (Some r) e = cc

-- each of the parts without faults breaks no rule
pub first_fault-each : {X : Type 0} (fault : X → Option TermRefusal) (n : ℕ) (xs : List X) → first_fault fault n xs ≡ None
    → (k : ℕ) (x : X) → slice_get xs k ≡ Some x → fault x ≡ None
first_fault-each fault n [] h k x is = cc
first_fault-each fault n (y ∷ ys) h zero x is =
    let same : y ≡ x = cc in
    ap fault (sym same) ∙ no_fault n fault y (or_else_none (option_map (in_part n) (fault y)) (first_fault fault (n + 1) ys) h).0
first_fault-each fault n (y ∷ ys) h (suc k) x is = first_fault-each fault (n + 1) ys (or_else_none (option_map (in_part n) (fault y)) (first_fault fault (n + 1) ys) h).1 k x is

-- an item of a list that is made of another is made of an item
pub made_of : {X Y : Type 0} (f : X → Y) (xs : List X) (k : ℕ) (y : Y) → slice_get (map f xs) k ≡ Some y → (x : X) × (slice_get xs k ≡ Some x) × (y ≡ f x)
made_of f [] k y is = cc
made_of f (x ∷ xs) zero y is = (x, refl, (let same : f x ≡ y = cc in sym same))
made_of f (x ∷ xs) (suc k) y is = made_of f xs k y is
