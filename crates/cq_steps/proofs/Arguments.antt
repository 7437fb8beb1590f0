-- Lists of arguments, one member at a time.
use Rattle.std.proofs.Common.{ℕ, suc, Bool, true, false, List, [], ◌∷◌, Option, Some, ◌≡◌, ◌<◌, ◌+◌, ◌&&◌, length, get_or, map, drop, refl, sym, ap, ◌∙◌, add-one, drop-cons}
use Rattle.std.proofs.lemmas.List.{length-map}
use Rattle.cq_theory.specs.declared.presentation.Equation.{Equation}
use Rattle.cq_theory.specs.declared.presentation.Equation.TheVariants.{Typ}
use Rattle.cq_theory.specs.declared.term.TypeTerm.{TypeTerm}
use Rattle.cq_theory.specs.Sorts.{is_type, have_types}
use Rattle.cq_steps.specs.declared.step.Step.{Step}
use Rattle.cq_steps.specs.Right.{equation_at, equations_at, AreBetween}

and_false : (b : Bool) → (b && false) ≡ false
and_false true = refl
and_false false = refl

pub have_types-unequal : {X : Type 0} (f : X → Option ℕ) (xs : List X) (types : List ℕ) → (length xs ≡ length types → ⊥) → have_types (map f xs) types ≡ false
have_types-unequal f [] [] h = absurd (h refl)
have_types-unequal f [] (t ∷ ts) h = refl
have_types-unequal f (x ∷ xs) [] h = refl
have_types-unequal f (x ∷ xs) (t ∷ ts) h = ap (λ b. is_type (f x) t && b) (have_types-unequal f xs ts (λ e. h (ap suc e))) ∙ and_false (is_type (f x) t)

pub have_types-drop : {X : Type 0} (f : X → Option ℕ) (xs : List X) (types : List ℕ) (i : ℕ) (d : X) → i < length xs → i < length types
    → have_types (map f (drop i xs)) (drop i types) ≡ (is_type (f (get_or xs i d)) (get_or types i 0) && have_types (map f (drop (i + 1) xs)) (drop (i + 1) types))
have_types-drop f xs types i d within within' = rw (add-one, drop-cons xs i d, drop-cons types i 0) refl

pub AreBetween-lengths : (premises : List (Option Equation)) (ts us : List TypeTerm) → AreBetween premises ts us → (length premises ≡ length ts) × (length premises ≡ length us)
AreBetween-lengths [] [] [] h = (refl, refl)
AreBetween-lengths (p ∷ premises) (t ∷ ts) (u ∷ us) h = let rest = AreBetween-lengths premises ts us h.1 in (ap suc rest.0, ap suc rest.1)
AreBetween-lengths [] [] (u ∷ us) h = absurd h
AreBetween-lengths [] (t ∷ ts) us h = absurd h
AreBetween-lengths (p ∷ premises) [] us h = absurd h
AreBetween-lengths (p ∷ premises) (t ∷ ts) [] h = absurd h

pub AreBetween-drop : (steps : List Step) (from : List ℕ) (ts us : List TypeTerm) (i : ℕ) (t u : TypeTerm) → i < length from → i < length ts → i < length us
    → AreBetween (equations_at steps (drop i from)) (drop i ts) (drop i us)
    ≡ ((equation_at steps (get_or from i 0) ≡ Some (Typ (get_or ts i t) (get_or us i u))) × AreBetween (equations_at steps (drop (i + 1) from)) (drop (i + 1) ts) (drop (i + 1) us))
AreBetween-drop steps from ts us i t u w w' w'' = rw (add-one, drop-cons from i 0, drop-cons ts i t, drop-cons us i u) refl

pub between-lefts : (steps : List Step) (from : List ℕ) (ts us : List TypeTerm) → AreBetween (equations_at steps from) ts us → length from ≡ length ts
between-lefts steps from ts us h = sym (length-map from (equation_at steps)) ∙ (AreBetween-lengths (equations_at steps from) ts us h).0

pub between-rights : (steps : List Step) (from : List ℕ) (ts us : List TypeTerm) → AreBetween (equations_at steps from) ts us → length from ≡ length us
between-rights steps from ts us h = sym (length-map from (equation_at steps)) ∙ (AreBetween-lengths (equations_at steps from) ts us h).1
