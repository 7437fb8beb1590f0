-- The last of a list.
use Rattle.std.proofs.Common.{suc, List, [], ◌∷◌, Some, None, Bool, true, false, ◌≡◌, ◌↔◌, ◌-◌, length, refl, sym, ap, ◌∙◌, arith}
use Rattle.std.specs.Prelude.{slice_get, option_map}
use Rattle.cq_theory.specs.declared.presentation.Equation.{Equation}
use Rattle.cq_steps.specs.declared.step.Step.{Step}
use Rattle.cq_proof.specs.Answers.{last_of}

pub last_is : (steps : List Step) → last_of steps ≡ option_map (λ s. s.equation) (slice_get steps (length steps - 1))
last_is [] = refl
last_is (step ∷ []) = refl
last_is (step ∷ next ∷ rest) =
    let fewer : suc (length rest) - 1 ≡ length rest = omega arith in
    let more : suc (suc (length rest)) - 1 ≡ suc (length rest) = omega arith in
    last_is (next ∷ rest) ∙ ap (λ k. option_map (λ s. s.equation) (slice_get (next ∷ rest) k)) fewer
    ∙ ap (λ k. option_map (λ s. s.equation) (slice_get (step ∷ next ∷ rest) k)) (sym more)

pub ends_some : (steps : List Step) (step : Step) (e : Equation) (b : Bool) → Some step ≡ slice_get steps (length steps - 1) → (b ≡ true) ↔ (step.equation ≡ e)
    → (b ≡ true) ↔ (last_of steps ≡ Some e)
ends_some steps step e b found same =
    let last : last_of steps ≡ Some step.equation = last_is steps ∙ ap (option_map (λ s. s.equation)) (sym found) in
    ((λ yes. last ∙ ap Some (same.0 yes)), (λ is. let equal : Some step.equation ≡ Some e = sym last ∙ is in same.1 (let inner : step.equation ≡ e = cc in inner)))

pub ends_none : (steps : List Step) (e : Equation) → None ≡ slice_get steps (length steps - 1) → (false ≡ true) ↔ (last_of steps ≡ Some e)
ends_none steps e found =
    let last : last_of steps ≡ None = last_is steps ∙ ap (option_map (λ s. s.equation)) (sym found) in
    ((λ yes. cc), (λ is. let none : None ≡ Some e = sym last ∙ is in cc))
