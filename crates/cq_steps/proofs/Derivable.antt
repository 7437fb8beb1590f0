-- Each equation of a right list is derivable.
use Rattle.std.proofs.Common.{ℕ, zero, suc, List, [], ◌∷◌, Option, Some, None, ◌≡◌, ◌<◌, take, refl, sym, ap, subst, arith}
use Rattle.std.specs.Prelude.{slice_get}
use Rattle.cq_theory.specs.SchemaData.{SchemaData as Schema}
use Rattle.cq_theory.specs.declared.presentation.Equation.{Equation}
use Rattle.cq_theory.specs.declared.presentation.Equation.TheVariants.{Ent, Typ}
use Rattle.cq_theory.specs.declared.presentation.Presentation.{Presentation}
use Rattle.cq_theory.specs.declared.term.Term.{Term}
use Rattle.cq_theory.specs.declared.term.TypeTerm.{TypeTerm}
use Rattle.cq_theory.specs.Sorts.{IsGround}
use Rattle.cq_theory.specs.Derivation.{given, path_equation, observation, left_of, right_of, Derives, EachDerives}
use Rattle.cq_theory.proofs.Derivations.{Derives-reflexive, Derives-symmetric, Derives-transitive, Derives-key, Derives-attribute, Derives-function}
use Rattle.cq_steps.specs.declared.step.Rule.{Rule}
use Rattle.cq_steps.specs.declared.step.Rule.TheVariants.{Reflexivity, Symmetry, Transitivity, Key, Attribute, Function, Given, Path, Obs}
use Rattle.cq_steps.specs.declared.step.Step.{Step}
use Rattle.cq_steps.specs.Right.{equation_at, equations_at, AreBetween, Follows, IsRight}

-- what an earlier step's number leads to
earlier_step : (steps : List Step) (n m : ℕ) (e : Equation) → equation_at (take n steps) m ≡ Some e
    → (step : Step) × (m < n) × (slice_get steps m ≡ Some step) × (step.equation ≡ e)
earlier_step [] zero m e h = cc
earlier_step [] (suc n) m e h = cc
earlier_step (s ∷ steps) zero m e h = cc
earlier_step (s ∷ steps) (suc n) zero e h = (s, omega arith, refl, cc)
earlier_step (s ∷ steps) (suc n) (suc m) e h = let r = earlier_step steps n m e h in (r.0, omega arith, r.2, r.3)

module _ (S : Schema) (P : Presentation) where
  abbrev IsDerived : Equation → Type 0
  IsDerived e = Derives S P (left_of e) (right_of e)

  moved : (t u t' u' : Term) → t ≡ t' → u ≡ u' → Derives S P t' u' → Derives S P t u
  moved t u t' u' left right d = subst (λ z. Derives S P z u) (sym left) (subst (Derives S P t') (sym right) d)

  -- each premise that is there is derivable
  abbrev AreDerived : List (Option Equation) → Type 0
  AreDerived [] = Unit {0}
  AreDerived (None ∷ premises) = AreDerived premises
  AreDerived (Some p ∷ premises) = IsDerived p × AreDerived premises

  the_premise : (p : Option Equation) (q : Equation) → AreDerived (p ∷ []) → p ≡ Some q → IsDerived q
  the_premise None q known is = cc
  the_premise (Some p) q known is = let same : p ≡ q = cc in subst IsDerived same known.0

  each_premise : (premises : List (Option Equation)) (ts us : List TypeTerm) → AreDerived premises → AreBetween premises ts us → EachDerives S P ts us
  each_premise [] [] [] known h = tt
  each_premise (None ∷ premises) (t ∷ ts) (u ∷ us) known h = let none : None ≡ Some (Typ t u) = h.0 in cc
  each_premise (Some p ∷ premises) (t ∷ ts) (u ∷ us) known h = let same : p ≡ Typ t u = (let some : Some p ≡ Some (Typ t u) = h.0 in cc) in (subst IsDerived same known.0, each_premise premises ts us known.1 h.1)
  each_premise [] [] (u ∷ us) known h = absurd h
  each_premise [] (t ∷ ts) us known h = absurd h
  each_premise (p ∷ premises) [] us known h = absurd h
  each_premise (p ∷ premises) (t ∷ ts) [] known h = absurd h

  -- what follows from derivable premises is derivable
  followed : (rule : Rule) (premises : List (Option Equation)) (e : Equation) → AreDerived premises → Follows S P rule premises e → IsDerived e
  followed Reflexivity [] e known h = subst (Derives S P (left_of e)) h.0 (Derives-reflexive S P (left_of e) h.1)
  followed Symmetry (Some p ∷ []) e known h = moved (left_of e) (right_of e) (right_of p) (left_of p) h.0 h.1 (Derives-symmetric S P (left_of p) (right_of p) known.0)
  followed Transitivity (Some p ∷ Some q ∷ []) e known h =
      let rest : Derives S P (right_of p) (right_of q) = moved (right_of p) (right_of q) (left_of q) (right_of q) h.0 refl known.1.0 in
      moved (left_of e) (right_of e) (left_of p) (right_of q) h.1 h.2 (Derives-transitive S P (left_of p) (right_of p) (right_of q) known.0 rest)
  followed (Key k) (p ∷ []) e known h =
      moved (left_of e) (right_of e) _ _ (ap left_of h.3) (ap right_of h.3)
      (Derives-key S P k h.0 h.1 (the_premise p (Ent h.0 h.1) known h.2) (subst (IsGround S P) (ap left_of h.3) h.4))
  followed (Attribute n) (p ∷ []) e known h =
      moved (left_of e) (right_of e) _ _ (ap left_of h.3) (ap right_of h.3)
      (Derives-attribute S P n h.0 h.1 (the_premise p (Ent h.0 h.1) known h.2) (subst (IsGround S P) (ap left_of h.3) h.4))
  followed (Function f) premises e known h =
      moved (left_of e) (right_of e) _ _ (ap left_of h.3) (ap right_of h.3)
      (Derives-function S P f h.0 h.1 (each_premise premises h.0 h.1 known h.2) (subst (IsGround S P) (ap left_of h.3) h.4))
  followed (Given n) [] e known h = (given n, (e, h, refl, refl, tt, tt))
  followed (Path n at) [] e known h = (path_equation n at, (h.0, h.1, h.2, tt, ap left_of h.3, ap right_of h.3, tt, tt))
  followed (Obs n at) [] e known h = (observation n at, (h.0, h.1, h.2, tt, ap left_of h.3, ap right_of h.3, tt, tt))
  followed Reflexivity (p ∷ premises) e known h = absurd h
  followed Symmetry [] e known h = absurd h
  followed Symmetry (None ∷ []) e known h = absurd h
  followed Symmetry (p ∷ q ∷ premises) e known h = absurd h
  followed Transitivity [] e known h = absurd h
  followed Transitivity (p ∷ []) e known h = absurd h
  followed Transitivity (None ∷ q ∷ []) e known h = absurd h
  followed Transitivity (Some p ∷ None ∷ []) e known h = absurd h
  followed Transitivity (p ∷ q ∷ r ∷ premises) e known h = absurd h
  followed (Key k) [] e known h = absurd h
  followed (Key k) (p ∷ q ∷ premises) e known h = absurd h
  followed (Attribute n) [] e known h = absurd h
  followed (Attribute n) (p ∷ q ∷ premises) e known h = absurd h
  followed (Given n) (p ∷ premises) e known h = absurd h
  followed (Path n at) (p ∷ premises) e known h = absurd h
  followed (Obs n at) (p ∷ premises) e known h = absurd h

  with_premise : (o : Option Equation) (premises : List (Option Equation)) → ((p : Equation) → o ≡ Some p → IsDerived p) → AreDerived premises → AreDerived (o ∷ premises)
  with_premise None premises known rest = rest
  with_premise (Some p) premises known rest = (known p refl, rest)

  all_derived : (earlier : List Step) → ((m : ℕ) (p : Equation) → equation_at earlier m ≡ Some p → IsDerived p) → (from : List ℕ) → AreDerived (equations_at earlier from)
  all_derived earlier known [] = tt
  all_derived earlier known (m ∷ from) = with_premise (equation_at earlier m) (equations_at earlier from) (known m) (all_derived earlier known from)

  derived_below : (steps : List Step) → ((n : ℕ) (step : Step) → slice_get steps n ≡ Some step → IsRight S P (take n steps) step)
      → (n m : ℕ) (step : Step) → m < n → slice_get steps m ≡ Some step → IsDerived step.equation
  derived_below steps right zero m step below is = absurd (omega arith)
  derived_below steps right (suc n) m step below is =
      followed step.rule (equations_at (take m steps) step.from) step.equation (all_derived (take m steps) (λ j p at.
      let r = earlier_step steps m j p at in
      subst IsDerived r.3 (derived_below steps right n j r.0 (omega (arith, r.1, below)) r.2)) step.from) (right m step is)

pub right_derived : (S : Schema) (P : Presentation) (steps : List Step) → ((n : ℕ) (step : Step) → slice_get steps n ≡ Some step → IsRight S P (take n steps) step)
    → (n : ℕ) (step : Step) → slice_get steps n ≡ Some step → Derives S P (left_of step.equation) (right_of step.equation)
right_derived S P steps right n step is = derived_below S P steps right (suc n) n step (omega arith) is
