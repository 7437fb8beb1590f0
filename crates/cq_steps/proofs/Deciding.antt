-- Tests that decide claims.
use Rattle.std.proofs.Common.{ℕ, Bool, true, false, List, [], ◌∷◌, Option, Some, None, ◌≡◌, ◌↔◌, ◌<◌, ◌≤◌, ◌+◌, ◌++◌, ◌==◌, not, inl, inr, length, take, refl, sym, ap, ◌∙◌, subst, arith}
use Rattle.std.specs.Prelude.{slice_get, is_some, option_map}
use Rattle.std.proofs.lemmas.Bool.{iff_false, cases_lt, eqb-true, eqb-false}
use Rattle.std.proofs.lemmas.Option.{slice_get_within}
use Rattle.std.proofs.lemmas.List.{append_cancel_left}
use Rattle.cq_theory.specs.SchemaData.{SchemaData as Schema}
use Rattle.cq_theory.specs.declared.presentation.Presentation.{Presentation}
use Rattle.cq_theory.specs.declared.presentation.Sort.{Sort}
use Rattle.cq_theory.specs.declared.presentation.Equation.{Equation}
use Rattle.cq_theory.specs.declared.presentation.Equation.TheVariants.{Typ}
use Rattle.cq_theory.specs.declared.schema.ObsEq.{ObsEq}
use Rattle.cq_theory.specs.declared.term.EntTerm.{EntTerm}
use Rattle.cq_theory.specs.declared.term.TypeTerm.{TypeTerm}
use Rattle.cq_theory.specs.TypeTerm.{substituted}
use Rattle.cq_theory.specs.Sorts.{entity_of}
use Rattle.cq_steps.specs.declared.step.Rule.TheVariants.{Obs}
use Rattle.cq_steps.specs.declared.step.Step.{Step}
use Rattle.cq_steps.specs.Right.{equations_at, IsObsAt, Follows, IsRight, Right}

-- a test that decides a claim
abbrev pub Decides : Bool → Type 0 → Type 0
Decides b A = (b ≡ true) ↔ A

pub decides_yes : (A : Type 0) → A → Decides true A
decides_yes A a = ((λ _. a), (λ _. refl))

pub decides_no : (A : Type 0) → (A → ⊥) → Decides false A
decides_no A none = ((λ e. let both : false ≡ true = e in cc), (λ a. absurd (none a)))

pub decides_alike : (b : Bool) (A B : Type 0) → A ↔ B → Decides b A → Decides b B
decides_alike b A B same h = ((λ e. same.0 (h.0 e)), (λ x. h.1 (same.1 x)))

same_some : {X : Type 0} (x y : X) → Some x ≡ Some y → x ≡ y
same_some x y h = cc

pub decides_is : (b d : Bool) (A : Type 0) → b ≡ d → Decides d A → Decides b A
decides_is b d A same h = subst (λ z. Decides z A) (sym same) h

-- a number other than 0 is greater
pub decides_some : (n : ℕ) (b : Bool) → b ≡ (n == 0) → Decides (not b) (0 < n)
decides_some n true e = decides_no (0 < n) (λ less. let none : n ≡ 0 = eqb-true n 0 (sym e) in omega (arith, none, less))
decides_some n false e =
    elim (cases_lt 0 n) [
      | inl less ↦ decides_yes (0 < n) less
      | inr none ↦ absurd (eqb-false n 0 (sym e) (omega (arith, none)))
    ]

no_items : (xs : List ℕ) → length xs ≡ 0 → xs ≡ []
no_items [] h = refl
no_items (x ∷ xs) h = absurd (omega (arith, h))

-- something is found exactly where it has a sort
pub decides_sort : {X : Type 0} (f : X → Sort) (o : Option X) → Decides (is_some o) ((sort : Sort) × (option_map f o ≡ Some sort))
decides_sort f None = decides_no _ (λ h. let none : None ≡ Some h.0 = h.1 in cc)
decides_sort f (Some x) = decides_yes _ (f x, refl)

-- a list that begins with the first one is joined of two where its rest is the second one
pub decides_joined : (keys first second rest : List ℕ) (b : Bool) → keys ≡ first ++ rest → Decides b (rest ≡ second) → Decides b (keys ≡ first ++ second)
decides_joined keys first second rest b split h =
    decides_alike b (rest ≡ second) (keys ≡ first ++ second)
    ((λ e. split ∙ ap (λ z. first ++ z) e), (λ e. append_cancel_left first rest second (sym split ∙ e))) h

module _ (S : Schema) (P : Presentation) (steps : List Step) where
  abbrev pub AreRightBelow : ℕ → Type 0
  AreRightBelow n = (m : ℕ) (step : Step) → m < n → slice_get steps m ≡ Some step → IsRight S P (take m steps) step

  -- a step that isn't right refuses the list
  pub refuted : (n : ℕ) (step : Step) (b : Bool) → slice_get steps n ≡ Some step → Decides b (IsRight S P (take n steps) step) → b ≡ false → Decides false (Right S P steps)
  refuted n step b is decides failed = decides_no (Right S P steps) (λ right. iff_false decides failed (right.1 n step is))

  -- one more step is right
  pub right_more : (n : ℕ) (last : Step) (b : Bool) → slice_get steps n ≡ Some last → Decides b (IsRight S P (take n steps) last) → b ≡ true → AreRightBelow n → AreRightBelow (n + 1)
  right_more n last b at decides passed below m step less is =
      elim (cases_lt m n) [
        | inl before ↦ below m step before is
        | inr after ↦
            let same : m ≡ n = omega (arith, less, after) in
            let found : slice_get steps n ≡ Some step = ap (slice_get steps) (sym same) ∙ is in
            let same_step : last ≡ step = same_some last step (sym at ∙ found) in
            subst (λ k. IsRight S P (take k steps) step) (sym same) (subst (IsRight S P (take n steps)) same_step (decides.0 passed))
      ]

  -- all steps are right
  pub all_right : (n : ℕ) (b : Bool) → length steps ≤ n → AreRightBelow n → Decides b (0 < length steps) → Decides b (Right S P steps)
  all_right n b all below some =
      decides_alike b (0 < length steps) (Right S P steps)
      ((λ h. (h, (λ m step is. let within : m < length steps = slice_get_within steps m step is in below m step (omega (arith, all, within)) is))), (λ right. right.0)) some

-- a step without premises, by an observation equation
pub by_observation : (S : Schema) (P : Presentation) (earlier : List Step) (step : Step) (n : ℕ) (at : EntTerm) (b none : Bool) (from : List ℕ)
    → step.rule ≡ Obs n at → from ≡ step.from → none ≡ (length from == 0) → none ≡ true → Decides b (IsObsAt S P n at step.equation) → Decides b (IsRight S P earlier step)
by_observation S P earlier step n at b none from is from_is none_is passed h =
    let empty : step.from ≡ [] = no_items step.from (eqb-true (length step.from) 0 (ap (λ xs. length xs == 0) (sym from_is) ∙ sym none_is ∙ passed)) in
    subst (λ r. Decides b (Follows S P r (equations_at earlier step.from) step.equation)) (sym is)
    (subst (λ xs. Decides b (Follows S P (Obs n at) (equations_at earlier xs) step.equation)) (sym empty) h)

-- an equation with the sides of an observation equation at a term
pub by_sides : (S : Schema) (P : Presentation) (n : ℕ) (q : ObsEq) (at : EntTerm) (e : Equation) (left right : TypeTerm) (b : Bool)
    → Some q ≡ slice_get S.obs_eqs n → entity_of S P.generators at ≡ Some q.entity → left ≡ substituted at q.left → right ≡ substituted at q.right
    → Decides b (e ≡ Typ left right) → Decides b (IsObsAt S P n at e)
by_sides S P n q at e left right b found of left_is right_is h = decides_alike b (e ≡ Typ left right) (IsObsAt S P n at e) (there, back) h
  where
    there : e ≡ Typ left right → IsObsAt S P n at e
    there is = (q, sym found, of, is ∙ (λ i. Typ (left_is i) (right_is i)))

    back : IsObsAt S P n at e → e ≡ Typ left right
    back k =
        let same : k.0 ≡ q = same_some k.0 q (sym k.1 ∙ sym found) in
        k.3 ∙ (λ i. Typ (substituted at (same i).left) (substituted at (same i).right)) ∙ (λ i. Typ (sym left_is i) (sym right_is i))
