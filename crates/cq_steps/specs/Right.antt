-- Right lists of steps: each step's equation follows by its rule of derivation from equations of earlier steps.
use Rattle.std.specs.Prelude.{ℕ, List, [], ◌∷◌, Option, Some, None, ◌≡◌, ◌<◌, map, take, length, slice_get, option_map}
use Rattle.cq_theory.specs.SchemaData.{SchemaData as Schema}
use Rattle.cq_theory.specs.declared.schema.PathEq.{PathEq}
use Rattle.cq_theory.specs.declared.schema.ObsEq.{ObsEq}
use Rattle.cq_theory.specs.declared.presentation.Equation.{Equation}
use Rattle.cq_theory.specs.declared.presentation.Equation.TheVariants.{Ent, Typ}
use Rattle.cq_theory.specs.declared.presentation.Presentation.{Presentation}
use Rattle.cq_theory.specs.declared.term.EntTerm.{EntTerm}
use Rattle.cq_theory.specs.declared.term.TypeTerm.{TypeTerm}
use Rattle.cq_theory.specs.declared.term.TypeTerm.TheVariants.{Att, Fun}
use Rattle.cq_theory.specs.EntTerm.{extended}
use Rattle.cq_theory.specs.TypeTerm.{substituted}
use Rattle.cq_theory.specs.Sorts.{entity_of, IsGround}
use Rattle.cq_theory.specs.Derivation.{left_of, right_of}
use Rattle.cq_steps.specs.declared.step.Rule.{Rule}
use Rattle.cq_steps.specs.declared.step.Rule.TheVariants.{Reflexivity, Symmetry, Transitivity, Key, Attribute, Function, Given, Path, Obs}
use Rattle.cq_steps.specs.declared.step.Step.{Step}

-- the equation of the step of a number, where there is one
abbrev pub equation_at : List Step → ℕ → Option Equation
equation_at steps n = option_map (λ step. step.equation) (slice_get steps n)

-- the equations of the steps of these numbers
abbrev pub equations_at : List Step → List ℕ → List (Option Equation)
equations_at steps from = map (equation_at steps) from

-- the premises equate each of ts with its fellow of us
abbrev pub AreBetween : List (Option Equation) → List TypeTerm → List TypeTerm → Type 0
AreBetween [] [] [] = Unit {0}
AreBetween (p ∷ premises) (t ∷ ts) (u ∷ us) = (p ≡ Some (Typ t u)) × AreBetween premises ts us
AreBetween _ _ _ = ⊥

-- e is the premise with its sides exchanged
abbrev pub IsTurned : Option Equation → Equation → Type 0
IsTurned (Some p) e = (left_of e ≡ right_of p) × (right_of e ≡ left_of p)
IsTurned None e = ⊥

-- the first premise ends where the second begins, and e leads from the first's left side to the second's right side
abbrev pub IsJoined : Option Equation → Option Equation → Equation → Type 0
IsJoined (Some p) (Some q) e = (right_of p ≡ left_of q) × (left_of e ≡ left_of p) × (right_of e ≡ right_of q)
IsJoined _ _ e = ⊥

module _ (S : Schema) (P : Presentation) where
  -- both sides of e are one ground term
  abbrev pub IsReflexive : Equation → Type 0
  IsReflexive e = (left_of e ≡ right_of e) × IsGround S P (left_of e)

  -- e follows from the premise by the foreign key k
  abbrev pub IsByKey : ℕ → Option Equation → Equation → Type 0
  IsByKey k p e = (a : EntTerm) × (b : EntTerm) × (p ≡ Some (Ent a b)) × (e ≡ Ent (extended a (k ∷ [])) (extended b (k ∷ [])))
      × IsGround S P (left_of e)

  -- e follows from the premise by the attribute n
  abbrev pub IsByAttribute : ℕ → Option Equation → Equation → Type 0
  IsByAttribute n p e = (a : EntTerm) × (b : EntTerm) × (p ≡ Some (Ent a b)) × (e ≡ Typ (Att n a) (Att n b))
      × IsGround S P (left_of e)

  -- e follows from the premises by the function f
  abbrev pub IsByFunction : ℕ → List (Option Equation) → Equation → Type 0
  IsByFunction f premises e = (ts : List TypeTerm) × (us : List TypeTerm) × AreBetween premises ts us × (e ≡ Typ (Fun f ts) (Fun f us))
      × IsGround S P (left_of e)

  -- e is path equation n, at a term of its entity
  abbrev pub IsPathAt : ℕ → EntTerm → Equation → Type 0
  IsPathAt n at e =
      (q : PathEq) × (slice_get S.path_eqs n ≡ Some q) × (entity_of S P.generators at ≡ Some q.entity)
      × (e ≡ Ent (extended at q.left) (extended at q.right))

  -- e is observation equation n, at a term of its entity
  abbrev pub IsObsAt : ℕ → EntTerm → Equation → Type 0
  IsObsAt n at e =
      (q : ObsEq) × (slice_get S.obs_eqs n ≡ Some q) × (entity_of S P.generators at ≡ Some q.entity)
      × (e ≡ Typ (substituted at q.left) (substituted at q.right))

  -- The equation follows by the rule from the premises in their order, each of which is there.
  abbrev pub Follows : Rule → List (Option Equation) → Equation → Type 0
  Follows Reflexivity [] e = IsReflexive e
  Follows Symmetry (p ∷ []) e = IsTurned p e
  Follows Transitivity (p ∷ q ∷ []) e = IsJoined p q e
  Follows (Key k) (p ∷ []) e = IsByKey k p e
  Follows (Attribute n) (p ∷ []) e = IsByAttribute n p e
  Follows (Function f) premises e = IsByFunction f premises e
  Follows (Given n) [] e = slice_get P.equations n ≡ Some e
  Follows (Path n at) [] e = IsPathAt n at e
  Follows (Obs n at) [] e = IsObsAt n at e
  Follows _ _ e = ⊥

  -- the step follows from the steps before it
  abbrev pub IsRight : List Step → Step → Type 0
  IsRight earlier step = Follows step.rule (equations_at earlier step.from) step.equation

  -- there is a step, and each follows from those before it
  abbrev pub Right : List Step → Type 0
  Right steps = (0 < length steps) × ((n : ℕ) (step : Step) → slice_get steps n ≡ Some step → IsRight (take n steps) step)
