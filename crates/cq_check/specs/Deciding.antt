-- The first of some equations over one presentation that isn't known to be derivable.
use Rattle.std.specs.Prelude.{ℕ, Bool, List, Some, ◌≡◌, ◌<◌, length, slice_get, MatchBool}
use Rattle.cq_check.specs.Answers.{IsDerived, IsTooDeep, IsTooWide}
use Rattle.cq_check.specs.declared.deciding.Cause.{Cause}
use Rattle.cq_check.specs.declared.deciding.Cause.TheVariants.{NotDerivable, Depth, TooManyRows}
use Rattle.cq_check.specs.declared.deciding.Unmet.{Unmet}
use Rattle.cq_theory.specs.declared.presentation.Equation.{Equation}
use Rattle.cq_theory.specs.declared.presentation.Presentation.{Presentation}
use Rattle.cq_theory.specs.SchemaData.{SchemaData as Schema}

module _ (S : Schema) (P : Presentation) where
  -- the answer at one depth: derivable, or else not derivable at all where it is closed, and too deep where it isn't
  abbrev pub IsDecided : ℕ → Bool → Equation → Bool → Type 0
  IsDecided depth closed e same = MatchBool same (IsDerived S P e) (MatchBool closed (IsDerived S P e → ⊥) (IsTooDeep S P e depth))

  pub record AreDecided (depth : ℕ) (es : List Equation) (answers : List Bool) (closed : Bool) : Type 0 where
    pub count : length answers ≡ length es
    pub each : (n : ℕ) (e : Equation) (same : Bool) → slice_get es n ≡ Some e → slice_get answers n ≡ Some same
        → IsDecided depth closed e same

  -- the first equations are derivable
  abbrev pub AreDerivedBelow : List Equation → ℕ → Type 0
  AreDerivedBelow es count = (n : ℕ) (e : Equation) → n < count → slice_get es n ≡ Some e → IsDerived S P e

  abbrev pub AreAllDerived : List Equation → Type 0
  AreAllDerived es = (n : ℕ) (e : Equation) → slice_get es n ≡ Some e → IsDerived S P e

  -- why an equation isn't known to be derivable
  abbrev pub IsCause : ℕ → Equation → Cause → Type 0
  IsCause depth e NotDerivable = IsDerived S P e → ⊥
  IsCause depth e Depth = IsTooDeep S P e depth
  IsCause depth e TooManyRows = IsTooWide S P e depth

  -- the equation at this place isn't known to be derivable, and those before it are derivable
  pub record IsFirst (depth : ℕ) (es : List Equation) (unmet : Unmet) : Type 0 where
    pub equation : Equation
    pub is : slice_get es unmet.place ≡ Some equation
    pub earlier : AreDerivedBelow es unmet.place
    pub cause : IsCause depth equation unmet.cause
