-- Steps whose numbers and texts have the ranges of the code's types.
use Rattle.std.specs.Prelude.{ℕ, List, [], ◌∷◌, ◌<◌, ◌≤◌, All, IsUtf8, length}
use Rattle.cq_theory.specs.declared.constant.Con.TheVariants.{Named, Open}
use Rattle.cq_theory.specs.declared.presentation.Equation.{Equation}
use Rattle.cq_theory.specs.declared.presentation.Equation.TheVariants.{Ent, Typ}
use Rattle.cq_theory.specs.declared.term.EntTerm.{EntTerm}
use Rattle.cq_theory.specs.declared.term.TypeTerm.{TypeTerm}
use Rattle.cq_theory.specs.declared.term.TypeTerm.TheVariants.{Gen, Const, Att, Fun}
use Rattle.cq_steps.specs.declared.step.Rule.{Rule}
use Rattle.cq_steps.specs.declared.step.Rule.TheVariants.{Key, Attribute, Function, Given, Path, Obs}
use Rattle.cq_steps.specs.declared.step.Step.{Step}

-- a number of 32 bits, and one that no list in memory is as long as
abbrev pub IsWord : ℕ → Type 0
IsWord n = n < 4294967296

abbrev pub IsPlace : ℕ → Type 0
IsPlace n = n < 72057594037927936

pub record IsText (text : List ℕ) : Type 0 where
  pub bytes : All (λ b. b < 256) text
  pub utf8 : IsUtf8 text
  pub short : length text ≤ 255

abbrev pub IsEntityTerm : EntTerm → Type 0
IsEntityTerm t = IsWord t.generator × All IsWord t.path

mutual
  pub data IsTypeTerm : TypeTerm → Type 0 where
    generator : (n : ℕ) → IsWord n → IsTypeTerm (Gen n)
    constant : (n : ℕ) → IsWord n → IsTypeTerm (Const (Named n))
    text : (text : List ℕ) → IsText text → IsTypeTerm (Const (Open text))
    attribute : (n : ℕ) (t : EntTerm) → IsWord n → IsEntityTerm t → IsTypeTerm (Att n t)
    function : (n : ℕ) (ts : List TypeTerm) → IsWord n → AreTypeTerms ts → IsTypeTerm (Fun n ts)

  pub data AreTypeTerms : List TypeTerm → Type 0 where
    none : AreTypeTerms []
    more : (t : TypeTerm) (ts : List TypeTerm) → IsTypeTerm t → AreTypeTerms ts → AreTypeTerms (t ∷ ts)

abbrev pub IsEquationOfTerms : Equation → Type 0
IsEquationOfTerms (Ent t u) = IsEntityTerm t × IsEntityTerm u
IsEquationOfTerms (Typ t u) = IsTypeTerm t × IsTypeTerm u

abbrev pub IsRule : Rule → Type 0
IsRule (Key n) = IsWord n
IsRule (Attribute n) = IsWord n
IsRule (Function n) = IsWord n
IsRule (Given n) = IsPlace n
IsRule (Path n at) = IsWord n × IsEntityTerm at
IsRule (Obs n at) = IsWord n × IsEntityTerm at
IsRule _ = Unit {0}

pub record IsWritten (step : Step) : Type 0 where
  pub rule : IsRule step.rule
  pub from : All IsPlace step.from
  pub equation : IsEquationOfTerms step.equation

-- each step has the ranges
abbrev pub AreWritten : List Step → Type 0
AreWritten [] = Unit {0}
AreWritten (step ∷ steps) = IsWritten step × AreWritten steps
