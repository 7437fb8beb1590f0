-- Equations that are asked over rows, and what is answered.
use Rattle.std.specs.Prelude.{ℕ, Bool, true, List, Some, ◌≡◌, length, slice_get, MatchBool}
use Rattle.cq_tables.specs.Content.{Content}
use Rattle.cq_flat.specs.declared.node.Node.{Node}
use Rattle.cq_check.specs.NodeListData.{NodeListData}
use Rattle.cq_check.specs.Adding.{Grows, AreSidesOf}
use Rattle.cq_check.specs.Answers.{IsWellSorted, IsDerived}
use Rattle.cq_check.specs.Frame.{IsFrame, IsApart}
use Rattle.cq_check.specs.Sound.{AreSound}
use Rattle.cq_check.specs.declared.asking.Asked.{Asked}
use Rattle.cq_check.specs.declared.asking.Asked.TheVariants.{Answered, Nodes}
use Rattle.cq_check.specs.declared.asking.MadeRows.{MadeRows}
use Rattle.cq_theory.specs.declared.presentation.Equation.{Equation}
use Rattle.cq_theory.specs.declared.presentation.Equation.TheVariants.{Typ as TypEquation}
use Rattle.cq_theory.specs.declared.presentation.Presentation.{Presentation}
use Rattle.cq_theory.specs.SchemaData.{SchemaData as Schema}
use Rattle.cq_theory.specs.declared.term.TypeTerm.{TypeTerm}
use Rattle.cq_theory.specs.Presentation.{IsPresentation}
use Rattle.cq_theory.specs.Derivation.{left_of, right_of}

module _ (S : Schema) (P : Presentation) where
  -- the sides of each equation have one sort
  abbrev pub AreWellSorted : List Equation → Type 0
  AreWellSorted es = (n : ℕ) (e : Equation) → slice_get es n ≡ Some e → IsWellSorted S P e

  -- a flag for each equation, which is set only where it is derivable
  pub record AreKnown (es : List Equation) (known : List Bool) : Type 0 where
    pub count : length known ≡ length es
    pub derived : (n : ℕ) (e : Equation) → slice_get es n ≡ Some e → slice_get known n ≡ Some true → IsDerived S P e

  module _ (m : Content) (entries : List ℕ) where
    -- it is derivable, or else no derivation concludes it within a depth up to which all terms lead to rows
    abbrev pub IsJudged : Equation → Bool → Type 0
    IsJudged e same = MatchBool same (IsDerived S P e) (IsApart S P m entries (left_of e) (right_of e))

    pub record AreJudged (es : List Equation) (answers : List Bool) : Type 0 where
      pub count : length answers ≡ length es
      pub each : (n : ℕ) (e : Equation) (same : Bool) → slice_get es n ≡ Some e → slice_get answers n ≡ Some same → IsJudged e same

    -- the nodes at a and b stand for the sides of an equation between type terms
    pub record AreSidesAt (nodes : List Node) (e : Equation) (a b : ℕ) : Type 0 where
      pub left : TypeTerm
      pub right : TypeTerm
      pub is : e ≡ TypEquation left right
      pub sides : AreSidesOf m entries nodes left right a b

    abbrev pub IsAsked : List Node → Equation → Asked → Type 0
    IsAsked nodes e (Answered same) = IsJudged e same
    IsAsked nodes e (Nodes a b) = AreSidesAt nodes e a b

    -- nodes are added so that the equation is asked
    pub record Asks (old new : NodeListData) (e : Equation) (asked : Asked) : Type 0 where
      pub grows : Grows old new
      pub sound : AreSound S P m entries new
      pub is : IsAsked new.nodes e asked

    -- each of the equations
    pub record AreAsked (old new : NodeListData) (es : List Equation) (asked : List Asked) : Type 0 where
      pub grows : Grows old new
      pub sound : AreSound S P m entries new
      pub count : length asked ≡ length es
      pub each : (n : ℕ) (e : Equation) (one : Asked) → slice_get es n ≡ Some e → slice_get asked n ≡ Some one → IsAsked new.nodes e one

module _ (R : MadeRows) where
  abbrev pub AreMade : Type 0
  AreMade = IsPresentation R.schema.now R.presentation.now × IsFrame R.schema.now R.presentation.now R.tables.now R.entries.now

  abbrev pub IsSoundList : NodeListData → Type 0
  IsSoundList = AreSound R.schema.now R.presentation.now R.tables.now R.entries.now

  abbrev pub OneAsked : NodeListData → NodeListData → Equation → Asked → Type 0
  OneAsked = Asks R.schema.now R.presentation.now R.tables.now R.entries.now

  abbrev pub AllAsked : NodeListData → NodeListData → List Equation → List Asked → Type 0
  AllAsked = AreAsked R.schema.now R.presentation.now R.tables.now R.entries.now

  abbrev pub AllJudged : List Equation → List Bool → Type 0
  AllJudged = AreJudged R.schema.now R.presentation.now R.tables.now R.entries.now
