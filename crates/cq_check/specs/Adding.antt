-- Terms and equations that are added to a list of nodes.
use Rattle.std.specs.Prelude.{ℕ, true, false, List, [], ◌∷◌, Option, Some, ◌≡◌, ◌<◌, ◌≤◌, length, slice_get, MatchOption}
use Rattle.cq_tables.specs.Content.{Content, live_of}
use Rattle.cq_tables.specs.Content.{entity_of as row_entity}
use Rattle.cq_flat.specs.declared.node.Node.{Node}
use Rattle.cq_flat.specs.Nodes.{HasEarlierArguments}
use Rattle.cq_check.specs.NodeListData.{NodeListData}
use Rattle.cq_check.specs.Standing.{Stands, is_traced}
use Rattle.cq_check.specs.Sound.{HasTerm}
use Rattle.cq_theory.specs.declared.presentation.Equation.TheVariants.{Typ as TypEquation}
use Rattle.cq_theory.specs.declared.presentation.Presentation.{Presentation}
use Rattle.cq_theory.specs.declared.schema.ObsEq.{ObsEq}
use Rattle.cq_theory.specs.SchemaData.{SchemaData as Schema}
use Rattle.cq_theory.specs.declared.term.TypeTerm.{TypeTerm}
use Rattle.cq_theory.specs.Sorts.{Generators, type_of}

-- what stood in a list stands at its place
abbrev pub Extends : {X : Type 0} → List X → List X → Type 0
Extends {X} old new = (p : ℕ) (x : X) → slice_get old p ≡ Some x → slice_get new p ≡ Some x

pub record Grows (old new : NodeListData) : Type 0 where
  pub nodes : Extends old.nodes new.nodes
  pub count : length old.nodes ≤ length new.nodes
  pub equations : Extends old.equations new.equations

module _ (m : Content) (rows : List ℕ) where
  -- each node behind the first ones stands for a term over the generators
  abbrev pub AreNamedFrom : Schema → Generators → ℕ → List Node → Type 0
  AreNamedFrom S G first nodes = (p : ℕ) → first ≤ p → p < length nodes → HasTerm S G m rows nodes p

  abbrev pub IsPlaceOf : TypeTerm → List Node → ℕ → Type 0
  IsPlaceOf t nodes p = Stands m rows nodes t p × (p < length nodes) × (is_traced m rows t ≡ true)

  -- nodes of the term's parts are added, and where it can be traced one that stands for it
  pub record IsPushed (old new : List Node) (t : TypeTerm) (place : Option ℕ) : Type 0 where
    pub extends : Extends old new
    pub count : length old ≤ length new
    pub earlier : HasEarlierArguments old → HasEarlierArguments new
    pub named : (S : Schema) (G : Generators) (type : ℕ) → type_of S G t ≡ Some type → AreNamedFrom S G (length old) new
    pub place_is : MatchOption place (is_traced m rows t ≡ false) (IsPlaceOf t new)

  -- the list has the equation of t and u
  pub record HasEquation (list : NodeListData) (t u : TypeTerm) : Type 0 where
    pub place : ℕ
    pub left : ℕ
    pub right : ℕ
    pub is : slice_get list.equations place ≡ Some (left, right)
    pub left_stands : Stands m rows list.nodes t left
    pub right_stands : Stands m rows list.nodes u right

  -- where both sides can be traced
  abbrev pub HasIfTraced : NodeListData → TypeTerm → TypeTerm → Type 0
  HasIfTraced list t u = is_traced m rows t ≡ true → is_traced m rows u ≡ true → HasEquation list t u

  -- the sides of an equation
  pub record AreSidesOf (nodes : List Node) (t u : TypeTerm) (a b : ℕ) : Type 0 where
    pub left : Stands m rows nodes t a
    pub right : Stands m rows nodes u b
    pub left_within : a < length nodes
    pub right_within : b < length nodes

  -- an equation is added where both sides can be traced, and nothing else but nodes of their parts
  pub record IsEquated (old new : NodeListData) (t u : TypeTerm) : Type 0 where
    pub grows : Grows old new
    pub earlier : HasEarlierArguments old.nodes → HasEarlierArguments new.nodes
    pub named : (S : Schema) (G : Generators) (type : ℕ) → type_of S G t ≡ Some type → type_of S G u ≡ Some type
        → AreNamedFrom S G (length old.nodes) new.nodes
    pub sides : (i a b : ℕ) → length old.equations ≤ i → slice_get new.equations i ≡ Some (a, b) → AreSidesOf new.nodes t u a b
    pub has : HasIfTraced new t u

-- the equations between type terms of a presentation
abbrev pub HasGiven : Presentation → Content → List ℕ → NodeListData → ℕ → Type 0
HasGiven P m entries list count = (n : ℕ) (t u : TypeTerm) → n < count → slice_get P.equations n ≡ Some (TypEquation t u)
    → HasIfTraced m entries list t u

-- the observation equations of a row's entity at this row
abbrev pub HasAtRow : Schema → Content → NodeListData → ℕ → ℕ → Type 0
HasAtRow S m list row count = (n : ℕ) (e : ObsEq) → n < count → slice_get S.obs_eqs n ≡ Some e → e.entity ≡ row_entity m row
    → HasIfTraced m (row ∷ []) list e.left e.right

-- those at each of the first rows
abbrev pub HasAtRows : Schema → Content → NodeListData → ℕ → Type 0
HasAtRows S m list count = (row : ℕ) → row < count → live_of m row ≡ true → HasAtRow S m list row (length S.obs_eqs)
