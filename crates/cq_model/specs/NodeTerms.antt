-- The terms whose equality is decided, and the nodes that stand for them.
use Rattle.std.specs.Prelude.{ℕ, List, [], ◌∷◌, ◌++◌, ◌+◌, ◌<◌, ◌==◌, ◌≡◌, ◌⊎◌, map, filter, length, Some, true, slice_get, slice_index}
use Rattle.std.specs.Prelude.{All}
use Rattle.std.specs.List.{flat_map, enumerate_from, filter_map}
use Rattle.cq_tables.specs.Content.{Content, live_of}
use Rattle.cq_tables.specs.Content.{entity_of as row_entity}
use Rattle.cq_rows.specs.Rows.{row_of_term}
use Rattle.cq_flat.specs.declared.node.Node.{Node}
use Rattle.cq_flat.specs.declared.node.Node.TheVariants as node
use Rattle.cq_model.specs.declared.places.Places.{Places}
use Rattle.cq_theory.specs.declared.constant.Con.{Con}
use Rattle.cq_theory.specs.declared.presentation.Equation.{Equation}
use Rattle.cq_theory.specs.declared.presentation.Equation.TheVariants.{Ent, Typ}
use Rattle.cq_theory.specs.declared.presentation.Presentation.{Presentation}
use Rattle.cq_theory.specs.declared.schema.Edge.{Edge}
use Rattle.cq_theory.specs.SchemaData.{SchemaData as Schema}
use Rattle.cq_theory.specs.declared.term.EntTerm.{EntTerm}
use Rattle.cq_theory.specs.declared.term.TypeTerm.{TypeTerm}
use Rattle.cq_theory.specs.declared.term.TypeTerm.TheVariants as term
use Rattle.cq_theory.specs.declared.term.TypeTerm.TheOpen.{TypeTerm-F, Gen, Const, Att, Fun}
use Rattle.cq_theory.specs.declared.term.TypeTerm.TheFolds.{para-TypeTerm}
use Rattle.cq_theory.specs.declared.term.TypeTerm.TheViews.{out-TypeTerm}
use Rattle.cq_theory.specs.TypeTerm.{substituted}
use Rattle.cq_theory.specs.Sorts.{type_at, type_of}
use Rattle.cq_theory.specs.Canonical.{below}
use Rattle.cq_theory.specs.Listed.{names_of, cell_nodes, generator_node}

-- Each constant and each application in a term, arguments first: the subterms but for cells and generators.
abbrev pub made_step : TypeTerm-F (TypeTerm × List TypeTerm) → List TypeTerm
made_step (Gen n) = []
made_step (Const c) = term.Const c ∷ []
made_step (Att a t) = []
made_step (Fun f args) = flat_map (λ arg. arg.1) args ++ term.Fun f (map (λ arg. arg.0) args) ∷ []

abbrev pub made_terms : TypeTerm → List TypeTerm
made_terms = para-TypeTerm (List TypeTerm) made_step

-- the same of both sides of an equation
abbrev pub side_terms : TypeTerm × TypeTerm → List TypeTerm
side_terms sides = made_terms sides.0 ++ made_terms sides.1

abbrev pub equation_sides : Equation → List (TypeTerm × TypeTerm)
equation_sides (Ent t u) = []
equation_sides (Typ t u) = (t, u) ∷ []

module _ (S : Schema) (P : Presentation) (names : List (List EntTerm)) where
  -- the observation equations of an entity at a row with this name
  abbrev pub row_sides : ℕ → EntTerm → List (TypeTerm × TypeTerm)
  row_sides entity t = map (λ e. (substituted t e.left, substituted t e.right)) (filter (λ e. e.entity == entity) S.obs_eqs)

  abbrev pub entity_sides : ℕ → List (TypeTerm × TypeTerm)
  entity_sides entity = flat_map (row_sides entity) (names_of S P names entity)

  -- the equations between type terms: those of the presentation, and those of the schema at each row
  abbrev pub given_sides : List (TypeTerm × TypeTerm)
  given_sides = flat_map equation_sides P.equations ++ flat_map entity_sides (below (length S.entities))

  -- the cells and the generators of types
  abbrev pub leaf_terms : List TypeTerm
  leaf_terms = flat_map (cell_nodes S P names) (below (length S.entities))
      ++ filter_map (generator_node S P names) (enumerate_from 0 P.generators)

-- a term that is a constant
abbrev pub IsConstantTerm : TypeTerm → Type 0
IsConstantTerm t = (c : Con) × (t ≡ term.Const c)

-- the node of a leaf, which a constant may have taken
abbrev pub IsLeafOrConstant : Node → Type 0
IsLeafOrConstant node.Leaf = Unit {0}
IsLeafOrConstant (node.Const c) = Unit {0}
IsLeafOrConstant (node.Fun f args) = ⊥

-- the place of a row's cell at an attribute
abbrev pub cell_place : Places → ℕ → ℕ → ℕ
cell_place places r a = slice_index places.firsts r + slice_index places.ranks a

-- `terms` has a term for each node
module _ (m : Content) (rows : List ℕ) (places : Places) (terms : List TypeTerm) where
  abbrev pub StandsAt : TypeTerm-F TypeTerm → ℕ → Type 0
  StandsAt (Gen n) p = p ≡ slice_index places.generators n
  StandsAt (Const c) p = slice_get terms p ≡ Some (term.Const c)
  StandsAt (Att a t) p = (r : ℕ) × (row_of_term m rows t ≡ Some r) × (p ≡ cell_place places r a)
  StandsAt (Fun f args) p = slice_get terms p ≡ Some (term.Fun f args)

  -- the node at p stands for the term: an attribute of an entity term is the cell of the row to which that term leads
  abbrev pub StandsFor : TypeTerm → ℕ → Type 0
  StandsFor t p = StandsAt (out-TypeTerm t) p

  abbrev pub EachStands : List TypeTerm → List ℕ → Type 0
  EachStands [] [] = Unit {0}
  EachStands (t ∷ ts) (p ∷ ps) = StandsFor t p × EachStands ts ps
  EachStands _ _ = ⊥

  abbrev pub IsNodeAt : ℕ → TypeTerm-F TypeTerm → Node → Type 0
  IsNodeAt p (Gen n) content = IsLeafOrConstant content
  IsNodeAt p (Const c) content = content ≡ node.Const c
  IsNodeAt p (Att a t) content = IsLeafOrConstant content
  IsNodeAt p (Fun f args) content = (ps : List ℕ) × (content ≡ node.Fun f ps) × EachStands args ps × All (λ arg. arg < p) ps

  -- each node is that of its term: its arguments are earlier nodes, which stand for the term's arguments
  pub record AreNodes (nodes : List Node) : Type 0 where
    pub count : length nodes ≡ length terms
    pub each : (p : ℕ) (t : TypeTerm) (content : Node) → slice_get terms p ≡ Some t → slice_get nodes p ≡ Some content
        → IsNodeAt p (out-TypeTerm t) content

  -- two nodes stand for the sides of a given equation
  pub record StandForSides (t u : TypeTerm) (a b : ℕ) : Type 0 where
    pub left : StandsFor t a
    pub right : StandsFor u b
    pub left_within : a < length terms
    pub right_within : b < length terms

  -- an equation joins two nodes that stand for the sides
  pub record IsJoined (equations : List (ℕ × ℕ)) (t u : TypeTerm) : Type 0 where
    pub number : ℕ
    pub nodes : ℕ × ℕ
    pub is : slice_get equations number ≡ Some nodes
    pub stand : StandForSides t u nodes.0 nodes.1

  -- the right side is the constant that is the node of the left one
  pub record IsTaken (nodes : List Node) (t u : TypeTerm) : Type 0 where
    pub constant : Con
    pub is : u ≡ term.Const constant
    pub place : ℕ
    pub stands : StandsFor t place
    pub node_is : slice_get nodes place ≡ Some (node.Const constant)

  -- two nodes are joined for a given equation
  pub record IsGiven (sides : List (TypeTerm × TypeTerm)) (a b : ℕ) : Type 0 where
    pub number : ℕ
    pub sides_are : TypeTerm × TypeTerm
    pub is : slice_get sides number ≡ Some sides_are
    pub stand : StandForSides sides_are.0 sides_are.1 a b

  -- a constant has taken a node for a given equation
  pub record IsTakenFor (sides : List (TypeTerm × TypeTerm)) (place : ℕ) (c : Con) : Type 0 where
    pub number : ℕ
    pub left : TypeTerm
    pub is : slice_get sides number ≡ Some (left, term.Const c)
    pub stands : StandsFor left place

  -- the given equations are those between nodes and the constants that have taken the nodes of leaves
  pub record AreSidesOf (sides : List (TypeTerm × TypeTerm)) (nodes : List Node) (equations : List (ℕ × ℕ)) : Type 0 where
    pub met : (i : ℕ) (t u : TypeTerm) → slice_get sides i ≡ Some (t, u) → IsJoined equations t u ⊎ IsTaken nodes t u
    pub given : (i a b : ℕ) → slice_get equations i ≡ Some (a, b) → IsGiven sides a b
    pub taken : (p : ℕ) (t : TypeTerm) (c : Con) → slice_get terms p ≡ Some t → slice_get nodes p ≡ Some (node.Const c)
        → (t ≡ term.Const c) ⊎ IsTakenFor sides p c

  -- each cell has a place, at which stands the attribute of a term that leads to the row; each generator of a type has one;
  -- and what stands there stands for itself
  pub record ArePlaces (S : Schema) (P : Presentation) : Type 0 where
    pub cell : (r a : ℕ) (edge : Edge) → live_of m r ≡ true → slice_get S.attributes a ≡ Some edge → edge.from ≡ row_entity m r
        → (t : EntTerm) × (slice_get terms (cell_place places r a) ≡ Some (term.Att a t)) × (row_of_term m rows t ≡ Some r)
    pub generator : (n type : ℕ) → type_at (slice_get P.generators n) ≡ Some type
        → slice_get terms (slice_index places.generators n) ≡ Some (term.Gen n)
    pub own : (p : ℕ) (t : TypeTerm) → slice_get terms p ≡ Some t → StandsFor t p

  -- the type of each node
  pub record AreTypes (S : Schema) (P : Presentation) (types : List ℕ) : Type 0 where
    pub count : length types ≡ length terms
    pub each : (p type : ℕ) (t : TypeTerm) → slice_get terms p ≡ Some t → slice_get types p ≡ Some type
        → type_of S P.generators t ≡ Some type
