-- Terms that become nodes.
use Rattle.std.specs.Prelude.{ℕ, true, List, [], ◌∷◌, ◌++◌, Some, ◌≡◌, ◌<◌, ◌≤◌, map, length, slice_get, slice_index, slice_set}
use Rattle.cq_tables.specs.Content.{Content, live_of, keys_of, made_of, IsWhole}
use Rattle.cq_tables.specs.Content.{entity_of as row_entity}
use Rattle.cq_rows.specs.Plain.{ends_of}
use Rattle.cq_rows.specs.Rows.{AllFilled, row_of_term}
use Rattle.cq_flat.specs.declared.node.Node.{Node}
use Rattle.cq_flat.specs.declared.node.Node.TheVariants as node
use Rattle.cq_model.specs.declared.places.Places.{Places}
use Rattle.cq_model.specs.NodeListData.{NodeListData}
use Rattle.cq_model.specs.NodeTerms.{made_terms, side_terms, cell_place, StandsFor, AreNodes, AreSidesOf, AreTypes, IsConstantTerm}
use Rattle.cq_model.specs.Thins.{Thins}
use Rattle.cq_theory.specs.declared.constant.Con.{Con}
use Rattle.cq_theory.specs.declared.presentation.Presentation.{Presentation}
use Rattle.cq_theory.specs.declared.schema.Edge.{Edge}
use Rattle.cq_theory.specs.SchemaData.{SchemaData as Schema}
use Rattle.cq_theory.specs.declared.term.EntTerm.{EntTerm}
use Rattle.cq_theory.specs.declared.term.TypeTerm.{TypeTerm}
use Rattle.cq_theory.specs.declared.term.TypeTerm.TheVariants as term
use Rattle.cq_theory.specs.Sorts.{Generators, entity_at, type_at, entity_of, type_of}

-- a term that is a constant takes the node of a leaf
abbrev pub TakesLeaf : NodeListData → NodeListData → ℕ → TypeTerm → Type 0
TakesLeaf old new place t = (c : Con) × (t ≡ term.Const c) × (slice_get old.nodes place ≡ Some node.Leaf)
    × (new ≡ record { nodes = slice_set old.nodes place (node.Const c); types = old.types; equations = old.equations })

module _ (S : Schema) (m : Content) (places : Places) where
  -- each path leads from each row, and each cell has a place below the count
  pub record HavePlaces (count : ℕ) : Type 0 where
    pub whole : IsWhole m
    pub keys : keys_of m ≡ map ends_of S.keys
    pub filled : AllFilled m
    pub firsts : length places.firsts ≡ made_of m
    pub ranks : length places.ranks ≡ length S.attributes
    pub cells : (r a : ℕ) (edge : Edge) → live_of m r ≡ true → slice_get S.attributes a ≡ Some edge → edge.from ≡ row_entity m r
        → cell_place places r a < count

  -- terms over these generators can be read, where `rows` has the row of each
  pub record AreReadable (G : Generators) (rows : List ℕ) (count : ℕ) : Type 0 where
    pub known : (g e : ℕ) → entity_at (slice_get G g) ≡ Some e → g < length rows
    pub live : (g e : ℕ) → entity_at (slice_get G g) ≡ Some e → live_of m (slice_index rows g) ≡ true
    pub entity : (g e : ℕ) → entity_at (slice_get G g) ≡ Some e → row_entity m (slice_index rows g) ≡ e
    pub placed : (g type : ℕ) → type_at (slice_get G g) ≡ Some type → g < length places.generators
    pub leaf : (g type : ℕ) → type_at (slice_get G g) ≡ Some type → slice_index places.generators g < count

  -- a term over these generators that has a type
  pub record IsReadable (rows : List ℕ) (count : ℕ) (t : TypeTerm) : Type 0 where
    pub generators : Generators
    pub readable : AreReadable generators rows count
    pub type : ℕ
    pub sort : type_of S generators t ≡ Some type

  -- each such term as a term over the presentation, where `entries` has the rows of its generators
  pub record IsPlacing (P : Presentation) (entries : List ℕ) (G : Generators) (rows : List ℕ) (placed : TypeTerm → TypeTerm)
      (named : EntTerm → EntTerm) : Type 0 where
    pub gen : (n : ℕ) → placed (term.Gen n) ≡ term.Gen n
    pub constant : (c : Con) → placed (term.Const c) ≡ term.Const c
    pub attribute : (a : ℕ) (t : EntTerm) → placed (term.Att a t) ≡ term.Att a (named t)
    pub function : (f : ℕ) (ts : List TypeTerm) → placed (term.Fun f ts) ≡ term.Fun f (map placed ts)
    pub row : (t : EntTerm) (e : ℕ) → entity_of S G t ≡ Some e → row_of_term m entries (named t) ≡ row_of_term m rows t
    pub sort : (t : TypeTerm) (type : ℕ) → type_of S G t ≡ Some type → type_of S P.generators (placed t) ≡ Some type

  module _ (P : Presentation) (entries : List ℕ) where
    -- the nodes and their types are those of the terms
    pub record AreTermsOf (terms : List TypeTerm) (list : NodeListData) : Type 0 where
      pub nodes : AreNodes m entries places terms list.nodes
      pub types : AreTypes m entries places terms S P list.types

    -- and the equations are those between the sides
    pub record AreEquationsOf (terms : List TypeTerm) (sides : List (TypeTerm × TypeTerm)) (list : NodeListData) : Type 0 where
      pub listed : AreTermsOf terms list
      pub equations : AreSidesOf m entries places terms sides list.nodes list.equations

    -- terms stand behind these that are made of a list, but for constants that have taken the nodes of leaves
    pub record HasMore (terms made : List TypeTerm) (sides : List (TypeTerm × TypeTerm)) (list : NodeListData) : Type 0 where
      pub more : List TypeTerm
      pub thinned : Thins IsConstantTerm made more
      pub are : AreEquationsOf (terms ++ more) sides list

  -- the term's nodes are added behind the others, and its own stands at the place
  pub record IsPushed (rows : List ℕ) (old new : NodeListData) (t : TypeTerm) (place : ℕ) : Type 0 where
    pub equations : new.equations ≡ old.equations
    pub grows : length old.nodes ≤ length new.nodes
    pub kept : (p : ℕ) (content : Node) → slice_get old.nodes p ≡ Some content → slice_get new.nodes p ≡ Some content
    pub within : place < length new.nodes
    pub listed : (P : Presentation) (entries : List ℕ) (G : Generators) (placed : TypeTerm → TypeTerm) (named : EntTerm → EntTerm)
        (terms : List TypeTerm) (type : ℕ)
        → IsPlacing P entries G rows placed named → type_of S G t ≡ Some type → AreTermsOf P entries terms old
        → AreTermsOf P entries (terms ++ made_terms (placed t)) new
        × StandsFor m entries places (terms ++ made_terms (placed t)) (placed t) place

  -- an equation is added with the nodes of its sides, or a constant on the right takes the node of the left side
  pub record IsEquated (rows : List ℕ) (old new : NodeListData) (t u : TypeTerm) : Type 0 where
    pub grows : length old.nodes ≤ length new.nodes
    pub listed : (P : Presentation) (entries : List ℕ) (G : Generators) (placed : TypeTerm → TypeTerm) (named : EntTerm → EntTerm)
        (terms : List TypeTerm) (sides : List (TypeTerm × TypeTerm)) (type : ℕ)
        → IsPlacing P entries G rows placed named → type_of S G t ≡ Some type → type_of S G u ≡ Some type
        → AreEquationsOf P entries terms sides old
        → HasMore P entries terms (side_terms (placed t, placed u)) (sides ++ (placed t, placed u) ∷ []) new
