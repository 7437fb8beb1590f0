-- Nodes and equations that are those of derivable equations.
use Rattle.std.specs.Prelude.{ℕ, List, Some, ◌≡◌, ◌<◌, ◌≤◌, ◌+◌, length, slice_get}
use Rattle.cq_tables.specs.Content.{Content, made_of}
use Rattle.cq_flat.specs.declared.node.Node.{Node}
use Rattle.cq_flat.specs.declared.node.Node.TheVariants as node
use Rattle.cq_flat.specs.Nodes.{HasEarlierArguments}
use Rattle.cq_check.specs.NodeListData.{NodeListData}
use Rattle.cq_check.specs.Standing.{Stands}
use Rattle.cq_check.specs.Frame.{IsFrame}
use Rattle.cq_theory.specs.declared.presentation.Presentation.{Presentation}
use Rattle.cq_theory.specs.SchemaData.{SchemaData as Schema}
use Rattle.cq_theory.specs.declared.term.TypeTerm.{TypeTerm}
use Rattle.cq_theory.specs.declared.term.Term.TheVariants.{Typ}
use Rattle.cq_theory.specs.Sorts.{Generators, type_of}
use Rattle.cq_theory.specs.Derivation.{Derives}

-- a term over the generators that has a type, for which the node at p stands
pub record HasTerm (S : Schema) (G : Generators) (m : Content) (rows : List ℕ) (nodes : List Node) (p : ℕ) : Type 0 where
  pub term : TypeTerm
  pub type : ℕ
  pub sort : type_of S G term ≡ Some type
  pub stands : Stands m rows nodes term p

module _ (S : Schema) (P : Presentation) (m : Content) (entries : List ℕ) where
  -- two derivably equal terms, for which the nodes at a and b stand
  pub record AreEqualNodes (nodes : List Node) (a b : ℕ) : Type 0 where
    pub left : HasTerm S P.generators m entries nodes a
    pub right : HasTerm S P.generators m entries nodes b
    pub equal : Derives S P (Typ left.term) (Typ right.term)
    pub left_within : a < length nodes
    pub right_within : b < length nodes

  -- The nodes of rows and generators are leaves, the others stand for terms, and equations are between derivably equal terms.
  pub record AreSound (list : NodeListData) : Type 0 where
    pub leaves : (p : ℕ) → p < made_of m + length P.generators → slice_get list.nodes p ≡ Some node.Leaf
    pub count : made_of m + length P.generators ≤ length list.nodes
    pub earlier : HasEarlierArguments list.nodes
    pub named : (p : ℕ) → made_of m + length P.generators ≤ p → p < length list.nodes → HasTerm S P.generators m entries list.nodes p
    pub equal : (i a b : ℕ) → slice_get list.equations i ≡ Some (a, b) → AreEqualNodes list.nodes a b

-- whatever the presentation of which the rows were made
abbrev pub KeepsSound : Schema → Content → NodeListData → NodeListData → Type 0
KeepsSound S m old new = (P : Presentation) (entries : List ℕ) → IsFrame S P m entries → AreSound S P m entries old
    → AreSound S P m entries new
