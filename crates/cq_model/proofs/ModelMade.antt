-- What closing the nodes asks for, and what the parts that are read make.
use Rattle.std.proofs.Common.{ℕ, false, List, ◌++◌, None, ◌≡◌, ◌<◌, map, length, refl, sym, subst, ◌∙◌, arith}
use Rattle.std.proofs.lemmas.Option.{slice_get_within}
use Rattle.cq_tables.specs.Content.{Content}
use Rattle.cq_flat.specs.declared.node.Node.{Node}
use Rattle.cq_flat.specs.declared.node.Node.TheVariants as node
use Rattle.cq_flat.specs.Nodes.{HasEarlierArguments, AreSides}
use Rattle.cq_flat.specs.Values.{Closure}
use Rattle.cq_model.specs.declared.building.ModelParts.{ModelParts}
use Rattle.cq_model.specs.declared.places.Places.{Places}
use Rattle.cq_model.specs.Built.{IsClosureOf, IsBuilt, tables_of, assignment_of}
use Rattle.cq_model.specs.BuiltParts.{instance_of}
use Rattle.cq_names.specs.Closed.{AreClosed}
use Rattle.cq_instance.specs.InstanceData.{InstanceData, IsInstance}
use Rattle.cq_instance.specs.Listed.{IsListed}
use Rattle.cq_model.specs.NodeTerms.{leaf_terms}
use Rattle.cq_instance.specs.Standing.{meaning}
use Rattle.cq_model.proofs.BuiltListed as built_says
use Rattle.cq_model.proofs.BuiltNodes.{at_place, function_node}
use Rattle.cq_instance.proofs.Lists.{All_from}
use Rattle.cq_theory.specs.Constant.{IsLesser}
use Rattle.cq_theory.proofs.Constants.{lesser-irreflexive}
use Rattle.cq_theory.specs.declared.constant.Con.{Con}
use Rattle.cq_theory.specs.declared.presentation.Presentation.{Presentation}
use Rattle.cq_theory.specs.SchemaData.{SchemaData as Schema}
use Rattle.cq_theory.specs.Schema.{IsSchema}
use Rattle.cq_theory.specs.Presentation.{IsPresentation}
use Rattle.cq_theory.specs.Closing.{IsInconsistent}
use Rattle.cq_theory.specs.declared.term.EntTerm.{EntTerm}
use Rattle.cq_theory.specs.declared.term.Term.TheVariants.{Typ}
use Rattle.cq_theory.specs.declared.term.TypeTerm.{TypeTerm}
use Rattle.cq_theory.specs.declared.term.TypeTerm.TheVariants as term
use Rattle.cq_theory.specs.declared.value.Value.{Value}
use Rattle.cq_theory.specs.declared.value.Value.TheVariants as value
use Rattle.cq_theory.specs.Tables.{Tables, Assignment, AtValue, meaning_of, value_of, value_step}
use Rattle.cq_theory.proofs.Sound.{meaning_of-derived}
use Rattle.cq_theory.proofs.TypeTerms.{fold-Const}

module _ (S : Schema) (P : Presentation) (m : Content) (rows : List ℕ)
    (order : List (List ℕ)) (names : List (List EntTerm)) (numbers : List ℕ) (places : Places) (nodes : List Node) (equations : List (ℕ × ℕ)) (types : List ℕ)
    (built : IsBuilt S P m rows order names numbers places nodes equations types) where
  -- the arguments of a node are earlier nodes
  pub earlier_arguments : HasEarlierArguments nodes
  earlier_arguments p f args h =
      let terms : List TypeTerm = leaf_terms S P names ++ built.made in
      let count : length nodes ≡ length terms = built.nodes_are.count in
      let t = at_place terms p (omega (arith, slice_get_within nodes p (node.Fun f args) h, count)) in
      (function_node m rows places terms p f args t.0 (built.nodes_are.each p t.0 (node.Fun f args) t.1 h)).3

  -- the sides of equations are nodes
  pub sides_within : AreSides nodes equations
  sides_within = All_from (λ (e : ℕ × ℕ). (e.0 < length nodes) × (e.1 < length nodes)) equations (λ i e h.
      let g = built.sides.given i e.0 e.1 h in
      (omega (arith, g.stand.left_within, built.nodes_are.count), omega (arith, g.stand.right_within, built.nodes_are.count)))

  module _ (schema : IsSchema S) (presentation : IsPresentation S P) (closed : AreClosed S P m rows) (flat : Closure) (closure : IsClosureOf nodes equations flat) (consistent : flat.clash ≡ None)
      (parts : ModelParts) (tables : record { sheet = parts.sheet; algebra = parts.algebra } ≡ tables_of S P m rows order numbers places types flat)
      (assignment : map meaning parts.standings ≡ assignment_of S P m rows order numbers places flat.values) where
    abbrev made : InstanceData
    made = record { schema = S; presentation = P; names = names; tables = tables_of S P m rows order numbers places types flat; assignment = assignment_of S P m rows order numbers places flat.values; given = false }

    parts_are : instance_of S P names parts ≡ made
    parts_are = λ i. record { schema = S; presentation = P; names = names; tables = tables i; assignment = assignment i; given = false }

    pub parts_instance : IsInstance (instance_of S P names parts)
    parts_instance = subst IsInstance (sym parts_are) (built_says.is_instance S P m rows schema presentation closed order names numbers places nodes equations types built flat closure consistent)

    pub parts_listed : IsListed (instance_of S P names parts)
    parts_listed =
        let lists = built_says.listed S P m rows schema presentation closed order names numbers places nodes equations types built flat closure consistent in
        subst IsListed (sym parts_are) (record { lists = lists.0; least = lists.1; made = refl })

-- equal constants mean one value
one_constant : (M : Tables) (A : Assignment) (c d : Con) → meaning_of M A (Typ (term.Const c)) ≡ meaning_of M A (Typ (term.Const d)) → c ≡ d
one_constant M A c d h =
    let values : value_of M A (term.Const c) ≡ value_of M A (term.Const d) = one_value (value_of M A (term.Const c)) (value_of M A (term.Const d)) h in
    let constants : value.Const c ≡ value.Const d = sym (fold-Const Value (value_step M A) c) ∙ values ∙ fold-Const Value (value_step M A) d in
    cc
  where
    one_value : (v w : Value) → AtValue v ≡ AtValue w → v ≡ w
    one_value v w same = cc

-- what has a listed model is consistent
pub listed_consistent : (i : InstanceData) → IsSchema i.schema → IsListed i → IsInconsistent i.schema i.presentation → ⊥
listed_consistent i schema listed h =
    let same : h.0 ≡ h.1 = one_constant i.tables i.assignment h.0 h.1 (meaning_of-derived i.schema i.presentation i.tables i.assignment schema listed.lists.initial.holds (Typ (term.Const h.0)) (Typ (term.Const h.1)) h.2.equal) in
    lesser-irreflexive h.1 (subst (λ z. IsLesser z h.1) same h.2.greater)
