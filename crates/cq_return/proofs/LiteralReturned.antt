-- The literal of an instance is one declaration, whose parts give the canonical presentation of its tables.
use Rattle.std.proofs.Common.{ℕ, List, ◌++◌, None, ◌≡◌, map, length, ◌∙◌}
use Rattle.std.specs.List.{flat_map}
use Rattle.cq_base.specs.declared.name.Name.{Name}
use Rattle.cq_syntax.specs.declared.program.Decl.{Decl}
use Rattle.cq_theory.specs.declared.presentation.Equation.{Equation}
use Rattle.cq_theory.specs.declared.presentation.Sort.{Sort}
use Rattle.cq_theory.specs.declared.presentation.Sort.TheVariants.{Plain}
use Rattle.cq_theory.specs.Canonical.{below, canonical, row_sorts}
use Rattle.cq_theory.specs.Parts.{presentation_fault, presented}
use Rattle.cq_theory.specs.Presentation.{IsPresentation}
use Rattle.cq_instance.specs.InstanceData.{InstanceData, IsInstance}
use Rattle.cq_instance.proofs.CanonicalHolds as model
use Rattle.cq_text.specs.Literal.{literal_of}
use Rattle.cq_return.specs.Literals.{Declares, IsDeclaration, equation_part, group_parts}
use Rattle.cq_return.specs.Writable.{IsWritable}
use Rattle.cq_return.specs.WrittenTerms.{IsPlainName}
use Rattle.cq_return.proofs.LiteralParts as parts
use Rattle.cq_return.proofs.Sides.{equation_fine}
use Rattle.cq_return.proofs.Whole.{is_declaration}

module _ (i : InstanceData) (is : IsInstance i) (writable : IsWritable i) where
  abbrev sorts : List Sort
  sorts = flat_map (row_sorts i.schema i.tables) (below (length i.schema.entities)) ++ map Plain i.tables.algebra.nulls

  abbrev equations : List Equation
  equations = (canonical i.schema i.tables).equations

  is_presentation : IsPresentation i.schema (canonical i.schema i.tables)
  is_presentation =
      model.presented i.schema i.tables writable.schema is.well_formed (λ k d within j e inside. (writable.cells k d within j e inside).symbols) is.entries_fit writable.few

  pub declares : (name schema : Name) → IsPlainName name → IsPlainName schema → (before : List ℕ)
      → IsDeclaration i.schema (canonical i.schema i.tables) name schema before (literal_of name schema i)
  declares name schema plain plain_schema before =
      is_declaration i.schema writable.names sorts equations is_presentation (λ n e at. (equation_fine i is writable n e at).0) (λ n e at. (equation_fine i is writable n e at).1)
      name schema plain plain_schema before

  pub gives : (name schema : Name) (d : Decl) → (declares : Declares i.schema (canonical i.schema i.tables) name schema d)
      → (presentation_fault i.schema (flat_map group_parts declares.literal.generators) (map equation_part declares.literal.equations) ≡ None)
      × (presented i.schema (flat_map group_parts declares.literal.generators) (map equation_part declares.literal.equations) ≡ canonical i.schema i.tables)
  gives name schema d declares = (
    (λ j. presentation_fault i.schema (declares.generators j) (declares.equations j)) ∙ parts.no_fault i.schema writable.schema sorts equations is_presentation,
    (λ j. presented i.schema (declares.generators j) (declares.equations j)) ∙ parts.gives i.schema writable.schema sorts equations is_presentation,
  )
