-- Literals of instances: the canonical presentation, written as the language writes one.
use Rattle.std.specs.Prelude.{ℕ, List, ◌++◌, ◌+◌, slice_get, fold, codes, decimal}
use Rattle.std.specs.List.{flat_map}
use Rattle.cq_base.specs.declared.name.Name.{Name}
use Rattle.cq_theory.specs.declared.constant.Con.{Con}
use Rattle.cq_theory.specs.declared.constant.Con.TheVariants.{Named, Open}
use Rattle.cq_theory.specs.declared.presentation.Sort.{Sort}
use Rattle.cq_theory.specs.declared.presentation.Sort.TheVariants.{Plain, Entity}
use Rattle.cq_theory.specs.declared.presentation.Equation.{Equation}
use Rattle.cq_theory.specs.declared.presentation.Equation.TheVariants.{Ent, Typ}
use Rattle.cq_theory.specs.declared.presentation.Presentation.{Presentation}
use Rattle.cq_theory.specs.SchemaData.{SchemaData as Schema}
use Rattle.cq_theory.specs.TypesideData.{TypesideData as Typeside}
use Rattle.cq_theory.specs.declared.term.EntTerm.{EntTerm}
use Rattle.cq_theory.specs.declared.term.TypeTerm.{TypeTerm}
use Rattle.cq_theory.specs.declared.term.TypeTerm.TheOpen.{TypeTerm-F, Gen, Const, Att, Fun}
use Rattle.cq_theory.specs.declared.term.TypeTerm.TheFolds.{fold-TypeTerm}
use Rattle.cq_theory.specs.ValueText.{quoted, constant_name, function_name, application_text}
use Rattle.cq_theory.specs.Canonical.{canonical}
use Rattle.cq_instance.specs.InstanceData.{InstanceData}
use Rattle.cq_text.specs.Transcript.{name_or_empty, edge_name, line}

-- the text of a constant, without quotes
abbrev pub content_of : Typeside → Con → Name
content_of T (Named c) = constant_name (slice_get T.constants c)
content_of T (Open text) = text

-- the name of the generator with a number, from 0
abbrev pub generator_text : ℕ → List ℕ
generator_text n = codes "g" ++ decimal (n + 1)

-- a name, and what it is applied to in parentheses
abbrev pub applied_text : Name → List ℕ → List ℕ
applied_text name shown = name ++ codes "(" ++ shown ++ codes ")"

-- the line of an equation
abbrev pub equals_line : List ℕ → List ℕ → List ℕ
equals_line left right = line (left ++ codes " = " ++ right)

module _ (S : Schema) where
  abbrev pub sort_text : Sort → Name
  sort_text (Plain type) = name_or_empty (slice_get S.typeside.types type)
  sort_text (Entity entity) = name_or_empty (slice_get S.entities entity)

  -- a generator, and each key that is followed from it round what stands before
  abbrev pub ent_text : EntTerm → List ℕ
  ent_text t = fold (λ shown k. applied_text (edge_name (slice_get S.keys k)) shown) (generator_text t.generator) t.path

  -- a constant is always a text, so that none is taken for a generator
  abbrev pub term_text_step : TypeTerm-F (List ℕ) → List ℕ
  term_text_step (Gen n) = generator_text n
  term_text_step (Const c) = quoted (content_of S.typeside c)
  term_text_step (Att a t) = applied_text (edge_name (slice_get S.attributes a)) (ent_text t)
  term_text_step (Fun f texts) = application_text (function_name (slice_get S.typeside.functions f)) texts

  abbrev pub term_text : TypeTerm → List ℕ
  term_text = fold-TypeTerm (List ℕ) term_text_step

  abbrev pub equation_line : Equation → List ℕ
  equation_line (Ent t u) = equals_line (ent_text t) (ent_text u)
  equation_line (Typ t u) = equals_line (term_text t) (term_text u)

  -- a generator and its sort
  abbrev pub generator_line : Name × Sort → List ℕ
  generator_line g = line (g.0 ++ codes " : " ++ sort_text g.1)

  abbrev pub presentation_lines : Presentation → List ℕ
  presentation_lines P =
      line (codes "generators") ++ flat_map generator_line P.generators
      ++ line (codes "equations") ++ flat_map equation_line P.equations

-- an instance under its name, over a schema under its own: the canonical presentation of its tables
abbrev pub literal_of : Name → Name → InstanceData → List ℕ
literal_of name schema i =
    line (codes "instance " ++ name ++ codes " = literal : " ++ schema ++ codes " {")
    ++ presentation_lines i.schema (canonical i.schema i.tables) ++ line (codes "}")
