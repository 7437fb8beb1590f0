-- Images of entities, paths, terms and presentations under a mapping.
use Rattle.std.specs.Prelude.{ℕ, List, [], map, slice_index, slice_index_or}
use Rattle.std.specs.List.{flat_map}
use Rattle.cq_theory.specs.declared.presentation.Sort.{Sort}
use Rattle.cq_theory.specs.declared.presentation.Sort.TheVariants.{Plain, Entity}
use Rattle.cq_theory.specs.declared.presentation.Equation.{Equation}
use Rattle.cq_theory.specs.declared.presentation.Presentation.{Presentation}
use Rattle.cq_theory.specs.declared.constant.Con.TheVariants.{Named}
use Rattle.cq_theory.specs.declared.term.EntTerm.{EntTerm}
use Rattle.cq_theory.specs.declared.term.TypeTerm.{TypeTerm}
use Rattle.cq_theory.specs.declared.term.TypeTerm.TheVariants as term
use Rattle.cq_theory.specs.declared.term.TypeTerm.TheOpen.{TypeTerm-F}
use Rattle.cq_theory.specs.declared.term.TypeTerm.TheFolds.{fold-TypeTerm}
use Rattle.cq_theory.specs.declared.term.Term.{Term}
use Rattle.cq_theory.specs.Carried.{carried_step, carried_term, carried_equation}
use Rattle.cq_theory.specs.TypeTerm.{substituted}
use Rattle.cq_theory.specs.Sorts.{Generators}
use Rattle.cq_mapping.specs.MappingData.{MappingData as Mapping}

module _ (F : Mapping) where
  abbrev pub entity_image : ℕ → ℕ
  entity_image e = slice_index F.entities e

  -- the path of a foreign key, and the term of an attribute over one variable
  abbrev pub key_image : ℕ → List ℕ
  key_image k = slice_index_or F.keys k []

  abbrev pub attribute_image : ℕ → TypeTerm
  attribute_image a = slice_index_or F.attributes a (term.Const (Named 0))

  -- each foreign key is replaced by its path
  abbrev pub path_image : List ℕ → List ℕ
  path_image path = flat_map key_image path

  abbrev pub ent_image : EntTerm → EntTerm
  ent_image t = record { generator = t.generator; path = path_image t.path }

  -- each attribute is replaced by its term, with the image of its entity term in the variable's place
  abbrev pub type_image_step : TypeTerm-F TypeTerm → TypeTerm
  type_image_step = carried_step term.Gen (λ a t. substituted (ent_image t) (attribute_image a))

  abbrev pub type_image : TypeTerm → TypeTerm
  type_image = fold-TypeTerm TypeTerm type_image_step

  abbrev pub term_image : Term → Term
  term_image = carried_term ent_image type_image

  abbrev pub sort_image : Sort → Sort
  sort_image (Plain type) = Plain type
  sort_image (Entity e) = Entity (entity_image e)

  abbrev pub equation_image : Equation → Equation
  equation_image = carried_equation ent_image type_image

  abbrev pub generator_images : Generators → Generators
  generator_images generators = map (λ g. (g.0, sort_image g.1)) generators

  -- the generators at their image sorts, and the image of each equation, in order
  abbrev pub sigma : Presentation → Presentation
  sigma P = record { generators = generator_images P.generators; equations = map equation_image P.equations }
