-- What a query makes of the keys, attributes and terms of its target.
use Rattle.std.specs.Prelude.{ℕ, List, [], ◌∷◌, map, Option, Some, None, slice_get, length, option_and_then}
use Rattle.cq_base.specs.declared.name.Name.{Name}
use Rattle.cq_theory.specs.declared.presentation.Equation.{Equation}
use Rattle.cq_theory.specs.declared.schema.Edge.{Edge}
use Rattle.cq_theory.specs.declared.term.EntTerm.{EntTerm}
use Rattle.cq_theory.specs.declared.constant.Con.TheVariants.{Named}
use Rattle.cq_theory.specs.declared.term.TypeTerm.{TypeTerm}
use Rattle.cq_theory.specs.declared.term.TypeTerm.TheVariants as term
use Rattle.cq_theory.specs.declared.term.TypeTerm.TheOpen.{TypeTerm-F}
use Rattle.cq_theory.specs.declared.term.TypeTerm.TheFolds.{fold-TypeTerm}
use Rattle.cq_theory.specs.Carried.{carried_step}
use Rattle.cq_blocks.specs.declared.block.Block.{Block}
use Rattle.cq_query.specs.QueryData.{QueryData as Query}
use Rattle.cq_theory.specs.Groups.{places, edge_sources, path_eq_sources, obs_eq_sources}
use Rattle.cq_query.specs.Puts.{put, put_type, generators_from}

abbrev pub variables_in : Option Block → List (Name × ℕ)
variables_in None = []
variables_in (Some block) = block.vars

abbrev pub tests_in : Option Block → List Equation
tests_in None = []
tests_in (Some block) = block.tests

abbrev pub terms_or_none : Option (List EntTerm) → List EntTerm
terms_or_none None = []
terms_or_none (Some terms) = terms

abbrev pub term_or_constant : Option TypeTerm → TypeTerm
term_or_constant None = term.Const (Named 0)
term_or_constant (Some t) = t

module _ (Q : Query) where
  abbrev pub key_sources : List ℕ
  key_sources = edge_sources Q.target.keys

  abbrev pub attribute_sources : List ℕ
  attribute_sources = edge_sources Q.target.attributes

  abbrev pub path_sources : List ℕ
  path_sources = path_eq_sources Q.target.path_eqs

  abbrev pub observation_sources : List ℕ
  observation_sources = obs_eq_sources Q.target.obs_eqs

  -- the variables and the where equations of an entity's block
  abbrev pub variables_at : ℕ → List (Name × ℕ)
  variables_at entity = variables_in (slice_get Q.blocks entity)

  abbrev pub tests_at : ℕ → List Equation
  tests_at entity = tests_in (slice_get Q.blocks entity)

  -- the variables of a block as terms
  abbrev pub variable_terms : ℕ → List EntTerm
  variable_terms entity = generators_from 0 (length (variables_at entity))

  -- what stands at the place of an edge among those of its entity, in that entity's block
  abbrev pub at_edge : {X : Type 0} → List Edge → (Block → List X) → ℕ → Option X
  at_edge edges part n =
      option_and_then (λ edge. option_and_then (λ block. option_and_then (slice_get (part block))
      (slice_get (places (edge_sources edges)) n)) (slice_get Q.blocks edge.from)) (slice_get edges n)

  abbrev pub found_terms : ℕ → Option (List EntTerm)
  found_terms k = at_edge Q.target.keys (λ block. block.keys) k

  abbrev pub found_term : ℕ → Option TypeTerm
  found_term a = at_edge Q.target.attributes (λ block. block.attributes) a

  -- the terms that a key assigns to the variables of the block to which it leads
  abbrev pub assigned : ℕ → List EntTerm
  assigned k = terms_or_none (found_terms k)

  -- the term of an attribute
  abbrev pub attribute_term : ℕ → TypeTerm
  attribute_term a = term_or_constant (found_term a)

  -- Terms stand for a row of a target entity, one for each variable of its block.
  -- The terms that stand for the row at the end of a path of keys from there.
  abbrev pub along : List EntTerm → List ℕ → List EntTerm
  along terms [] = terms
  along terms (k ∷ path) = along (map (put terms) (assigned k)) path

  abbrev pub translated_step : List EntTerm → TypeTerm-F TypeTerm → TypeTerm
  translated_step terms = carried_step term.Gen (λ a t. put_type (along terms t.path) (attribute_term a))

  -- a term over one variable of a target entity, with the query's terms for keys and attributes
  abbrev pub translated : List EntTerm → TypeTerm → TypeTerm
  translated terms = fold-TypeTerm TypeTerm (translated_step terms)
