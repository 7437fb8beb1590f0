-- Frozen presentations, and the duties of a query.
use Rattle.std.specs.Prelude.{ℕ, List, [], ◌∷◌, ◌++◌, ◌<◌, ◌≡◌, map, length, Option, Some, None, slice_get}
use Rattle.std.specs.List.{flat_map}
use Rattle.cq_theory.specs.declared.presentation.Equation.{Equation}
use Rattle.cq_theory.specs.declared.presentation.Equation.TheVariants.{Ent as EntEquation, Typ as TypEquation}
use Rattle.cq_theory.specs.declared.presentation.Presentation.{Presentation}
use Rattle.cq_theory.specs.declared.presentation.Sort.TheVariants.{Entity}
use Rattle.cq_theory.specs.declared.schema.Edge.{Edge}
use Rattle.cq_theory.specs.declared.schema.PathEq.{PathEq}
use Rattle.cq_theory.specs.declared.schema.ObsEq.{ObsEq}
use Rattle.cq_theory.specs.declared.term.EntTerm.{EntTerm}
use Rattle.cq_theory.specs.Canonical.{below}
use Rattle.cq_theory.specs.Derivation.{Derives, left_of, right_of}
use Rattle.cq_query.specs.QueryData.{QueryData as Query}
use Rattle.cq_theory.specs.Groups.{positions}
use Rattle.cq_query.specs.Puts.{put_equation}
use Rattle.cq_query.specs.Translation.{key_sources, path_sources, observation_sources, variables_at, tests_at, variable_terms, assigned}
use Rattle.cq_query.specs.Translation.{along, translated}

-- the terms of two lists that stand beside one another are equal
abbrev pub equal_terms : List EntTerm → List EntTerm → List Equation
equal_terms [] us = []
equal_terms (t ∷ ts) [] = []
equal_terms (t ∷ ts) (u ∷ us) = EntEquation t u ∷ equal_terms ts us

module _ (Q : Query) where
  -- the variables of an entity's block as generators, and its where equations
  abbrev pub frozen : ℕ → Presentation
  frozen entity = record {
    generators = map (λ v. (v.0, Entity v.1)) (variables_at Q entity);
    equations = tests_at Q entity;
  }

  -- each where equation of the key's target, with the assigned terms in place of its variables
  abbrev pub key_duties : ℕ → Option Edge → List Equation
  key_duties k None = []
  key_duties k (Some edge) = map (put_equation (assigned Q k)) (tests_at Q edge.to)

  -- for each variable of the block where the sides end, the two terms that they give it
  abbrev pub path_duties : ℕ → Option PathEq → List Equation
  path_duties entity None = []
  path_duties entity (Some e) = equal_terms (along Q (variable_terms Q entity) e.left) (along Q (variable_terms Q entity) e.right)

  -- the equation with the query's terms for keys and attributes
  abbrev pub observation_duties : ℕ → Option ObsEq → List Equation
  observation_duties entity None = []
  observation_duties entity (Some e) = TypEquation (translated Q (variable_terms Q entity) e.left)
      (translated Q (variable_terms Q entity) e.right) ∷ []

  -- what is to be derivable from the frozen presentation of the entity, for each key, path equation and observation equation from there
  abbrev pub duties : ℕ → List Equation
  duties entity =
      flat_map (λ k. key_duties k (slice_get Q.target.keys k)) (positions (key_sources Q) entity)
      ++ flat_map (λ n. path_duties entity (slice_get Q.target.path_eqs n)) (positions (path_sources Q) entity)
      ++ flat_map (λ n. observation_duties entity (slice_get Q.target.obs_eqs n)) (positions (observation_sources Q) entity)

  -- the duties of the first entities of the target, entity by entity, each with its entity
  abbrev pub duties_below : ℕ → List (ℕ × Equation)
  duties_below count = flat_map (λ entity. map (λ e. (entity, e)) (duties entity)) (below count)

  abbrev pub all_duties : List (ℕ × Equation)
  all_duties = duties_below (length Q.target.entities)

  -- each duty is derivable from the frozen presentation of its entity
  abbrev pub Sound : Type 0
  Sound = (entity n : ℕ) (e : Equation) → entity < length Q.target.entities → slice_get (duties entity) n ≡ Some e
      → Derives Q.source (frozen entity) (left_of e) (right_of e)
