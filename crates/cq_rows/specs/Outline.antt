-- What the rows of all presentations over a schema are made by.
use Rattle.std.specs.Prelude.{◌≡◌, ℕ, Some, length, map, slice_get}
use Rattle.cq_tables.specs.Content.{Content, keys_of, entities_of, made_of}
use Rattle.cq_theory.specs.Groups.{path_eq_sources, AreGroups}
use Rattle.cq_theory.specs.SchemaData.{SchemaData as Schema}
use Rattle.cq_theory.specs.declared.presentation.Presentation.{Presentation}
use Rattle.cq_rows.specs.declared.outline.Outline.{Outline}
use Rattle.cq_rows.specs.Plain.{ends_of, generator_entity}

-- some generator is of an entity
abbrev pub HasEntity : Presentation → Type 0
HasEntity P = (g : ℕ) × (e : ℕ) × (slice_get (map generator_entity P.generators) g ≡ Some (Some e))

module _ (S : Schema) where
  -- tables over the schema, without rows
  pub record IsBlank (m : Content) : Type 0 where
    pub keys : keys_of m ≡ map ends_of S.keys
    pub entities : entities_of m ≡ length S.entities
    pub empty : made_of m ≡ 0

  -- the ends of its keys, and tables without rows
  pub record HasFrame (o : Outline) : Type 0 where
    pub keys : o.keys.items ≡ map ends_of S.keys
    pub blank : IsBlank o.tables

  -- besides, its path equations by the entity at which they begin
  pub record IsOutline (o : Outline) : Type 0 where
    pub frame : HasFrame o
    pub path_equations : AreGroups (path_eq_sources S.path_eqs) (length S.entities) o.path_equations

  -- the same, but the path equations only if the presentation has a generator of an entity
  pub record IsOutlineFor (P : Presentation) (o : Outline) : Type 0 where
    pub frame : HasFrame o
    pub path_equations : HasEntity P → AreGroups (path_eq_sources S.path_eqs) (length S.entities) o.path_equations
