-- The part of a schema and a presentation that speaks of entity terms.
use Rattle.std.specs.Prelude.{ℕ, Option, Some, None, length, map}
use Rattle.cq_base.specs.declared.name.Name.{Name}
use Rattle.cq_theory.specs.declared.presentation.Sort.{Sort}
use Rattle.cq_theory.specs.declared.presentation.Sort.TheVariants.{Plain, Entity}
use Rattle.cq_theory.specs.declared.presentation.Equation.{Equation}
use Rattle.cq_theory.specs.declared.presentation.Equation.TheVariants.{Ent as EntEquation, Typ as TypEquation}
use Rattle.cq_theory.specs.declared.presentation.Presentation.{Presentation}
use Rattle.cq_theory.specs.declared.schema.Edge.{Edge}
use Rattle.cq_theory.specs.SchemaData.{SchemaData}
use Rattle.cq_rows.specs.Theory.{Term, Theory}

-- the entities between which a key goes
abbrev pub ends_of : Edge → ℕ × ℕ
ends_of edge = (edge.from, edge.to)

abbrev pub entity_in : Sort → Option ℕ
entity_in (Plain n) = None
entity_in (Entity n) = Some n

-- the entity of a generator, if it has one
abbrev pub generator_entity : Name × Sort → Option ℕ
generator_entity g = entity_in g.1

-- the sides of an equation, if they are entity terms
abbrev pub entity_sides : Equation → Option (Term × Term)
entity_sides (EntEquation t u) = Some (t, u)
entity_sides (TypEquation t u) = None

abbrev pub theory_of : SchemaData → Presentation → Theory
theory_of S P = record {
  entities = length S.entities;
  keys = map ends_of S.keys;
  rules = S.path_eqs;
  generators = map generator_entity P.generators;
  given = map entity_sides P.equations;
}
