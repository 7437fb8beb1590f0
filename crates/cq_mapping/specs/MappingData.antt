-- What contracts see of a mapping: the image of each entity, foreign key and attribute of the source, by its number.
use Rattle.std.specs.Prelude.{ℕ, List}
use Rattle.cq_theory.specs.SchemaData.{SchemaData as Schema}
use Rattle.cq_theory.specs.declared.term.TypeTerm.{TypeTerm}

pub record MappingData : Type 0 where
  pub source : Schema
  pub target : Schema
  pub entities : List ℕ
  pub keys : List (List ℕ)
  pub attributes : List TypeTerm
