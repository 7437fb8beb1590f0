-- What merging starts from.
use Rattle.std.specs.Prelude.{◌≡◌, ◌<◌, length}
use Rattle.cq_tables.specs.Content.{Content, IsWhole, keys_of, entities_of, made_of}
use Rattle.cq_theory.specs.Groups.{path_eq_sources, AreGroups}
use Rattle.cq_rows.specs.declared.entries.Entries.{Entries}
use Rattle.cq_rows.specs.declared.origin.Origin.{Origin}
use Rattle.cq_rows.specs.Theory.{Theory, IsTheory}
use Rattle.cq_rows.specs.Plain.{theory_of}
use Rattle.cq_rows.specs.Entries.{rows_of, IsCurrent}
use Rattle.cq_rows.specs.Rows.{HaveRows}

abbrev pub theory_at : Origin → Theory
theory_at o = theory_of o.schema.now o.presentation.now

-- if there are rows, the outline lists the path equations
abbrev pub AreListed : Origin → Content → Type 0
AreListed o m = 0 < made_of m
    → AreGroups (path_eq_sources o.schema.now.path_eqs) (length o.schema.now.entities) o.outline.now.path_equations

-- the tables are over the schema, the path equations are listed, and each generator has its current row
pub record IsReady (o : Origin) (m : Content) (e : Entries) : Type 0 where
  pub theory : IsTheory (theory_at o)
  pub groups : AreListed o m
  pub keys : keys_of m ≡ (theory_at o).keys
  pub entities : entities_of m ≡ (theory_at o).entities
  pub whole : IsWhole m
  pub current : IsCurrent m e
  pub count : length (rows_of e) ≡ length (theory_at o).generators
  pub rows : HaveRows (theory_at o) m (rows_of e)
