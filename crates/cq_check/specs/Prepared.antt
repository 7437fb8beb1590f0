-- A schema, with what is made of it once.
use Rattle.std.specs.Prelude.{◌≡◌, length}
use Rattle.cq_check.specs.declared.prepared.Prepared.{Prepared}
use Rattle.cq_rows.specs.Outline.{IsOutline}
use Rattle.cq_theory.specs.Groups.{obs_eq_sources, AreGroups}
use Rattle.cq_theory.specs.SchemaData.{SchemaData as Schema}
use Rattle.cq_theory.specs.declared.groups.Groups.{Groups}

-- the places of the observation equations that begin at each entity
abbrev pub AreObservations : Schema → Groups → Type 0
AreObservations S groups = AreGroups (obs_eq_sources S.obs_eqs) (length S.entities) groups

pub record IsPrepared (p : Prepared) : Type 0 where
  pub outline : IsOutline p.schema.now p.outline
  pub observations : AreObservations p.schema.now p.observations

pub record IsPreparedFor (S : Schema) (p : Prepared) : Type 0 where
  pub schema : p.schema.now ≡ S
  pub prepared : IsPrepared p
