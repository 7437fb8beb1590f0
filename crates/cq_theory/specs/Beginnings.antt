-- What begins at each entity of a schema.
use Rattle.std.specs.Prelude.{length}
use Rattle.cq_theory.specs.SchemaData.{SchemaData as Schema}
use Rattle.cq_theory.specs.Groups.{AreGroups, edge_sources, path_eq_sources, obs_eq_sources}
use Rattle.cq_theory.specs.declared.beginnings.Beginnings.{Beginnings}

pub record AreBeginningsOf (S : Schema) (beginnings : Beginnings) : Type 0 where
  pub keys : AreGroups (edge_sources S.keys) (length S.entities) beginnings.keys
  pub attributes : AreGroups (edge_sources S.attributes) (length S.entities) beginnings.attributes
  pub path_eqs : AreGroups (path_eq_sources S.path_eqs) (length S.entities) beginnings.path_eqs
  pub obs_eqs : AreGroups (obs_eq_sources S.obs_eqs) (length S.entities) beginnings.obs_eqs
