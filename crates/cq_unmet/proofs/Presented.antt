-- One generator of an entity, with the entity's name, is a presentation.
use Rattle.std.proofs.Common.{ℕ, [], ◌<◌, length, arith}
use Rattle.std.proofs.lemmas.List.Elements.{All-nil, All-cons}
use Rattle.std.specs.Prelude.{slice_get}
use Rattle.cq_base.specs.declared.name.Name.{Name}
use Rattle.cq_text.specs.Transcript.{name_or_empty}
use Rattle.cq_theory.specs.declared.presentation.Sort.{Sort}
use Rattle.cq_theory.specs.declared.presentation.Sort.TheVariants.{Entity}
use Rattle.cq_theory.specs.Presentation.{IsSort, IsPresentation}
use Rattle.cq_theory.specs.SchemaData.{SchemaData as Schema}
use Rattle.cq_witness.specs.Paths.{over}

pub over_presented : (S : Schema) (entity : ℕ) → entity < length S.entities → IsPresentation S (over S entity)
over_presented S entity within = record {
  generators = All-cons (λ (g : Name × Sort). IsSort S g.1) (name_or_empty (slice_get S.entities entity), Entity entity) [] within (All-nil (λ (g : Name × Sort). IsSort S g.1));
  count = omega arith;
  equations = λ i e at. cc;
}
