use Rattle.std.proofs.Common.{sym, subst, ◌∙◌}
use Rattle.cq_theory.specs.SchemaData.{SchemaData as Schema}
use Rattle.cq_theory.specs.Presentation.{IsPresentation}
use Rattle.cq_model.specs.BuiltParts.{instance_of}
use Rattle.cq_names.specs.NamedRows.{AreNamedRows}
use Rattle.cq_names.specs.Closed.{AreClosed}
use Rattle.cq_instance.specs.InstanceData.{IsInstance}
use Rattle.cq_model.proofs.building.build_closed.Goals as goal

pub name_rows-requires : goal.name_rows-requires
name_rows-requires c = record {
  presentation = subst (λ (s : Schema). IsPresentation s c.args.presentation) (sym c.deref.ensures) c.requires.presentation;
  closed = subst (λ (s : Schema). AreClosed s c.args.presentation c.args.tables.now c.args.entries.now) (sym c.deref.ensures) c.requires.closed;
}

pub model_parts-requires : goal.model_parts-requires
model_parts-requires c = record {
  presentation = subst (λ (s : Schema). IsPresentation s c.args.presentation) (sym c.deref-2.ensures) c.requires.presentation;
  closed = subst (λ (s : Schema). AreClosed s c.args.presentation c.args.tables.now c.args.entries.now) (sym c.deref-2.ensures) c.requires.closed;
  rows = subst (λ (s : Schema). AreNamedRows s c.args.presentation c.args.tables.now c.args.entries.now c.in_ok-numbered.numbered) (c.deref.ensures ∙ sym c.deref-2.ensures) c.in_ok-numbered.ensures.rows;
}

pub from_parts-requires : goal.from_parts-requires
from_parts-requires c =
    subst (λ (s : Schema). IsInstance (instance_of s c.args.presentation c.in_ok-numbered.numbered.names c.in-Ok.parts)) c.deref-2.ensures c.in-Ok.ensures.instance
