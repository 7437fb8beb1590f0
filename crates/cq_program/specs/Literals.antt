-- The rules of names and parts of instances that are given by their parts.
use Rattle.std.specs.Prelude.{Option, Ok}
use Rattle.cq_base.specs.declared.place.Place.{Place}
use Rattle.cq_syntax.specs.declared.literal.InstanceLit.{InstanceLit}
use Rattle.cq_theory.specs.declared.refusal.TheoryRefusal.{TheoryRefusal}
use Rattle.cq_theory.specs.declared.presentation.Presentation.{Presentation}
use Rattle.cq_theory.specs.declared.parts.PresentationParts.{PresentationParts}
use Rattle.cq_theory.specs.SchemaData.{SchemaData}
use Rattle.cq_theory.specs.Parts.{presentation_fault, presented}
use Rattle.cq_parts.specs.Parts.{instance_parts, instance_places}
use Rattle.cq_environment.specs.Meanings.{Checked, Environment, and_then, schema_used}
use Rattle.cq_program.specs.Posed.{part_breach, of_parts, Posed, a_presentation}

abbrev fault_over : SchemaData → PresentationParts → Option TheoryRefusal
fault_over S parts = presentation_fault S parts.generators parts.equations

abbrev made_over : SchemaData → PresentationParts → Presentation
made_over S parts = presented S parts.generators parts.equations

unfoldable pub presentation_given : Place → SchemaData → InstanceLit → Checked Presentation
presentation_given place S lit = of_parts (part_breach place (instance_places lit)) (fault_over S (instance_parts lit))
    (made_over S (instance_parts lit))

abbrev pub instance_posed : Environment → Place → InstanceLit → Checked Posed
instance_posed env place lit =
    and_then (schema_used env lit.schema) (λ over.
    and_then (presentation_given place over.schema lit) (λ P.
    Ok (a_presentation over.name over.schema P)))
