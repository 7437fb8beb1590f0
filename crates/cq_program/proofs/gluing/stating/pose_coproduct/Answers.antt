use Rattle.std.proofs.Common.{List, None, Ok, ◌≡◌, ◌∙◌, ap, map, refl, subst, sym}
use Rattle.std.specs.Prelude.{All}
use Rattle.cq_base.specs.declared.place.Place.{Place}
use Rattle.cq_theory.specs.declared.presentation.Presentation.{Presentation}
use Rattle.cq_transform.specs.Gluing.{coproduct_of}
use Rattle.cq_environment.specs.Meanings.{InstanceMeant, SchemaMeant}
use Rattle.cq_program.specs.Posed.{a_made}
use Rattle.cq_program.specs.Gluing.{coproduct_posed, first_misfit, presentations_of}
use Rattle.cq_environment.specs.Environment.{environment_of, schema_meant}
use Rattle.cq_program.specs.Views.{operand_meant, operands_meant}
use Rattle.cq_program.proofs.Operands.{All_seen, coproduct_given, operands_over, operands_printed, seen_same}
use Rattle.cq_program.proofs.Settled.{schema_printed}
use Rattle.cq_program.proofs.gluing.stating.pose_coproduct.Goals as goal

pub returns-clause-posed : goal.returns-clause-posed
returns-clause-posed c =
    let env = environment_of c.args.env.now.names.entries in
    let operands : List (Place × InstanceMeant) = operands_meant c.in_ok-operands.operands.items in
    let over : SchemaMeant = schema_meant c.in_ok-over.over in
    let found : first_misfit over.name (operands_meant c.as_slice.result.now) ≡ None = cc in
    let none : first_misfit over.name operands ≡ None = ap (λ items. first_misfit over.name (operands_meant items)) (sym c.as_slice.ensures.value) ∙ found in
    let same : presentations_of operands ≡ map (λ part. part.value.presentation) c.in_ok-instances.instances =
    sym (seen_same (λ operand. operand.part.instance) (λ part. part.value.presentation) operand_meant (λ (operand : Place × InstanceMeant). operand.1.instance.presentation) (λ operand. refl) c.in_ok-operands.operands.items)
    ∙ ap (map (λ part. part.value.presentation)) (sym c.in_ok-instances.ensures) in
    coproduct_given env c.args.used.now c.args.schema.now operands over c.in_ok-operands.ensures c.in_ok-over.ensures none
    ∙ ap (λ (parts : List Presentation). Ok (a_made over.name over.schema (coproduct_of parts))) same

pub returns-clause-well_sorted : goal.returns-clause-well_sorted
returns-clause-well_sorted c =
    let env = environment_of c.args.env.now.names.entries in
    let operands : List (Place × InstanceMeant) = operands_meant c.in_ok-operands.operands.items in
    let over : SchemaMeant = schema_meant c.in_ok-over.over in
    let found : first_misfit over.name (operands_meant c.as_slice.result.now) ≡ None = cc in
    let none : first_misfit over.name operands ≡ None = ap (λ items. first_misfit over.name (operands_meant items)) (sym c.as_slice.ensures.value) ∙ found in
    let all : All (λ (operand : Place × InstanceMeant). operand.1.instance.schema ≡ over.schema) operands =
    operands_over env over.name over.schema operands (schema_printed env c.args.schema.now over c.requires.settled c.in_ok-over.ensures)
    (operands_printed env c.args.used.now operands c.requires.settled c.in_ok-operands.ensures) none in
    subst (All (λ part. part.value.schema ≡ over.schema)) (sym c.in_ok-instances.ensures)
    (All_seen (λ (operand : Place × InstanceMeant). operand.1.instance.schema ≡ over.schema) (λ part. part.value.schema ≡ over.schema) operand_meant (λ operand. operand.part.instance)
    (λ operand is. is) c.in_ok-operands.operands.items all)

pub returns-clause-grounded : goal.returns-clause-grounded
returns-clause-grounded c = λ name.
    schema_printed (environment_of c.args.env.now.names.entries) c.args.schema.now (schema_meant c.in_ok-over.over) c.requires.settled c.in_ok-over.ensures
