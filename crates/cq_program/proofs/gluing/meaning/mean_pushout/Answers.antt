use Rattle.std.proofs.Common.{◌≡◌, refl, subst}
use Rattle.std.specs.Prelude.{IfErr, IfOk}
use Rattle.cq_theory.specs.declared.presentation.Presentation.{Presentation}
use Rattle.cq_theory.specs.Presentation.{IsPresentation, is_oversized}
use Rattle.cq_theory.specs.SchemaData.{SchemaData}
use Rattle.cq_instance.specs.InstanceData.{InstanceData}
use Rattle.cq_instance.specs.declared.transform.Transform.{Transform}
use Rattle.cq_transform.specs.Transforms.{GoesFrom}
use Rattle.cq_transform.specs.Gluing.{pushout_of}
use Rattle.cq_push.proofs.Beside.{presented_in}
use Rattle.cq_program.specs.Posed.{Posed, a_made}
use Rattle.cq_program.specs.Gluing.{pushed_out}
use Rattle.cq_environment.specs.Environment.{meant, transform_meant}
use Rattle.cq_program.specs.Judging.{IsAnswerOf, TellsUnmade}
use Rattle.cq_program.specs.Program.{Stands}
use Rattle.cq_program.proofs.Answered.{are_term_models, answer_of, clash_named}
use Rattle.cq_program.proofs.GluedPresentations.{goes_as, pushout_is}
use Rattle.cq_program.proofs.gluing.meaning.mean_pushout.Goals as goal

pub pushout-answer-requires-clause-first : goal.pushout-answer-requires-clause-first
pushout-answer-requires-clause-first c =
    let f = transform_meant c.args.left.now in
    goes_as c.deref-first.result.now f.transform c.deref-start.result.now f.ends.start.instance c.deref-into_left.result.now f.ends.finish.instance
    c.deref-first.ensures c.deref-start.ensures c.deref-into_left.ensures c.requires.span.0

pub pushout-answer-requires-clause-second : goal.pushout-answer-requires-clause-second
pushout-answer-requires-clause-second c =
    let f = transform_meant c.args.left.now in
    let g = transform_meant c.args.right.now in
    goes_as c.deref-second.result.now g.transform c.deref-start.result.now f.ends.start.instance c.deref-into_right.result.now g.ends.finish.instance
    c.deref-second.ensures c.deref-start.ensures c.deref-into_right.ensures c.requires.span.1

pub mean_model-requires-clause-named : goal.mean_model-requires-clause-named
mean_model-requires-clause-named c =
    let f = transform_meant c.args.left.now in
    let g = transform_meant c.args.right.now in
    let start : InstanceData = c.deref-start.result.now in
    let left : InstanceData = c.deref-into_left.result.now in
    let right : InstanceData = c.deref-into_right.result.now in
    let first : GoesFrom c.deref-first.result.now start left =
    goes_as c.deref-first.result.now f.transform start f.ends.start.instance left f.ends.finish.instance c.deref-first.ensures c.deref-start.ensures c.deref-into_left.ensures c.requires.span.0 in
    let second : GoesFrom c.deref-second.result.now start right =
    goes_as c.deref-second.result.now g.transform start f.ends.start.instance right g.ends.finish.instance c.deref-second.ensures c.deref-start.ensures c.deref-into_right.ensures c.requires.span.1 in
    let P : Presentation = pushout_of c.deref-first.result.now c.deref-second.result.now left.presentation right.presentation in
    let presented = pushout_is start.schema c.deref-first.result.now c.deref-second.result.now start left right refl first second
    (presented_in start.schema left c.is_instance.ensures first.schema) (presented_in start.schema right c.is_instance-2.ensures second.schema) in
    let of : IsAnswerOf start.schema P c.args.depth c.pushout-answer.result =
    answer_of start.schema P c.args.depth c.pushout-answer.result c.is_over_schema.ensures presented c.pushout-answer.ensures in
    λ least greater clash. clash_named start.schema P c.args.depth c.pushout-answer.result of c.typeside_of.result.now c.typeside_of.ensures c.is_over_schema.ensures presented least greater clash

pub returns-clause-stands : goal.returns-clause-stands
returns-clause-stands c =
    let f = transform_meant c.args.left.now in
    let g = transform_meant c.args.right.now in
    let start : InstanceData = c.deref-start.result.now in
    let left : InstanceData = c.deref-into_left.result.now in
    let right : InstanceData = c.deref-into_right.result.now in
    let first : GoesFrom c.deref-first.result.now start left =
    goes_as c.deref-first.result.now f.transform start f.ends.start.instance left f.ends.finish.instance c.deref-first.ensures c.deref-start.ensures c.deref-into_left.ensures c.requires.span.0 in
    let second : GoesFrom c.deref-second.result.now start right =
    goes_as c.deref-second.result.now g.transform start f.ends.start.instance right g.ends.finish.instance c.deref-second.ensures c.deref-start.ensures c.deref-into_right.ensures c.requires.span.1 in
    let P : Presentation = pushout_of c.deref-first.result.now c.deref-second.result.now left.presentation right.presentation in
    let presented = pushout_is start.schema c.deref-first.result.now c.deref-second.result.now start left right refl first second
    (presented_in start.schema left c.is_instance.ensures first.schema) (presented_in start.schema right c.is_instance-2.ensures second.schema) in
    let of : IsAnswerOf start.schema P c.args.depth c.pushout-answer.result =
    answer_of start.schema P c.args.depth c.pushout-answer.result c.is_over_schema.ensures presented c.pushout-answer.ensures in
    let posed : a_made c.in_ok-name.name start.schema P ≡ pushed_out f g =
    λ i. a_made (c.in_ok-name.ensures.cases i) ((c.deref-start.ensures i).schema)
    (pushout_of (c.deref-first.ensures i) (c.deref-second.ensures i) ((c.deref-into_left.ensures i).presentation) ((c.deref-into_right.ensures i).presentation)) in
    subst (λ (p : Posed). IfOk c.mean_model.result (λ meaning. Stands p (meant meaning))) posed (c.mean_model.ensures.stands start.schema P c.args.depth of)

pub mean_model-requires-clause-modelled : goal.mean_model-requires-clause-modelled
mean_model-requires-clause-modelled c = are_term_models c.pushout-answer.result c.pushout-answer.ensures.listed

pub returns-clause-refused : goal.returns-clause-refused
returns-clause-refused c =
    let f = transform_meant c.args.left.now in
    let g = transform_meant c.args.right.now in
    let start : InstanceData = c.deref-start.result.now in
    let left : InstanceData = c.deref-into_left.result.now in
    let right : InstanceData = c.deref-into_right.result.now in
    let first : GoesFrom c.deref-first.result.now start left =
    goes_as c.deref-first.result.now f.transform start f.ends.start.instance left f.ends.finish.instance c.deref-first.ensures c.deref-start.ensures c.deref-into_left.ensures c.requires.span.0 in
    let second : GoesFrom c.deref-second.result.now start right =
    goes_as c.deref-second.result.now g.transform start f.ends.start.instance right g.ends.finish.instance c.deref-second.ensures c.deref-start.ensures c.deref-into_right.ensures c.requires.span.1 in
    let P : Presentation = pushout_of c.deref-first.result.now c.deref-second.result.now left.presentation right.presentation in
    let presented = pushout_is start.schema c.deref-first.result.now c.deref-second.result.now start left right refl first second
    (presented_in start.schema left c.is_instance.ensures first.schema) (presented_in start.schema right c.is_instance-2.ensures second.schema) in
    let of : IsAnswerOf start.schema P c.args.depth c.pushout-answer.result =
    answer_of start.schema P c.args.depth c.pushout-answer.result c.is_over_schema.ensures presented c.pushout-answer.ensures in
    let posed : a_made c.in_ok-name.name start.schema P ≡ pushed_out f g =
    λ i. a_made (c.in_ok-name.ensures.cases i) ((c.deref-start.ensures i).schema)
    (pushout_of (c.deref-first.ensures i) (c.deref-second.ensures i) ((c.deref-into_left.ensures i).presentation) ((c.deref-into_right.ensures i).presentation)) in
    subst (λ (p : Posed). IfErr c.mean_model.result (TellsUnmade c.args.depth c.args.place p)) posed (c.mean_model.ensures.refused start.schema P c.args.depth c.typeside_of.ensures of)
