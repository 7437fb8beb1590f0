use Rattle.std.proofs.Common.{◌≡◌, Ok, refl, sym, subst, ◌∙◌, ap}
use Rattle.cq_theory.specs.Schema.{IsSchema}
use Rattle.cq_theory.specs.Tables.{Holds}
use Rattle.cq_instance.specs.InstanceData.{InstanceData}
use Rattle.cq_instance.specs.declared.transform.Image.{Image}
use Rattle.cq_transform.specs.Identities.{identity_images}
use Rattle.cq_transform.specs.Transforms.{GoesFrom}
use Rattle.cq_environment.specs.Meanings.{Ends, InstanceMeant, instance_used}
use Rattle.cq_program.specs.Posed.{a_transform}
use Rattle.cq_program.specs.Transforms.{ends_at}
use Rattle.cq_environment.specs.Environment.{AreEnds, environment_of, instance_meant}
use Rattle.cq_program.specs.Posing.{IsTransformOf}
use Rattle.cq_program.proofs.Given.{given_after}
use Rattle.cq_program.proofs.Settled.{instance_meant_by, instance_modelled}
use Rattle.cq_program.proofs.transforms.stating.pose_identical.Goals as goal

pub returns-in-Ok-clause-posed : goal.returns-in-Ok-clause-posed
returns-in-Ok-clause-posed c =
    let env = environment_of c.args.env.now.names.entries in
    let i : InstanceMeant = instance_meant c.in_ok-part.part in
    let images : c.in_ok-transform.transform.images ≡ identity_images i.instance.presentation.generators =
    c.in_ok-transform.ensures.images ∙ ap (λ (j : InstanceData). identity_images j.presentation.generators) c.deref-start.ensures in
    given_after (instance_used env c.args.used.now) i (λ j. Ok (a_transform (ends_at c.args.used.now j) (identity_images j.instance.presentation.generators))) _ c.in_ok-part.ensures
    (λ k. Ok (a_transform (sym c.in-Ok.ensures k) (sym images k)))

pub returns-in-Ok-clause-well_sorted : goal.returns-in-Ok-clause-well_sorted
returns-in-Ok-clause-well_sorted c =
    let env = environment_of c.args.env.now.names.entries in
    let i : InstanceMeant = instance_meant c.in_ok-part.part in
    let t = c.in_ok-transform.transform in
    let model = instance_modelled env c.args.used.now i c.requires.settled c.in_ok-part.ensures in
    let holds : Holds c.deref-start.result.now.schema c.deref-start.result.now.presentation c.deref-start.result.now.tables c.deref-start.result.now.assignment =
    subst (λ (j : InstanceData). Holds j.schema j.presentation j.tables j.assignment) (sym c.deref-start.ensures) model.0.holds in
    subst (λ (e : Ends). IsTransformOf e t.images t) (sym c.in-Ok.ensures) (record {
      images_are = refl;
      schema = subst (λ (j : InstanceData). IsSchema j.schema) c.deref-start.ensures c.is_over_schema.ensures;
      initial = model.0;
      goes = subst (λ (j : InstanceData). GoesFrom t j j) c.deref-start.ensures (c.in_ok-transform.ensures.goes holds);
    })

pub returns-in-Ok-clause-grounded : goal.returns-in-Ok-clause-grounded
returns-in-Ok-clause-grounded c = λ name.
    let env = environment_of c.args.env.now.names.entries in
    let i : InstanceMeant = instance_meant c.in_ok-part.part in
    let by = instance_meant_by env c.args.used.now i c.in_ok-part.ensures in
    subst (AreEnds env) (sym c.in-Ok.ensures) (by, by)
