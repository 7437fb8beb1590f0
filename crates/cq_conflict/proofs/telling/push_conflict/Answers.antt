use Rattle.std.proofs.Common.{List, ℕ, Option, ◌≡◌, ◌++◌, codes, sym, ap, subst, ◌∙◌}
use Rattle.std.specs.Prelude.{IfSome, Vec}
use Rattle.std.specs.declared.alloc.Global.{Global}
use Rattle.cq_theory.specs.SchemaData.{SchemaData}
use Rattle.cq_theory.specs.TypesideData.{TypesideData}
use Rattle.cq_theory.specs.ValueText.{con_text}
use Rattle.cq_proof.specs.Answers.{Proves}
use Rattle.cq_steps.specs.declared.step.Step.{Step}
use Rattle.cq_conflict.specs.declared.constants.TypedConstant.{TypedConstant}
use Rattle.cq_conflict.specs.Conflict.{equation_of_constants}
use Rattle.cq_conflict.specs.Telling.{TellsSteps}
use Rattle.cq_conflict.proofs.Appended.{conflict_told}
use Rattle.cq_conflict.proofs.telling.push_conflict.Goals as goal

pub returns-clause-told : goal.returns-clause-told
returns-clause-told g c =
    let S : SchemaData = c.args.told.now.schema.now in
    let P = c.args.told.now.presentation.now in
    let T : c.deref-typeside.result.now ≡ S.typeside = c.deref-typeside.ensures ∙ ap (λ (q : SchemaData). q.typeside) c.schema.view_is in
    let first =
    subst (λ (o : Option TypedConstant). IfSome o (λ k. con_text c.deref-typeside.result.now k.constant ≡ c.args.constants.now.least.now)) c.in-Some.is c.in_ok-least.ensures.printed in
    let second =
    subst (λ (o : Option TypedConstant). IfSome o (λ k. con_text c.deref-typeside.result.now k.constant ≡ c.args.constants.now.greater.now)) c.in-Some-2.is c.in_ok-greater.ensures.printed in
    let proves =
    subst (λ (o : Option (Vec Step Global)). IfSome o (λ s. Proves S P s.items (equation_of_constants c.in-Some.least.constant c.in-Some-2.greater.constant))) c.in-Some-found.is
    c.in_ok-found.ensures in
    let because : c.extend_from_slice.new.self.items ≡ c.args.text.now.items ++ codes "Because\n" = c.in_ok-extend_from_slice.ensures.items in
    let tells =
    subst (λ (l : List Step). TellsSteps S l c.extend_from_slice.new.self.items c.push_steps.new.text.items) c.as_slice.ensures.value c.in_ok-push_steps.ensures.told in
    conflict_told S P c.args.constants.now.least.now c.args.constants.now.greater.now c.args.text.now.items c.extend_from_slice.new.self.items c.push_steps.new.text.items
    c.in-Some.least.constant c.in-Some-2.greater.constant c.in-Some-found.steps.items (ap (λ (t : TypesideData). con_text t c.in-Some.least.constant) (sym T) ∙ first)
    (ap (λ (t : TypesideData). con_text t c.in-Some-2.greater.constant) (sym T) ∙ second) proves because tells
