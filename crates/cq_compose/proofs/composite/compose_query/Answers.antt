use Rattle.std.proofs.Common.{ap, sym, subst, ◌∙◌}
use Rattle.cq_query.specs.QueryData.{QueryData as Query}
use Rattle.cq_theory.specs.Tables.{Tables}
use Rattle.cq_query.specs.Answers.{IsEval}
use Rattle.cq_query.specs.Duties.{Sound}
use Rattle.cq_compose.proofs.AnswersInTurn.{composite_answers}
use Rattle.cq_compose.proofs.Finishing.{composite_made, composite_made-is}
use Rattle.cq_compose.proofs.SoundComposites.{composite_sound}
use Rattle.cq_compose.proofs.composite.compose_query.Goals as goal

pub of_blocks-requires : goal.of_blocks-requires
of_blocks-requires c =
    composite_made-is c.args.first.now c.args.second.now c.in_ok-source.source.value c.in_ok-target.target.value c.from_vec.result
    (c.in_ok-source.ensures.cases ∙ ap (λ (q : Query). q.source) c.first.view_is) (c.in_ok-target.ensures.cases ∙ ap (λ (q : Query). q.target) c.second.view_is)
    (c.from_vec.ensures ∙ c.in_ok-blocks.ensures.made) c.is_well_sorted.ensures c.is_well_sorted-2.ensures c.requires (sym c.in_ok-is_large.ensures ∙ c.if-branch.false)

pub returns-in-Ok-clause-sound : goal.returns-in-Ok-clause-sound
returns-in-Ok-clause-sound c =
    let is = c.in-Ok.ensures ∙ composite_made c.args.first.now c.args.second.now c.in_ok-source.source.value c.in_ok-target.target.value c.from_vec.result
    (c.in_ok-source.ensures.cases ∙ ap (λ (q : Query). q.source) c.first.view_is) (c.in_ok-target.ensures.cases ∙ ap (λ (q : Query). q.target) c.second.view_is)
    (c.from_vec.ensures ∙ c.in_ok-blocks.ensures.made) in
    λ first second. subst Sound (sym is) (composite_sound c.args.first.now c.args.second.now c.is_well_sorted.ensures c.is_well_sorted-2.ensures (sym c.requires) first second)

pub returns-in-Ok-clause-evals : goal.returns-in-Ok-clause-evals
returns-in-Ok-clause-evals c =
    let is = c.in-Ok.ensures ∙ composite_made c.args.first.now c.args.second.now c.in_ok-source.source.value c.in_ok-target.target.value c.from_vec.result
    (c.in_ok-source.ensures.cases ∙ ap (λ (q : Query). q.source) c.first.view_is) (c.in_ok-target.ensures.cases ∙ ap (λ (q : Query). q.target) c.second.view_is)
    (c.from_vec.ensures ∙ c.in_ok-blocks.ensures.made) in
    λ M N R one other. subst (λ (q : Query). IsEval q M R) (sym is)
    (composite_answers c.args.first.now c.args.second.now c.is_well_sorted.ensures c.is_well_sorted-2.ensures (sym c.requires) M N R one other)
