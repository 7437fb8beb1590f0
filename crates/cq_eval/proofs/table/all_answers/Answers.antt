use Rattle.std.proofs.Common.{ℕ, List, [], ◌∷◌, ◌++◌, ◌≤◌, length, sym, subst, ◌∙◌, arith}
use Rattle.cq_theory.specs.Tables.{Tables}
use Rattle.cq_query.specs.QueryData.{QueryData as Query}
use Rattle.cq_eval.specs.Made.{answers_of}
use Rattle.cq_eval.proofs.Told.{few_more, few_all, below_one_more}
use Rattle.cq_eval.proofs.table.all_answers.Goals as goal

pub loop-entity-init : goal.loop-entity-init
loop-entity-init c = record {
  kept = c.new-kept.ensures c.args.instance.now.tables;
  answers = c.in_ok-made.ensures.items;
  few = λ e less. absurd (omega arith);
}

pub loop-entity-preserved : goal.loop-entity-preserved
loop-entity-preserved c =
    let Q : Query = c.args.query.now in
    let M : Tables = c.args.instance.now.tables in
    let entity : ℕ = c.loop-entity.entity in
    record {
      kept = c.in-Ok.ensures.kept;
      answers = c.in_ok-push_answers-in-Ok.ensures ∙ (λ j. c.loop-entity.invariant.answers j ++ c.in-Ok.ensures.answers j ∷ []) ∙ sym (below_one_more (answers_of Q M) entity);
      few = few_more (λ e. length (answers_of Q M e)) entity c.loop-entity.invariant.few (subst (λ (l : List (List ℕ)). length l ≤ 1000000) c.in-Ok.ensures.answers c.in-Ok.ensures.few);
    }

pub returns-clause-few : goal.returns-clause-few
returns-clause-few c = few_all (answers_of c.args.query.now c.args.instance.now.tables) c.loop-entity.entity c.loop-entity.made.items c.loop-entity.invariant.answers c.loop-entity.invariant.few
