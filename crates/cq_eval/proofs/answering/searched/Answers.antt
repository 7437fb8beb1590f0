use Rattle.std.proofs.Common.{ℕ, List, ◌==◌, ◌+◌, map, length, sym, ap, subst, ◌∙◌}
use Rattle.std.specs.List.{list_any}
use Rattle.cq_theory.specs.Canonical.{below}
use Rattle.cq_theory.specs.Groups.{positions}
use Rattle.cq_query.specs.Answers.{IsTuple}
use Rattle.cq_eval.specs.Border.{IsBorder}
use Rattle.cq_eval.specs.Index.{AreIndexes}
use Rattle.cq_eval.specs.Join.{IsLast}
use Rattle.cq_eval.specs.Testing.{stage}
use Rattle.cq_eval.proofs.Extended.{no_answers}
use Rattle.cq_eval.proofs.answering.searched.Goals as goal

pub returns-then-has_none-clause-answers : goal.returns-then-has_none-clause-answers
returns-then-has_none-clause-answers c =
    c.new.ensures.items
    ∙ no_answers c.args.instance.now.tables c.args.tests.now c.args.counts (ap (list_any (λ count. count == 0)) (sym c.as_slice.ensures) ∙ sym c.has_none.ensures ∙ c.if-has_none.true)

pub indexes-requires-clause-typed : goal.indexes-requires-clause-typed
indexes-requires-clause-typed c = λ rows tuple n e at. c.requires.typed rows (subst (IsTuple rows) c.as_slice-4.ensures tuple) n e at

pub answers-requires-clause-join : goal.answers-requires-clause-join
answers-requires-clause-join c = record {
  staged = c.in_ok-groups.ensures
      ∙ (λ j. map (positions (map (stage (length (c.as_slice-2.ensures j))) c.args.tests.now)) (below (length (c.as_slice-2.ensures j) + 1)));
  typed = c.requires.typed;
}

pub answers-requires-clause-indexed : goal.answers-requires-clause-indexed
answers-requires-clause-indexed c = subst (λ (l : List ℕ). AreIndexes c.args.instance.now.tables l c.args.tests.now c.in_ok-indexes.indexes) c.as_slice-4.ensures c.in_ok-indexes.ensures.indexes

pub answers-requires-clause-last : goal.answers-requires-clause-last
answers-requires-clause-last c = subst (λ (l : List ℕ). IsLast c.args.tests.now l c.last_stage-last.result) c.as_slice-3.ensures c.last_stage-last.ensures

pub answers-requires-clause-long : goal.answers-requires-clause-long
answers-requires-clause-long c = c.in_ok-borders.ensures.long ∙ ap length c.as_slice-5.ensures

pub answers-requires-clause-borders : goal.answers-requires-clause-borders
answers-requires-clause-borders c = λ bound at.
    subst (λ (l : List ℕ). IsBorder (length l) c.args.tests.now bound) c.as_slice-5.ensures (c.in_ok-borders.ensures.borders bound at)
