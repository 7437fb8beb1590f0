use Rattle.std.proofs.Common.{◌≡◌, ◌++◌}
use Rattle.std.specs.List.{flat_map}
use Rattle.cq_theory.specs.Canonical.{below}
use Rattle.cq_adjoint.specs.Answering.{answers_in}
use Rattle.cq_adjoint.specs.AnswerNames.{rows_named}
use Rattle.cq_adjoint.proofs.answering.push_rows.Given as goal

abbrev pub invariant-loop-row : goal.invariant-loop-row
invariant-loop-row l =
    l.made.items ≡ l.initial.made.items
    ++ flat_map (rows_named l.answering.query.now l.answering.moved.now l.answering.source.now l.answering.target.now l.answering.evaluated.now (answers_in l.answering) l.entity) (below l.row)
