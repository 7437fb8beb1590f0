use Rattle.std.proofs.Common.{◌≡◌, ◌++◌, map, take}
use Rattle.std.specs.List.{enumerate_from}
use Rattle.cq_adjoint.specs.Answering.{answers_in}
use Rattle.cq_adjoint.specs.AnswerNames.{row_named}
use Rattle.cq_adjoint.proofs.answering.push_names.Given as goal

abbrev pub invariant-loop-number : goal.invariant-loop-number
invariant-loop-number l =
    l.made.items ≡ l.initial.made.items
    ++ map (row_named l.answering.query.now l.answering.moved.now l.answering.source.now l.answering.target.now l.answering.evaluated.now (answers_in l.answering) l.entity l.row)
    (enumerate_from 0 (take l.number l.variables))
