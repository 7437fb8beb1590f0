use Rattle.std.proofs.Common.{◌≡◌, ◌++◌, map}
use Rattle.cq_theory.specs.Canonical.{below}
use Rattle.cq_adjoint.specs.Answering.{answers_in}
use Rattle.cq_adjoint.specs.AnswerNames.{null_named}
use Rattle.cq_instance.specs.Spelling.{term_among}
use Rattle.cq_adjoint.proofs.answering.push_nulls.Given as goal

abbrev pub invariant-loop-label : goal.invariant-loop-label
invariant-loop-label l =
    l.made.items ≡ l.initial.made.items
    ++ map (null_named l.answering.query.now l.answering.moved.now l.answering.source.now l.answering.target.now l.answering.evaluated.now (answers_in l.answering) (term_among l.answering.null_terms.now)) (below l.label)
