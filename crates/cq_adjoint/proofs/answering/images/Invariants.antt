use Rattle.std.proofs.Common.{◌≡◌}
use Rattle.std.specs.List.{flat_map}
use Rattle.cq_theory.specs.Canonical.{below}
use Rattle.cq_theory.specs.Tables.{count_of}
use Rattle.cq_adjoint.specs.Answering.{answers_in}
use Rattle.cq_adjoint.specs.AnswerNames.{rows_named}
use Rattle.cq_adjoint.proofs.answering.images.Given as goal

abbrev pub invariant-loop-entity : goal.invariant-loop-entity
invariant-loop-entity l =
    l.images.items ≡ flat_map (λ entity. flat_map (rows_named l.answering.query.now l.answering.moved.now l.answering.source.now l.answering.target.now l.answering.evaluated.now (answers_in l.answering) entity)
    (below (count_of l.answering.source.now.tables entity))) (below l.entity)
