use Rattle.std.proofs.Common.{map}
use Rattle.cq_program.proofs.AllAnswers.{AreSoFar}
use Rattle.cq_program.proofs.movements.queried.find_all_answers.Given as goal

-- the answers for the entities so far
abbrev pub invariant-loop-entity : goal.invariant-loop-entity
invariant-loop-entity l = AreSoFar l.query l.instance.tables (map (λ list. map (λ rows. rows.items) list.items) l.made.items) l.entity
