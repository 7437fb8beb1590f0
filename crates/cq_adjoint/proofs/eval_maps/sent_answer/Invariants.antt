use Rattle.std.proofs.Common.{◌≡◌, map, take}
use Rattle.std.specs.Prelude.{slice_index}
use Rattle.std.specs.List.{enumerate_from}
use Rattle.cq_theory.specs.Homomorphism.{row_image}
use Rattle.cq_adjoint.proofs.eval_maps.sent_answer.Given as goal

abbrev pub invariant-loop-number : goal.invariant-loop-number
invariant-loop-number l =
    l.made.items ≡ map (λ v. row_image l.evaluating.source.now.schema l.evaluating.source.now.tables l.evaluating.target.now.tables l.evaluating.moved.now.rows l.evaluating.moved.now.nulls v.1.1
    (slice_index l.rows v.0)) (enumerate_from 0 (take l.number l.variables))
