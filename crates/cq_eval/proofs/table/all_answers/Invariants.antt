use Rattle.std.proofs.Common.{ℕ, ◌≡◌, ◌<◌, ◌≤◌, map, length}
use Rattle.cq_theory.specs.Canonical.{below}
use Rattle.cq_eval.specs.Kept.{AreKept}
use Rattle.cq_eval.specs.Made.{answers_of}
use Rattle.cq_eval.proofs.table.all_answers.Given as goal

abbrev pub invariant-loop-entity : goal.invariant-loop-entity
invariant-loop-entity l = record {
  kept : AreKept l.instance.tables l.kept;
  answers : l.made.items ≡ map (answers_of l.query l.instance.tables) (below l.entity);
  few : (e : ℕ) → e < l.entity → length (answers_of l.query l.instance.tables e) ≤ 1000000;
}
