use Rattle.std.proofs.Common.{ℕ, ◌++◌, map, slice_index, ap, ◌∙◌}
use Rattle.cq_theory.specs.Canonical.{below}
use Rattle.cq_theory.specs.Tables.{AtRow}
use Rattle.cq_instance.specs.Standing.{meaning}
use Rattle.cq_instance.proofs.Pushed.{pushed_below}
use Rattle.cq_instance.proofs.canonical.generators.push_all_standings.Goals as goal

pub loop-entity-preserved : goal.loop-entity-preserved
loop-entity-preserved c =
    pushed_below (λ (entity : ℕ). map AtRow (below (slice_index c.args.counts.now entity))) (map meaning c.args.made.now.items) (map meaning c.loop-entity.made.items) _ c.loop-entity.entity c.loop-entity.invariant
    (c.in_ok-push_row_standings.ensures ∙ ap (λ n. map meaning c.loop-entity.made.items ++ map AtRow (below n)) c.number_at.ensures)
