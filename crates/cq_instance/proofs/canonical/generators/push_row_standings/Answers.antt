use Rattle.std.proofs.Common.{map, refl}
use Rattle.cq_theory.specs.Tables.{AtRow}
use Rattle.cq_instance.specs.Standing.{meaning}
use Rattle.cq_instance.specs.declared.standing.Standing.TheVariants.{Row}
use Rattle.cq_instance.proofs.Pushed.{standing_more}
use Rattle.cq_instance.proofs.canonical.generators.push_row_standings.Goals as goal

pub loop-row-preserved : goal.loop-row-preserved
loop-row-preserved c =
    standing_more AtRow (map meaning c.args.made.now.items) c.loop-row.made.items _ c.loop-row.row (Row c.loop-row.row) c.loop-row.invariant c.in_ok-push.ensures.items refl
