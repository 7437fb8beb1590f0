use Rattle.std.proofs.Common.{◌∙◌}
use Rattle.std.specs.Prelude.{slice_index}
use Rattle.cq_theory.proofs.PartLoops.{map_whole}
use Rattle.cq_transform.proofs.composing.rows_then.Goals as goal

pub returns : goal.returns
returns c = c.from_vec.ensures ∙ map_whole (slice_index c.args.then.now) c.args.rows.now c.loop-row.row-index c.loop-row.made.items c.loop-row-test.false c.loop-row.invariant
