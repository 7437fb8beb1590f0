use Rattle.std.proofs.Common.{◌<◌}
use Rattle.cq_tables.specs.Content.{made_of}
use Rattle.cq_rows.specs.Origin.{theory_at}
use Rattle.cq_rows.specs.Outline.{HasEntity}
use Rattle.cq_rows.specs.Rows.{HasRows}
use Rattle.cq_rows.proofs.grow.begin.Given as goal

abbrev pub invariant-loop-generator : goal.invariant-loop-generator
invariant-loop-generator l = record {
  rows : HasRows (theory_at l.origin) l.tables l.entries.items l.generator-index;
  some : 0 < made_of l.tables → HasEntity l.origin.presentation.now;
}
