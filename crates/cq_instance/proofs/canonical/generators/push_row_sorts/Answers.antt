use Rattle.cq_theory.specs.declared.presentation.Sort.TheVariants.{Entity}
use Rattle.cq_instance.proofs.Pushed.{replicated_more}
use Rattle.cq_instance.proofs.canonical.generators.push_row_sorts.Goals as goal

pub loop-row-preserved : goal.loop-row-preserved
loop-row-preserved c = replicated_more (Entity c.args.entity) c.args.made.now.items c.loop-row.made.items _ c.loop-row._row c.loop-row.invariant c.in_ok-push.ensures.items
