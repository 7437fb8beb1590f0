use Rattle.std.proofs.Common.{ℕ, map}
use Rattle.cq_theory.specs.declared.presentation.Sort.TheVariants.{Entity}
use Rattle.cq_query.proofs.Copying.{pushed_below}
use Rattle.cq_query.proofs.sorts.push_rows_sorts.Goals as goal

pub loop-row-preserved : goal.loop-row-preserved
loop-row-preserved c = pushed_below (λ (row : ℕ). map (λ v. Entity v.1) c.args.vars.now) c.args.made.now.items c.loop-row.made.items _ c.loop-row._row c.loop-row.invariant c.in_ok-push_row_sorts.ensures
