use Rattle.std.proofs.Common.{◌≤◌, ◌≡◌, Option, Some, length, subst, sym, arith}
use Rattle.cq_blocks.specs.declared.block.Block.{Block}
use Rattle.cq_query.specs.Translation.{variables_in}
use Rattle.cq_query.proofs.query.Query.variable_count.Goals as goal

few_in : (o : Option Block) (b : Block) → length (variables_in o) ≤ 16000000 → Some b ≡ o → length b.vars ≤ 16000000
few_in o b few is = subst (λ (p : Option Block). length (variables_in p) ≤ 16000000) (sym is) few

pub overflow_cast-result : goal.overflow_cast-result
overflow_cast-result c = omega (arith, few_in _ _ (c.is_well_sorted.ensures.few c.args.entity) c.in-Some.ensures)

pub returns-in-Some-clause-few : goal.returns-in-Some-clause-few
returns-in-Some-clause-few c = omega (arith, few_in _ _ (c.is_well_sorted.ensures.few c.args.entity) c.in-Some.ensures)
