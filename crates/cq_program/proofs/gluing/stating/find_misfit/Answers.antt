use Rattle.std.proofs.Common.{◌∙◌, sym}
use Rattle.cq_program.proofs.Operands.{fits_at, misfit_at, none_misfit}
use Rattle.cq_program.proofs.gluing.stating.find_misfit.Goals as goal

pub returns-then-ne : goal.returns-then-ne
returns-then-ne c =
    sym (misfit_at c.args.name.now c.args.operands.now c.loop-operand.operand-index c.operand-item.result c.loop-operand-test.true c.operand-item.is c.loop-operand.invariant
    (sym c.if-ne.true ∙ c.ne.ensures))

pub loop-operand-preserved : goal.loop-operand-preserved
loop-operand-preserved c =
    fits_at c.args.name.now c.args.operands.now c.loop-operand.operand-index c.operand-item.result c.loop-operand-test.true c.operand-item.is c.loop-operand.invariant c.if-ne.ensures

pub returns : goal.returns
returns c = sym (none_misfit c.args.name.now c.args.operands.now c.loop-operand.operand-index c.loop-operand-test.false c.loop-operand.invariant)
