use Rattle.std.proofs.Common.{◌∙◌, sym}
use Rattle.cq_program.proofs.ColimitsPosed.{no_part, part_found, part_passed}
use Rattle.cq_program.proofs.colimits.stating.find_part.Goals as goal

pub returns-then-eq : goal.returns-then-eq
returns-then-eq c =
    sym (part_found c.args.name.now c.args.parts.now c.loop-part.part-index c.part-item.result c.loop-part-test.true c.part-item.is c.loop-part.invariant
    (sym c.if-eq.true ∙ c.eq.ensures))

pub loop-part-preserved : goal.loop-part-preserved
loop-part-preserved c =
    part_passed c.args.name.now c.args.parts.now c.loop-part.part-index c.part-item.result c.loop-part-test.true c.part-item.is c.loop-part.invariant c.if-eq.ensures

pub returns : goal.returns
returns c = sym (no_part c.args.name.now c.args.parts.now c.loop-part.part-index c.loop-part-test.false c.loop-part.invariant)
