use Rattle.std.proofs.Common.{map}
use Rattle.cq_instance.specs.Standing.{meaning}
use Rattle.cq_transform.proofs.Loops.{read_at}
use Rattle.cq_transform.proofs.KeptSides.{equal_more, first_unequal}
use Rattle.cq_transform.proofs.equations.check_equations.Goals as goal

pub check_equation-requires-clause-sides : goal.check_equation-requires-clause-sides
check_equation-requires-clause-sides c =
    c.requires c.loop-place.place c.index-equations-place.result
    (read_at c.args.equations.now c.loop-place.place c.index-equations-place.result c.loop-place-test.true c.index-equations-place.is)

pub returns-in-Err-clause-refused : goal.returns-in-Err-clause-refused
returns-in-Err-clause-refused c =
    first_unequal c.args.target.now.tables (map meaning c.args.standings.now) c.args.equations.now c.loop-place.place c.index-equations-place.result
    c.loop-place-test.true c.index-equations-place.is c.loop-place.invariant c.in-Err.refusal c.in-Err.ensures.refused

pub loop-place-preserved : goal.loop-place-preserved
loop-place-preserved c =
    equal_more c.args.target.now.tables (map meaning c.args.standings.now) c.args.equations.now c.loop-place.place c.index-equations-place.result
    c.loop-place-test.true c.index-equations-place.is c.loop-place.invariant c.in_default.ensures.kept
