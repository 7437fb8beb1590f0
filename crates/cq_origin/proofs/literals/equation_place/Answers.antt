use Rattle.std.proofs.Common.{Some, None}
use Rattle.cq_origin.proofs.Placing.{among, place_is}
use Rattle.cq_origin.proofs.literals.equation_place.Goals as goal

pub returns-in-Some-clause-place : goal.returns-in-Some-clause-place
returns-in-Some-clause-place c = place_is c.args.literal.now c.args.number (Some c.in-Some.equation.now) c.in-Some.ensures

pub returns-in-Some-clause-among : goal.returns-in-Some-clause-among
returns-in-Some-clause-among c = among c.args.literal.now c.args.number (Some c.in-Some.equation.now) c.in-Some.ensures

pub returns-in-None-clause-place : goal.returns-in-None-clause-place
returns-in-None-clause-place c = place_is c.args.literal.now c.args.number None c.in-None.ensures

pub returns-in-None-clause-among : goal.returns-in-None-clause-among
returns-in-None-clause-among c = among c.args.literal.now c.args.number None c.in-None.ensures
