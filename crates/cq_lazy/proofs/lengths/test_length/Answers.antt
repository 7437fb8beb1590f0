use Rattle.std.proofs.Common.{arith}
use Rattle.cq_lazy.proofs.Widening.{typ_short}
use Rattle.cq_lazy.proofs.lengths.test_length.Goals as goal

pub returns-in_ok-right-in-Typ : goal.returns-in_ok-right-in-Typ
returns-in_ok-right-in-Typ c =
    typ_short c.args.under.now c.max-in-Typ.result c.in-Typ.left c.in-Typ.right c.args.test.now c.in-Typ.is
    (omega (arith, c.in_ok-left-in-Typ.ensures 0, c.max-in-Typ.ensures)) (omega (arith, c.in_ok-right-in-Typ.ensures 0, c.max-in-Typ.ensures))
