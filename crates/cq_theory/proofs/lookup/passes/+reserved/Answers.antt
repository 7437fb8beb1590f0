use Rattle.std.proofs.Common.{arith, ◌≡◌, true, false}
use Rattle.cq_theory.specs.Resolve.{has_reserved}
use Rattle.cq_theory.proofs.Lists.{part_true}
use Rattle.cq_theory.proofs.lookup.passes.+reserved.Goals as goal

pub has_reserved_part-returns-then-has_reserved : goal.has_reserved_part-returns-then-has_reserved
has_reserved_part-returns-then-has_reserved t c =
    let here : has_reserved c.args.schema.now c.arg-item.result ≡ true = cc in
    part_true false (has_reserved c.args.schema.now) c.args.args.now c.loop-arg.arg-index c.arg-item.result (omega arith) c.arg-item.is here
