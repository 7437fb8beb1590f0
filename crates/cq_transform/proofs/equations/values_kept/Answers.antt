use Rattle.std.proofs.Common.{map}
use Rattle.cq_instance.specs.Standing.{meaning}
use Rattle.cq_transform.proofs.KeptSides.{kept_values}
use Rattle.cq_transform.proofs.equations.values_kept.Goals as goal

pub returns : goal.returns
returns c =
    kept_values c.args.target.now.tables (map meaning c.args.standings.now) c.args.left.now c.args.right.now c.in_ok-first.first c.in_ok-second.second c.is_same_value.result
    c.in_ok-first.ensures c.in_ok-second.ensures c.is_same_value.ensures
