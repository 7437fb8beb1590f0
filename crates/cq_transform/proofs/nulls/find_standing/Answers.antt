use Rattle.std.proofs.Common.{map}
use Rattle.cq_instance.specs.Standing.{meaning}
use Rattle.cq_transform.proofs.Spelled.{put_keeps, put_closed, put_standing}
use Rattle.cq_transform.proofs.nulls.find_standing.Goals as goal

pub returns-in_ok-value_in-clause-keeps : goal.returns-in_ok-value_in-clause-keeps
returns-in_ok-value_in-clause-keeps c =
    put_keeps c.args.found.now.items c.as_slice.result.now c.put.new.found.items c.args.value.now c.in_ok-value_in.field-0 c.in-Some.label
    c.as_slice.ensures.value c.in-Some.ensures.open c.put.ensures

pub returns-in_ok-value_in-clause-spelled : goal.returns-in_ok-value_in-clause-spelled
returns-in_ok-value_in-clause-spelled c =
    λ i j is all.
    put_standing c.args.found.now.items c.as_slice.result.now c.put.new.found.items c.args.value.now c.in_ok-value_in.field-0 c.in-Some.label
    c.as_slice.ensures.value c.in-Some.ensures.open c.put.ensures i j (map meaning c.args.standings.now) c.args.generator c.in_ok-value_in.ensures is all

pub returns-in_ok-value_in-clause-closed : goal.returns-in_ok-value_in-clause-closed
returns-in_ok-value_in-clause-closed c =
    put_closed c.args.found.now.items c.as_slice.result.now c.put.new.found.items c.args.value.now c.in_ok-value_in.field-0 c.in-Some.label
    c.as_slice.ensures.value c.in-Some.ensures.open c.put.ensures
