use Rattle.std.proofs.Common.{◌<◌, length, get_or, ap, ◌∙◌, arith}
use Rattle.cq_flat.proofs.Numbered.{tail_more, place_written}
use Rattle.cq_flat.proofs.labels.write_place.Goals as goal

pub loop-placed-preserved : goal.loop-placed-preserved
loop-placed-preserved c = record {
  same = λ k. ap (λ xs. get_or xs k c.args.count) c.in_ok-push.ensures.items ∙ tail_more c.args.count c.loop-placed.placed.items k ∙ c.loop-placed.invariant.same k;
}

pub returns : goal.returns
returns c =
    let l : c.args.class < length c.loop-placed.placed.items = omega (arith, c.loop-placed-test.false, c.len.ensures, c.loop-placed.placed.ok.0) in
    place_written c.args.count c.args.placed.now.items c.loop-placed.placed.items c.args.class c.args.place l c.loop-placed.invariant.same
