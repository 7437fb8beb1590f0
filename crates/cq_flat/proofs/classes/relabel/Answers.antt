use Rattle.std.proofs.Common.{◌<◌, length, arith, sym, ◌∙◌}
use Rattle.std.proofs.lemmas.List.{get_or_default}
use Rattle.cq_flat.proofs.Relabelling.{relabelling_start, relabelling_more, relabelling_fewer, relabelled}
use Rattle.cq_flat.proofs.Staling.{staling_start, staling_more, staled}
use Rattle.cq_flat.proofs.classes.relabel.Goals as goal

pub loop-classes-init : goal.loop-classes-init
loop-classes-init c = record {
  classes = relabelling_start c.args.classes.now.items c.args.following.now c.args.from c.args.to c.requires.rings c.requires.from c.requires.root;
  stale = staling_start c.args.classes.now.items c.args.uses.now c.args.from c.args.stale.now.items;
}

pub loop-classes-preserved : goal.loop-classes-preserved
loop-classes-preserved c =
    let i = c.loop-classes.invariant.classes in
    let l : c.loop-classes.node < length c.loop-classes.classes.items = omega (arith, i.within, i.count) in
    let e = get_or_default c.loop-classes.classes.items c.loop-classes.node 0 c.index.result.now l ∙ sym c.index.ensures ∙ c.loop-classes-test.true in
    record {
      classes = relabelling_more c.args.classes.now.items c.loop-classes.classes.items c.args.following.now c.args.from c.args.to c.loop-classes.node c.requires.rings c.requires.differ i e;
      stale = rw (c.in_ok-extend_from_slice.ensures.items, c.get.ensures, c.from.ensures)
          (staling_more c.args.classes.now.items c.loop-classes.classes.items c.args.uses.now c.args.from c.args.to c.args.stale.now.items c.loop-classes.stale.items c.loop-classes.invariant.stale c.loop-classes.node);
    }

pub loop-classes-smaller : goal.loop-classes-smaller
loop-classes-smaller c =
    let i = c.loop-classes.invariant.classes in
    let l : c.loop-classes.node < length c.loop-classes.classes.items = omega (arith, i.within, i.count) in
    let e = get_or_default c.loop-classes.classes.items c.loop-classes.node 0 c.index.result.now l ∙ sym c.index.ensures ∙ c.loop-classes-test.true in
    relabelling_fewer c.args.classes.now.items c.loop-classes.classes.items c.args.following.now c.args.from c.args.to c.loop-classes.node c.requires.rings c.requires.differ i e

pub returns-clause-classes : goal.returns-clause-classes
returns-clause-classes c =
    let i = c.loop-classes.invariant.classes in
    let l : c.loop-classes.node < length c.loop-classes.classes.items = omega (arith, i.within, i.count) in
    let e = get_or_default c.loop-classes.classes.items c.loop-classes.node 0 c.index.result.now l ∙ sym c.index.ensures in
    relabelled c.args.classes.now.items c.loop-classes.classes.items c.args.following.now c.args.from c.args.to c.loop-classes.node c.requires.rings c.requires.differ i (λ j. c.loop-classes-test.false (sym e ∙ j))

pub returns-clause-stale : goal.returns-clause-stale
returns-clause-stale c =
    let i = c.loop-classes.invariant.classes in
    let l : c.loop-classes.node < length c.loop-classes.classes.items = omega (arith, i.within, i.count) in
    let e = get_or_default c.loop-classes.classes.items c.loop-classes.node 0 c.index.result.now l ∙ sym c.index.ensures in
    let done = relabelled c.args.classes.now.items c.loop-classes.classes.items c.args.following.now c.args.from c.args.to c.loop-classes.node c.requires.rings c.requires.differ i (λ j. c.loop-classes-test.false (sym e ∙ j)) in
    staled c.args.classes.now.items c.loop-classes.classes.items c.args.uses.now c.args.from c.args.to c.args.stale.now.items c.loop-classes.stale.items c.loop-classes.invariant.stale c.requires.differ done
