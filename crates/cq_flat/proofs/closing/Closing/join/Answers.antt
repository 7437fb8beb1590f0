use Rattle.std.proofs.Common.{refl}
use Rattle.cq_flat.proofs.Rings.{rings_joined}
use Rattle.cq_flat.proofs.closing.Closing.join.Goals as goal

pub returns : goal.returns
returns c = record {
  classes = c.in_ok-relabel.ensures.classes;
  rings = rings_joined c.args.self.now.classes.items c.relabel.new.classes.items c.args.self.now.following.items c.swap.new.self.items c.args.from c.args.to
      c.requires.rings c.requires.from c.requires.to c.requires.from_root c.requires.to_root c.requires.differ c.in_ok-relabel.ensures.classes c.swap.ensures.by_index;
  uses = refl;
  table = refl;
  pending = refl;
  stale = c.in_ok-relabel.ensures.stale;
}
