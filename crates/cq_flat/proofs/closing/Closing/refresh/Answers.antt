use Rattle.std.proofs.Common.{◌<◌, rules, arith, length, slice_index, ◌∙◌, ap, refl}
use Rattle.cq_flat.specs.Partition.{Has}
use Rattle.cq_flat.proofs.Entered.{enters_some}
use Rattle.cq_flat.proofs.closing.Closing.refresh.Goals as goal

pub enter_all-requires-clause-count : goal.enter_all-requires-clause-count
enter_all-requires-clause-count c = ap length c.as_slice.ensures.value ∙ c.requires.count

pub enter_all-requires-clause-entered : goal.enter_all-requires-clause-entered
enter_all-requires-clause-entered c = λ a h. c.requires.stale a (rw c.replace.ensures.value at ((c.distinct-stale.ensures a).1 (rw c.as_slice-2.ensures.value at h)))

pub returns : goal.returns
returns c = record {
  classes = refl;
  following = refl;
  uses = refl;
  stale = ap (λ v. v.items) c.replace.ensures.after ∙ c.new.ensures.items;
  idle = λ e.
      let some : 0 < length c.args.self.now.stale.items = search (rules, c.is_empty.ensures, c.if-is_empty.false) in
      absurd (omega (arith, some, ap length e));
  entered = enters_some c.args.nodes.now (slice_index c.args.self.now.classes.items) c.args.self.now.table c.enter_all.new.table c.args.self.now.pending.items c.enter_all.new.pending.items
      (Has c.distinct-stale.result.items) (Has c.args.self.now.stale.items) (λ a h. (c.distinct-stale.ensures a).0 (rw c.replace.ensures.value h))
      (rw (c.as_slice.ensures.value, c.as_slice-2.ensures.value) at c.in_ok-enter_all.ensures);
}
