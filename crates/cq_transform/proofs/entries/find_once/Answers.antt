use Rattle.std.proofs.Common.{ℕ, Some, ◌≡◌, ◌<◌, sym, ◌∙◌, arith}
use Rattle.std.specs.Prelude.{slice_get}
use Rattle.std.proofs.lemmas.Option.{slice_get_within}
use Rattle.cq_theory.specs.declared.value.Entry.{Entry}
use Rattle.cq_transform.specs.Nulls.{IsEntryClosed}
use Rattle.cq_transform.proofs.Spelled.{keeps-then}
use Rattle.cq_transform.proofs.Steps.{entry_of, once_more, once_closed}
use Rattle.cq_transform.proofs.entries.find_once.Goals as goal

pub loop-entry-preserved : goal.loop-entry-preserved
loop-entry-preserved c = record {
  keeps = keeps-then c.args.found.now.items c.loop-entry.found.items c.find_entry.new.found.items c.loop-entry.invariant.keeps c.in_ok-find_entry.ensures.keeps;
  spelled = λ i B initial here all.
      c.in_ok-find_entry.ensures.spelled i B initial (entry_of i c.args.here.now c.loop-entry.entry-index c.entry-item.result here c.loop-entry-test.true c.entry-item.is)
      (c.loop-entry.invariant.spelled i B initial here all);
  more = λ e.
      once_more c.loop-entry.changed c.in_ok-find_entry.field-0 c.args.found.now.items c.loop-entry.found.items c.find_entry.new.found.items
      ((n : ℕ) → n < c.loop-entry.entry-index → (e : Entry) → slice_get c.args.here.now n ≡ Some e → IsEntryClosed c.args.found.now.items e)
      (IsEntryClosed c.loop-entry.found.items c.entry-item.result)
      c.loop-entry.invariant.more c.loop-entry.invariant.closed c.in_ok-find_entry.ensures.more c.in_ok-find_entry.ensures.closed (sym c.either-changed.ensures ∙ e);
  closed = λ e.
      once_closed c.args.here.now c.loop-entry.entry-index c.entry-item.result c.loop-entry.changed c.in_ok-find_entry.field-0
      c.args.found.now.items c.loop-entry.found.items c.find_entry.new.found.items c.loop-entry-test.true c.entry-item.is
      c.loop-entry.invariant.closed c.in_ok-find_entry.ensures.closed (sym c.either-changed.ensures ∙ e);
}

pub returns-clause-closed : goal.returns-clause-closed
returns-clause-closed c = λ e.
    let h = c.loop-entry.invariant.closed e in
    (h.0, λ n entry at. h.1 n (omega (arith, c.loop-entry-test.false, slice_get_within c.args.here.now n entry at)) entry at)
