use Rattle.std.proofs.Common.{sym, subst}
use Rattle.cq_transform.specs.Nulls.{Found, AreEntriesClosed}
use Rattle.cq_transform.proofs.Spelled.{keeps-then}
use Rattle.cq_transform.proofs.entries.find_entries.Goals as goal

pub loop-changed-preserved : goal.loop-changed-preserved
loop-changed-preserved c = record {
  keeps = keeps-then c.args.found.now.items c.loop-changed.found.items c.find_once.new.found.items c.loop-changed.invariant.keeps c.in_ok-changed.ensures.keeps;
  spelled = λ i B initial here all. c.in_ok-changed.ensures.spelled i B initial here (c.loop-changed.invariant.spelled i B initial here all);
  closed = λ e.
      let h = c.in_ok-changed.ensures.closed e in
      subst (λ (found : Found). AreEntriesClosed found c.args.here.now) (sym h.0) h.1;
}

pub returns-clause-closed : goal.returns-clause-closed
returns-clause-closed c = c.loop-changed.invariant.closed c.loop-changed-test.false
