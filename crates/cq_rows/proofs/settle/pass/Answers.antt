use Rattle.cq_rows.specs.Origin.{theory_at}
use Rattle.cq_rows.proofs.Ready.{ready_after}
use Rattle.cq_rows.proofs.Passing.{Passes-inner, Passes-both}
use Rattle.cq_rows.proofs.settle.pass.Goals as goal

pub returns-then-now : goal.returns-then-now
returns-then-now c = Passes-inner (theory_at c.args.origin.now) c.args.tables.now c.pass_rules.new.tables c.pass_given.new.tables c.args.rows.now c.pass_rules.new.rows c.pass_given.new.rows c.in_ok-before.before c.in_ok-now.now _ _ _ c.if-now.true c.in_ok-before.ensures c.in_ok-now.ensures

pub returns : goal.returns
returns c = Passes-both (theory_at c.args.origin.now) c.args.tables.now c.pass_rules.new.tables c.pass_given.new.tables c.args.rows.now c.pass_rules.new.rows c.pass_given.new.rows c.in_ok-before.before c.in_ok-now.now c.if-now.false c.in_ok-before.ensures c.in_ok-now.ensures

pub pass_given-requires : goal.pass_given-requires
pass_given-requires c = record { ready = ready_after _ _ _ _ _ c.requires.ready c.in_ok-before.ensures.settling }
