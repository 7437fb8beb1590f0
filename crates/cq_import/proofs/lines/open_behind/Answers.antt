use Rattle.cq_import.specs.Records.{records_of}
use Rattle.cq_import.proofs.Checked.{ended, taken}
use Rattle.cq_import.proofs.Stepping.{behind}
use Rattle.cq_import.proofs.lines.open_behind.Goals as goal

pub returns-then-branch : goal.returns-then-branch
returns-then-branch c = behind _ c.args.text.now _ (taken _ (records_of c.args.text.now) _ _ c.if-branch.true (c.in_ok-next.ensures (records_of c.args.text.now) c.open-opened.ensures))

pub returns : goal.returns
returns c = ended _ (records_of c.args.text.now) _ _ c.if-branch.false (c.in_ok-next.ensures (records_of c.args.text.now) c.open-opened.ensures)
