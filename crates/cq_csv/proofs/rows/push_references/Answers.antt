use Rattle.cq_csv.specs.Files.{reference}
use Rattle.cq_csv.proofs.Adds.{adds_more, adds_nothing}
use Rattle.cq_csv.proofs.rows.push_references.Goals as goal

pub loop-key-init : goal.loop-key-init
loop-key-init c = adds_nothing c.args.fields.now c.requires.whole

pub loop-key-preserved : goal.loop-key-preserved
loop-key-preserved c =
    adds_more (reference c.args.instance.now c.args.row) c.args.keys.now c.loop-key.key-index 0 c.args.fields.now c.loop-key.fields c.push_reference.new.fields
    c.loop-key-test.true c.loop-key.invariant c.in_ok-push_reference.ensures
