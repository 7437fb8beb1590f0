use Rattle.cq_text.specs.Spelling.{key_equation_line}
use Rattle.cq_text.proofs.Belows.{flat_map-take_more}
use Rattle.cq_text.proofs.equations.push_keys.Goals as goal

pub loop-key-preserved : goal.loop-key-preserved
loop-key-preserved c =
    flat_map-take_more (key_equation_line c.args.instance.now.schema c.args.instance.now.tables c.args.generator c.args.row) c.args.text.now.items c.loop-key.text.items
    c.push_key.new.text.items c.args.keys.now c.loop-key.key-index 0 c.loop-key-test.true c.loop-key.invariant c.in_ok-push_key.ensures
