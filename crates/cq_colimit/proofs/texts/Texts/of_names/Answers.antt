use Rattle.cq_colimit.proofs.Among.{among_step}
use Rattle.cq_colimit.proofs.texts.Texts.of_names.Goals as goal

pub loop-name-preserved : goal.loop-name-preserved
loop-name-preserved c =
    among_step c.args.names.now c.loop-name.name-index c.name-item.result c.in_ok-of_name.field-0 c.loop-name.made c.add.new.self c.loop-name-test.true
    c.name-item.is c.in_ok-of_name.ensures c.loop-name.invariant c.in_ok-add.ensures
