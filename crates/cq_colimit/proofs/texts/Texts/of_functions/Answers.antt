use Rattle.cq_theory.specs.declared.typeside.Fun.{Fun}
use Rattle.cq_colimit.proofs.Among.{among_named}
use Rattle.cq_colimit.proofs.texts.Texts.of_functions.Goals as goal

pub loop-function-preserved : goal.loop-function-preserved
loop-function-preserved c =
    among_named (λ (f : Fun). f.name) c.args.functions.now c.loop-function.function-index c.function-item.result c.in_ok-of_name.field-0 c.loop-function.made c.add.new.self
    c.loop-function-test.true c.function-item.is c.in_ok-of_name.ensures c.loop-function.invariant c.in_ok-add.ensures
