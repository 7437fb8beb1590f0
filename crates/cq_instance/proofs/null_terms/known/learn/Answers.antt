use Rattle.std.proofs.Common.{sym, ap, ◌∙◌}
use Rattle.cq_theory.specs.declared.value.Value.{Value}
use Rattle.cq_instance.specs.Learning.{learned}
use Rattle.cq_instance.proofs.Learnt.{lacking, placed}
use Rattle.cq_instance.proofs.null_terms.known.learn.Goals as goal

pub returns-in-Null : goal.returns-in-Null
returns-in-Null c =
    sym (ap (λ (v : Value). learned v c.args.term c.args.known.now.items) c.in-Null.is
    ∙ placed c.in-Null.label c.args.term c.args.known.now.items (lacking c.args.known.now.items c.args.value.now c.in-Null.label c.in-Null.is c.requires))
