use Rattle.std.proofs.Common.{◌++◌, ◌+◌, ◌∙◌, ap}
use Rattle.cq_example.specs.Text.{equation_line}
use Rattle.cq_example.proofs.Counted.{line_more}
use Rattle.cq_example.proofs.lines.push_equations.Goals as goal

pub loop-before-preserved : goal.loop-before-preserved
loop-before-preserved c =
    c.in_ok-push_equation_line.ensures ∙ ap (λ l. l ++ equation_line (c.loop-before.before + 1)) c.loop-before.invariant
    ∙ line_more equation_line c.args.text.now.items c.loop-before.before
