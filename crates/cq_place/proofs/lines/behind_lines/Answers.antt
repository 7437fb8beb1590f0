use Rattle.std.proofs.Common.{◌≡◌, ◌-◌, ◌+◌, suc, ap, sym, ◌∙◌, arith}
use Rattle.cq_place.specs.Lines.{behind_lines}
use Rattle.cq_place.proofs.lines.behind_lines.Goals as goal

pub loop-line-preserved : goal.loop-line-preserved
loop-line-preserved c =
    let left = c.args.count - (c.loop-line._line + 1) in
    let one : c.args.count - c.loop-line._line ≡ suc left = omega arith in
    ap (behind_lines left) c.behind_line-rest.ensures ∙ (ap (λ n. behind_lines n c.loop-line.rest.now) (sym one) ∙ c.loop-line.invariant)

pub returns : goal.returns
returns c =
    let none : c.args.count - c.loop-line._line ≡ 0 = omega arith in
    ap (λ n. behind_lines n c.loop-line.rest.now) (sym none) ∙ c.loop-line.invariant
