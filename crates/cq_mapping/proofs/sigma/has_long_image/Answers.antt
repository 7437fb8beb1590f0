use Rattle.std.proofs.Common.{arith, ◌≡◌, true}
use Rattle.cq_mapping.specs.Images.{equation_image}
use Rattle.cq_theory.specs.Presentation.{has_long_side}
use Rattle.cq_mapping.proofs.ImagedPresentations.{any_image}
use Rattle.cq_mapping.proofs.sigma.has_long_image.Goals as goal

pub returns-then-is_long : goal.returns-then-is_long
returns-then-is_long c =
    let here : has_long_side (equation_image c.args.mapping.now c.equation-item.result) ≡ true = cc in
    any_image has_long_side (equation_image c.args.mapping.now) c.args.equations.now c.loop-equation.equation-index c.equation-item.result (omega arith) c.equation-item.is here
