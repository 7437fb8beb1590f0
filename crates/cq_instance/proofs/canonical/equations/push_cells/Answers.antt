use Rattle.std.proofs.Common.{ℕ, List, ◌++◌, map, ap, ◌∙◌}
use Rattle.std.proofs.lemmas.List.{take_all}
use Rattle.cq_theory.specs.declared.presentation.Equation.{Equation}
use Rattle.cq_instance.specs.Numbers.{cell_made}
use Rattle.cq_instance.proofs.Pushed.{mapped_more}
use Rattle.cq_instance.proofs.canonical.equations.push_cells.Goals as goal

pub loop-attribute-preserved : goal.loop-attribute-preserved
loop-attribute-preserved c =
    let f : ℕ → Equation = cell_made c.args.sheet.now c.args.numbers.now c.args.row.generator c.args.row.number in
    mapped_more f c.args.attributes.now c.loop-attribute.attribute-index _ c.args.made.now.items c.loop-attribute.made.items _ _ c.loop-attribute-test.true c.loop-attribute.invariant c.in_ok-cell_equation.ensures
    c.in_ok-push.ensures.items

pub returns : goal.returns
returns c =
    let f : ℕ → Equation = cell_made c.args.sheet.now c.args.numbers.now c.args.row.generator c.args.row.number in
    c.loop-attribute.invariant ∙ ap (λ (l : List ℕ). c.args.made.now.items ++ map f l) (take_all c.loop-attribute.attribute-index c.args.attributes.now c.loop-attribute-test.false)
