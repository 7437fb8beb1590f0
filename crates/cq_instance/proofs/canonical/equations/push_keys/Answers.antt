use Rattle.std.proofs.Common.{ℕ, List, ◌++◌, map, ap, ◌∙◌}
use Rattle.std.proofs.lemmas.List.{take_all}
use Rattle.cq_theory.specs.declared.presentation.Equation.{Equation}
use Rattle.cq_instance.specs.Numbers.{key_made}
use Rattle.cq_instance.proofs.Pushed.{mapped_more}
use Rattle.cq_instance.proofs.canonical.equations.push_keys.Goals as goal

pub loop-key-preserved : goal.loop-key-preserved
loop-key-preserved c =
    let f : ℕ → Equation = key_made c.args.sheet.now c.args.numbers.now c.args.row.generator c.args.row.number in
    mapped_more f c.args.keys.now c.loop-key.key-index _ c.args.made.now.items c.loop-key.made.items _ _ c.loop-key-test.true c.loop-key.invariant c.in_ok-key_equation.ensures
    c.in_ok-push.ensures.items

pub returns : goal.returns
returns c =
    let f : ℕ → Equation = key_made c.args.sheet.now c.args.numbers.now c.args.row.generator c.args.row.number in
    c.loop-key.invariant ∙ ap (λ (l : List ℕ). c.args.made.now.items ++ map f l) (take_all c.loop-key.key-index c.args.keys.now c.loop-key-test.false)
