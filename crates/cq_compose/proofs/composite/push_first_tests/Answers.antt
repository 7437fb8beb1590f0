use Rattle.std.proofs.Common.{ℕ, ◌++◌, ◌≤◌, map, length, ap, ◌∙◌, arith}
use Rattle.std.specs.List.{flat_map, enumerate_from}
use Rattle.std.proofs.lemmas.List.{take_all}
use Rattle.std.proofs.lemmas.List.FromFn.{length-enumerate_from}
use Rattle.cq_base.specs.declared.name.Name.{Name}
use Rattle.cq_query.specs.Puts.{put_equation}
use Rattle.cq_query.specs.Translation.{tests_at}
use Rattle.cq_compose.specs.Composite.{components}
use Rattle.cq_compose.proofs.Finishing.{tests_pushed}
use Rattle.cq_compose.proofs.composite.push_first_tests.Goals as goal

pub loop-var-preserved : goal.loop-var-preserved
loop-var-preserved c =
    let frame = c.args.frame.now in (
      omega (arith, c.loop-var.invariant.0),
      tests_pushed frame.first.now frame.second.now frame.entity c.args.vars.now c.loop-var.var-index c.loop-var.variable c.var-item.result c.args.made.now.items c.loop-var.made.items c.push_variable_tests.new.made.items
          c.loop-var-test.true c.loop-var.invariant.0 c.var-item.is c.loop-var.invariant.1 c.in_ok-push_variable_tests.ensures,
    )

pub returns : goal.returns
returns c =
    let frame = c.args.frame.now in
    let past : length (enumerate_from 0 c.args.vars.now) ≤ c.loop-var.var-index = omega (arith, length-enumerate_from 0 c.args.vars.now, c.loop-var-test.false) in
    c.loop-var.invariant.1
    ∙ ap (λ l. c.args.made.now.items ++ flat_map (λ (y : ℕ × (Name × ℕ)). map (put_equation (components frame.first.now frame.second.now frame.entity y.0)) (tests_at frame.first.now y.1.1)) l)
    (take_all c.loop-var.var-index (enumerate_from 0 c.args.vars.now) past)
