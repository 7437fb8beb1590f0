use Rattle.std.proofs.Common.{refl, subst}
use Rattle.cq_check.specs.NodeListData.{NodeListData}
use Rattle.cq_check.specs.Adding.{IsEquated}
use Rattle.cq_check.proofs.Pushed.{equated_not_right, equated_both}
use Rattle.cq_check.proofs.nodes.push_equation.Goals as goal

pub returns-in_default-2 : goal.returns-in_default-2
returns-in_default-2 c =
    let old : NodeListData = record { nodes = c.list.inside.nodes.items; equations = c.list.inside.equations.items } in
    let new : NodeListData = record { nodes = c.push_term-2.new.nodes.items; equations = c.list.inside.equations.items } in
    subst (λ (l : NodeListData). IsEquated c.args.tables.now c.args.rows.now l new c.args.left.now c.args.right.now) c.list.view_is
    (equated_not_right c.args.tables.now c.args.rows.now old new c.args.left.now c.args.right.now c.push_term.new.nodes.items c.push_term-2.new.nodes.items c.in_ok-first.field-0 c.in_ok-second.field-0 refl
    c.in_ok-first.ensures c.in_ok-second.ensures c.in_default-2.is)

pub returns : goal.returns
returns c =
    let old : NodeListData = record { nodes = c.list.inside.nodes.items; equations = c.list.inside.equations.items } in
    subst (λ (l : NodeListData). IsEquated c.args.tables.now c.args.rows.now l c.equate.new.self c.args.left.now c.args.right.now) c.list.view_is
    (equated_both c.args.tables.now c.args.rows.now old c.equate.new.self c.args.left.now c.args.right.now c.push_term.new.nodes.items c.push_term-2.new.nodes.items c.in_ok-first.field-0 c.in_ok-second.field-0
    c.in-Some.first c.in-Some-2.second c.in_ok-equate.ensures c.in_ok-first.ensures c.in-Some.is c.in_ok-second.ensures c.in-Some-2.is)
