use Rattle.std.proofs.Common.{◌≡◌, sym, ap, subst}
use Rattle.std.specs.Prelude.{Ok}
use Rattle.cq_tables.specs.Content.{Content}
use Rattle.cq_theory.specs.SchemaData.{SchemaData as Schema}
use Rattle.cq_theory.specs.declared.term.TypeTerm.{TypeTerm}
use Rattle.cq_model.specs.declared.places.Places.{Places}
use Rattle.cq_model.specs.NodeListData.{NodeListData}
use Rattle.cq_model.specs.Pushing.{IsPushed, IsEquated, TakesLeaf}
use Rattle.cq_model.proofs.TakenLeaves.{equated, taken}
use Rattle.cq_model.proofs.nodes.push_equation.Goals as goal

pub returns-then-branch : goal.returns-then-branch
returns-then-branch c =
    let S : Schema = c.args.ground.now.schema.now in
    let m : Content = c.args.ground.now.tables.now in
    let places : Places = c.args.ground.now.places.now in
    let takes : TakesLeaf c.push_term.new.list c.take_leaf.new.self c.in_ok-first.first c.args.right.now = c.in_ok-take_leaf.ensures.taken (ap Ok c.if-branch.true) in
    subst (λ (u : TypeTerm). IsEquated S m places c.args.rows.now c.args.list.now c.take_leaf.new.self c.args.left.now u) (sym takes.1)
    (taken S m places c.args.rows.now c.args.list.now c.push_term.new.list c.take_leaf.new.self c.args.left.now c.in_ok-first.first takes.0 c.in_ok-first.ensures takes.2 takes.3)

pub returns : goal.returns
returns c =
    let S : Schema = c.args.ground.now.schema.now in
    let m : Content = c.args.ground.now.tables.now in
    let places : Places = c.args.ground.now.places.now in
    let same : c.take_leaf.new.self ≡ c.push_term.new.list = c.in_ok-take_leaf.ensures.other (ap Ok c.if-branch.false) in
    let second : IsPushed S m places c.args.rows.now c.push_term.new.list c.push_term-2.new.list c.args.right.now c.in_ok-second.second =
    subst (λ (l : NodeListData). IsPushed S m places c.args.rows.now l c.push_term-2.new.list c.args.right.now c.in_ok-second.second) same c.in_ok-second.ensures in
    equated S m places c.args.rows.now c.args.list.now c.push_term.new.list c.push_term-2.new.list c.equate.new.self c.args.left.now c.args.right.now c.in_ok-first.first c.in_ok-second.second
    c.in_ok-first.ensures second c.in_ok-equate.ensures
