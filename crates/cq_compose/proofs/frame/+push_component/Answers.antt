use Rattle.std.proofs.Common.{sym}
use Rattle.cq_compose.proofs.Pushing.{push_here, push_none, push_last}
use Rattle.cq_compose.proofs.frame.+push_component.Goals as goal

pub returns-in-None : goal.returns-in-None
returns-in-None t c = push_here c.args.frame.now c.args.variable c.args.place c.args.made.now.items c.args.path.now c.generator.result c.in-None.ensures.cases c.generator.ensures

pub returns-in-None-assigned_term : goal.returns-in-None-assigned_term
returns-in-None-assigned_term t c =
    push_none c.args.frame.now c.args.variable c.args.place c.args.made.now.items c.args.path.now c.in-Some.before.now c.in-Some.key.now c.in-Some.ensures.cases.0 (sym c.in-None-assigned_term.ensures)

pub returns-in_ok-extend_from_slice-in-Some-assigned_term : goal.returns-in_ok-extend_from_slice-in-Some-assigned_term
returns-in_ok-extend_from_slice-in-Some-assigned_term t c =
    push_last c.args.frame.now c.args.variable c.args.place c.args.made.now.items c.args.path.now c.in-Some.before.now c.in-Some.key.now c.in-Some.ensures.cases.0
    c.in-Some-assigned_term.term.now (sym c.in-Some-assigned_term.ensures) c.in_ok-generator-in-Some-assigned_term.generator c.push_component.new.made.items c.extend_from_slice.new.self.items c.as_slice.result.now
    c.in_ok-generator-in-Some-assigned_term.ensures c.in_ok-extend_from_slice-in-Some-assigned_term.ensures.items c.as_slice.ensures
