use Rattle.std.proofs.Common.{◌<◌, ◌≡◌, ◌+◌, length, sym, arith, rules}
use Rattle.cq_compose.specs.Frame.{component_along}
use Rattle.cq_compose.proofs.Pushing.{room_here, room_none, room_last, keys_last}
use Rattle.cq_compose.proofs.lengths.+room_after.Goals as goal

pub returns-in-None : goal.returns-in-None
returns-in-None t c = room_here c.args.frame.now c.args.variable c.args.place c.args.path.now c.args.room c.in-None.ensures.cases

pub returns-in-None-assigned_term : goal.returns-in-None-assigned_term
returns-in-None-assigned_term t c =
    room_none c.args.frame.now c.args.variable c.args.place c.args.path.now c.in-Some.before.now c.in-Some.key.now c.args.room c.in-Some.ensures.cases.0 (sym c.in-None-assigned_term.ensures)

pub returns-in_err-left-in-Some-assigned_term : goal.returns-in_err-left-in-Some-assigned_term
returns-in_err-left-in-Some-assigned_term t c =
    let keys = keys_last c.args.frame.now c.args.variable c.args.place c.args.path.now c.in-Some.before.now c.in-Some.key.now c.in-Some.ensures.cases.0 c.in-Some-assigned_term.term.now (sym c.in-Some-assigned_term.ensures) in
    let over : c.args.room < length (component_along c.args.frame.now c.args.variable c.args.path.now c.args.place).path = omega (arith, keys, c.in_err-left-in-Some-assigned_term.ensures, c.len.ensures) in
    search (rules, over)

pub returns-in_ok-left-in-Some-assigned_term : goal.returns-in_ok-left-in-Some-assigned_term
returns-in_ok-left-in-Some-assigned_term t c =
    let both : length c.in-Some-assigned_term.term.now.path + c.in_ok-left-in-Some-assigned_term.left ≡ c.args.room = omega (arith, c.in_ok-left-in-Some-assigned_term.ensures, c.len.ensures) in
    room_last c.args.frame.now c.args.variable c.args.place c.args.path.now c.in-Some.before.now c.in-Some.key.now c.in-Some.ensures.cases.0 c.in-Some-assigned_term.term.now (sym c.in-Some-assigned_term.ensures)
    c.room_after.result c.args.room c.in_ok-left-in-Some-assigned_term.left both c.room_after.ensures
