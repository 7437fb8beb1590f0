use Rattle.std.proofs.Common.{◌≡◌, ◌<◌, [], length, inl, ap, arith, rules}
use Rattle.cq_rules.specs.Outcome.{Stop}
use Rattle.cq_rules.specs.Rule.{read}
use Rattle.cq_parse.proofs.Parsing.{accepted, accepts, stopped, left_over, some_left, none_left, not_refused, one_stopped, one_left_over}
use Rattle.cq_parse.proofs.whole.whole_at.Goals as goal

pub first_refusal-requires-in-Err-At : goal.first_refusal-requires-in-Err-At
first_refusal-requires-in-Err-At g c = some_left g.P.Production.rule c.requires.decided c.args.at.tokens.now c.in-Err-At.why c.in-Err-At.at.tokens.now c.requires.closed c.requires.once (rw c.in-Err-At.field-0-is at c.in-Err-At.ensures)

pub returns-then-is_empty-clause-ok : goal.returns-then-is_empty-clause-ok
returns-then-is_empty-clause-ok g c =
    let none : length c.in-Ok.rest.tokens.now ≡ 0 = search (rules, c.is_empty.ensures, c.if-is_empty.true) in
    accepted g.P.Production.rule c.requires.decided c.args.at.tokens.now c.in-Ok.tree (none_left g.P.Production.rule c.requires.decided c.args.at.tokens.now c.in-Ok.tree c.in-Ok.rest.tokens.now none c.in-Ok.ensures)

pub returns-then-is_empty-clause-only : goal.returns-then-is_empty-clause-only
returns-then-is_empty-clause-only g c tree is fits =
    let here = c.in-Ok.ensures in
    let there = accepts g.P.Production.rule c.requires.decided c.args.at.tokens.now tree is fits in
    cc (here, there)

pub returns-then-is_empty-clause-refusal : goal.returns-then-is_empty-clause-refusal
returns-then-is_empty-clause-refusal g c refusal with_it =
    let none : length c.in-Ok.rest.tokens.now ≡ 0 = search (rules, c.is_empty.ensures, c.if-is_empty.true) in
    not_refused g.P.Production.rule c.requires.decided c.args.at.tokens.now c.in-Ok.tree refusal (none_left g.P.Production.rule c.requires.decided c.args.at.tokens.now c.in-Ok.tree c.in-Ok.rest.tokens.now none c.in-Ok.ensures) with_it

pub returns-else-is_empty-clause-only : goal.returns-else-is_empty-clause-only
returns-else-is_empty-clause-only g c tree is fits =
    let some : 0 < length c.in-Ok.rest.tokens.now = search (rules, c.is_empty.ensures, c.if-is_empty.false) in
    let here = c.in-Ok.ensures in
    let there = accepts g.P.Production.rule c.requires.decided c.args.at.tokens.now tree is fits in
    let none : c.in-Ok.rest.tokens.now ≡ [] = cc (here, there) in
    absurd (omega (arith, ap length none, some))

pub returns-else-is_empty-clause-refused : goal.returns-else-is_empty-clause-refused
returns-else-is_empty-clause-refused g c =
    let some : 0 < length c.in-Ok.rest.tokens.now = search (rules, c.is_empty.ensures, c.if-is_empty.false) in
    left_over g.P.Production.rule c.requires.decided c.args.at.tokens.now c.in-Ok.tree c.in-Ok.rest.tokens.now c.first_refusal.result some c.in-Ok.ensures c.first_refusal.ensures

pub returns-else-is_empty-clause-refusal : goal.returns-else-is_empty-clause-refusal
returns-else-is_empty-clause-refusal g c refusal with_it =
    inl (one_left_over g.P.Production.rule c.requires.decided c.args.at.tokens.now c.in-Ok.tree c.in-Ok.rest.tokens.now c.first_refusal.result refusal c.in-Ok.ensures c.first_refusal.ensures with_it)

pub returns-in-Err-At-clause-only : goal.returns-in-Err-At-clause-only
returns-in-Err-At-clause-only g c tree is fits =
    let here : read g.P.Production.rule c.args.at.tokens.now ≡ Stop c.in-Err-At.why c.in-Err-At.at.tokens.now = rw c.in-Err-At.field-0-is at c.in-Err-At.ensures in
    absurd (cc (here, accepts g.P.Production.rule c.requires.decided c.args.at.tokens.now tree is fits))

pub returns-in-Err-At-clause-refused : goal.returns-in-Err-At-clause-refused
returns-in-Err-At-clause-refused g c =
    let here : read g.P.Production.rule c.args.at.tokens.now ≡ Stop c.in-Err-At.why c.in-Err-At.at.tokens.now = rw c.in-Err-At.field-0-is at c.in-Err-At.ensures in
    stopped g.P.Production.rule c.requires.decided c.args.at.tokens.now c.in-Err-At.why c.in-Err-At.at.tokens.now c.first_refusal-in-Err-At.result (some_left g.P.Production.rule c.requires.decided c.args.at.tokens.now c.in-Err-At.why c.in-Err-At.at.tokens.now c.requires.closed c.requires.once here) here c.first_refusal-in-Err-At.ensures

pub returns-in-Err-At-clause-refusal : goal.returns-in-Err-At-clause-refusal
returns-in-Err-At-clause-refusal g c refusal with_it =
    let here : read g.P.Production.rule c.args.at.tokens.now ≡ Stop c.in-Err-At.why c.in-Err-At.at.tokens.now = rw c.in-Err-At.field-0-is at c.in-Err-At.ensures in
    inl (one_stopped g.P.Production.rule c.requires.decided c.args.at.tokens.now c.in-Err-At.why c.in-Err-At.at.tokens.now c.first_refusal-in-Err-At.result refusal here c.first_refusal-in-Err-At.ensures with_it)
