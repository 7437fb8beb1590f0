use Rattle.std.proofs.Common.{ℕ, List, ◌≡◌, ◌∙◌, arith}
use Rattle.std.specs.Prelude.{slice_index}
use Rattle.std.proofs.lemmas.List.{get_or-set_same, get_or_default}
use Rattle.cq_eval.proofs.Firsts.{lowered}
use Rattle.cq_eval.proofs.borders.lower.Goals as goal

pub returns-then-to-index-clause-falls : goal.returns-then-to-index-clause-falls
returns-then-to-index-clause-falls c = λ n.
    let numbers : List ℕ = c.args.numbers.now.items in
    let read : c.index.result.now ≡ slice_index numbers c.args.place = c.index.ensures ∙ get_or_default numbers c.args.place c.index.result.now 0 c.requires in
    lowered numbers c.args.place c.args.to n c.requires (omega (arith, read, c.if-to-index.true))

pub returns-then-to-index-clause-here : goal.returns-then-to-index-clause-here
returns-then-to-index-clause-here c =
    let here = get_or-set_same c.args.numbers.now.items c.args.place c.args.to 0 c.requires in
    omega (arith, here)

pub returns-else-to-index-clause-here : goal.returns-else-to-index-clause-here
returns-else-to-index-clause-here c =
    let numbers : List ℕ = c.args.numbers.now.items in
    let read : c.index.result.now ≡ slice_index numbers c.args.place = c.index.ensures ∙ get_or_default numbers c.args.place c.index.result.now 0 c.requires in
    omega (arith, read, c.if-to-index.false)
