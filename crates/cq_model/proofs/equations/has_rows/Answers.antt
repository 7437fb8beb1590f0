use Rattle.std.proofs.Common.{ℕ, [], ◌≡◌, ◌∙◌, get_or, sym, arith, ⊎_elim}
use Rattle.std.proofs.lemmas.Bool.{cases_lt}
use Rattle.std.proofs.lemmas.List.{get_or_default, get_or_past, nil_from_length}
use borrow.Author.Count.{below_more}
use Rattle.cq_model.proofs.equations.has_rows.Goals as goal

pub loop-rows-preserved : goal.loop-rows-preserved
loop-rows-preserved c =
    let i : ℕ = c.loop-rows.rows-index in
    let none : c.rows-item.result ≡ [] = nil_from_length c.rows-item.result (omega (arith, c.if-len-gt0.false, c.len.ensures)) in
    let here : get_or c.args.order.now i [] ≡ [] = sym (c.rows-item.is ∙ get_or_default c.args.order.now i c.rows-item.result [] c.loop-rows-test.true) ∙ none in
    below_more (λ e. get_or c.args.order.now e [] ≡ []) i c.loop-rows.invariant here

pub returns : goal.returns
returns c = λ _ e.
    ⊎_elim (λ less. c.loop-rows.invariant e less) (λ past. get_or_past c.args.order.now e [] (omega (arith, past, c.loop-rows-test.false))) (cases_lt e c.loop-rows.rows-index)
