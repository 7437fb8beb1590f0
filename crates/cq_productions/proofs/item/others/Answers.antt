use Rattle.std.proofs.Common.{sym, ◌∙◌}
use Rattle.std.proofs.lemmas.Result.{err_from_is_err_and}
use Rattle.cq_productions.proofs.Loops.{item_shorter, loop_end, loop_fails, loop_next}
use Rattle.cq_productions.proofs.item.others.Goals as goal

pub items-smaller : goal.items-smaller
items-smaller g c = item_shorter g.I.Production.rule g.met.I.Item.decided _ _ _ c.in_ok-item.ensures

pub items-preserved : goal.items-preserved
items-preserved g c =
    loop_next g.I.Production.rule g.met.I.Item.decided _ _ _ c.items.rest.tokens.now c.in_ok-item.item c.in_ok-item.behind.tokens.now c.in_ok-push.ensures.items c.items.invariant (sym c.item_follows.ensures ∙ c.items-test.true) c.in_ok-item.ensures

pub returns-in_err-item : goal.returns-in_err-item
returns-in_err-item g c =
    let p = err_from_is_err_and c.from_residual.result c.from_residual.ensures.1 in
    rw (p.1, p.2) (loop_fails g.I.Production.rule g.met.I.Item.decided _ _ c.items.rest.tokens.now c.in_err-item.field-0.0 c.items.invariant (sym c.item_follows.ensures ∙ c.items-test.true) c.in_err-item.ensures)

pub returns : goal.returns
returns g c =
    rw c.from_vec.ensures (loop_end g.I.Production.rule g.met.I.Item.decided _ _ c.items.rest.tokens.now c.items.invariant (sym c.item_follows.ensures ∙ c.items-test.false))
