use Rattle.std.proofs.Common.{◌≡◌, ◌<◌, [], ◌∷◌, length, vec_len, sym, ap, ◌∙◌, arith, length-append}
use Rattle.std.proofs.lemmas.Result.{err_from_is_err_and}
use Rattle.cq_syntax.specs.Grammar.{name}
use Rattle.cq_productions.proofs.Links.{names_next, names_over, names_fail, names_end, kept_shorter}
use Rattle.cq_productions.proofs.names.chain.Goals as goal

pub returns-in_err-next : goal.returns-in_err-next
unfolding name
returns-in_err-next c =
    let p = err_from_is_err_and c.from_residual-in_err-next.result c.from_residual-in_err-next.ensures.1 in
    rw (p.1, p.2) (names_fail _ c.args.most c.names.names.items c.names.rest.tokens.now c.in_ok-after.after.tokens.now c.names.invariant.same c.in_err-next.field-0.0 c.in_ok-after.ensures c.in_err-next.ensures)

pub returns-then-len-most : goal.returns-then-len-most
unfolding name
returns-then-len-most c =
    let full : length c.names.names.items ≡ c.args.most = omega (arith, c.names.names.ok, c.len.ensures, c.if-len-most.true) in
    names_over _ c.args.most c.names.names.items c.names.rest.tokens.now c.in_ok-after.after.tokens.now c.names.invariant.same c.in_ok-next.next c.in_ok-next.behind.tokens.now full c.in_ok-after.ensures c.in_ok-next.ensures

pub names-smaller : goal.names-smaller
unfolding name
names-smaller c =
    let one : length c.in_ok-after.after.tokens.now < length c.names.rest.tokens.now = kept_shorter _ _ _ _ _ c.in_ok-after.ensures in
    let two : length c.in_ok-next.behind.tokens.now < length c.in_ok-after.after.tokens.now = kept_shorter _ _ _ _ _ c.in_ok-next.ensures in
    omega arith

pub names-preserved : goal.names-preserved
unfolding name
names-preserved c =
    let pushed = c.in_ok-push.ensures.items in
    let not_full : length c.names.names.items ≡ c.args.most → ⊥ = λ e. c.if-len-most.false (c.len.ensures ∙ (let is : vec_len c.names.names ≡ length c.names.names.items = omega (arith, c.names.names.ok) in is) ∙ e) in
    record {
      in_range = omega (arith, ap length pushed ∙ length-append c.names.names.items (c.in_ok-next.next ∷ []), not_full, c.names.invariant.in_range);
      same = names_next _ c.args.most c.names.names.items c.names.rest.tokens.now c.in_ok-after.after.tokens.now c.names.invariant.same c.in_ok-next.next _ c.in_ok-next.behind.tokens.now c.names.invariant.in_range not_full pushed c.in_ok-after.ensures c.in_ok-next.ensures;
    }

pub returns : goal.returns
unfolding name
returns c = rw c.from_vec.ensures (names_end _ c.args.most c.names.names.items c.names.rest.tokens.now c.names.rest.tokens.now c.names.invariant.same (sym c.is_next.ensures ∙ c.names-test.false))
