use Rattle.std.proofs.Common.{◌<◌, length, sym, ◌∙◌, arith}
use Rattle.std.proofs.lemmas.Result.{err_from_is_err_and}
use Rattle.cq_syntax.specs.Grammar.{name}
use Rattle.cq_syntax.specs.Terms.{tree_of}
use Rattle.cq_productions.proofs.Links.{dots_next, dots_over, dots_fail, dots_end, kept_shorter}
use Rattle.cq_productions.proofs.term.dots.Goals as goal

pub names-smaller : goal.names-smaller
unfolding name
names-smaller c =
    let one : length c.in_ok-after.after.tokens.now < length c.names.rest.tokens.now = kept_shorter _ _ _ _ _ c.in_ok-after.ensures in
    let two : length c.in_ok-next.behind.tokens.now < length c.in_ok-after.after.tokens.now = kept_shorter _ _ _ _ _ c.in_ok-next.ensures in
    omega arith

pub returns-in_err-next-clause-reads : goal.returns-in_err-next-clause-reads
unfolding name
returns-in_err-next-clause-reads c =
    let p = err_from_is_err_and c.from_residual-in_err-next.result c.from_residual-in_err-next.ensures.1 in
    rw (p.1, p.2) (dots_fail _ c.args.most (tree_of c.names.raw) c.names.levels c.names.rest.tokens.now c.in_ok-after.after.tokens.now c.names.invariant.same c.in_err-next.field-0.0 c.in_ok-after.ensures c.in_err-next.ensures)

pub returns-then-levels-most-clause-reads : goal.returns-then-levels-most-clause-reads
unfolding name
returns-then-levels-most-clause-reads c =
    dots_over _ c.args.most (tree_of c.names.raw) c.names.levels c.names.rest.tokens.now c.in_ok-after.after.tokens.now c.names.invariant.same c.in_ok-next.next c.in_ok-next.behind.tokens.now c.if-levels-most.true c.in_ok-after.ensures c.in_ok-next.ensures

pub names-preserved : goal.names-preserved
unfolding name
names-preserved c =
    let below : c.names.levels < c.args.most = omega (arith, c.names.invariant.in_range, c.if-levels-most.false) in
    record {
      in_range = omega arith;
      known = rw c.in_ok-raw.ensures (omega (arith, c.names.invariant.known));
      same = dots_next _ c.args.most (tree_of c.names.raw) c.names.levels c.names.rest.tokens.now c.in_ok-after.after.tokens.now c.names.invariant.same c.in_ok-next.next (tree_of c.in_ok-raw.raw) c.in_ok-next.behind.tokens.now below c.in_ok-raw.ensures c.in_ok-after.ensures c.in_ok-next.ensures;
    }

pub returns-clause-reads : goal.returns-clause-reads
returns-clause-reads c =
    dots_end _ c.args.most (tree_of c.names.raw) c.names.levels c.names.rest.tokens.now c.names.rest.tokens.now c.names.invariant.same (sym c.is_next.ensures ∙ c.names-test.false)
