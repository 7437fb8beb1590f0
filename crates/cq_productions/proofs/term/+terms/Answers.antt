use Rattle.std.proofs.Common.{◌≡◌, ◌≤◌, ◌<◌, [], ◌∷◌, ◌++◌, length, sym, ap, ◌∙◌, arith, subst}
use Rattle.std.specs.Prelude.{map}
use Rattle.std.proofs.lemmas.Result.{err_from_is_err_and}
use Rattle.cq_rules.specs.Outcome.{mapped, Took}
use Rattle.cq_productions.specs.Gives.{GivesTerm}
use Rattle.std.proofs.lemmas.List.{map_push}
use Rattle.cq_rules.specs.Tree.{read_args, read_term, read_others, args_tree}
use Rattle.cq_syntax.specs.Terms.{tree_of}
use Rattle.cq_productions.proofs.Items.{after_args, args_first, args_next, deepest_more, base_fails, base_word, base_args_fail, base_applied, term_reads, term_fails, no_level_fails}
use Rattle.cq_rules.proofs.TermLaws.{term_shorter}
use Rattle.cq_productions.proofs.Links.{kept_shorter}
use Rattle.cq_productions.proofs.term.+terms.Goals as goal

pub arguments-items-init : goal.arguments-items-init
arguments-items-init t c =
    let pushed : c.push.new.self.items ≡ c.in_ok-first.first ∷ [] = c.in_ok-push.ensures.items ∙ ap (λ z. z ++ c.in_ok-first.first ∷ []) c.in_ok-args.ensures.items in
    record {
      fits = c.in_ok-first.ensures.fits;
      known = rw (pushed, c.in_ok-first.ensures.levels) (omega arith);
      same = rw pushed (args_first c.args.budget c.args.at.tokens.now (tree_of c.in_ok-first.first) c.in_ok-first.after.tokens.now c.in_ok-first.ensures.reads);
    }

pub arguments-items-smaller : goal.arguments-items-smaller
arguments-items-smaller t c =
    let one : length c.in_ok-behind.behind.tokens.now < length c.items.rest.tokens.now = kept_shorter _ _ _ _ _ c.in_ok-behind.ensures in
    let two : length c.in_ok-next.after.tokens.now ≤ length c.in_ok-behind.behind.tokens.now = term_shorter c.args.budget _ _ _ c.in_ok-next.ensures.reads in
    omega arith

pub arguments-items-preserved : goal.arguments-items-preserved
arguments-items-preserved t c =
    let pushed = c.in_ok-push-2.ensures.items in
    record {
      fits = omega (arith, c.max-levels.ensures, c.in_ok-next.ensures.fits, c.items.invariant.fits);
      known = c.max-levels.ensures ∙ deepest_more _ _ c.in_ok-next.next c.items.levels c.in_ok-next.next_levels pushed c.items.invariant.known c.in_ok-next.ensures.levels;
      same = subst (λ z. mapped args_tree (read_args (read_term c.args.budget) c.args.at.tokens.now) ≡ after_args z (read_others (read_term c.args.budget) c.in_ok-next.after.tokens.now)) (sym (ap (λ z. map tree_of z) pushed ∙ map_push tree_of c.items.args.items c.in_ok-next.next)) (args_next c.args.budget _ (map tree_of c.items.args.items) c.items.rest.tokens.now c.items.invariant.same c.in_ok-behind.behind.tokens.now (tree_of c.in_ok-next.next) c.in_ok-next.after.tokens.now (sym c.is_next.ensures ∙ c.items-test.true) c.in_ok-behind.ensures c.in_ok-next.ensures.reads);
    }

pub base-returns-in_err-head-clause-reads : goal.base-returns-in_err-head-clause-reads
base-returns-in_err-head-clause-reads t c =
    let p = err_from_is_err_and c.from_residual-in_err-head.result c.from_residual-in_err-head.ensures.1 in
    rw (p.1, p.2) (base_fails (read_term c.args.budget) c.args.at.tokens.now (sym c.is_next.ensures ∙ c.if-is_next.false) c.in_err-head.field-0.0 c.in_err-head.ensures)

pub base-returns-then-not-is_next-clause-reads : goal.base-returns-then-not-is_next-clause-reads
base-returns-then-not-is_next-clause-reads t c =
    base_word (read_term c.args.budget) c.args.at.tokens.now (sym c.is_next.ensures ∙ c.if-is_next.false) c.in_ok-head.head c.in_ok-head.rest.tokens.now c.in_ok-head.ensures (sym c.is_next-2.ensures ∙ c.if-not-is_next.true) ∙ ap (λ z. Took z c.in_ok-head.rest.tokens.now) (sym c.word.ensures)

pub base-returns-in_err-args-clause-reads : goal.base-returns-in_err-args-clause-reads
base-returns-in_err-args-clause-reads t c =
    let p = err_from_is_err_and c.from_residual-in_err-args.result c.from_residual-in_err-args.ensures.1 in
    rw (p.1, p.2) (base_args_fail (read_term c.args.budget) c.args.at.tokens.now (sym c.is_next.ensures ∙ c.if-is_next.false) c.in_ok-head.head c.in_ok-head.rest.tokens.now c.in_ok-rest.rest.tokens.now c.in_ok-head.ensures (sym c.is_next-2.ensures ∙ c.if-not-is_next.false) c.in_ok-rest.ensures c.in_err-args.field-0.0 c.in_err-args.ensures.reads)

pub base-returns-clause-reads : goal.base-returns-clause-reads
base-returns-clause-reads t c =
    base_applied (read_term c.args.budget) c.args.at.tokens.now (sym c.is_next.ensures ∙ c.if-is_next.false) c.in_ok-head.head c.in_ok-head.rest.tokens.now c.in_ok-rest.rest.tokens.now _ c.in_ok-args.rest.tokens.now c.in_ok-head.ensures (sym c.is_next-2.ensures ∙ c.if-not-is_next.false) c.in_ok-rest.ensures c.in_ok-args.ensures.reads ∙ ap (λ z. Took z c.in_ok-args.rest.tokens.now) (sym c.application.ensures)

pub term-returns-clause-reads : goal.term-returns-clause-reads
term-returns-clause-reads t c =
    subst (λ o. GivesTerm c.dots.result o) (sym (term_reads c.args.budget c.args.at.tokens.now (tree_of c.in_ok-first.first) c.in_ok-first.rest.tokens.now c.in_ok-first.levels c.if-budget-eq0.false c.in_ok-first.ensures.reads c.in_ok-first.ensures.levels)) c.dots.ensures.reads

pub term-returns-then-budget-eq0-clause-reads : goal.term-returns-then-budget-eq0-clause-reads
term-returns-then-budget-eq0-clause-reads t c =
    no_level_fails c.args.budget c.args.at.tokens.now c.if-budget-eq0.true c.no_level.result c.no_level.ensures

pub term-returns-in_err-first-clause-reads : goal.term-returns-in_err-first-clause-reads
term-returns-in_err-first-clause-reads t c =
    let p = err_from_is_err_and c.from_residual.result c.from_residual.ensures.1 in
    rw (p.1, p.2) (term_fails c.args.budget c.args.at.tokens.now c.if-budget-eq0.false c.in_err-first.field-0.0 c.in_err-first.ensures.reads)
