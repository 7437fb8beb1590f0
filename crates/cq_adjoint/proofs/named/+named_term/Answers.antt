use Rattle.std.proofs.Common.{◌≡◌, ◌++◌, ◌∷◌, [], List, map, take, get_or, IfOk, sym, ap, subst, ◌∙◌}
use Rattle.std.proofs.lemmas.List.{take_more, take_all, map-append}
use Rattle.cq_theory.specs.declared.term.TypeTerm.{TypeTerm}
use Rattle.cq_theory.specs.declared.term.TypeTerm.TheVariants.{Const, Fun}
use Rattle.cq_theory.specs.declared.value.Value.{Value}
use Rattle.cq_theory.proofs.Values.{fold-Const, fold-Null, fold-Fun}
use Rattle.cq_adjoint.specs.Moves.{spelled_step, spelled_value}
use Rattle.cq_instance.specs.Spelling.{term_among}
use Rattle.cq_adjoint.proofs.named.+named_term.Goals as goal

pub loop-arg-preserved : goal.loop-arg-preserved
loop-arg-preserved t c =
    let f : Value → TypeTerm = spelled_value (term_among c.args.naming.now.null_terms.now) in
    let items : List Value = c.as_slice-arg-items.result.now in
    let arg : Value = c.arg-item.result in
    c.in_ok-push-in-Fun.ensures.items
    ∙ (λ j. c.loop-arg.invariant j ++ (c.in_ok-named_term-in-Fun.ensures ∙ ap f c.arg-item.is) j ∷ [])
    ∙ sym (ap (map f) (take_more items c.loop-arg.arg-index arg c.loop-arg-test.true) ∙ map-append f (take c.loop-arg.arg-index items) (get_or items c.loop-arg.arg-index arg ∷ []))

pub returns-in_ok-clone-in-Const : goal.returns-in_ok-clone-in-Const
returns-in_ok-clone-in-Const t c =
    ap Const c.in_ok-clone-in-Const.ensures.cases
    ∙ sym (ap (spelled_value (term_among c.args.naming.now.null_terms.now)) c.in-Const.is ∙ fold-Const TypeTerm (spelled_step (term_among c.args.naming.now.null_terms.now)) c.in-Const.constant)

pub returns-in-Null : goal.returns-in-Null
returns-in-Null t c =
    subst (λ (u : TypeTerm). IfOk c.null_term.result (λ w. w ≡ u))
    (sym (ap (spelled_value (term_among c.args.naming.now.null_terms.now)) c.in-Null.is ∙ fold-Null TypeTerm (spelled_step (term_among c.args.naming.now.null_terms.now)) c.in-Null.label))
    c.null_term.ensures

pub returns-after-loop-arg : goal.returns-after-loop-arg
returns-after-loop-arg t c =
    let f : Value → TypeTerm = spelled_value (term_among c.args.naming.now.null_terms.now) in
    ap (Fun c.in-Fun.function)
    (c.from_vec.ensures ∙ c.loop-arg.invariant ∙ ap (map f) (take_all c.loop-arg.arg-index c.as_slice-arg-items.result.now c.loop-arg-test.false ∙ c.as_slice-arg-items.ensures))
    ∙ sym (ap f c.in-Fun.is ∙ fold-Fun TypeTerm (spelled_step (term_among c.args.naming.now.null_terms.now)) c.in-Fun.function c.in-Fun.args)
