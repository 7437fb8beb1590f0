use Rattle.std.proofs.Common.{◌++◌, ◌∷◌, [], List, map, take, get_or, sym, ap, ◌∙◌}
use Rattle.std.proofs.lemmas.List.{take_more, take_all, map-append}
use Rattle.cq_theory.specs.declared.term.TypeTerm.{TypeTerm}
use Rattle.cq_theory.specs.declared.term.TypeTerm.TheVariants.{Gen, Const, Att, Fun}
use Rattle.cq_theory.proofs.TypeTerms.{fold-Gen, fold-Const, fold-Att, fold-Fun}
use Rattle.cq_eval.specs.Order.{renamed_type, renamed_step}
use Rattle.cq_eval.proofs.order.+rename_type.Goals as goal

pub loop-arg-preserved : goal.loop-arg-preserved
loop-arg-preserved t c =
    let f : TypeTerm → TypeTerm = renamed_type c.args.places.now in
    let items : List TypeTerm = c.as_slice-arg-items.result.now in
    let arg : TypeTerm = c.arg-item.result in
    c.in_ok-push-in-Fun.ensures.items
    ∙ (λ j. c.loop-arg.invariant j ++ (c.in_ok-rename_type-in-Fun.ensures ∙ ap f c.arg-item.is) j ∷ [])
    ∙ sym (ap (map f) (take_more items c.loop-arg.arg-index arg c.loop-arg-test.true) ∙ map-append f (take c.loop-arg.arg-index items) (get_or items c.loop-arg.arg-index arg ∷ []))

pub returns-in-Gen : goal.returns-in-Gen
returns-in-Gen t c =
    ap Gen c.renumber.ensures
    ∙ sym (ap (renamed_type c.args.places.now) c.in-Gen.is ∙ fold-Gen TypeTerm (renamed_step c.args.places.now) c.in-Gen.variable)

pub returns-in_ok-clone-in-Const : goal.returns-in_ok-clone-in-Const
returns-in_ok-clone-in-Const t c =
    ap Const c.in_ok-clone-in-Const.ensures.cases
    ∙ sym (ap (renamed_type c.args.places.now) c.in-Const.is ∙ fold-Const TypeTerm (renamed_step c.args.places.now) c.in-Const.constant)

pub returns-in_ok-rename_entity-in-Att : goal.returns-in_ok-rename_entity-in-Att
returns-in_ok-rename_entity-in-Att t c =
    ap (Att c.in-Att.attribute) c.in_ok-rename_entity-in-Att.ensures
    ∙ sym (ap (renamed_type c.args.places.now) c.in-Att.is ∙ fold-Att TypeTerm (renamed_step c.args.places.now) c.in-Att.attribute c.in-Att.term)

pub returns-after-loop-arg : goal.returns-after-loop-arg
returns-after-loop-arg t c =
    let f : TypeTerm → TypeTerm = renamed_type c.args.places.now in
    ap (Fun c.in-Fun.function)
    (c.from_vec.ensures ∙ c.loop-arg.invariant ∙ ap (map f) (take_all c.loop-arg.arg-index c.as_slice-arg-items.result.now c.loop-arg-test.false ∙ c.as_slice-arg-items.ensures))
    ∙ sym (ap f c.in-Fun.is ∙ fold-Fun TypeTerm (renamed_step c.args.places.now) c.in-Fun.function c.in-Fun.args)
