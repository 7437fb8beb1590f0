use Rattle.std.proofs.Common.{List, map, sym, ap, ◌∙◌}
use Rattle.std.proofs.lemmas.List.{take_all}
use Rattle.cq_theory.specs.declared.term.EntTerm.{EntTerm}
use Rattle.cq_theory.specs.declared.term.TypeTerm.{TypeTerm}
use Rattle.cq_theory.specs.declared.term.TypeTerm.TheVariants.{Att, Fun}
use Rattle.cq_theory.specs.EntTerm.{extended}
use Rattle.cq_theory.proofs.TypeTerms.{fold-Att, fold-Fun}
use Rattle.cq_query.specs.Puts.{put_type, put_type_step}
use Rattle.cq_compose.specs.Frame.{terms_of}
use Rattle.cq_compose.proofs.Following.{first_or_index}
use Rattle.cq_compose.proofs.terms.+put_components.Goals as goal

pub returns-in_ok-term-in-Att : goal.returns-in_ok-term-in-Att
returns-in_ok-term-in-Att t c =
    let comps : List EntTerm = terms_of c.args.frame.now c.args.at.now in
    ap (Att c.in-Att.attribute) (c.in_ok-term-in-Att.ensures ∙ λ i. extended (sym (first_or_index comps c.in-Att.term.generator) i) (c.as_slice.ensures i))
    ∙ sym (ap (put_type comps) c.in-Att.is ∙ fold-Att TypeTerm (put_type_step comps) c.in-Att.attribute c.in-Att.term)

pub returns-after-loop-arg : goal.returns-after-loop-arg
returns-after-loop-arg t c =
    let f : TypeTerm → TypeTerm = put_type (terms_of c.args.frame.now c.args.at.now) in
    ap (Fun c.in-Fun.function)
    (c.from_vec.ensures ∙ c.loop-arg.invariant ∙ ap (map f) (take_all c.loop-arg.arg-index c.as_slice-arg-items.result.now c.loop-arg-test.false ∙ c.as_slice-arg-items.ensures))
    ∙ sym (ap f c.in-Fun.is ∙ fold-Fun TypeTerm (put_type_step (terms_of c.args.frame.now c.args.at.now)) c.in-Fun.function c.in-Fun.args)
