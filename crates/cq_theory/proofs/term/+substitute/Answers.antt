use Rattle.std.proofs.Common.{arith, ◌<◌, ◌≤◌, length, map, sym, ap, ◌∙◌}
use Rattle.cq_theory.specs.declared.term.TypeTerm.{TypeTerm}
use Rattle.cq_theory.specs.declared.term.TypeTerm.TheVariants.{Const, Att, Fun}
use Rattle.cq_theory.specs.EntTerm.{extended}
use Rattle.cq_theory.specs.TypeTerm.{substituted, substituted_step}
use Rattle.cq_theory.proofs.PartLoops.{map_more, map_whole}
use Rattle.cq_theory.proofs.TypeTerms.{fold-Gen, fold-Const, fold-Att, fold-Fun}
use Rattle.cq_theory.proofs.term.+substitute.Goals as goal

pub loop-arg-preserved : goal.loop-arg-preserved
loop-arg-preserved t c =
    let within : c.loop-arg.arg-index < length c.as_slice-arg-items.result.now = omega arith in
    map_more (substituted c.args.at.now) c.as_slice-arg-items.result.now c.loop-arg.arg-index c.arg-item.result c.loop-arg.made.items c.push.new.self.items c.in_ok-term-in-Fun.term within c.arg-item.is c.loop-arg.invariant c.in_ok-term-in-Fun.ensures c.in_ok-push-in-Fun.ensures.items

pub returns-in_ok-extend-in-Att : goal.returns-in_ok-extend-in-Att
returns-in_ok-extend-in-Att t c =
    ap (λ x. Att c.in-Att.attribute x) (c.in_ok-extend-in-Att.ensures ∙ ap (extended c.args.at.now) c.as_slice.ensures)
    ∙ sym (ap (substituted c.args.at.now) c.in-Att.is ∙ fold-Att TypeTerm (substituted_step c.args.at.now) c.in-Att.attribute c.in-Att.term)

pub returns-in_ok-clone-in-Const : goal.returns-in_ok-clone-in-Const
returns-in_ok-clone-in-Const t c =
    ap (λ x. Const x) c.in_ok-clone-in-Const.ensures.cases
    ∙ sym (ap (substituted c.args.at.now) c.in-Const.is ∙ fold-Const TypeTerm (substituted_step c.args.at.now) c.in-Const.constant)

pub loop-arg-init : goal.loop-arg-init
loop-arg-init t c = c.new-made.ensures.items

pub returns-in-Gen : goal.returns-in-Gen
returns-in-Gen t c = sym (ap (substituted c.args.at.now) c.in-Gen.is ∙ fold-Gen TypeTerm (substituted_step c.args.at.now) c.in-Gen.n)

pub returns-after-loop-arg : goal.returns-after-loop-arg
returns-after-loop-arg t c =
    let end : length c.as_slice-arg-items.result.now ≤ c.loop-arg.arg-index = omega arith in
    ap (λ x. Fun c.in-Fun.function x) (c.from_vec.ensures
    ∙ map_whole (substituted c.args.at.now) c.as_slice-arg-items.result.now c.loop-arg.arg-index _ end c.loop-arg.invariant
    ∙ ap (map (substituted c.args.at.now)) c.as_slice-arg-items.ensures)
    ∙ sym (ap (substituted c.args.at.now) c.in-Fun.is ∙ fold-Fun TypeTerm (substituted_step c.args.at.now) c.in-Fun.function c.in-Fun.args)
