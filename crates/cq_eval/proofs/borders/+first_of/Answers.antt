use Rattle.std.proofs.Common.{ℕ, List, [], ◌≡◌, ◌≤◌, drop, map, min, sym, ap, ◌∙◌, arith}
use Rattle.std.proofs.lemmas.List.{drop_all}
use Rattle.cq_theory.specs.declared.term.TypeTerm.{TypeTerm}
use Rattle.cq_theory.proofs.TypeTerms.{fold-Fun}
use Rattle.cq_eval.specs.Border.{least, first_of, first_step}
use Rattle.cq_eval.proofs.Firsts.{least_most}
use Rattle.cq_eval.proofs.borders.+first_of.Goals as goal

pub loop-arg-init : goal.loop-arg-init
loop-arg-init t c =
    let width : ℕ = c.args.width in
    let firsts : List ℕ = map (first_of width) c.as_slice-arg-items.result.now in
    let most : least width firsts ≤ width = least_most width firsts in
    let fits = c.ranges.width.fits in
    let begins : min 18446744073709551615 (least width firsts) ≡ least width firsts = omega (arith, most, fits) in
    begins ∙ ap (λ (l : List TypeTerm). least width (map (first_of width) l)) c.as_slice-arg-items.ensures
    ∙ sym (ap (first_of width) c.in-Fun.is ∙ fold-Fun ℕ (first_step width) c.in-Fun.field-0 c.in-Fun.args)

pub returns-after-loop-arg : goal.returns-after-loop-arg
returns-after-loop-arg t c =
    let width : ℕ = c.args.width in
    let all : drop c.loop-arg.arg-index c.as_slice-arg-items.result.now ≡ [] = drop_all c.loop-arg.arg-index c.as_slice-arg-items.result.now c.loop-arg-test.false in
    c.min.ensures ∙ sym (ap (λ (l : List TypeTerm). min c.loop-arg.first (least width (map (first_of width) l))) all) ∙ c.loop-arg.invariant
