use Rattle.std.proofs.Common.{ℕ, ◌≡◌, ◌+◌, map, sum, take, sym, ap, ◌∙◌}
use Rattle.std.proofs.lemmas.List.{take_all}
use Rattle.cq_theory.specs.declared.term.TypeTerm.{TypeTerm}
use Rattle.cq_lazy.specs.Lengths.{length_at}
use Rattle.cq_lazy.proofs.Lengthening.{length-Fun}
use Rattle.cq_lazy.proofs.Widening.{line_more}
use Rattle.cq_lazy.proofs.terms.+type_length.Goals as goal

pub loop-arg-preserved : goal.loop-arg-preserved
loop-arg-preserved t c = λ x.
    let f : TypeTerm → ℕ = length_at c.args.under.now x in
    line_more f c.as_slice-arg-items.result.now c.loop-arg.arg-index c.arg-item.result x c.loop-arg.line.symbols c.loop-arg.line.leaves c.in_ok-next-in-Fun.next.symbols c.in_ok-next-in-Fun.next.leaves
    c.in_ok-line-in-Fun.line.symbols c.in_ok-line-in-Fun.line.leaves c.loop-arg-test.true (c.loop-arg.invariant x) (sym (ap f c.arg-item.is) ∙ c.in_ok-next-in-Fun.ensures x) c.in_ok-line-in-Fun.ensures.0 c.in_ok-line-in-Fun.ensures.1

pub returns-after-loop-arg : goal.returns-after-loop-arg
returns-after-loop-arg t c = λ x.
    let f : TypeTerm → ℕ = length_at c.args.under.now x in
    let all : take c.loop-arg.arg-index c.as_slice-arg-items.result.now ≡ c.in-Fun.args = take_all c.loop-arg.arg-index c.as_slice-arg-items.result.now c.loop-arg-test.false ∙ c.as_slice-arg-items.ensures in
    ap f c.in-Fun.is ∙ length-Fun c.args.under.now x c.in-Fun.field-0 c.in-Fun.args ∙ ap (λ ts. sum (map f ts) + 1) (sym all) ∙ c.loop-arg.invariant x
