use Rattle.std.proofs.Common.{List, Option, false, ◌≡◌, refl, sym, ap, ◌∙◌}
use Rattle.cq_theory.specs.declared.constant.Con.TheVariants.{Named}
use Rattle.cq_theory.specs.declared.term.TypeTerm.{TypeTerm}
use Rattle.cq_theory.specs.declared.term.TypeTerm.TheVariants.{Gen}
use Rattle.cq_theory.specs.declared.value.Value.TheVariants.{Const}
use Rattle.cq_theory.specs.Tables.{value_in}
use Rattle.cq_instance.specs.declared.standing.Standing.{Standing}
use Rattle.cq_instance.specs.Learning.{lacks, learned}
use Rattle.cq_instance.specs.Standing.{meaning}
use Rattle.cq_instance.proofs.Learnt.{not_lacking, unmoved}
use Rattle.cq_instance.proofs.null_terms.cells.learn_generator.Goals as goal

pub returns-else-is_unknown : goal.returns-else-is_unknown
returns-else-is_unknown c =
    let known : List (Option TypeTerm) = c.args.known.now.items in
    let lack : lacks known c.in-Value.value ≡ false =
    ap (λ (l : List (Option TypeTerm)). lacks l c.in-Value.value) (sym c.as_slice.ensures.value) ∙ sym c.is_unknown.ensures ∙ c.if-is_unknown.false in
    sym (ap (λ (s : Standing). learned (value_in (meaning s)) (Gen c.args.generator) known) c.in-Value.is ∙ not_lacking c.in-Value.value (Gen c.args.generator) known lack)

pub returns-in_default : goal.returns-in_default
returns-in_default c =
    let known : List (Option TypeTerm) = c.args.known.now.items in
    sym (ap (λ (s : Standing). learned (value_in (meaning s)) (Gen c.args.generator) known) c.in_default.is ∙ unmoved (Const (Named 0)) (Gen c.args.generator) known (λ label. refl))
