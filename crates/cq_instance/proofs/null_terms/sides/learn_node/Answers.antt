use Rattle.std.proofs.Common.{List, Option, false, ◌≡◌, sym, ap, ◌∙◌}
use Rattle.std.specs.Prelude.{option_copied}
use Rattle.cq_theory.specs.declared.term.TypeTerm.{TypeTerm}
use Rattle.cq_theory.specs.declared.value.Value.{Value}
use Rattle.cq_instance.specs.Learning.{lacks, node_at}
use Rattle.cq_instance.proofs.Learnt.{not_lacking}
use Rattle.cq_instance.proofs.null_terms.sides.learn_node.Goals as goal

pub returns-else-is_unknown : goal.returns-else-is_unknown
returns-else-is_unknown c =
    let known : List (Option TypeTerm) = c.args.known.now.items in
    let v : Value = c.args.value.now in
    let lack : lacks known v ≡ false = ap (λ (l : List (Option TypeTerm)). lacks l v) (sym c.as_slice.ensures.value) ∙ sym c.is_unknown.ensures ∙ c.if-is_unknown.false in
    sym (not_lacking v (node_at (option_copied c.args.name) c.args.term.now) known lack)
