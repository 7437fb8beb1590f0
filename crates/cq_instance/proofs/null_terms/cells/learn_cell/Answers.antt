use Rattle.std.proofs.Common.{List, Option, false, ◌≡◌, sym, ap, ◌∙◌}
use Rattle.cq_theory.specs.declared.term.TypeTerm.{TypeTerm}
use Rattle.cq_theory.specs.declared.term.TypeTerm.TheVariants.{Att}
use Rattle.cq_theory.specs.declared.value.Value.{Value}
use Rattle.cq_instance.specs.Learning.{lacks}
use Rattle.cq_instance.proofs.CellsLearnt.{cell_learned}
use Rattle.cq_instance.proofs.Learnt.{not_lacking}
use Rattle.cq_instance.proofs.null_terms.cells.learn_cell.Goals as goal

pub returns-else-is_unknown : goal.returns-else-is_unknown
returns-else-is_unknown c =
    let known : List (Option TypeTerm) = c.args.known.now.items in
    let v : Value = c.cell-value.result.now in
    let lack : lacks known v ≡ false = ap (λ (l : List (Option TypeTerm)). lacks l v) (sym c.as_slice.ensures.value) ∙ sym c.is_unknown.ensures ∙ c.if-is_unknown.false in
    cell_learned c.args.instance.now c.args.attribute c.args.row c.args.name.now v known known c.requires.name c.cell-value.ensures
    (sym (not_lacking v (Att c.args.attribute c.args.name.now) known lack))
