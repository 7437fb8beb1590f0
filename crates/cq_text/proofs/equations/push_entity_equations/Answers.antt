use Rattle.std.proofs.Common.{ℕ, List, ◌++◌, ap, ◌∙◌}
use Rattle.std.specs.List.{flat_map}
use Rattle.cq_theory.specs.Canonical.{row_equations}
use Rattle.cq_text.specs.Literal.{equation_line}
use Rattle.cq_text.proofs.Belows.{flat_map-below_more}
use Rattle.cq_text.proofs.equations.push_entity_equations.Goals as goal

pub loop-row-preserved : goal.loop-row-preserved
loop-row-preserved c =
    let i = c.args.instance.now in
    let text : ℕ → List ℕ = λ row. flat_map (equation_line i.schema) (row_equations i.schema i.tables c.args.entity row) in
    c.in_ok-push_equations_at.ensures ∙ ap (λ l. l ++ text c.loop-row.row) c.loop-row.invariant ∙ flat_map-below_more text c.args.text.now.items c.loop-row.row
