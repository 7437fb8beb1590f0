use Rattle.std.proofs.Common.{ℕ, List, ◌++◌, ap, ◌∙◌}
use Rattle.std.specs.List.{flat_map}
use Rattle.cq_theory.specs.Tables.{count_of}
use Rattle.cq_theory.specs.Canonical.{below, row_equations}
use Rattle.cq_text.specs.Literal.{equation_line}
use Rattle.cq_text.proofs.Belows.{flat_map-below_more}
use Rattle.cq_text.proofs.equations.push_row_equations.Goals as goal

pub loop-entity-preserved : goal.loop-entity-preserved
loop-entity-preserved c =
    let i = c.args.instance.now in
    let text : ℕ → List ℕ = λ entity. flat_map (λ row. flat_map (equation_line i.schema) (row_equations i.schema i.tables entity row)) (below (count_of i.tables entity)) in
    c.in_ok-push_entity_equations.ensures ∙ ap (λ l. l ++ text c.loop-entity.entity) c.loop-entity.invariant ∙ flat_map-below_more text c.args.text.now.items c.loop-entity.entity
