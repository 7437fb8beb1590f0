use Rattle.std.proofs.Common.{ℕ, List, ◌++◌, ap, ◌∙◌}
use Rattle.std.specs.List.{flat_map}
use Rattle.cq_theory.specs.Tables.{count_of}
use Rattle.cq_theory.specs.Canonical.{below}
use Rattle.cq_text.specs.Spelling.{row_generator_line}
use Rattle.cq_text.proofs.Belows.{flat_map-below_more}
use Rattle.cq_text.proofs.generators.push_row_generators.Goals as goal

pub loop-entity-preserved : goal.loop-entity-preserved
loop-entity-preserved c =
    let i = c.args.instance.now in
    let text : ℕ → List ℕ = λ entity. flat_map (row_generator_line i.schema i.tables entity) (below (count_of i.tables entity)) in
    c.in_ok-push_entity_generators.ensures ∙ ap (λ l. l ++ text c.loop-entity.entity) c.loop-entity.invariant ∙ flat_map-below_more text c.args.text.now.items c.loop-entity.entity
