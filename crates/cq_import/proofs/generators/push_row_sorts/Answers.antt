use Rattle.std.proofs.Common.{ℕ, ◌≡◌, ◌++◌, ◌∙◌, length, map, sym, ap}
use Rattle.std.specs.Prelude.{replicate}
use Rattle.std.proofs.lemmas.List.{length-map}
use Rattle.cq_theory.specs.declared.presentation.Sort.TheVariants.{Entity}
use Rattle.cq_import.specs.declared.entity_file.EntityFile.{EntityFile}
use Rattle.cq_import.specs.Context.{sheet_in}
use Rattle.cq_import.specs.Imports.{entity_sorts}
use Rattle.cq_import.specs.Rows.{id_of, rows_of}
use Rattle.cq_import.proofs.Named.{pushed_below}
use Rattle.cq_import.proofs.Starts.{rows_here}
use Rattle.cq_import.proofs.generators.push_row_sorts.Goals as goal

pub loop-entity-preserved : goal.loop-entity-preserved
loop-entity-preserved c =
    let files = c.args.files.now in
    let entity = c.loop-entity.entity in
    let file = c.index-files-entity.result in
    let rows = rows_here files entity file c.loop-entity-test.true c.index-files-entity.is in
    let count = c.len.ensures ∙ ap (λ (f : EntityFile). length f.ids) (sym c.index-files-entity.is) ∙ ap length file.ids_are ∙ length-map (rows_of file.text.items) id_of ∙ sym (ap length rows) in
    pushed_below (entity_sorts (map sheet_in files)) c.args.made.now.items c.loop-entity.made.items _ entity c.loop-entity.invariant
    (c.in_ok-push_copies.ensures ∙ ap (λ n. c.loop-entity.made.items ++ replicate n (Entity entity)) count)
