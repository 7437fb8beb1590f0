use Rattle.std.proofs.Common.{ℕ, [], ◌∷◌, ◌++◌, ◌≡◌, map, sym, ap, ◌∙◌}
use Rattle.cq_theory.specs.Tables.{row_of}
use Rattle.cq_instance.specs.Standing.{meaning}
use Rattle.cq_transform.specs.Rows.{row_there}
use Rattle.cq_transform.proofs.Ranges.{map_below_more}
use Rattle.cq_transform.proofs.rows.entity_rows.Goals as goal

pub loop-row-preserved : goal.loop-row-preserved
loop-row-preserved c =
    let meant = map meaning c.args.standings.now in
    let f : ℕ → ℕ = row_there c.args.source.now c.args.target.now meant c.args.entity in
    let made : c.row_there.result ≡ f c.loop-row.row = c.row_there.ensures ∙ ap (row_of c.args.target.now.tables meant) c.name_of-name.ensures in
    c.in_ok-push.ensures.items ∙ (λ k. c.loop-row.invariant k ++ made k ∷ []) ∙ sym (map_below_more f c.loop-row.row)
