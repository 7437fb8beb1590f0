use Rattle.std.proofs.Common.{ℕ, List, ◌++◌, ap, ◌∙◌}
use Rattle.std.specs.Prelude.{slice_index}
use Rattle.cq_text.specs.Transcript.{null_line}
use Rattle.cq_text.proofs.Belows.{flat_map-below_more}
use Rattle.cq_text.proofs.algebra.push_null_lines.Goals as goal

pub loop-label-preserved : goal.loop-label-preserved
loop-label-preserved c =
    let text : ℕ → List ℕ = λ label. null_line c.args.typeside.now label (slice_index c.args.sorts.now label) in
    c.in_ok-push_null_line.ensures ∙ ap (λ l. l ++ text c.loop-label.label) c.loop-label.invariant ∙ flat_map-below_more text c.args.text.now.items c.loop-label.label
