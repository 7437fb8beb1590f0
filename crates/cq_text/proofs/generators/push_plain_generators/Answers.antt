use Rattle.std.proofs.Common.{ℕ, List, ◌++◌, ◌+◌, ap, ◌∙◌}
use Rattle.std.specs.Prelude.{slice_index}
use Rattle.cq_text.specs.Spelling.{plain_line}
use Rattle.cq_text.proofs.Belows.{flat_map-below_more}
use Rattle.cq_text.proofs.generators.push_plain_generators.Goals as goal

pub loop-label-preserved : goal.loop-label-preserved
loop-label-preserved c =
    let text : ℕ → List ℕ = λ label. plain_line c.args.typeside.now (c.args.first_null + label) (slice_index c.args.sorts.now label) in
    c.in_ok-push_plain_generator.ensures ∙ ap (λ n. c.loop-label.text.items ++ plain_line c.args.typeside.now n (slice_index c.args.sorts.now c.loop-label.label)) c.in_ok-sum_of.ensures
    ∙ ap (λ l. l ++ text c.loop-label.label) c.loop-label.invariant ∙ flat_map-below_more text c.args.text.now.items c.loop-label.label
