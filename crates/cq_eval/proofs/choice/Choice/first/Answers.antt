use Rattle.std.proofs.Common.{[], ◌∷◌, ◌++◌, map, take, get_or, sym, ap, ◌∙◌}
use Rattle.std.proofs.lemmas.List.{take_more, take_all, map-append}
use Rattle.cq_instance.specs.declared.standing.Standing.TheVariants.{Row}
use Rattle.cq_eval.proofs.Chosen.{chosen, chosen_back, rows_stand, first_rows}
use Rattle.cq_eval.proofs.choice.Choice.first.Goals as goal

pub loop-count-preserved : goal.loop-count-preserved
loop-count-preserved c =
    let counts = c.args.counts.now in
    c.in_ok-push.ensures.items ∙ (λ j. c.loop-count.invariant j ++ Row 0 ∷ [])
    ∙ sym (ap (map (λ _. Row 0)) (take_more counts c.loop-count._count-index 0 c.loop-count-test.true) ∙ map-append (λ _. Row 0) (take c.loop-count._count-index counts) (get_or counts c.loop-count._count-index 0 ∷ []))

pub invariant_of-result : goal.invariant_of-result
invariant_of-result c = rows_stand c.loop-count.standings.items (map (λ _. 0) (take c.loop-count._count-index c.args.counts.now)) (c.loop-count.invariant ∙ first_rows (take c.loop-count._count-index c.args.counts.now))

pub returns : goal.returns
returns c =
    let counts = c.args.counts.now in
    ap chosen (c.loop-count.invariant ∙ first_rows (take c.loop-count._count-index counts)) ∙ chosen_back (map (λ _. 0) (take c.loop-count._count-index counts))
    ∙ ap (map (λ _. 0)) (take_all c.loop-count._count-index counts c.loop-count-test.false)
