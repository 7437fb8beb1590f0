use Rattle.std.proofs.Common.{List, ◌∷◌, ◌++◌, [], sym, ap, ◌∙◌}
use Rattle.cq_theory.specs.declared.value.Value.{Value}
use Rattle.cq_theory.specs.declared.value.Value.TheVariants.{Null}
use Rattle.cq_transform.proofs.Ranges.{map_below_more}
use Rattle.cq_transform.proofs.identities.own_nulls.Goals as goal

pub loop-label-preserved : goal.loop-label-preserved
loop-label-preserved c =
    c.in_ok-push.ensures.items ∙ ap (λ (l : List Value). l ++ Null c.loop-label.label ∷ []) c.loop-label.invariant ∙ sym (map_below_more Null c.loop-label.label)
