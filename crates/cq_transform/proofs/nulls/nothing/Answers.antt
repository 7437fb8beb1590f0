use Rattle.std.proofs.Common.{List, Option, None, ◌∷◌, ◌++◌, [], ap, ◌∙◌}
use Rattle.std.proofs.lemmas.List.{replicate_more}
use Rattle.cq_theory.specs.declared.value.Value.{Value}
use Rattle.cq_transform.proofs.nulls.nothing.Goals as goal

pub loop-preserved : goal.loop-preserved
loop-preserved c = c.in_ok-push.ensures.items ∙ ap (λ (l : List (Option Value)). l ++ None ∷ []) c.loop.invariant ∙ replicate_more c.loop.counter None
