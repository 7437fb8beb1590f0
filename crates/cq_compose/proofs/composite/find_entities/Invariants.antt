use Rattle.std.proofs.Common.{◌≡◌, map, take}
use Rattle.std.specs.List.{flat_map}
use Rattle.cq_query.specs.Translation.{variables_at}
use Rattle.cq_compose.proofs.composite.find_entities.Given as goal

abbrev pub invariant-loop-var : goal.invariant-loop-var
invariant-loop-var l = l.made.items ≡ flat_map (λ y. map (λ v. v.1) (variables_at l.first y.1)) (take l.var-index l.vars)
