use Rattle.std.proofs.Common.{◌≡◌, ◌++◌, take, map}
use Rattle.cq_theory.specs.ValueText.{after_commas}
use Rattle.cq_text.specs.Spelling.{spelled}
use Rattle.cq_text.proofs.spelling.+spell.Given as goal

abbrev pub invariant-push_spelled_args-loop-arg : goal.invariant-push_spelled_args-loop-arg
invariant-push_spelled_args-loop-arg l = l.text.items ≡ l.initial.text.items ++ after_commas (map (spelled l.typeside l.first_null) (take l.arg-index l.rest))
