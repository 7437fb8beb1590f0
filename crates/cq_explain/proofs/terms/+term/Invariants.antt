use Rattle.std.proofs.Common.{◌≡◌, ◌++◌, take, map}
use Rattle.cq_theory.specs.ValueText.{after_commas}
use Rattle.cq_explain.specs.Explanation.{term_text}
use Rattle.cq_explain.proofs.terms.+term.Given as goal

abbrev pub invariant-push_args-loop-arg : goal.invariant-push_args-loop-arg
invariant-push_args-loop-arg l = l.text.items ≡ l.initial.text.items ++ after_commas (map (term_text l.schema l.presentation) (take l.arg-index l.rest))
