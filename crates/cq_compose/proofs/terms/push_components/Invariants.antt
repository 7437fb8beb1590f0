use Rattle.std.proofs.Common.{◌≡◌, ◌++◌, take}
use Rattle.cq_compose.specs.Frame.{terms_of}
use Rattle.cq_compose.proofs.terms.push_components.Given as goal

abbrev pub invariant-loop-place : goal.invariant-loop-place
invariant-loop-place l = l.made.items ≡ l.initial.made.items ++ take l.place (terms_of l.frame l.term)
