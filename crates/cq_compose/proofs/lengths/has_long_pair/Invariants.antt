use Rattle.std.proofs.Common.{◌≡◌, drop}
use Rattle.std.specs.List.{list_any}
use Rattle.cq_theory.specs.Presentation.{has_long_side}
use Rattle.cq_query.specs.Duties.{equal_terms}
use Rattle.cq_compose.specs.Frame.{terms_of}
use Rattle.cq_compose.proofs.lengths.has_long_pair.Given as goal

abbrev pub invariant-loop-place : goal.invariant-loop-place
invariant-loop-place l = list_any has_long_side (equal_terms (drop l.place (terms_of l.frame l.left)) (drop l.place (terms_of l.frame l.right))) ≡ list_any has_long_side (equal_terms (terms_of l.frame l.left) (terms_of l.frame l.right))
