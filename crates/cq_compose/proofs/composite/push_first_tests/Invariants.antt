use Rattle.std.proofs.Common.{ℕ, ◌≡◌, ◌++◌, map, take}
use Rattle.std.specs.List.{flat_map, enumerate_from}
use Rattle.cq_query.specs.Puts.{put_equation}
use Rattle.cq_query.specs.Translation.{tests_at}
use Rattle.cq_compose.specs.Composite.{components}
use Rattle.cq_compose.proofs.composite.push_first_tests.Given as goal

abbrev pub invariant-loop-var : goal.invariant-loop-var
invariant-loop-var l =
    (l.variable ≡ l.var-index) × (l.made.items ≡ l.initial.made.items ++ flat_map (λ y. map (put_equation
    (components l.frame.first.now l.frame.second.now l.frame.entity y.0)) (tests_at l.frame.first.now y.1.1)) (take l.var-index (enumerate_from 0 l.vars)))
