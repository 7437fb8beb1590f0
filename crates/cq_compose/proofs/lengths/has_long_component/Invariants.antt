use Rattle.std.proofs.Common.{ℕ, ◌≡◌, drop}
use Rattle.std.specs.Prelude.{nat_lt}
use Rattle.std.specs.List.{list_any}
use Rattle.cq_theory.specs.EntTerm as ent
use Rattle.cq_compose.specs.Frame.{terms_of}
use Rattle.cq_compose.proofs.lengths.has_long_component.Given as goal

abbrev pub invariant-loop-place : goal.invariant-loop-place
invariant-loop-place l = list_any (λ t. nat_lt 1024 (ent.symbols_of t)) (drop l.place (terms_of l.frame l.term)) ≡ list_any (λ t. nat_lt 1024 (ent.symbols_of t)) (terms_of l.frame l.term)
