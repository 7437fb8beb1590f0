use Rattle.std.proofs.Common.{◌≡◌, drop}
use Rattle.std.specs.List.{list_any}
use Rattle.std.specs.Prelude.{nat_lt}
use Rattle.cq_theory.specs.EntTerm as ent
use Rattle.cq_compose.specs.Frame.{terms_of}
use Rattle.cq_compose.proofs.lengths.any_long_component.Given as goal

abbrev pub invariant-loop-term : goal.invariant-loop-term
invariant-loop-term l = list_any (λ t. list_any (λ s. nat_lt 1024 (ent.symbols_of s)) (terms_of l.frame t)) (drop l.term-index l.terms) ≡ list_any (λ t. list_any (λ s. nat_lt 1024 (ent.symbols_of s)) (terms_of l.frame t)) l.terms
