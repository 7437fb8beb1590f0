use Rattle.std.proofs.Common.{◌≡◌, drop}
use Rattle.std.specs.List.{list_any}
use Rattle.std.specs.Prelude.{nat_lt}
use Rattle.cq_theory.specs.EntTerm as ent
use Rattle.cq_compose.specs.Frame.{terms_of}
use Rattle.cq_compose.proofs.lengths.any_long_key.Given as goal

abbrev pub invariant-loop-terms : goal.invariant-loop-terms
invariant-loop-terms l = list_any (list_any (λ t. list_any (λ s. nat_lt 1024 (ent.symbols_of s)) (terms_of l.frame t))) (drop l.terms-index l.keys) ≡ list_any (list_any (λ t. list_any (λ s. nat_lt 1024 (ent.symbols_of s)) (terms_of l.frame t))) l.keys
