use Rattle.std.proofs.Common.{◌≡◌, drop}
use Rattle.std.specs.List.{list_any}
use Rattle.std.specs.Prelude.{nat_lt}
use Rattle.cq_theory.specs.TypeTerm as typ
use Rattle.cq_compose.specs.Composite.{translated}
use Rattle.cq_compose.proofs.lengths.any_long_attribute.Given as goal

abbrev pub invariant-loop-term : goal.invariant-loop-term
invariant-loop-term l = list_any (λ t. nat_lt 1024 (typ.symbols_of (translated l.frame.first.now l.frame.second.now l.frame.entity t))) (drop l.term-index l.terms) ≡ list_any (λ t. nat_lt 1024 (typ.symbols_of (translated l.frame.first.now l.frame.second.now l.frame.entity t))) l.terms
