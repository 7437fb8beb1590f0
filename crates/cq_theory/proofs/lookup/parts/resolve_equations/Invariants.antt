use Rattle.std.proofs.Common.{◌≡◌, ◌+◌, ◌++◌, map, length}
use Rattle.std.specs.Prelude.{reverse}
use Rattle.cq_theory.specs.Resolve.{first_fault, equation_fault}
use Rattle.cq_theory.specs.Resolved.{resolved}
use Rattle.cq_theory.specs.Parts.{equation_of}
use Rattle.cq_theory.proofs.lookup.parts.resolve_equations.Given as goal

abbrev pub invariant-waiting : goal.invariant-waiting
invariant-waiting l = record {
  count : l.part + length l.waiting.items ≡ l.first + length l.fn.equations.items;
  rest : first_fault (equation_fault l.schema l.names l.sorts) l.part (reverse l.waiting.items)
      ≡ first_fault (equation_fault l.schema l.names l.sorts) l.first l.fn.equations.items;
  made : l.made.items ++ map (λ e. equation_of (resolved l.schema l.names l.sorts e.0) (resolved l.schema l.names l.sorts e.1))
      (reverse l.waiting.items)
      ≡ map (λ e. equation_of (resolved l.schema l.names l.sorts e.0) (resolved l.schema l.names l.sorts e.1))
      l.fn.equations.items;
}

abbrev pub decreases-waiting : goal.decreases-waiting
decreases-waiting l = length l.waiting.items
