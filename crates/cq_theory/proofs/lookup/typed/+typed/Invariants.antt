use Rattle.std.proofs.Common.{◌≡◌, take, drop, map, length}
use Rattle.cq_theory.specs.Resolve.{raw_sort, are_plain_of}
use Rattle.cq_theory.specs.Resolved.{resolved, type_term_in}
use Rattle.cq_theory.proofs.lookup.typed.+typed.Given as goal

abbrev pub invariant-typed_args-loop-i : goal.invariant-typed_args-loop-i
invariant-typed_args-loop-i l = record {
  made : l.terms.items ≡ map type_term_in (map (resolved l.schema l.names l.sorts) (take l.i l.args));
  rest : are_plain_of (map (raw_sort l.schema l.names l.sorts) (drop l.i l.args)) (drop l.i l.types)
      ≡ are_plain_of (map (raw_sort l.schema l.names l.sorts) l.args) l.types;
  same : length l.args ≡ length l.types;
}
