use Rattle.std.proofs.Common.{◌≡◌, drop, map}
use Rattle.cq_theory.specs.SchemaParts.{applied_source, first_found}
use Rattle.cq_theory.proofs.lookup.observations.+source.Given as goal

abbrev pub invariant-find_source_in-loop-arg : goal.invariant-find_source_in-loop-arg
invariant-find_source_in-loop-arg l =
    first_found (map (applied_source l.schema l.variable) (drop l.arg-index l.args)) ≡ first_found (map (applied_source l.schema l.variable) l.args)
