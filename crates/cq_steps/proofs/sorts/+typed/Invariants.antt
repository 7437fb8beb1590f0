use Rattle.std.proofs.Common.{◌≡◌, drop, map, length}
use Rattle.cq_theory.specs.Sorts.{type_of, have_types}
use Rattle.cq_steps.proofs.sorts.+typed.Given as goal

abbrev pub invariant-have_types-loop-i : goal.invariant-have_types-loop-i
invariant-have_types-loop-i l =
    (have_types (map (type_of l.schema l.generators) (drop l.i l.args)) (drop l.i l.types) ≡ have_types (map (type_of l.schema l.generators) l.args) l.types)
    × (length l.args ≡ length l.types)
