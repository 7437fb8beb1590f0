use Rattle.std.proofs.Common.{◌≡◌, ◌+◌, drop, take, map}
use Rattle.cq_theory.specs.Resolve.{first_fault}
use Rattle.cq_theory.specs.Paths.{is_among, path_eq_fault, made_path_eq}
use Rattle.cq_theory.proofs.lookup.paths.add_path_eqs.Given as goal

abbrev pub invariant-loop-path_eq : goal.invariant-loop-path_eq
invariant-loop-path_eq l =
    (l.part ≡ l.first + l.path_eq-index)
    × (l.made.items ≡ map (made_path_eq l.schema) (take l.path_eq-index l.parts))
    × (first_fault (path_eq_fault l.schema (is_among l.attributes)) l.part (drop l.path_eq-index l.parts) ≡ first_fault (path_eq_fault l.schema (is_among l.attributes)) l.first l.parts)
