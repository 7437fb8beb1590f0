use Rattle.std.proofs.Common.{◌≡◌, ◌++◌, take}
use Rattle.std.specs.List.{flat_map}
use Rattle.cq_theory.specs.Schema.{edge_names}
use Rattle.cq_colimit.specs.Clashes.{given_by}
use Rattle.cq_colimit.proofs.given.given_arrows.Given as goal

abbrev pub invariant-loop-part : goal.invariant-loop-part
invariant-loop-part l =
    l.made.items ≡ flat_map (λ part. given_by part (edge_names part.schema.keys)) l.parts
    ++ flat_map (λ part. given_by part (edge_names part.schema.attributes)) (take l.part-index l.parts)
