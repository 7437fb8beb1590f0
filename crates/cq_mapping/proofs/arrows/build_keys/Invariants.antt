use Rattle.std.proofs.Common.{◌≡◌, take, map}
use Rattle.cq_mapping.specs.MappingParts.{made_key}
use Rattle.cq_mapping.proofs.arrows.build_keys.Given as goal

abbrev pub invariant-loop-edge : goal.invariant-loop-edge
invariant-loop-edge l = l.keys.items ≡ map (made_key l.target l.given l.parts) (take l.edge-index l.source.keys)
