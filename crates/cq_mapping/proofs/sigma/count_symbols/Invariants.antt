use Rattle.std.proofs.Common.{◌≡◌, ◌+◌, take, length}
use Rattle.std.specs.Prelude.{min}
use Rattle.cq_mapping.specs.Images.{path_image}
use Rattle.cq_mapping.proofs.sigma.count_symbols.Given as goal

abbrev pub invariant-loop-key : goal.invariant-loop-key
invariant-loop-key l = l.count ≡ min 1025 (length (path_image l.mapping (take l.key-index l.key-items)) + 1)
