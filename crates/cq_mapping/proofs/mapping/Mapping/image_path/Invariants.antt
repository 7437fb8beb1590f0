use Rattle.std.proofs.Common.{◌≡◌, take}
use Rattle.cq_mapping.specs.Images.{path_image}
use Rattle.cq_mapping.proofs.mapping.Mapping.image_path.Given as goal

abbrev pub invariant-loop-key : goal.invariant-loop-key
invariant-loop-key l = l.made.items ≡ path_image l.self (take l.key-index l.path)
