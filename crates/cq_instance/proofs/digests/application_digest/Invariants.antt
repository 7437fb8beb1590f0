use Rattle.std.proofs.Common.{◌≡◌, drop}
use Rattle.std.specs.Prelude.{◌++◌, fold}
use Rattle.std.specs.List.{flat_map}
use Rattle.std.specs.Hash as fed
use Rattle.std.specs.Hash.DefaultHasher as sip
use Rattle.cq_instance.specs.Digests.{fed_value}
use Rattle.cq_instance.proofs.digests.application_digest.Given as goal

abbrev pub invariant-loop-arg : goal.invariant-loop-arg
invariant-loop-arg l = fold sip.write l.state (flat_map fed_value (drop l.arg-index l.args)) ≡ fold sip.write l.fn.hashing.initial (fed.u32 l.function ++ flat_map fed_value l.args)
