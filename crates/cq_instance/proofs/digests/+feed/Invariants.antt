use Rattle.std.proofs.Common.{◌≡◌, drop}
use Rattle.std.specs.Prelude.{fold}
use Rattle.std.specs.List.{flat_map}
use Rattle.std.specs.Hash.DefaultHasher as sip
use Rattle.cq_instance.specs.Digests.{fed_value}
use Rattle.cq_instance.proofs.digests.+feed.Given as goal

abbrev pub decreases-feed : goal.decreases-feed
decreases-feed l = goal.size-feed l

abbrev pub invariant-loop-arg : goal.invariant-loop-arg
invariant-loop-arg l = fold sip.write l.state (flat_map fed_value (drop l.arg-index l.arg-items)) ≡ fold sip.write l.fn.state (fed_value l.value)
