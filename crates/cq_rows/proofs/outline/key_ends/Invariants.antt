use Rattle.std.proofs.Common.{◌≡◌, map, take}
use Rattle.cq_rows.specs.Plain.{ends_of}
use Rattle.cq_rows.proofs.outline.key_ends.Given as goal

abbrev pub invariant-loop-edge : goal.invariant-loop-edge
invariant-loop-edge l = l.keys.items ≡ map ends_of (take l.edge-index l.edge-items)
