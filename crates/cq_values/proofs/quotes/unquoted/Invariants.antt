use Rattle.std.proofs.Common.{◌≡◌, length, false}
use Rattle.cq_values.specs.Reading as reading
use Rattle.cq_values.specs.Reading.{behind}
use Rattle.cq_values.proofs.quotes.unquoted.Given as goal

abbrev pub invariant-bytes : goal.invariant-bytes
invariant-bytes l = reading.unquoted false l.bytes ≡ behind l.content.items (reading.unquoted false l.rest)

abbrev pub decreases-bytes : goal.decreases-bytes
decreases-bytes l = length l.rest
