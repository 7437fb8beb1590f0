use Rattle.cq_lines.specs.Walks.{IsWalk}
use Rattle.cq_origin.specs.Records.{AreFound}
use Rattle.cq_origin.proofs.records.find_records.Given as goal

abbrev pub invariant-loop-number : goal.invariant-loop-number
invariant-loop-number l = IsWalk l.text l.walk × AreFound l.text l.found.items
