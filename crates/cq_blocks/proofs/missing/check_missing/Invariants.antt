use Rattle.std.proofs.Common.{◌≡◌, ◌-◌, length}
use Rattle.std.specs.List.{range_with_len}
use Rattle.cq_blocks.specs.Blocks.{missing_at, missing_part, first_of}
use Rattle.cq_blocks.proofs.missing.check_missing.Given as goal

abbrev pub invariant-loop-entity : goal.invariant-loop-entity
invariant-loop-entity l = first_of (missing_at l.making.target.now l.making.scopes.now l.making.clauses.now) (range_with_len l.entity (length l.making.target.now.entities - l.entity)) ≡ missing_part l.making.target.now l.making.scopes.now l.making.clauses.now
