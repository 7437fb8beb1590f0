use Rattle.std.proofs.Common.{◌≡◌, drop, take}
use Rattle.cq_theory.specs.Declaring.{first_part_fault}
use Rattle.cq_blocks.specs.Blocks.{block_fault, blocks_fault}
use Rattle.cq_blocks.proofs.owners.add_blocks.Given as goal

abbrev pub invariant-loop-name : goal.invariant-loop-name
invariant-loop-name l =
    (l.part ≡ l.name-index)
    × (l.table ≡ take l.name-index l.names)
    × (first_part_fault (λ name. name) (block_fault l.target) l.table l.part (drop l.name-index l.names) ≡ blocks_fault l.target l.names)
