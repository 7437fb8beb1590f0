use Rattle.std.proofs.Common.{rules}
use Rattle.std.proofs.lemmas.List.Sorted.{IsPartitionPoint-from_clause}
use Rattle.cq_origin.specs.Cells.{is_before}
use Rattle.cq_origin.proofs.cells.first_generator.Goals as goal

pub returns-clause-point : goal.returns-clause-point
returns-clause-point c parted =
    IsPartitionPoint-from_clause (is_before c.args.entity) c.args.generators.now c.partition_point.result c.partition_point.ensures.partitioned parted
    (λ a r f called. search rules)
