use Rattle.std.proofs.Common.{◌≡◌, ◌+◌, map, replicate, slice_index}
use Rattle.cq_theory.specs.Canonical.{below}
use Rattle.cq_names.specs.Ranks.{rank}
use Rattle.cq_model.proofs.leaves.ranks.Given as goal

abbrev pub invariant-loop-source : goal.invariant-loop-source
invariant-loop-source l = record {
  counts_are : l.counts.items ≡ map (λ e. slice_index (replicate l.entities 0) e + rank l.sources e l.source-index) (below l.entities);
  ranks_are : l.ranks.items ≡ map (λ a. rank l.sources (slice_index l.sources a) a) (below l.source-index);
}
