use Rattle.std.proofs.Common.{ℕ, List, [], ◌≡◌, map, take}
use Rattle.std.specs.Prelude.{slice_index, slice_index_or}
use Rattle.std.specs.List.{enumerate_from}
use Rattle.cq_transform.proofs.composing.composed_rows.Given as goal

abbrev pub invariant-loop-entity : goal.invariant-loop-entity
invariant-loop-entity l =
    l.made.items ≡ map (λ (e : ℕ × List ℕ). map (slice_index (slice_index_or l.second e.0 [])) e.1) (enumerate_from 0 (take l.entity l.first))
