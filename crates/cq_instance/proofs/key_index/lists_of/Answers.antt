use Rattle.std.proofs.Common.{ℕ, List, [], ◌≡◌, map}
use Rattle.std.specs.Prelude.{slice_index_or}
use Rattle.cq_theory.specs.Canonical.{below}
use Rattle.cq_theory.specs.Groups.{positions}
use Rattle.cq_instance.proofs.Positions.{if_ok}
use Rattle.cq_instance.proofs.IndexedRows.{positions_at}
use Rattle.cq_instance.proofs.key_index.lists_of.Goals as goal

pub returns : goal.returns
returns c =
    let column : List ℕ = c.args.column.now in
    if_ok c.grouped.result (λ (lists : List (List ℕ)). lists ≡ map (positions column) (below c.args.count)) (λ (lists : List (List ℕ)). (row : ℕ) → slice_index_or lists row [] ≡ positions column row)
    (λ lists made. positions_at column c.args.count lists c.requires.within made) c.grouped.ensures
