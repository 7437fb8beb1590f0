use Rattle.std.proofs.Common.{◌≡◌, ℕ, ◌<◌, Some}
use Rattle.std.specs.Prelude.{IsSome}
use Rattle.cq_tables.specs.Content.{entity_of, step_of, cell_of, keys_of}
use Rattle.cq_tables.proofs.Starting.{next_key}
use Rattle.cq_growth.proofs.news.empty_key.Given as goal

abbrev pub invariant-loop-key : goal.invariant-loop-key
invariant-loop-key l = (k d : ℕ) → k < next_key (keys_of l.tables) l.entity l.key-index → step_of (keys_of l.tables) (entity_of l.tables l.row) k ≡ Some d → IsSome (cell_of l.tables l.row k)
