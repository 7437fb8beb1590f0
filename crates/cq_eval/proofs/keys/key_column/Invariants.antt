use Rattle.std.proofs.Common.{◌≡◌, map, take}
use Rattle.cq_theory.specs.Tables.{AtRow, row_of}
use Rattle.cq_eval.specs.Made.{place_in}
use Rattle.cq_eval.proofs.keys.key_column.Given as goal

abbrev pub invariant-loop-place : goal.invariant-loop-place
invariant-loop-place l = l.column.items ≡ map (λ rows. place_in l.target (map (row_of l.instance.tables (map AtRow rows)) l.terms)) (take l.place l.source)
