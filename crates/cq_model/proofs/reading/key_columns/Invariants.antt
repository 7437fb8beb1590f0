use Rattle.std.proofs.Common.{◌≡◌, map, take}
use Rattle.std.specs.List.{enumerate_from}
use Rattle.cq_tables.specs.Content.{cell_of}
use Rattle.cq_names.specs.LeastNames.{rows_at}
use Rattle.cq_model.specs.Built.{number_in}
use Rattle.cq_model.proofs.reading.key_columns.Given as goal

abbrev pub invariant-loop-key : goal.invariant-loop-key
invariant-loop-key l = l.columns.items ≡ map (λ k. map (λ r. number_in l.numbers (cell_of l.tables r k.0)) (rows_at l.order k.1.from)) (enumerate_from 0 (take l.key l.keys))
