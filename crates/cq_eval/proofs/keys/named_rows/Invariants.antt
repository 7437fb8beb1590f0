use Rattle.std.proofs.Common.{◌≡◌, map, take}
use Rattle.cq_theory.specs.Tables.{AtRow, row_of}
use Rattle.cq_eval.proofs.keys.named_rows.Given as goal

abbrev pub invariant-loop-term : goal.invariant-loop-term
invariant-loop-term l = l.rows.items ≡ map (row_of l.instance.tables (map AtRow l.choice)) (take l.term-index l.terms)
