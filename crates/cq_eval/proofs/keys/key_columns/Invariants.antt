use Rattle.std.proofs.Common.{◌≡◌, map, take}
use Rattle.std.specs.List.{enumerate_from}
use Rattle.cq_eval.specs.Made.{made_keys}
use Rattle.cq_eval.proofs.keys.key_columns.Given as goal

abbrev pub invariant-loop-key : goal.invariant-loop-key
invariant-loop-key l = l.columns.items ≡ map (made_keys l.query l.instance.tables) (enumerate_from 0 (take l.key l.keys))
