use Rattle.std.proofs.Common.{◌≡◌, map, take}
use Rattle.std.specs.List.{enumerate_from}
use Rattle.cq_mapping.specs.Moved.{key_column}
use Rattle.cq_move.proofs.pulling.pulled_keys.Given as goal

abbrev pub invariant-loop-key : goal.invariant-loop-key
invariant-loop-key l = l.columns.items ≡ map (key_column l.mapping l.instance.tables) (enumerate_from 0 (take l.key l.keys))
