use Rattle.std.proofs.Common.{◌≡◌, ◌++◌, take}
use Rattle.std.specs.List.{flat_map}
use Rattle.cq_theory.specs.Groups.{positions}
use Rattle.cq_query.specs.Translation.{key_sources}
use Rattle.cq_query.specs.Coeval.{key_equations}
use Rattle.cq_query.proofs.rows.push_row_keys.Given as goal

abbrev pub invariant-loop-key : goal.invariant-loop-key
invariant-loop-key l = l.made.items ≡ l.initial.made.items ++ flat_map (key_equations l.layout.query.now l.layout.sheet.now l.row.entity l.row.number) (take l.key-index (positions (key_sources l.layout.query.now) l.row.entity))
