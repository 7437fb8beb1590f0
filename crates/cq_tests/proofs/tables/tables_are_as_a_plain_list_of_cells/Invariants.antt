use Rattle.std.proofs.Common.{◌≡◌, ◌<◌}
use Rattle.cq_tests.specs.declared.tables.TheConstants.{KEYS}
use Rattle.cq_tables.specs.Content.{entities_of, keys_of}
use Rattle.cq_tests.proofs.tables.tables_are_as_a_plain_list_of_cells.Given as goal

abbrev pub invariant-loop-turn : goal.invariant-loop-turn
invariant-loop-turn g l = record {
  entities : entities_of l.tables ≡ 2;
  keys : keys_of l.tables ≡ KEYS;
  number : l.number < 65537;
}
