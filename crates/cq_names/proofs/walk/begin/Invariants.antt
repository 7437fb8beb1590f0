use Rattle.std.proofs.Common.{◌≡◌, map, length}
use Rattle.cq_tables.specs.Content.{made_of, keys_of}
use Rattle.cq_rows.specs.Plain.{ends_of}
use Rattle.cq_theory.specs.SchemaData.{SchemaData as Schema}
use Rattle.cq_names.specs.Walking.{IsWalked}
use Rattle.cq_names.proofs.walk.begin.Given as goal

abbrev pub invariant-loop-number : goal.invariant-loop-number
invariant-loop-number l = record {
  marks : length l.walk.met ≡ made_of l.tables;
  walked : (S : Schema) → keys_of l.tables ≡ map ends_of S.keys → IsWalked S l.presentation l.tables l.entries l.walk l.number 0 0;
}
