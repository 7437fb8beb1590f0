use Rattle.std.proofs.Common.{◌≡◌, drop}
use Rattle.std.specs.Prelude.{find}
use Rattle.cq_theory.specs.Tables.{is_for}
use Rattle.cq_instance.proofs.application.applied.Given as goal

abbrev pub invariant-loop-entry : goal.invariant-loop-entry
invariant-loop-entry l = find (is_for l.function l.args.items) (drop l.entry-index l.entries) ≡ find (is_for l.function l.args.items) l.entries
