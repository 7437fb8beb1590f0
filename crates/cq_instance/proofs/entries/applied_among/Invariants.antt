use Rattle.std.proofs.Common.{◌≡◌, drop}
use Rattle.cq_theory.specs.Tables.{is_for}
use Rattle.cq_instance.specs.EntryLists.{first_among}
use Rattle.cq_instance.proofs.entries.applied_among.Given as goal

abbrev pub invariant-loop-place : goal.invariant-loop-place
invariant-loop-place l = first_among (is_for l.function l.args.items) l.entries (drop l.place-index l.places) ≡ first_among (is_for l.function l.args.items) l.entries l.places
