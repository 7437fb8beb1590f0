use Rattle.std.proofs.Common.{◌≡◌, drop}
use Rattle.cq_proof.specs.Drafts.{blank, seen, all_obeyed}
use Rattle.cq_proof.proofs.draft.spelled.Given as goal

abbrev pub invariant-loop-number : goal.invariant-loop-number
invariant-loop-number l = all_obeyed (drop l.number-index l.numbers) (seen l.draft) ≡ all_obeyed l.numbers blank
