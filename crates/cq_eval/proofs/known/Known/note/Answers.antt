use Rattle.std.proofs.Common.{inl, inr, arith}
use Rattle.std.proofs.lemmas.Bool.{cases_lt}
use Rattle.cq_eval.proofs.known.Known.note.Goals as goal

pub returns-then-stretch-clause-vain : goal.returns-then-stretch-clause-vain
returns-then-stretch-clause-vain c = λ place less. elim (cases_lt place c.args.self.now.vain) [
  | inl old ↦ inl old
  | inr over ↦ inr (c.if-stretch.true, omega (arith, less, c.max-self.ensures, c.set.ensures.vain, over))
]

pub returns-else-stretch-clause-vain : goal.returns-else-stretch-clause-vain
returns-else-stretch-clause-vain c = λ place less. inl (omega (arith, less, c.set.ensures.vain))
