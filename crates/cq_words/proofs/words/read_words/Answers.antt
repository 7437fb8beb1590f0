use Rattle.std.proofs.Common.{ap, inl, inr, ◌∙◌}
use Rattle.clap.specs.Words.{is_simple, is_simple_and_free}
use Rattle.cq_words.proofs.Faults.{free, parse_reads, refusal_reads, simple}
use Rattle.cq_words.proofs.words.read_words.Goals as goal

pub returns-in-Ok-clause-reads : goal.returns-in-Ok-clause-reads
returns-in-Ok-clause-reads c =
    let is = c.in_ok-command.ensures in
    c.request_in.ensures.asked
    ∙ parse_reads _ _ _ is (c.in-Ok.ensures.kinds (ap is_simple_and_free is ∙ free)) (c.in-Ok.ensures.matches (ap is_simple is ∙ simple)).1

pub returns-clause-reads : goal.returns-clause-reads
returns-clause-reads c =
    let is = c.in_ok-command.ensures in
    elim (c.in-Err.ensures.kinds (ap is_simple_and_free is ∙ free)) [
      | inl memory ↦ absurd (c.in_default.not-OutOfMemory (c.kind.ensures ∙ memory))
      | inr among ↦ refusal_reads _ _ _ is among
    ]
