use Rattle.std.proofs.Common.{◌≡◌, ◌++◌, drop, map}
use Rattle.cq_sentences.specs.Filled.{filled}
use Rattle.cq_sentences.proofs.filling.append_filled.Given as goal

-- what is appended, and what is left of the sentence with the texts that are left, are the whole
abbrev pub invariant-loop-byte : goal.invariant-loop-byte
invariant-loop-byte l =
    l.out.items ++ filled (drop l.byte-index l.byte-items) (drop l.used (map (λ text. text.now) l.texts))
    ≡ l.initial.out.items ++ filled l.byte-items (map (λ text. text.now) l.texts)
