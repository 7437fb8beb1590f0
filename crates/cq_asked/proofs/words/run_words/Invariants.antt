use Rattle.std.proofs.Common.{◌≡◌, map, string_bytes, take}
use Rattle.cq_asked.specs.Asked.{run_words}
use Rattle.cq_asked.proofs.words.run_words.Given as goal

-- the first word, and the words so far
abbrev pub invariant-loop-word : goal.invariant-loop-word
invariant-loop-word l = map string_bytes l.all.items ≡ run_words (map string_bytes (take l.word-index l.words))
