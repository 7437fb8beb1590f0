-- The words of one length.
use Rattle.std.specs.Prelude.{ℕ, List, [], ◌∷◌, length, nat_eq, if◌then◌else◌}
use Rattle.cq_rules.specs.Class.{Entry, words}

abbrev pub with_length : ℕ → List Entry → List Entry
with_length n [] = []
with_length n (e ∷ es) = if nat_eq (length e.word) n then e ∷ with_length n es else with_length n es

abbrev pub words_of : ℕ → List Entry
words_of n = with_length n words
