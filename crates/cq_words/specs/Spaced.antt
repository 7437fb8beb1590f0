-- Words written in one line.
use Rattle.std.specs.Prelude.{ℕ, List, [], ◌∷◌, ◌==◌, if◌then◌else◌}

-- a byte more at the front of the first word
abbrev pub put_first : ℕ → List (List ℕ) → List (List ℕ)
put_first byte [] = (byte ∷ []) ∷ []
put_first byte (word ∷ words) = (byte ∷ word) ∷ words

-- the words between single blanks
abbrev pub words_in : List ℕ → List (List ℕ)
words_in [] = [] ∷ []
words_in (byte ∷ bytes) = if byte == 32 then [] ∷ words_in bytes else put_first byte (words_in bytes)
