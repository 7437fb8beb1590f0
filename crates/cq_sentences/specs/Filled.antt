-- A sentence with what is filled in.
use Rattle.std.specs.Prelude.{◌==◌, ℕ, List, [], ◌∷◌, ◌++◌, if◌then◌else◌}

-- the first of some texts, and the others; nothing where there is none
abbrev pub first_text : List (List ℕ) → List ℕ
first_text [] = []
first_text (text ∷ texts) = text

abbrev pub other_texts : List (List ℕ) → List (List ℕ)
other_texts [] = []
other_texts (text ∷ texts) = texts

-- what stands for a byte of a sentence, where a `#` stands for the first of some texts, and the texts that are then left
abbrev pub piece : ℕ → List (List ℕ) → List ℕ
piece byte texts = if byte == 35 then first_text texts else byte ∷ []

abbrev pub left_behind : ℕ → List (List ℕ) → List (List ℕ)
left_behind byte texts = if byte == 35 then other_texts texts else texts

-- the sentence, with one text after the other in the place of each `#`
abbrev pub filled : List ℕ → List (List ℕ) → List ℕ
filled [] texts = []
filled (byte ∷ bytes) texts = piece byte texts ++ filled bytes (left_behind byte texts)
