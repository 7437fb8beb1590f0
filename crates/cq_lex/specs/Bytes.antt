-- The bytes that blanks, words and marks are made of.
use Rattle.std.specs.Prelude.{ℕ, List, [], ◌∷◌, Bool, nat_eq, ◌||◌, ◌&&◌, not}
use Rattle.std.specs.Char.{is_ascii_alphanumeric}
use Rattle.cq_lex.specs.declared.token.Mark.{Mark}
use Rattle.cq_lex.specs.declared.token.Mark.TheVariants as marks

-- a space, a tab, CR or LF
abbrev pub is_blank : ℕ → Bool
is_blank b = nat_eq b 32 || (nat_eq b 9 || (nat_eq b 13 || nat_eq b 10))

-- an ASCII letter or digit, `_` or `$`
abbrev pub is_word_byte : ℕ → Bool
is_word_byte b = is_ascii_alphanumeric b || (nat_eq b 95 || nat_eq b 36)

-- the quote that begins and ends a text
abbrev pub quote : ℕ
quote = 34

abbrev pub backslash : ℕ
backslash = 92

-- the bytes that comments begin and end with
abbrev pub slash : ℕ
slash = 47

abbrev pub star : ℕ
star = 42

-- a byte of a text that stands for itself
abbrev pub is_plain : ℕ → Bool
is_plain b = not (nat_eq b quote) && not (nat_eq b backslash)

-- how a mark is spelled: { } ( ) [ ] : ; , . = + ->
abbrev pub mark_bytes : Mark → List ℕ
mark_bytes marks.LeftBrace = 123 ∷ []
mark_bytes marks.RightBrace = 125 ∷ []
mark_bytes marks.LeftParen = 40 ∷ []
mark_bytes marks.RightParen = 41 ∷ []
mark_bytes marks.LeftBracket = 91 ∷ []
mark_bytes marks.RightBracket = 93 ∷ []
mark_bytes marks.Colon = 58 ∷ []
mark_bytes marks.Semicolon = 59 ∷ []
mark_bytes marks.Comma = 44 ∷ []
mark_bytes marks.Dot = 46 ∷ []
mark_bytes marks.Equals = 61 ∷ []
mark_bytes marks.Plus = 43 ∷ []
mark_bytes marks.Arrow = 45 ∷ 62 ∷ []
