-- Names among the tokens of a file.
use Rattle.std.specs.Prelude.{◌==◌, ◌&&◌, ◌||◌, ℕ, Bool, List, Option, Some, None, find, is_some, nat_eq, nat_lt, not}
use Rattle.std.specs.Prelude.{option_and_then, option_map, position, slice_get, ◌≡◌}
use Rattle.std.specs.Cmp.Lexicographic.{pointwise}
use Rattle.cq_base.specs.declared.name.Name.{Name}
use Rattle.cq_base.specs.declared.place.Place.{Place}
use Rattle.cq_lex.specs.declared.token.Kind.{Kind}
use Rattle.cq_lex.specs.declared.token.Kind.TheVariants.{Word, Text, Mark, End}
use Rattle.cq_lex.specs.declared.token.Token.{Token}

-- the place stands before the other
abbrev pub is_before : Place → Place → Bool
is_before place other = nat_lt place.line other.line || ((place.line == other.line) && nat_lt place.col other.col)

-- the name that a token spells
abbrev pub spelled_by : Kind → Option Name
spelled_by (Word name) = Some name
spelled_by (Text name) = Some name
spelled_by (Mark mark) = None
spelled_by End = None

-- the number of a name among some
abbrev pub number_among : List Name → Name → Option ℕ
number_among names word = position (λ name. pointwise nat_eq name word) names

-- the number of the name that a token spells
abbrev pub number_spelled : List Name → Token → Option ℕ
number_spelled names token = option_and_then (number_among names) (spelled_by token.kind)

-- the token stands at the place or behind it, and spells one of the names
abbrev pub spells_from : Place → List Name → Token → Bool
spells_from from names token = not (is_before token.place from) && is_some (number_spelled names token)

-- the place of a token, and the number of the name that it spells
abbrev pub place_and_number : List Name → Token → Option (Place × ℕ)
place_and_number names token = option_map (λ (number : ℕ). (token.place, number)) (number_spelled names token)

-- the same of the first token from a place on that spells one of the names
abbrev pub first_spelled : List Token → Place → List Name → Option (Place × ℕ)
first_spelled tokens from names = option_and_then (place_and_number names) (find (spells_from from names) tokens)

-- the place is that of the first token from another one on that spells one of some names, and this is the name
pub record IsSpelledFrom (tokens : List Token) (from place : Place) (name : Name) : Type 0 where
  pub names : List Name
  pub number : ℕ
  pub first : first_spelled tokens from names ≡ Some (place, number)
  pub is_name : slice_get names number ≡ Some name
