-- What the parts of a cursor are.
use Rattle.std.specs.Prelude.{ℕ, List, [], ◌∷◌, Option, Some, None}
use Rattle.cq_lex.specs.declared.token.Token.{Token}
use Rattle.cq_rules.specs.Outcome.{Outs}
use Rattle.cq_productions.specs.declared.cursor.Next.{Next}

-- the tokens of a cursor that was split
abbrev pub tokens_of : Option Next → List Token
tokens_of None = []
tokens_of (Some next) = next.token.now ∷ next.rest.tokens.now

-- the number of the next token, if it is a word that is left out, and 0 for any other
abbrev pub number_of : Outs → List Token → ℕ
number_of out [] = 0
number_of out (t ∷ ts) = out t
