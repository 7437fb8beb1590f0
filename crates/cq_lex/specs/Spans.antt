-- What follows for every list of tokens: what each says of its bytes, where the spans lie, and where the list ends.
use Rattle.std.specs.Prelude.{◌≡◌, ◌≢◌, ◌≤◌, ℕ, List, [], ◌∷◌, ◌++◌, All, take, drop, slice_range}
use Rattle.cq_lex.specs.declared.token.Token.{Token}
use Rattle.cq_lex.specs.declared.token.Kind.{Kind}
use Rattle.cq_lex.specs.declared.token.Kind.TheVariants as kinds
use Rattle.cq_lex.specs.Place.{place_behind}
use Rattle.cq_lex.specs.Tokens.{Spells}

-- the bytes spell a token of this kind, where `after` follows; the End is no bytes, and nothing follows
abbrev pub IsSpelled : Kind → List ℕ → List ℕ → Type 0
IsSpelled (kinds.Word name) bytes after = Spells (kinds.Word name) bytes after
IsSpelled (kinds.Text content) bytes after = Spells (kinds.Text content) bytes after
IsSpelled (kinds.Mark mark) bytes after = Spells (kinds.Mark mark) bytes after
IsSpelled kinds.End bytes after = (bytes ≡ []) × (after ≡ [])

-- the token's span holds the bytes that spell it, and its place is that of the first
pub record StandsIn (bytes : List ℕ) (token : Token) : Type 0 where
  pub place : token.place ≡ place_behind (take token.from bytes)
  pub spelled : IsSpelled token.kind (slice_range bytes token.from token.to) (drop token.to bytes)

-- the spans begin behind the first `start` bytes, and each begins where the one before has ended, or later
abbrev pub InOrder : ℕ → List Token → Type 0
InOrder start [] = Unit {0}
InOrder start (token ∷ tokens) = (start ≤ token.from) × (token.from ≤ token.to) × InOrder token.to tokens

-- the last token is the End, and no other is
pub record EndsOnce (tokens : List Token) : Type 0 where
  pub front : List Token
  pub last : Token
  pub split : tokens ≡ front ++ last ∷ []
  pub is_end : last.kind ≡ kinds.End
  pub others : All (λ token. token.kind ≢ kinds.End) front
