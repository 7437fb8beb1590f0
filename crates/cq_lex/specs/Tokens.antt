-- The tokens of a program's bytes, and the first fault of bytes that have none, by the lexical rules.
use Rattle.std.specs.Prelude.{◌≡◌, ◌≢◌, ◌<◌, ◌≤◌, ◌+◌, ℕ, List, [], ◌∷◌, ◌++◌, length, Bool, true, false, Some, None}
use Rattle.std.specs.List.{list_all}
use Rattle.std.specs.Str.{IsUtf8}
use Rattle.cq_lex.specs.declared.token.Token.{Token}
use Rattle.cq_lex.specs.declared.token.Kind.{Kind}
use Rattle.cq_lex.specs.declared.token.Kind.TheVariants as kinds
use Rattle.cq_lex.specs.declared.token.Mark.{Mark}
use Rattle.cq_lex.specs.declared.refusal.LexRefusal.{LexRefusal}
use Rattle.cq_lex.specs.declared.refusal.LexRefusal.TheVariants as refusals
use Rattle.cq_lex.specs.Place.{place_behind, stays_on_line}
use Rattle.cq_base.specs.Escapes.{unescape}
use Rattle.cq_lex.specs.Bytes.{is_blank, is_word_byte, quote, backslash, slash, star, mark_bytes}

-- the bytes begin with these
abbrev pub Begins : List ℕ → List ℕ → Type 0
Begins front bytes = (rest : List ℕ) × (bytes ≡ front ++ rest)

-- the bytes are none, or begin with one that fails the test
abbrev pub StopsAt : (ℕ → Bool) → List ℕ → Type 0
StopsAt p [] = Unit {0}
StopsAt p (b ∷ bs) = p b ≡ false

-- a longest run of bytes that pass the test, where `after` follows
abbrev pub IsRun : (ℕ → Bool) → List ℕ → List ℕ → Type 0
IsRun p bytes after = (list_all p bytes ≡ true) × StopsAt p after

-- `*/` stands nowhere in the bytes
abbrev pub NeverEnds : List ℕ → Type 0
NeverEnds bytes = (front back : List ℕ) → bytes ≡ front ++ star ∷ slash ∷ back → ⊥

-- a blank or a comment, where `after` follows
pub data IsGap : List ℕ → List ℕ → Type 0 where
  blank : {b : ℕ} {after : List ℕ} → is_blank b ≡ true → IsGap (b ∷ []) after
  -- `//` up to the next LF or the end
  line_comment : {text after : List ℕ} → IsRun stays_on_line text after → IsGap (slash ∷ slash ∷ text) after
  -- `/*` up to the next `*/`
  block_comment : {text after : List ℕ} → NeverEnds text → IsGap (slash ∷ star ∷ text ++ star ∷ slash ∷ []) after

-- what stands between two quotes for a content
pub data Writes : List ℕ → List ℕ → Type 0 where
  nothing : Writes [] []
  itself : {b : ℕ} {bytes content : List ℕ} → b ≢ quote → b ≢ backslash
      → Writes bytes content → Writes (b ∷ bytes) (b ∷ content)
  escaped : {e b : ℕ} {bytes content : List ℕ} → unescape e ≡ Some b
      → Writes bytes content → Writes (backslash ∷ e ∷ bytes) (b ∷ content)

-- the bytes spell a token of this kind, where `after` follows
abbrev pub Spells : Kind → List ℕ → List ℕ → Type 0
Spells (kinds.Word name) bytes after =
    (bytes ≡ name) × (0 < length name) × IsRun is_word_byte name after × (length name ≤ 255)
Spells (kinds.Text content) bytes after =
    (written : List ℕ) × (bytes ≡ quote ∷ written ++ quote ∷ []) × Writes written content
    × IsUtf8 content × (length content ≤ 255)
Spells (kinds.Mark mark) bytes after = bytes ≡ mark_bytes mark
Spells kinds.End bytes after = ⊥

-- the token of these bytes, which stand behind `before`
abbrev pub token_behind : List ℕ → Kind → List ℕ → Token
token_behind before kind bytes =
    record { kind = kind; from = length before; to = length before + length bytes; place = place_behind before }

-- the bytes, which stand behind `before`, have these tokens
pub data Lexes : List ℕ → List ℕ → List Token → Type 0 where
  ends : {before : List ℕ} → Lexes before [] (token_behind before kinds.End [] ∷ [])
  gap : {before bytes gap after : List ℕ} {tokens : List Token} → bytes ≡ gap ++ after → IsGap gap after
      → Lexes (before ++ gap) after tokens → Lexes before bytes tokens
  token : {before bytes after : List ℕ} {tokens : List Token} (kind : Kind) (spelled : List ℕ)
      → bytes ≡ spelled ++ after → Spells kind spelled after
      → Lexes (before ++ spelled) after tokens → Lexes before bytes (token_behind before kind spelled ∷ tokens)

-- the first token of the bytes, which stand behind `before`, can't be made
pub data CannotMake (before : List ℕ) : List ℕ → LexRefusal → Type 0 where
  -- a byte that begins no blank, no comment and no token
  stray : {b : ℕ} {bytes : List ℕ} → is_blank b ≡ false → is_word_byte b ≡ false → b ≢ quote
      → ((mark : Mark) → Begins (mark_bytes mark) (b ∷ bytes) → ⊥)
      → (Begins (slash ∷ slash ∷ []) (b ∷ bytes) → ⊥)
      → (Begins (slash ∷ star ∷ []) (b ∷ bytes) → ⊥)
      → CannotMake before (b ∷ bytes) (refusals.BadByte (place_behind before))
  -- a wrong byte behind a backslash, all before it being well written
  wrong_escape : {written content : List ℕ} (e : ℕ) (after : List ℕ) → Writes written content → unescape e ≡ None
      → CannotMake before (quote ∷ written ++ backslash ∷ e ∷ after)
      (refusals.BadByte (place_behind (before ++ (quote ∷ written ++ backslash ∷ []))))
  -- the file ends in a text, maybe right behind a backslash
  open_text : {written content : List ℕ} → Writes written content
      → CannotMake before (quote ∷ written) (refusals.OpenText (place_behind before))
  open_escape : {written content : List ℕ} → Writes written content
      → CannotMake before (quote ∷ written ++ backslash ∷ []) (refusals.OpenText (place_behind before))
  -- a whole text whose content isn't UTF-8, or is too long
  no_utf8 : {written content : List ℕ} (after : List ℕ) → Writes written content → (IsUtf8 content → ⊥)
      → CannotMake before (quote ∷ written ++ quote ∷ after) (refusals.BadByte (place_behind before))
  long_text : {written content : List ℕ} (after : List ℕ) → Writes written content → IsUtf8 content → 255 < length content
      → CannotMake before (quote ∷ written ++ quote ∷ after) (refusals.LongName (place_behind before))
  long_word : (name after : List ℕ) → IsRun is_word_byte name after → 255 < length name
      → CannotMake before (name ++ after) (refusals.LongName (place_behind before))
  open_comment : {text : List ℕ} → NeverEnds text
      → CannotMake before (slash ∷ star ∷ text) (refusals.OpenComment (place_behind before))

-- the first token that can't be made of the bytes, which stand behind `before`, has this fault at its place
pub data Refuses : List ℕ → List ℕ → LexRefusal → Type 0 where
  here : {before bytes : List ℕ} {refusal : LexRefusal} → CannotMake before bytes refusal → Refuses before bytes refusal
  behind_gap : {before bytes gap after : List ℕ} {refusal : LexRefusal} → bytes ≡ gap ++ after → IsGap gap after
      → Refuses (before ++ gap) after refusal → Refuses before bytes refusal
  behind_token : {before bytes after : List ℕ} {refusal : LexRefusal} (kind : Kind) (spelled : List ℕ)
      → bytes ≡ spelled ++ after → Spells kind spelled after
      → Refuses (before ++ spelled) after refusal → Refuses before bytes refusal

-- the tokens of a file
abbrev pub Tokens : List ℕ → List Token → Type 0
Tokens bytes tokens = Lexes [] bytes tokens

-- why a file has no tokens; want of memory has no cause
abbrev pub IsRefused : List ℕ → LexRefusal → Type 0
IsRefused bytes refusals.Memory = Unit {0}
IsRefused bytes (refusals.BadByte place) = Refuses [] bytes (refusals.BadByte place)
IsRefused bytes (refusals.OpenText place) = Refuses [] bytes (refusals.OpenText place)
IsRefused bytes (refusals.OpenComment place) = Refuses [] bytes (refusals.OpenComment place)
IsRefused bytes (refusals.LongName place) = Refuses [] bytes (refusals.LongName place)
