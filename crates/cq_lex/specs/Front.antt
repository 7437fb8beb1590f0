-- What stands at the front of bytes, computed: the form of the lexical rules that the code's steps are tied to.
use Rattle.std.specs.Prelude.{◌≡◌, ◌≤◌, ◌-◌, ℕ, List, [], ◌∷◌, ◌++◌, length, take, drop, Bool, true, false, Option, Some, None, nat_eq}
use Rattle.std.specs.Prelude.{nat_lt, if◌then◌else◌, ◌&&◌, Result, Ok, Err}
use Rattle.std.specs.List.{prefix_len}
use Rattle.std.specs.Str.{is_utf8}
use Rattle.cq_base.specs.declared.name.Name.{Name}
use Rattle.cq_lex.specs.declared.token.Kind.{Kind}
use Rattle.cq_lex.specs.declared.token.Kind.TheVariants as kinds
use Rattle.cq_lex.specs.declared.token.Mark.{Mark}
use Rattle.cq_lex.specs.declared.token.Mark.TheVariants as marks
use Rattle.cq_lex.specs.declared.refusal.LexRefusal.{LexRefusal}
use Rattle.cq_lex.specs.declared.refusal.LexRefusal.TheVariants as refusals
use Rattle.cq_lex.specs.declared.fault.Fault.{Fault}
use Rattle.cq_lex.specs.declared.fault.Fault.TheVariants as faults
use Rattle.cq_lex.specs.declared.fronts.Front.{Front}
use Rattle.cq_lex.specs.declared.fronts.Front.TheVariants as fronts
use Rattle.cq_lex.specs.Place.{place_behind, stays_on_line}
use Rattle.cq_base.specs.Escapes.{unescape}
use Rattle.cq_lex.specs.Bytes.{is_blank, is_word_byte, quote, backslash}

-- the four faults
pub data Cause : Type 0 where
  BadByte : Cause
  OpenText : Cause
  OpenComment : Cause
  LongName : Cause

-- nothing; a blank or a comment, and the bytes behind it; a token, and the bytes behind it; a fault at the first of these bytes
pub data Found : Type 0 where
  Done : Found
  Gap : List ℕ → Found
  Next : Kind → List ℕ → Found
  Fails : Cause → List ℕ → Found

-- a content and the bytes behind the closing quote, or the bytes from a wrong one on, or no closing quote
pub data Content : Type 0 where
  Closed : List ℕ → List ℕ → Content
  Wrong : List ℕ → Content
  Open : Content

abbrev pub behind : List ℕ → Content → Content
behind front (Closed content rest) = Closed (front ++ content) rest
behind front (Wrong at) = Wrong at
behind front Open = Open

abbrev pub behind_escape : Option ℕ → List ℕ → Content → Content
behind_escape None at content = Wrong at
behind_escape (Some b) at content = behind (b ∷ []) content

-- the content behind an opening quote; true: and a backslash
unfoldable pub content : Bool → List ℕ → Content
content escaping [] = Open
content false (b ∷ bs) =
    if nat_eq b quote then Closed [] bs else (if nat_eq b backslash then content true bs else behind (b ∷ []) (content false bs))
content true (b ∷ bs) = behind_escape (unescape b) (b ∷ bs) (content false bs)

-- the bytes behind the next `*/`
abbrev pub behind_block : List ℕ → Option (List ℕ)
behind_block [] = None
behind_block (b ∷ []) = None
behind_block (b ∷ c ∷ bs) = if nat_eq b 42 && nat_eq c 47 then Some bs else behind_block (c ∷ bs)

-- the mark of one byte
abbrev pub mark_of : ℕ → Option Mark
mark_of b =
    if nat_eq b 123 then Some marks.LeftBrace
    else (if nat_eq b 125 then Some marks.RightBrace
    else (if nat_eq b 40 then Some marks.LeftParen
    else (if nat_eq b 41 then Some marks.RightParen
    else (if nat_eq b 91 then Some marks.LeftBracket
    else (if nat_eq b 93 then Some marks.RightBracket
    else (if nat_eq b 58 then Some marks.Colon
    else (if nat_eq b 59 then Some marks.Semicolon
    else (if nat_eq b 44 then Some marks.Comma
    else (if nat_eq b 46 then Some marks.Dot
    else (if nat_eq b 61 then Some marks.Equals
    else (if nat_eq b 43 then Some marks.Plus
    else None)))))))))))

abbrev pub at_word : ℕ → List ℕ → Found
at_word n at = if nat_lt 255 n then Fails LongName at else Next (kinds.Word (take n at)) (drop n at)

abbrev pub at_text : Content → List ℕ → Found
at_text Open at = Fails OpenText at
at_text (Wrong bad) at = Fails BadByte bad
at_text (Closed content rest) at =
    if is_utf8 content then (if nat_lt 255 (length content) then Fails LongName at else Next (kinds.Text content) rest)
    else Fails BadByte at

abbrev pub at_block : Option (List ℕ) → List ℕ → Found
at_block None at = Fails OpenComment at
at_block (Some rest) at = Gap rest

-- behind a slash
abbrev pub at_slash : List ℕ → List ℕ → Found
at_slash [] at = Fails BadByte at
at_slash (c ∷ cs) at =
    if nat_eq c 47 then Gap (drop (prefix_len stays_on_line cs) cs)
    else (if nat_eq c 42 then at_block (behind_block cs) at else Fails BadByte at)

-- behind a minus
abbrev pub at_minus : List ℕ → List ℕ → Found
at_minus [] at = Fails BadByte at
at_minus (c ∷ cs) at = if nat_eq c 62 then Next (kinds.Mark marks.Arrow) cs else Fails BadByte at

abbrev pub at_mark : Option Mark → ℕ → List ℕ → List ℕ → Found
at_mark (Some mark) b after at = Next (kinds.Mark mark) after
at_mark None b after at = if nat_eq b 45 then at_minus after at else Fails BadByte at

unfoldable pub front : List ℕ → Found
front [] = Done
front (b ∷ bs) =
    if is_blank b then Gap bs
    else (if is_word_byte b then at_word (prefix_len is_word_byte (b ∷ bs)) (b ∷ bs)
    else (if nat_eq b quote then at_text (content false bs) (b ∷ bs)
    else (if nat_eq b 47 then at_slash bs (b ∷ bs)
    else at_mark (mark_of b) b bs (b ∷ bs))))

-- what a function returned is this front, unless memory ran out
abbrev pub Gives : Result Front Fault → Found → Type 0
Gives (Ok fronts.End) found = found ≡ Done
Gives (Ok (fronts.Gap rest)) found = found ≡ Gap rest.now
Gives (Ok (fronts.Token kind rest)) found = found ≡ Next kind rest.now
Gives (Err faults.Memory) found = Unit {0}
Gives (Err (faults.BadByte at)) found = found ≡ Fails BadByte at.now
Gives (Err (faults.OpenText at)) found = found ≡ Fails OpenText at.now
Gives (Err (faults.OpenComment at)) found = found ≡ Fails OpenComment at.now
Gives (Err (faults.LongName at)) found = found ≡ Fails LongName at.now

-- what a function returned is this content of the text that begins here, unless memory ran out
abbrev pub Reads : {X : Type 0} → (X → List ℕ) → (X → List ℕ) → Result X Fault → Content → List ℕ → Type 0
Reads content rest (Ok x) found at = found ≡ Closed (content x) (rest x)
Reads content rest (Err faults.Memory) found at = Unit {0}
Reads content rest (Err (faults.BadByte bad)) found at = found ≡ Wrong bad.now
Reads content rest (Err (faults.OpenText start)) found at = (found ≡ Open) × (start.now ≡ at)
Reads content rest (Err (faults.OpenComment start)) found at = ⊥
Reads content rest (Err (faults.LongName start)) found at = ⊥

-- the name of a token that begins here, whose content is these bytes, or its fault, unless memory ran out
abbrev pub Names : Result Name Fault → List ℕ → List ℕ → Type 0
Names (Ok name) content at = (name ≡ content) × (is_utf8 content ≡ true) × (nat_lt 255 (length content) ≡ false)
Names (Err faults.Memory) content at = Unit {0}
Names (Err (faults.BadByte start)) content at = (start.now ≡ at) × (is_utf8 content ≡ false)
Names (Err (faults.LongName start)) content at = (start.now ≡ at) × (is_utf8 content ≡ true) × (nat_lt 255 (length content) ≡ true)
Names (Err (faults.OpenText start)) content at = ⊥
Names (Err (faults.OpenComment start)) content at = ⊥

-- the bytes before the last ones, which are as many as `rest` has
abbrev pub passed : List ℕ → List ℕ → List ℕ
passed bytes rest = take (length bytes - length rest) bytes

-- a fault lies in these bytes
abbrev pub LiesIn : Fault → List ℕ → Type 0
LiesIn faults.Memory bytes = Unit {0}
LiesIn (faults.BadByte at) bytes = length at.now ≤ length bytes
LiesIn (faults.OpenText at) bytes = length at.now ≤ length bytes
LiesIn (faults.OpenComment at) bytes = length at.now ≤ length bytes
LiesIn (faults.LongName at) bytes = length at.now ≤ length bytes

-- a fault in bytes that stand behind `before`, told with its place
abbrev pub told : Fault → List ℕ → List ℕ → LexRefusal
told faults.Memory before bytes = refusals.Memory
told (faults.BadByte at) before bytes = refusals.BadByte (place_behind (before ++ passed bytes at.now))
told (faults.OpenText at) before bytes = refusals.OpenText (place_behind (before ++ passed bytes at.now))
told (faults.OpenComment at) before bytes = refusals.OpenComment (place_behind (before ++ passed bytes at.now))
told (faults.LongName at) before bytes = refusals.LongName (place_behind (before ++ passed bytes at.now))
