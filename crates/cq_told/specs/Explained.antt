-- What is told of a file: of its first fault the line at the place, with a caret, and then words.
use Rattle.std.specs.Prelude.{ℕ, List, [], ◌++◌, ◌≡◌, ◌⊎◌, Option, Some, None, IfSome, false}
use Rattle.cq_base.specs.declared.name.Name.{Name}
use Rattle.cq_base.specs.declared.place.Place.{Place}
use Rattle.cq_clash.specs.Clash.{TellsClash}
use Rattle.cq_io.specs.Content.{find_file}
use Rattle.cq_io.specs.FolderData.{FolderData}
use Rattle.cq_io.specs.Reads.{IsLonger}
use Rattle.cq_known.specs.Spelled.{IsSpelledFrom}
use Rattle.cq_lex.specs.Tokens as lexed
use Rattle.cq_lex.specs.declared.refusal.LexRefusal.{LexRefusal}
use Rattle.cq_lex.specs.declared.refusal.LexRefusal.TheVariants as lexical
use Rattle.cq_lex.specs.declared.token.Token.{Token}
use Rattle.cq_parse.specs.Parsed as parsed
use Rattle.cq_parse.specs.declared.refusal.ParseRefusal.{ParseRefusal}
use Rattle.cq_parse.specs.declared.refusal.ParseRefusal.TheVariants as grammatical
use Rattle.cq_place.specs.Shown.{shown_at}
use Rattle.cq_program.specs.Folders.{Told}
use Rattle.cq_environment.specs.declared.reason.Reason.{Reason}
use Rattle.cq_environment.specs.declared.reason.Reason.TheVariants.{Inconsistent, Unknown}
use Rattle.cq_program.specs.Stop.{MeetRules, StopsAt}
use Rattle.cq_program.specs.declared.stops.Fault.{Fault}
use Rattle.cq_program.specs.declared.stops.Fault.TheVariants.{Broken, Unread}
use Rattle.cq_program.specs.declared.stops.Stop.{Stop}
use Rattle.cq_syntax.specs.Program.{IsProgram, FitsLimits}
use Rattle.cq_syntax.specs.declared.program.Decl.{Decl}
use Rattle.cq_syntax.specs.declared.program.Program.{Program}

-- how long a file may be: 8 MiB
abbrev pub file_limit : ℕ
file_limit = 8388608

-- the place is that of the fault in the bytes, or in the tokens; want of memory has none
abbrev pub IsLexicalPlace : LexRefusal → Place → Type 0
IsLexicalPlace (lexical.BadByte at) place = place ≡ at
IsLexicalPlace (lexical.OpenText at) place = place ≡ at
IsLexicalPlace (lexical.OpenComment at) place = place ≡ at
IsLexicalPlace (lexical.LongName at) place = place ≡ at
IsLexicalPlace lexical.Memory place = ⊥

abbrev pub IsGrammaticalPlace : ParseRefusal → Place → Type 0
IsGrammaticalPlace (grammatical.Syntax at) place = place ≡ at
IsGrammaticalPlace (grammatical.TooDeep at) place = place ≡ at
IsGrammaticalPlace (grammatical.Unsupported at number) place = place ≡ at
IsGrammaticalPlace (grammatical.BadOption at) place = place ≡ at
IsGrammaticalPlace grammatical.Memory place = ⊥

-- The place that is shown of a rule that is broken at a place: this, or of a name of a part that isn't declared, that of the first token
-- from there on that spells the name.
pub data IsShownOf (tokens : List Token) (reason : Reason) (at place : Place) : Type 0 where
  there : place ≡ at → IsShownOf tokens reason at place
  at_name : (name : Name) → reason ≡ Unknown → IsSpelledFrom tokens at place name → IsShownOf tokens reason at place

-- what more is known of two constants that are made equal: the lines of a right list of steps that ends with their equation, or nothing
abbrev pub IsDerived : Reason → List ℕ → Type 0
IsDerived reason lines =
    (least greater : List ℕ) → reason ≡ Inconsistent least greater → TellsClash least greater [] lines ⊎ (lines ≡ [])

-- these lines stand among the words that are told of a reason, behind its sentence and before what there is to mend
pub record HasDerived (reason : Reason) (words : List ℕ) : Type 0 where
  pub before : List ℕ
  pub lines : List ℕ
  pub after : List ℕ
  pub words_are : words ≡ before ++ lines ++ after
  pub derived : IsDerived reason lines

-- The place that is shown of what is wrong with a declaration, and the words that follow. Where it lacks a file, that is the declaration's.
abbrev pub IsToldOf : List Token → Decl → Fault → Place → List ℕ → Type 0
IsToldOf tokens decl (Broken at reason) place words = IsShownOf tokens reason at place × HasDerived reason words
IsToldOf tokens decl (Unread file cause) place words = place ≡ decl.place

-- what a folder tells of its files, at a depth to which models are made
module _ (depth : ℕ) (files : Told) where
  -- a program stops there to meet its rules, or meets them all
  abbrev pub StopsOrMeets : Program → Option Stop → Type 0
  StopsOrMeets tree None = MeetRules files tree
  StopsOrMeets tree (Some stop) = StopsAt depth files tree stop

  -- so does the one that the tokens spell, if they do
  abbrev pub StopsAmong : List Token → Option Stop → Type 0
  StopsAmong tokens stop = (tree : Program) → IsProgram tokens tree → FitsLimits tree → StopsOrMeets tree stop

  -- or the one of a text
  abbrev pub StopsIn : List ℕ → Option Stop → Type 0
  StopsIn text stop = (tokens : List Token) → lexed.Tokens text tokens → StopsAmong tokens stop

  -- the declarations of a program meet their rules up to one, and this is told of it
  pub record IsProgramFault (tokens : List Token) (tree : Program) (place : Place) (words : List ℕ) : Type 0 where
    pub stop : Stop
    pub stops : StopsAt depth files tree stop
    pub is_told : IsToldOf tokens stops.declared stop.fault place words

  -- of tokens that are no program within the limits the place of the token is shown that decides
  pub data IsTokenFault (tokens : List Token) (place : Place) (words : List ℕ) : Type 0 where
    no_tree : (refusal : ParseRefusal) → parsed.IsRefused tokens refusal → IsGrammaticalPlace refusal place
        → IsTokenFault tokens place words
    no_meaning : (tree : Program) → IsProgram tokens tree → FitsLimits tree → IsProgramFault tokens tree place words
        → IsTokenFault tokens place words

  -- of a text without tokens the place is shown of the first that can't be made
  pub data IsTextFault (text : List ℕ) (place : Place) (words : List ℕ) : Type 0 where
    no_tokens : (refusal : LexRefusal) → lexed.IsRefused text refusal → IsLexicalPlace refusal place → IsTextFault text place words
    no_program : (tokens : List Token) → lexed.Tokens text tokens → IsTokenFault tokens place words → IsTextFault text place words

  -- the tokens are those of a program that meets its rules
  pub record AreMet (tokens : List Token) : Type 0 where
    pub tree : Program
    pub spelled : IsProgram tokens tree
    pub fits : FitsLimits tree
    pub meets : MeetRules files tree

  -- the same of a text
  abbrev pub IsMet : List ℕ → Type 0
  IsMet text = (tokens : List Token) × lexed.Tokens text tokens × AreMet tokens

  -- Of a text: the line at the place of its first fault, under it a caret, and then words; or nothing, where it meets all rules.
  pub data ExplainsText (text out : List ℕ) : Type 0 where
    faulty : (place : Place) (words : List ℕ) → IsTextFault text place words → out ≡ shown_at text place ++ words → ExplainsText text out
    met : IsMet text → out ≡ [] → ExplainsText text out

-- Of a file: this, of its text; unless it is not there, is too long, or can't be read, which is so in no steady folder.
pub data Explains (depth : ℕ) (folder : FolderData) (file out : List ℕ) : Type 0 where
  absent : IfSome folder.files (λ known. find_file file known ≡ None) → Explains depth folder file out
  too_long : IfSome folder.files (IsLonger file file_limit) → Explains depth folder file out
  failed : folder.steady ≡ false → Explains depth folder file out
  read : (text : List ℕ) → IfSome folder.files (λ known. find_file file known ≡ Some text) → ExplainsText depth folder.files text out
      → Explains depth folder file out
