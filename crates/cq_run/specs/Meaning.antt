-- What a text means, and why another one is refused.
use Rattle.std.specs.Prelude.{◌≡◌, ℕ, List, [], ◌∷◌, codes, decimal}
use Rattle.std.specs.List.{flat_map}
use Rattle.cq_base.specs.declared.place.Place.{Place}
use Rattle.cq_lex.specs.declared.token.Token.{Token}
use Rattle.cq_lex.specs.declared.refusal.LexRefusal.{LexRefusal}
use Rattle.cq_lex.specs.declared.refusal.LexRefusal.TheVariants as lexical
use Rattle.cq_lex.specs.Tokens as lex
use Rattle.cq_syntax.specs.declared.program.Program.{Program}
use Rattle.cq_syntax.specs.Program.{IsProgram, FitsLimits}
use Rattle.cq_parse.specs.declared.refusal.ParseRefusal.{ParseRefusal}
use Rattle.cq_parse.specs.declared.refusal.ParseRefusal.TheVariants as grammatical
use Rattle.cq_parse.specs.Parsed.{RefusedWith}
use Rattle.cq_io.specs.FolderData.{FolderData}
use Rattle.cq_environment.specs.declared.refusal.ReadCause.{ReadCause}
use Rattle.cq_environment.specs.declared.reason.Reason.{Reason}
use Rattle.cq_program.specs.Folders.{Raised, Told}
use Rattle.cq_environment.specs.Lines.{line_of, reason_line}
use Rattle.cq_program.specs.Initial.{AreInitial}
use Rattle.cq_program.specs.Program as program
use Rattle.cq_program.specs.Program.{Breaks, Lacks, Listing}
use Rattle.cq_run.specs.Lines.{read_line}
use Rattle.cq_text.specs.Transcript as text

-- the tokens spell this program, which keeps the limits
abbrev pub IsTreeIn : List Token → Program → Type 0
IsTreeIn tokens tree = IsProgram tokens tree × FitsLimits tree

-- the text is that of this program
pub record IsTreeOf (bytes : List ℕ) (tree : Program) : Type 0 where
  pub tokens : List Token
  pub lexed : lex.Tokens bytes tokens
  pub spelled : IsTreeIn tokens tree

-- What a text means over what a folder tells: the instances of its program, listed. Each is the initial model of its presentation.
unfoldable pub Means : Told → List ℕ → List Listing → Type 0
Means told bytes L = (tree : Program) × IsTreeOf bytes tree × program.Means told tree L × AreInitial L

abbrev pub transcript_of : Listing → List ℕ
transcript_of L = text.transcript_of L.name L.schema L.instance

-- the transcripts of the instances, in order
unfoldable pub transcripts_of : List Listing → List ℕ
transcripts_of L = flat_map transcript_of L

-- the line of a text that has no tokens
abbrev pub lex_line : LexRefusal → List ℕ
lex_line (lexical.BadByte place) = line_of place 11 (codes "BadByte") []
lex_line (lexical.OpenText place) = line_of place 12 (codes "OpenText") []
lex_line (lexical.OpenComment place) = line_of place 13 (codes "OpenComment") []
lex_line (lexical.LongName place) = line_of place 14 (codes "LongName") []
lex_line lexical.Memory = []

-- the line of tokens that are no program within the limits
abbrev pub parse_line : ParseRefusal → List ℕ
parse_line (grammatical.Syntax place) = line_of place 21 (codes "Syntax") []
parse_line (grammatical.TooDeep place) = line_of place 22 (codes "TooDeep") []
parse_line (grammatical.Unsupported place number) = line_of place 23 (codes "Unsupported") (decimal number ∷ [])
parse_line (grammatical.BadOption place) = line_of place 24 (codes "BadOption") []
parse_line grammatical.Memory = []

-- the program breaks a rule, or passes a limit at the depth to which models are made, and the line tells the first, at its place
pub record BreaksRule (depth : ℕ) (told : Told) (tree : Program) (line : List ℕ) : Type 0 where
  pub place : Place
  pub reason : Reason
  pub breaks : Breaks depth told tree place reason
  pub line_is : line ≡ reason_line place reason

-- a file that the program reads was not read, for a cause whose count rose, and the line says so
pub record MissesFile (before after : FolderData) (tree : Program) (line : List ℕ) : Type 0 where
  pub file : List ℕ
  pub cause : ReadCause
  pub lacks : Lacks before.files tree file cause
  pub raised : Raised cause before after
  pub line_is : line ≡ read_line file cause

-- the tokens are no program within the limits, and the line tells the first that decides; or it breaks a rule
pub data RefusesTokens (depth : ℕ) (told : Told) (tokens : List Token) (line : List ℕ) : Type 0 where
  no_tree : (refusal : ParseRefusal) → RefusedWith tokens refusal → line ≡ parse_line refusal → RefusesTokens depth told tokens line
  broken : (tree : Program) → IsTreeIn tokens tree → BreaksRule depth told tree line → RefusesTokens depth told tokens line

-- the text has no tokens, and the line tells the first fault; or the tokens are refused
pub data RefusesText (depth : ℕ) (told : Told) (bytes line : List ℕ) : Type 0 where
  no_tokens : (refusal : LexRefusal) → lex.Refuses [] bytes refusal → line ≡ lex_line refusal → RefusesText depth told bytes line
  no_program : (tokens : List Token) → lex.Tokens bytes tokens → RefusesTokens depth told tokens line → RefusesText depth told bytes line

-- the program has a meaning, breaks no rule, and passes no limit at the depth
pub record IsSound (depth : ℕ) (told : Told) (tree : Program) : Type 0 where
  pub listings : List Listing
  pub means : program.Means told tree listings
  pub unbroken : (place : Place) (reason : Reason) → Breaks depth told tree place reason → ⊥

-- the same of a text
unfoldable pub IsAcceptable : ℕ → Told → List ℕ → Type 0
IsAcceptable depth told bytes = (tree : Program) × IsTreeOf bytes tree × IsSound depth told tree
