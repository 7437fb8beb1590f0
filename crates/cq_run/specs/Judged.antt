-- How the steps of judging a text answer.
use Rattle.std.specs.Prelude.{◌≡◌, ℕ, List, map, string_bytes}
use Rattle.cq_lex.specs.declared.token.Token.{Token}
use Rattle.cq_lex.specs.declared.refusal.LexRefusal.{LexRefusal}
use Rattle.cq_lex.specs.declared.refusal.LexRefusal.TheVariants as lexical
use Rattle.cq_parse.specs.declared.refusal.ParseRefusal.{ParseRefusal}
use Rattle.cq_parse.specs.declared.refusal.ParseRefusal.TheVariants as grammatical
use Rattle.cq_syntax.specs.declared.program.Program.{Program}
use Rattle.cq_io.specs.FolderData.{FolderData}
use Rattle.cq_program.specs.Folders.{Told}
use Rattle.cq_program.specs.Initial.{AreInitial}
use Rattle.cq_program.specs.Named.{listed_as}
use Rattle.cq_program.specs.Program as program
use Rattle.cq_program.specs.declared.stops.Fault.{Fault}
use Rattle.cq_program.specs.declared.stops.Fault.TheVariants.{Broken, Unread}
use Rattle.cq_environment.specs.Lines.{reason_line}
use Rattle.cq_run.specs.Answer.{SaysUnread}
use Rattle.cq_run.specs.Meaning.{IsSound, IsTreeIn, BreaksRule, MissesFile, RefusesTokens, lex_line, parse_line}
use Rattle.cq_run.specs.declared.answer.Answer.{Answer}
use Rattle.cq_run.specs.declared.answer.Answer.TheVariants as answer

-- how a program is judged, over the folder before and after
abbrev pub JudgesProgram : ℕ → FolderData → FolderData → Program → Answer → Type 0
JudgesProgram depth before after tree (answer.Accepted instances) =
    program.Means before.files tree (map listed_as instances.items) × AreInitial (map listed_as instances.items)
JudgesProgram depth before after tree (answer.Refused line) = BreaksRule depth before.files tree line.items
JudgesProgram depth before after tree (answer.Unread line) = MissesFile before after tree line.items
JudgesProgram depth before after tree answer.Memory = Unit {0}

-- the tokens of an acceptable text
abbrev pub AreSound : ℕ → Told → List Token → Type 0
AreSound depth told tokens = (tree : Program) × IsTreeIn tokens tree × IsSound depth told tree

-- how tokens are judged
abbrev pub JudgesTokens : ℕ → FolderData → FolderData → List Token → Answer → Type 0
JudgesTokens depth before after tokens (answer.Accepted instances) = (tree : Program) × IsTreeIn tokens tree
    × program.Means before.files tree (map listed_as instances.items) × AreInitial (map listed_as instances.items)
JudgesTokens depth before after tokens (answer.Refused line) = RefusesTokens depth before.files tokens line.items
    × (AreSound depth before.files tokens → ⊥)
JudgesTokens depth before after tokens (answer.Unread line) = (tree : Program) × IsTreeIn tokens tree
    × MissesFile before after tree line.items
JudgesTokens depth before after tokens answer.Memory = Unit {0}

-- an answer that refuses with this line
abbrev pub SaysRefused : List ℕ → Answer → Type 0
SaysRefused line (answer.Refused told) = told.items ≡ line
SaysRefused line answer.Memory = Unit {0}
SaysRefused line _ = ⊥

-- how a refusal of the lexer, or of the parser, is told
abbrev pub TellsLex : LexRefusal → Answer → Type 0
TellsLex lexical.Memory told = told ≡ answer.Memory
TellsLex (lexical.BadByte place) told = SaysRefused (lex_line (lexical.BadByte place)) told
TellsLex (lexical.OpenText place) told = SaysRefused (lex_line (lexical.OpenText place)) told
TellsLex (lexical.OpenComment place) told = SaysRefused (lex_line (lexical.OpenComment place)) told
TellsLex (lexical.LongName place) told = SaysRefused (lex_line (lexical.LongName place)) told

abbrev pub TellsParse : ParseRefusal → Answer → Type 0
TellsParse grammatical.Memory told = told ≡ answer.Memory
TellsParse (grammatical.Syntax place) told = SaysRefused (parse_line (grammatical.Syntax place)) told
TellsParse (grammatical.TooDeep place) told = SaysRefused (parse_line (grammatical.TooDeep place)) told
TellsParse (grammatical.Unsupported place number) told = SaysRefused (parse_line (grammatical.Unsupported place number)) told
TellsParse (grammatical.BadOption place) told = SaysRefused (parse_line (grammatical.BadOption place)) told

-- the line of what is wrong with a declaration
abbrev pub SaysFault : Fault → Answer → Type 0
SaysFault (Broken place reason) told = SaysRefused (reason_line place reason) told
SaysFault (Unread file cause) told = SaysUnread (string_bytes file) cause told
