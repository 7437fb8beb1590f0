-- From where a program stops to where that of its tokens, or of its text, does.
use Rattle.std.proofs.Common.{◌≡◌, ℕ, List, Option, Some, None, refl, sym, subst}
use Rattle.cq_io.specs.FolderData.{FolderData}
use Rattle.cq_lex.specs.declared.token.Token.{Token}
use Rattle.cq_lex.specs.declared.refusal.LexRefusal.{LexRefusal}
use Rattle.cq_lex.specs.declared.refusal.LexRefusal.TheVariants as lexical
use Rattle.cq_lex.specs.Tokens as lex
use Rattle.cq_parse.specs.declared.refusal.ParseRefusal.{ParseRefusal}
use Rattle.cq_parse.specs.declared.refusal.ParseRefusal.TheVariants as grammatical
use Rattle.cq_program.specs.Program as program
use Rattle.cq_program.specs.Program.{Listing}
use Rattle.cq_program.specs.Stop.{TellsHalt, MeetRules, StopsAt}
use Rattle.cq_program.specs.declared.stops.Halt.{Halt}
use Rattle.cq_program.specs.declared.stops.Halt.TheVariants as halt
use Rattle.cq_program.specs.declared.stops.Stop.{Stop}
use Rattle.cq_run.proofs.OneTranscript.{one_tree}
use Rattle.cq_run.specs.Judged.{TellsLex, TellsParse}
use Rattle.cq_run.specs.Meaning.{IsTreeIn, IsTreeOf}
use Rattle.cq_run.specs.Stops.{AllMeet, HasStop}
use Rattle.cq_run.specs.declared.answer.Answer.{Answer}
use Rattle.cq_run.specs.declared.answer.Answer.TheVariants as answer
use Rattle.cq_program.specs.Folders.{Told}
use Rattle.cq_syntax.specs.Program.{IsProgram, FitsLimits}
use Rattle.cq_syntax.specs.declared.program.Program.{Program}

-- each of the programs meets its rules
meet : (IsTree : Program → Type 0) (told : Told) (a : Answer) → ((tree : Program) → IsTree tree → MeetRules told tree) → AllMeet IsTree told a
meet IsTree told (answer.Accepted instances) all = all
meet IsTree told (answer.Refused line) all = all
meet IsTree told (answer.Unread line) all = all
meet IsTree told answer.Memory all = tt

-- the same programs under another name
meet_by : (A B : Program → Type 0) (told : Told) (a : Answer) → ((tree : Program) → B tree → A tree) → AllMeet A told a → AllMeet B told a
meet_by A B told (answer.Accepted instances) back all = λ tree is. all tree (back tree is)
meet_by A B told (answer.Refused line) back all = λ tree is. all tree (back tree is)
meet_by A B told (answer.Unread line) back all = λ tree is. all tree (back tree is)
meet_by A B told answer.Memory back all = tt

has_stop_by : (A B : Program → Type 0) (depth : ℕ) (told : Told) (a : Answer) (stop : Option Stop) → ((tree : Program) → A tree → B tree)
    → ((tree : Program) → B tree → A tree) → HasStop A depth told a stop → HasStop B depth told a stop
has_stop_by A B depth told a (Some stop) on back has = (has.0, on has.0 has.1, has.2)
has_stop_by A B depth told a None on back has = meet_by A B told a back has

-- a program that means instances
pub stop_of_meaning : (depth : ℕ) (told : Told) (tree : Program) (listings : List Listing) (a : Answer) → program.Means told tree listings
    → HasStop (λ t. t ≡ tree) depth told a None
stop_of_meaning depth told tree listings a means =
    meet (λ t. t ≡ tree) told a (λ t is. subst (MeetRules told) (sym is) (means.env, means.follow))

-- a program that stops
pub stop_of_halt : (depth : ℕ) (before after : FolderData) (tree : Program) (h : Halt) (stop : Stop) (a : Answer) (made : Option Stop)
    → h ≡ halt.Stopped stop → TellsHalt depth before after tree h → made ≡ Some stop → HasStop (λ t. t ≡ tree) depth before.files a made
stop_of_halt depth before after tree h stop a made is halts same =
    let halted : TellsHalt depth before after tree (halt.Stopped stop) = subst (TellsHalt depth before after tree) is halts in
    let at : StopsAt depth before.files tree stop = halted.0 in
    subst (HasStop (λ t. t ≡ tree) depth before.files a) (sym same) (tree, refl, at)

-- the program that tokens spell
pub stop_by_tree : (depth : ℕ) (told : Told) (tokens : List Token) (tree : Program) (a : Answer) (stop : Option Stop) → IsTreeIn tokens tree
    → ((other : Program) → IsProgram tokens other → FitsLimits other → tree ≡ other)
    → HasStop (λ t. t ≡ tree) depth told a stop → HasStop (IsTreeIn tokens) depth told a stop
stop_by_tree depth told tokens tree a stop is only has =
    has_stop_by (λ t. t ≡ tree) (IsTreeIn tokens) depth told a stop (λ t same. subst (IsTreeIn tokens) (sym same) is)
    (λ t other. sym (only t other.0 other.1)) has

-- tokens that spell none
pub stop_by_parser : (depth : ℕ) (told : Told) (tokens : List Token) (refusal : ParseRefusal) (a : Answer)
    → ((other : Program) → IsProgram tokens other → FitsLimits other → refusal ≡ grammatical.Memory)
    → TellsParse refusal a → HasStop (IsTreeIn tokens) depth told a None
stop_by_parser depth told tokens grammatical.Memory a only says = subst (AllMeet (IsTreeIn tokens) told) (sym says) tt
stop_by_parser depth told tokens (grammatical.Syntax place) a only says =
    meet (IsTreeIn tokens) told a (λ tree is. let m = only tree is.0 is.1 in absurd (cc m))
stop_by_parser depth told tokens (grammatical.TooDeep place) a only says =
    meet (IsTreeIn tokens) told a (λ tree is. let m = only tree is.0 is.1 in absurd (cc m))
stop_by_parser depth told tokens (grammatical.Unsupported place number) a only says =
    meet (IsTreeIn tokens) told a (λ tree is. let m = only tree is.0 is.1 in absurd (cc m))
stop_by_parser depth told tokens (grammatical.BadOption place) a only says =
    meet (IsTreeIn tokens) told a (λ tree is. let m = only tree is.0 is.1 in absurd (cc m))

-- the program of a text
pub stop_by_tokens : (depth : ℕ) (told : Told) (bytes : List ℕ) (tokens : List Token) (a : Answer) (stop : Option Stop) → lex.Tokens bytes tokens
    → ((others : List Token) → lex.Tokens bytes others → tokens ≡ others)
    → HasStop (IsTreeIn tokens) depth told a stop → HasStop (IsTreeOf bytes) depth told a stop
stop_by_tokens depth told bytes tokens a stop lexed only has =
    has_stop_by (IsTreeIn tokens) (IsTreeOf bytes) depth told a stop (λ t is. record { tokens = tokens; lexed = lexed; spelled = is })
    (λ t is. subst (λ (ts : List Token). IsTreeIn ts t) (sym (only is.tokens is.lexed)) is.spelled) has

-- a text without tokens
pub stop_by_lexer : (depth : ℕ) (told : Told) (bytes : List ℕ) (refusal : LexRefusal) (a : Answer)
    → ((others : List Token) → lex.Tokens bytes others → refusal ≡ lexical.Memory)
    → TellsLex refusal a → HasStop (IsTreeOf bytes) depth told a None
stop_by_lexer depth told bytes lexical.Memory a only says = subst (AllMeet (IsTreeOf bytes) told) (sym says) tt
stop_by_lexer depth told bytes (lexical.BadByte place) a only says =
    meet (IsTreeOf bytes) told a (λ tree is. let m = only is.tokens is.lexed in absurd (cc m))
stop_by_lexer depth told bytes (lexical.OpenText place) a only says =
    meet (IsTreeOf bytes) told a (λ tree is. let m = only is.tokens is.lexed in absurd (cc m))
stop_by_lexer depth told bytes (lexical.OpenComment place) a only says =
    meet (IsTreeOf bytes) told a (λ tree is. let m = only is.tokens is.lexed in absurd (cc m))
stop_by_lexer depth told bytes (lexical.LongName place) a only says =
    meet (IsTreeOf bytes) told a (λ tree is. let m = only is.tokens is.lexed in absurd (cc m))

-- what a stop says of each program of the text
pub each_stops : (depth : ℕ) (told : Told) (bytes : List ℕ) (a : Answer) (stop : Stop) → HasStop (IsTreeOf bytes) depth told a (Some stop)
    → (tree : Program) → IsTreeOf bytes tree → StopsAt depth told tree stop
each_stops depth told bytes a stop has tree is = subst (λ (t : Program). StopsAt depth told t stop) (one_tree bytes has.0 tree has.1 is) has.2

-- the stop of a text that was read before
pub stop_before : (depth : ℕ) (before read : Told) (bytes slice : List ℕ) (a : Answer) (stop : Option Stop) → read ≡ before → slice ≡ bytes
    → HasStop (IsTreeOf slice) depth read a stop → HasStop (IsTreeOf bytes) depth before a stop
stop_before depth before read bytes slice a stop kept same has =
    subst (λ (x : Told × List ℕ). HasStop (IsTreeOf x.1) depth x.0 a stop) (λ i. (kept i, same i)) has
