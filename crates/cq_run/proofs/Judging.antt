-- From what lexing, parsing and the judgement of a program answer to how a text is judged.
use Rattle.std.proofs.Common.{◌≡◌, ℕ, List, [], sym, subst}
use Rattle.std.specs.Prelude.{string_bytes}
use Rattle.cq_lex.specs.declared.token.Token.{Token}
use Rattle.cq_lex.specs.declared.refusal.LexRefusal.{LexRefusal}
use Rattle.cq_lex.specs.declared.refusal.LexRefusal.TheVariants as lexical
use Rattle.cq_lex.specs.Tokens as lex
use Rattle.cq_lex.specs.Tokens.{IsRefused as HasFault}
use Rattle.cq_syntax.specs.declared.program.Program.{Program}
use Rattle.cq_syntax.specs.Program.{IsProgram, FitsLimits}
use Rattle.cq_parse.specs.declared.refusal.ParseRefusal.{ParseRefusal}
use Rattle.cq_parse.specs.declared.refusal.ParseRefusal.TheVariants as grammatical
use Rattle.cq_parse.specs.Parsed.{IsRefused, RefusedWith}
use Rattle.cq_io.specs.FolderData.{FolderData}
use Rattle.cq_program.specs.Folders.{Told}
use Rattle.cq_program.specs.Judging.{TellsProgram}
use Rattle.cq_program.specs.Stop.{TellsHalt, refusal_at}
use Rattle.cq_program.specs.declared.stops.Fault.{Fault}
use Rattle.cq_program.specs.declared.stops.Fault.TheVariants as fault
use Rattle.cq_program.specs.declared.stops.Halt.{Halt}
use Rattle.cq_program.specs.declared.stops.Halt.TheVariants as halt
use Rattle.cq_program.specs.declared.stops.Stop.{Stop}
use Rattle.cq_run.specs.Answer.{IsRefusalOf, Judges}
use Rattle.cq_run.specs.Judged.{AreSound, JudgesProgram, JudgesTokens, SaysFault, TellsLex, TellsParse}
use Rattle.cq_run.specs.Meaning.{BreaksRule, IsAcceptable, IsSound, IsTreeIn, Means, RefusesTokens, lex_line, no_program, no_tokens, no_tree, broken, parse_line}
use Rattle.cq_run.specs.declared.answer.Answer.{Answer}
use Rattle.cq_run.specs.declared.answer.Answer.TheVariants as answer

-- a program that breaks a rule isn't sound
not_sound : (depth : ℕ) (told : Told) (tree : Program) (line : List ℕ) → BreaksRule depth told tree line → IsSound depth told tree → ⊥
not_sound depth told tree line breach sound = sound.unbroken breach.place breach.reason breach.breaks

-- what is judged of the tree of tokens is judged of the tokens
pub by_tree : (depth : ℕ) (before after : FolderData) (tokens : List Token) (tree : Program) (a : Answer) → IsTreeIn tokens tree
    → ((other : Program) → IsProgram tokens other → FitsLimits other → tree ≡ other)
    → JudgesProgram depth before after tree a → JudgesTokens depth before after tokens a
by_tree depth before after tokens tree (answer.Accepted instances) is only judged = (tree, is, judged.0, judged.1)
by_tree depth before after tokens tree (answer.Refused line) is only breaks = (
  broken tree is breaks,
  λ sound. not_sound depth before.files tree line.items breaks
      (subst (IsSound depth before.files) (sym (only sound.0 sound.1.0 sound.1.1)) sound.2),
)
by_tree depth before after tokens tree (answer.Unread line) is only misses = (tree, is, misses)
by_tree depth before after tokens tree answer.Memory is only judged = tt

-- what is wrong with a declaration, told
by_fault : (depth : ℕ) (before after : FolderData) (tree : Program) (wrong : Fault) (a : Answer)
    → TellsProgram depth before after tree (refusal_at wrong) → SaysFault wrong a → JudgesProgram depth before after tree a
by_fault depth before after tree (fault.Broken place reason) (answer.Accepted instances) tells bad = absurd bad
by_fault depth before after tree (fault.Broken place reason) (answer.Unread line) tells bad = absurd bad
by_fault depth before after tree (fault.Broken place reason) (answer.Refused line) tells says =
    record { place = place; reason = reason; breaks = tells; line_is = says }
by_fault depth before after tree (fault.Broken place reason) answer.Memory tells says = tt
by_fault depth before after tree (fault.Unread file cause) (answer.Accepted instances) tells bad = absurd bad
by_fault depth before after tree (fault.Unread file cause) (answer.Refused line) tells bad = absurd bad
by_fault depth before after tree (fault.Unread file cause) (answer.Unread line) tells says =
    record { file = string_bytes file; cause = cause; lacks = tells.0; raised = tells.1; line_is = says }
by_fault depth before after tree (fault.Unread file cause) answer.Memory tells says = tt

-- where a program stops, told
pub by_stop : (depth : ℕ) (before after : FolderData) (tree : Program) (h : Halt) (stop : Stop) (a : Answer) → h ≡ halt.Stopped stop
    → TellsHalt depth before after tree h → SaysFault stop.fault a → JudgesProgram depth before after tree a
by_stop depth before after tree h stop a is halts says =
    let halted : TellsHalt depth before after tree (halt.Stopped stop) = subst (TellsHalt depth before after tree) is halts in
    by_fault depth before after tree stop.fault a halted.1 says

-- what is told of a refusal is its line
told_parse : (depth : ℕ) (told : Told) (tokens : List Token) (refusal : ParseRefusal) (line : List ℕ) → RefusedWith tokens refusal
    → line ≡ parse_line refusal → (AreSound depth told tokens → ⊥) → RefusesTokens depth told tokens line × (AreSound depth told tokens → ⊥)
told_parse depth told tokens refusal line refused says sound = (no_tree refusal refused says, sound)

-- the parser's refusal, told
pub by_parser : (depth : ℕ) (before after : FolderData) (tokens : List Token) (refusal : ParseRefusal) (a : Answer) → IsRefused tokens refusal
    → ((other : Program) → IsProgram tokens other → FitsLimits other → refusal ≡ grammatical.Memory)
    → TellsParse refusal a → JudgesTokens depth before after tokens a
by_parser depth before after tokens grammatical.Memory a is only says = subst (JudgesTokens depth before after tokens) (sym says) tt
by_parser depth before after tokens (grammatical.Syntax place) (answer.Accepted instances) is only bad = absurd bad
by_parser depth before after tokens (grammatical.Syntax place) (answer.Unread line) is only bad = absurd bad
by_parser depth before after tokens (grammatical.Syntax place) answer.Memory is only says = tt
by_parser depth before after tokens (grammatical.Syntax place) (answer.Refused line) is only says = told_parse depth before.files tokens (grammatical.Syntax place) line.items is says (λ sound. let m = only sound.0 sound.1.0 sound.1.1 in absurd (cc m))
by_parser depth before after tokens (grammatical.TooDeep place) (answer.Accepted instances) is only bad = absurd bad
by_parser depth before after tokens (grammatical.TooDeep place) (answer.Unread line) is only bad = absurd bad
by_parser depth before after tokens (grammatical.TooDeep place) answer.Memory is only says = tt
by_parser depth before after tokens (grammatical.TooDeep place) (answer.Refused line) is only says = told_parse depth before.files tokens (grammatical.TooDeep place) line.items is says (λ sound. let m = only sound.0 sound.1.0 sound.1.1 in absurd (cc m))
by_parser depth before after tokens (grammatical.Unsupported place number) (answer.Accepted instances) is only bad = absurd bad
by_parser depth before after tokens (grammatical.Unsupported place number) (answer.Unread line) is only bad = absurd bad
by_parser depth before after tokens (grammatical.Unsupported place number) answer.Memory is only says = tt
by_parser depth before after tokens (grammatical.Unsupported place number) (answer.Refused line) is only says = told_parse depth before.files tokens (grammatical.Unsupported place number) line.items is says (λ sound. let m = only sound.0 sound.1.0 sound.1.1 in absurd (cc m))
by_parser depth before after tokens (grammatical.BadOption place) (answer.Accepted instances) is only bad = absurd bad
by_parser depth before after tokens (grammatical.BadOption place) (answer.Unread line) is only bad = absurd bad
by_parser depth before after tokens (grammatical.BadOption place) answer.Memory is only says = tt
by_parser depth before after tokens (grammatical.BadOption place) (answer.Refused line) is only says = told_parse depth before.files tokens (grammatical.BadOption place) line.items is says (λ sound. let m = only sound.0 sound.1.0 sound.1.1 in absurd (cc m))

-- what is judged of the tokens of a text is judged of the text
pub by_tokens : (depth : ℕ) (before after : FolderData) (bytes : List ℕ) (tokens : List Token) (a : Answer) → lex.Tokens bytes tokens
    → ((others : List Token) → lex.Tokens bytes others → tokens ≡ others)
    → JudgesTokens depth before after tokens a → Judges depth before after bytes a
unfolding Means IsAcceptable
by_tokens depth before after bytes tokens (answer.Accepted instances) lexed only judged =
    (judged.0, record { tokens = tokens; lexed = lexed; spelled = judged.1 }, judged.2, judged.3)
by_tokens depth before after bytes tokens (answer.Refused line) lexed only judged = record {
  refuses = no_program tokens lexed judged.0;
  other = λ a. judged.1 (a.0, subst (λ z. IsTreeIn z a.0) (sym (only a.1.tokens a.1.lexed)) a.1.spelled, a.2);
}
by_tokens depth before after bytes tokens (answer.Unread line) lexed only judged =
    (judged.0, record { tokens = tokens; lexed = lexed; spelled = judged.1 }, judged.2)
by_tokens depth before after bytes tokens answer.Memory lexed only judged = tt

told_lex : (depth : ℕ) (told : Told) (bytes : List ℕ) (refusal : LexRefusal) (line : List ℕ) → lex.Refuses [] bytes refusal → line ≡ lex_line refusal
    → ((others : List Token) → lex.Tokens bytes others → ⊥) → IsRefusalOf depth told bytes line
unfolding IsAcceptable
told_lex depth told bytes refusal line refused says none = record { refuses = no_tokens refusal refused says; other = λ a. none a.1.tokens a.1.lexed }

-- the lexer's refusal, told
pub by_lexer : (depth : ℕ) (before after : FolderData) (bytes : List ℕ) (refusal : LexRefusal) (a : Answer) → HasFault bytes refusal
    → ((others : List Token) → lex.Tokens bytes others → refusal ≡ lexical.Memory)
    → TellsLex refusal a → Judges depth before after bytes a
by_lexer depth before after bytes lexical.Memory a is only says = subst (Judges depth before after bytes) (sym says) tt
by_lexer depth before after bytes (lexical.BadByte place) (answer.Accepted instances) is only bad = absurd bad
by_lexer depth before after bytes (lexical.BadByte place) (answer.Unread line) is only bad = absurd bad
by_lexer depth before after bytes (lexical.BadByte place) answer.Memory is only says = tt
by_lexer depth before after bytes (lexical.BadByte place) (answer.Refused line) is only says = told_lex depth before.files bytes (lexical.BadByte place) line.items is says (λ others lexed. let m = only others lexed in absurd (cc m))
by_lexer depth before after bytes (lexical.OpenText place) (answer.Accepted instances) is only bad = absurd bad
by_lexer depth before after bytes (lexical.OpenText place) (answer.Unread line) is only bad = absurd bad
by_lexer depth before after bytes (lexical.OpenText place) answer.Memory is only says = tt
by_lexer depth before after bytes (lexical.OpenText place) (answer.Refused line) is only says = told_lex depth before.files bytes (lexical.OpenText place) line.items is says (λ others lexed. let m = only others lexed in absurd (cc m))
by_lexer depth before after bytes (lexical.OpenComment place) (answer.Accepted instances) is only bad = absurd bad
by_lexer depth before after bytes (lexical.OpenComment place) (answer.Unread line) is only bad = absurd bad
by_lexer depth before after bytes (lexical.OpenComment place) answer.Memory is only says = tt
by_lexer depth before after bytes (lexical.OpenComment place) (answer.Refused line) is only says = told_lex depth before.files bytes (lexical.OpenComment place) line.items is says (λ others lexed. let m = only others lexed in absurd (cc m))
by_lexer depth before after bytes (lexical.LongName place) (answer.Accepted instances) is only bad = absurd bad
by_lexer depth before after bytes (lexical.LongName place) (answer.Unread line) is only bad = absurd bad
by_lexer depth before after bytes (lexical.LongName place) answer.Memory is only says = tt
by_lexer depth before after bytes (lexical.LongName place) (answer.Refused line) is only says = told_lex depth before.files bytes (lexical.LongName place) line.items is says (λ others lexed. let m = only others lexed in absurd (cc m))
