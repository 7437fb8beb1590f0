-- Which tokens are a program or a term, and which of these keep the limits.
use Rattle.std.specs.Prelude.{List}
use Rattle.cq_lex.specs.declared.token.Token.{Token}
use Rattle.cq_rules.specs.Rule.{Spells, Fits}
use Rattle.cq_syntax.specs.declared.part.TermSyn.{TermSyn}
use Rattle.cq_syntax.specs.declared.program.Program.{Program}
use Rattle.cq_syntax.specs.Grammar.{lone_term, program}

-- the tokens spell the program
abbrev pub IsProgram : List Token → Program → Type 0
IsProgram = Spells program

-- no term has more than 64 levels, no path more than 64 names, and the options are allowed ones
abbrev pub FitsLimits : Program → Type 0
FitsLimits = Fits program

-- the tokens spell the term, and their end
abbrev pub IsTerm : List Token → TermSyn → Type 0
IsTerm = Spells lone_term

-- the term has at most 64 levels
abbrev pub FitsLevels : TermSyn → Type 0
FitsLevels = Fits lone_term
