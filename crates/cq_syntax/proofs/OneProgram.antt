-- Tokens are at most one program.
use Rattle.std.proofs.Common.{◌≡◌, List, [], sym, ◌∙◌}
use Rattle.cq_lex.specs.declared.token.Token.{Token}
use Rattle.cq_rules.specs.Outcome.{Took}
use Rattle.cq_rules.specs.Rule.{read}
use Rattle.cq_rules.proofs.Rules.{RuleLaws, laws}
use Rattle.cq_rules.proofs.Deciding.{read_whole}
use Rattle.cq_syntax.specs.Grammar.{program}
use Rattle.cq_syntax.specs.Program.{IsProgram, FitsLimits}
use Rattle.cq_syntax.specs.declared.program.Program.{Program}
use Rattle.cq_syntax.proofs.Decides.{program_decides}

program_laws : RuleLaws program
program_laws = laws program program_decides

-- a program that keeps the limits is what is read
is_read : (tokens : List Token) (tree : Program) → IsProgram tokens tree → FitsLimits tree → read program tokens ≡ Took tree []
is_read tokens tree spelled fits = read_whole _ _ _ _ _ _ _ program_laws tokens tree spelled fits

pub one_program : (tokens : List Token) (tree other : Program) → IsProgram tokens tree → FitsLimits tree → IsProgram tokens other → FitsLimits other → tree ≡ other
one_program tokens tree other spelled fits spelled' fits' =
    let both : Took tree [] ≡ Took other [] = sym (is_read tokens tree spelled fits) ∙ is_read tokens other spelled' fits' in
    cc
