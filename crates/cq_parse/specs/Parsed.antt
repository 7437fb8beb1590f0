-- Where, and why, a list of tokens is no program, or no term that stands alone, or breaks a limit.
use Rattle.std.specs.Prelude.{◌≡◌, List, [], ◌∷◌, ◌++◌}
use Rattle.cq_lex.specs.declared.token.Token.{Token}
use Rattle.cq_lex.specs.declared.token.Kind.TheVariants as kinds
use Rattle.cq_rules.specs.declared.why.Why.{Why}
use Rattle.cq_rules.specs.declared.why.Why.TheVariants.{Wanted, LeftOut, Deep, BadOption}
use Rattle.cq_rules.specs.Refused.{Refused}
use Rattle.cq_rules.specs.Rule.{Rule, Refuses, Spells}
use Rattle.cq_syntax.specs.Grammar.{lone_term, program}
use Rattle.cq_parse.specs.declared.refusal.ParseRefusal.{ParseRefusal}
use Rattle.cq_parse.specs.declared.refusal.ParseRefusal.TheVariants as refusals

-- what is told of a token that is refused for a reason
abbrev pub refusal_for : Why → Token → ParseRefusal
refusal_for Wanted t = refusals.Syntax t.place
refusal_for (LeftOut n) t = refusals.Unsupported t.place n
refusal_for Deep t = refusals.TooDeep t.place
refusal_for (BadOption p) t = refusals.BadOption p

-- the first token of the list that decides against a text of the rule is refused for a reason, and this is
-- told of it
pub record RefusedBy {A : Type 0} (rule : Rule A) (tokens : List Token) (refusal : ParseRefusal) : Type 0 where
  pub token : Token
  pub why : Why
  pub refused : Refused (Spells rule) (Refuses rule) tokens token why
  pub refusal_is : refusal ≡ refusal_for why token

-- the same of what was answered; want of memory has no cause
abbrev pub IsRefusedBy : {A : Type 0} → Rule A → List Token → ParseRefusal → Type 0
IsRefusedBy rule tokens refusals.Memory = Unit {0}
IsRefusedBy rule tokens (refusals.Syntax place) = RefusedBy rule tokens (refusals.Syntax place)
IsRefusedBy rule tokens (refusals.TooDeep place) = RefusedBy rule tokens (refusals.TooDeep place)
IsRefusedBy rule tokens (refusals.Unsupported place number) = RefusedBy rule tokens (refusals.Unsupported place number)
IsRefusedBy rule tokens (refusals.BadOption place) = RefusedBy rule tokens (refusals.BadOption place)

-- of a program
abbrev pub RefusedWith : List Token → ParseRefusal → Type 0
RefusedWith = RefusedBy program

abbrev pub IsRefused : List Token → ParseRefusal → Type 0
IsRefused = IsRefusedBy program

-- of a term that stands alone, where no word is left out and no option stands
abbrev pub TermRefusedWith : List Token → ParseRefusal → Type 0
TermRefusedWith = RefusedBy lone_term

abbrev pub IsTermRefused : List Token → ParseRefusal → Type 0
IsTermRefused tokens refusals.Memory = Unit {0}
IsTermRefused tokens (refusals.Syntax place) = TermRefusedWith tokens (refusals.Syntax place)
IsTermRefused tokens (refusals.TooDeep place) = TermRefusedWith tokens (refusals.TooDeep place)
IsTermRefused tokens (refusals.Unsupported place number) = ⊥
IsTermRefused tokens (refusals.BadOption place) = ⊥

-- behind an End no text of the rule goes on
abbrev pub EndsAtEnd : {A : Type 0} → Rule A → Type 0
EndsAtEnd {A} rule = (front : List Token) (last : Token) (tail : List Token) (a : A) → last.kind ≡ kinds.End
    → Spells rule (front ++ last ∷ tail) a → tail ≡ []
