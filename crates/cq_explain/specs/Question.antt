-- Which equation two texts ask about.
use Rattle.std.specs.Prelude.{◌≡◌, ◌≤◌, ℕ, List, None, length, map}
use Rattle.cq_base.specs.declared.name.Name.{Name}
use Rattle.cq_base.specs.declared.raw.Raw.{Raw}
use Rattle.cq_lex.specs.declared.token.Token.{Token}
use Rattle.cq_lex.specs.Tokens.{Tokens}
use Rattle.cq_syntax.specs.declared.part.TermSyn.{TermSyn}
use Rattle.cq_syntax.specs.Program.{FitsLevels, IsTerm}
use Rattle.cq_theory.specs.declared.presentation.Equation.{Equation}
use Rattle.cq_theory.specs.declared.presentation.Presentation.{Presentation}
use Rattle.cq_theory.specs.declared.presentation.Sort.{Sort}
use Rattle.cq_theory.specs.Parts.{equation_of}
use Rattle.cq_theory.specs.Resolve.{equation_fault}
use Rattle.cq_theory.specs.Resolved.{resolved}
use Rattle.cq_terms.specs.Generators.{names_of, sorts_of}
use Rattle.cq_theory.specs.SchemaData.{SchemaData as Schema}
use Rattle.cq_theory.specs.Sorts.{Generators}

-- the tokens are one term, of at most 64 levels
pub record IsTermOf (tokens : List Token) (term : Raw) : Type 0 where
  pub tree : TermSyn
  pub spelled : IsTerm tokens tree
  pub fits : FitsLevels tree
  pub term_is : term ≡ tree.raw

-- the text has at most 8 MiB, and its tokens are this term
pub record IsTextOfTerm (text : List ℕ) (term : Raw) : Type 0 where
  pub short : length text ≤ 8388608
  pub tokens : List Token
  pub lexed : Tokens text tokens
  pub is_term : IsTermOf tokens term

-- Two terms as they are written make this equation over the generators: its names are known, its counts and sorts right, both sides are of
-- one sort, no text is reserved, and no side has over 1,024 symbols.
pub record Makes (S : Schema) (G : Generators) (left right : Raw) (e : Equation) : Type 0 where
  pub faultless : equation_fault S (names_of G) (sorts_of G) (left, right) ≡ None
  pub equation : e ≡ equation_of (resolved S (names_of G) (sorts_of G) left) (resolved S (names_of G) (sorts_of G) right)

-- the two texts are terms, which make this equation over the presentation
pub record Asks (S : Schema) (P : Presentation) (left right : List ℕ) (e : Equation) : Type 0 where
  pub left_term : Raw
  pub left_spelled : IsTextOfTerm left left_term
  pub right_term : Raw
  pub right_spelled : IsTextOfTerm right right_term
  pub makes : Makes S P.generators left_term right_term e
