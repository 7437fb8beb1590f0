-- What the literal of a presentation is: one declaration, whose parts are those of the presentation.
use Rattle.std.specs.Prelude.{ℕ, true, List, ◌++◌, ◌≡◌, ◌≤◌, map}
use Rattle.std.specs.List.{flat_map}
use Rattle.cq_base.specs.declared.name.Name.{Name}
use Rattle.cq_base.specs.declared.raw.Raw.{Raw}
use Rattle.cq_lex.specs.Tokens.{Lexes}
use Rattle.cq_lex.specs.declared.token.Token.{Token}
use Rattle.cq_rules.specs.Rule.{Fits, Spells}
use Rattle.cq_rules.specs.Tree.{levels}
use Rattle.cq_syntax.specs.Grammar.{declaration}
use Rattle.cq_syntax.specs.Terms.{tree_of}
use Rattle.cq_syntax.specs.declared.literal.InstanceLit.{InstanceLit}
use Rattle.cq_syntax.specs.declared.part.EqSyn.{EqSyn}
use Rattle.cq_syntax.specs.declared.part.GroupSyn.{GroupSyn}
use Rattle.cq_syntax.specs.declared.program.Body.TheVariants.{Instance}
use Rattle.cq_syntax.specs.declared.program.Decl.{Decl}
use Rattle.cq_syntax.specs.declared.program.InstanceExp.TheVariants.{Literal}
use Rattle.cq_theory.specs.declared.presentation.Equation.{Equation}
use Rattle.cq_theory.specs.declared.presentation.Equation.TheVariants.{Ent, Typ}
use Rattle.cq_theory.specs.declared.presentation.Presentation.{Presentation}
use Rattle.cq_theory.specs.SchemaData.{SchemaData as Schema}
use Rattle.cq_return.specs.WrittenTerms.{equation_raws, generator_part, has_contents}

-- each name of a group with its sort, and the two sides of an equation
abbrev pub group_parts : GroupSyn → List (Name × Name)
group_parts g = map (λ spot. (spot.name, g.sort)) g.names

abbrev pub equation_part : EqSyn → Raw × Raw
equation_part e = (e.left.raw, e.right.raw)

-- a declaration of an instance of this name by a literal over the schema of this name, with the parts of the presentation
pub record Declares (S : Schema) (P : Presentation) (name schema : Name) (d : Decl) : Type 0 where
  pub literal : InstanceLit
  pub named : d.name ≡ name
  pub body : d.body ≡ Instance (Literal literal)
  pub over : literal.schema.name ≡ schema
  pub generators : flat_map group_parts literal.generators ≡ map (generator_part S) P.generators
  pub equations : map equation_part literal.equations ≡ map (equation_raws S) P.equations

-- these bytes, which stand behind `before`, are one declaration as the language has it, whatever stands behind them
pub record IsDeclaration (S : Schema) (P : Presentation) (name schema : Name) (before bytes : List ℕ) : Type 0 where
  pub tokens : List Token
  pub declared : Decl
  pub spelled : Spells declaration tokens declared
  pub fits : Fits declaration declared
  pub declares : Declares S P name schema declared
  pub lexed : (after : List ℕ) (others : List Token) → Lexes (before ++ bytes) after others
      → Lexes before (bytes ++ after) (tokens ++ others)

module _ (S : Schema) where
  -- each side has at most 64 levels as it is written
  abbrev pub HasFewLevels : Equation → Type 0
  HasFewLevels e = (levels (tree_of (equation_raws S e).0) ≤ 64) × (levels (tree_of (equation_raws S e).1) ≤ 64)

  -- each constant in it has a content of at most 255 bytes of UTF-8
  abbrev pub HasContents : Equation → Type 0
  HasContents (Ent t u) = Unit {0}
  HasContents (Typ t u) = (has_contents S t ≡ true) × (has_contents S u ≡ true)
