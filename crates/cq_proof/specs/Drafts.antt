-- Lists of numbers that spell lists of steps: each number is an instruction to a draft of the list.
use Rattle.std.specs.Prelude.{ℕ, List, [], ◌∷◌, ◌++◌, ◌==◌, ◌%◌, ◌/◌, if◌then◌else◌, length, nat_lt, reverse}
use Rattle.std.specs.Str.Lossy.{utf8_lossy}
use Rattle.cq_theory.specs.declared.constant.Con.TheVariants.{Named, Open}
use Rattle.cq_theory.specs.declared.presentation.Equation.{Equation}
use Rattle.cq_theory.specs.declared.presentation.Equation.TheVariants.{Ent, Typ}
use Rattle.cq_theory.specs.declared.term.EntTerm.{EntTerm}
use Rattle.cq_theory.specs.declared.term.TypeTerm.{TypeTerm}
use Rattle.cq_theory.specs.declared.term.TypeTerm.TheVariants.{Gen, Const, Att, Fun}
use Rattle.cq_theory.specs.EntTerm.{extended}
use Rattle.cq_steps.specs.declared.step.Rule.{Rule}
use Rattle.cq_steps.specs.declared.step.Rule.TheVariants.{Reflexivity, Symmetry, Transitivity, Key, Attribute, Function, Given, Path, Obs}
use Rattle.cq_steps.specs.declared.step.Step.{Step}
use Rattle.cq_proof.specs.declared.draft.Draft.{Draft}

-- the steps so far, and what the next ones are made of: terms and equations with the last one first, the arguments of a function, the
-- bytes of a text, and the numbers of premises
pub record DraftData : Type 0 where
  pub entities : List EntTerm
  pub types : List TypeTerm
  pub args : List TypeTerm
  pub text : List ℕ
  pub equations : List Equation
  pub from : List ℕ
  pub steps : List Step

abbrev pub blank : DraftData
blank = record { entities = []; types = []; args = []; text = []; equations = []; from = []; steps = [] }

-- what the code's draft stands for
abbrev pub seen : Draft → DraftData
seen d = record {
  entities = reverse d.entities.items;
  types = reverse d.types.items;
  args = d.args.items;
  text = d.text.items;
  equations = reverse d.equations.items;
  from = d.from.items;
  steps = d.steps.items;
}

-- the first of a list, or a default; and those behind it
abbrev pub top : {A : Type 0} → A → List A → A
top otherwise [] = otherwise
top otherwise (x ∷ xs) = x

abbrev pub under : {A : Type 0} → List A → List A
under [] = []
under (x ∷ xs) = xs

abbrev pub generator_term : ℕ → EntTerm
generator_term n = record { generator = n; path = [] }

abbrev pub top_entity : List EntTerm → EntTerm
top_entity = top (generator_term 0)

abbrev pub top_type : List TypeTerm → TypeTerm
top_type = top (Gen 0)

abbrev pub top_equation : List Equation → Equation
top_equation = top (Ent (generator_term 0) (generator_term 0))

-- a number of 32 bits
abbrev pub word : ℕ → ℕ
word n = n % 4294967296

-- the text of some bytes, or the empty one where it is longer than a name
abbrev pub text_of : List ℕ → List ℕ
text_of bytes = if nat_lt 255 (length (utf8_lossy bytes)) then [] else utf8_lossy bytes

-- the rule of a number, at a term
abbrev pub numbered_rule : ℕ → ℕ → EntTerm → Rule
numbered_rule kind n at =
    if kind == 0 then Reflexivity else if kind == 1 then Symmetry else if kind == 2 then Transitivity
    else if kind == 3 then Key (word n) else if kind == 4 then Attribute (word n) else if kind == 5 then Function (word n)
    else if kind == 6 then Given n else if kind == 7 then Path (word n) at else Obs (word n) at

-- what the instruction of a kind with a number makes of a draft
module _ (n : ℕ) (d : DraftData) where
  -- a term of an entity: a generator, or one more key
  abbrev pub with_generator : DraftData
  with_generator = record d { entities = generator_term (word n) ∷ d.entities }

  abbrev pub with_key : DraftData
  with_key = record d { entities = extended (top_entity d.entities) (word n ∷ []) ∷ under d.entities }

  -- a term of a type: a generator, a declared constant, a text, an attribute of the last term of an entity, or a function
  abbrev pub with_type_generator : DraftData
  with_type_generator = record d { types = Gen (word n) ∷ d.types }

  abbrev pub with_constant : DraftData
  with_constant = record d { types = Const (Named (word n)) ∷ d.types }

  abbrev pub with_text : DraftData
  with_text = record d { types = Const (Open (text_of d.text)) ∷ d.types; text = [] }

  abbrev pub with_attribute : DraftData
  with_attribute = record d { types = Att (word n) (top_entity d.entities) ∷ d.types; entities = under d.entities }

  abbrev pub with_function : DraftData
  with_function = record d { types = Fun (word n) d.args ∷ d.types; args = [] }

  -- one more byte of the text, one more argument, one more premise
  abbrev pub with_byte : DraftData
  with_byte = record d { text = d.text ++ n % 256 ∷ [] }

  abbrev pub with_argument : DraftData
  with_argument = record d { args = d.args ++ top_type d.types ∷ []; types = under d.types }

  abbrev pub with_premise : DraftData
  with_premise = record d { from = d.from ++ n ∷ [] }

  -- an equation of the last two terms
  abbrev pub with_entity_equation : DraftData
  with_entity_equation = record d {
    equations = Ent (top_entity (under d.entities)) (top_entity d.entities) ∷ d.equations;
    entities = under (under d.entities);
  }

  abbrev pub with_type_equation : DraftData
  with_type_equation = record d {
    equations = Typ (top_type (under d.types)) (top_type d.types) ∷ d.equations;
    types = under (under d.types);
  }

  -- one more step, by a rule at the last term of an entity
  abbrev pub with_step : DraftData
  with_step = record d {
    steps = d.steps ++ record {
      rule = numbered_rule (n % 16) (n / 16) (top_entity d.entities);
      from = d.from;
      equation = top_equation d.equations;
    } ∷ [];
    entities = under d.entities;
    equations = under d.equations;
    from = [];
  }

  abbrev pub instructed : ℕ → DraftData
  instructed kind =
      if kind == 0 then with_generator else if kind == 1 then with_key else if kind == 2 then with_type_generator
      else if kind == 3 then with_constant else if kind == 4 then with_text else if kind == 5 then with_attribute
      else if kind == 6 then with_function else if kind == 7 then with_byte else if kind == 8 then with_argument
      else if kind == 9 then with_premise else if kind == 10 then with_entity_equation else if kind == 11 then with_type_equation
      else with_step

-- what a number makes of a draft, and what numbers make of it one after another
abbrev pub obeyed : ℕ → DraftData → DraftData
obeyed number d = instructed (number / 16) d (number % 16)

abbrev pub all_obeyed : List ℕ → DraftData → DraftData
all_obeyed [] d = d
all_obeyed (number ∷ numbers) d = all_obeyed numbers (obeyed number d)

-- the list of steps that the numbers spell
abbrev pub spelled : List ℕ → List Step
spelled numbers = (all_obeyed numbers blank).steps
