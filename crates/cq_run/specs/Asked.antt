-- What is answered to a question about an instance of a program.
use Rattle.std.specs.Prelude.{◌≡◌, ◌⊎◌, ℕ, List, [], ◌∷◌, Option, Some, None, if◌then◌else◌}
use Rattle.std.specs.Str.{bytes_eq}
use Rattle.cq_theory.specs.declared.presentation.Equation.{Equation}
use Rattle.cq_explain.specs.Explained.{Explains}
use Rattle.cq_explain.specs.Question.{Asks}
use Rattle.cq_program.specs.Posed.{Posed}
use Rattle.cq_environment.specs.Meanings.{instance}
use Rattle.cq_program.specs.Program.{Listing, Stands}
use Rattle.cq_run.specs.Lines.{bad_term_line, no_instance_line}
use Rattle.cq_run.specs.declared.status.Status.{Status}
use Rattle.cq_run.specs.declared.status.Status.TheVariants as status

-- the instance of a name among those of a program
abbrev pub instance_named : List ℕ → List Listing → Option Listing
instance_named name [] = None
instance_named name (L ∷ Ls) = if bytes_eq L.name name then Some L else instance_named name Ls

-- the instance is one that a declaration stands for
abbrev pub IsMade : Listing → Type 0
IsMade found = (posed : Posed) × Stands posed (instance found.schema found.instance)

-- the two texts ask about an equation over the instance's presentation
abbrev pub AsksOf : Listing → List ℕ → List ℕ → Equation → Type 0
AsksOf found left right e = Asks found.instance.schema found.instance.presentation left right e

-- what is written in answer to a question about this instance, by the status that the run then has
abbrev pub IsReplyAbout : Listing → List ℕ → List ℕ → Status → List ℕ → Type 0
IsReplyAbout found left right status.Ok line = Explains found.instance left right line
IsReplyAbout found left right status.Refused line = ((e : Equation) → AsksOf found left right e → ⊥) × (line ≡ bad_term_line)
IsReplyAbout found left right _ line = ⊥

module _ (name left right : List ℕ) (listings : List Listing) where
  -- the text explains whether the equation holds in the instance of the name
  pub record IsExplained (text : List ℕ) : Type 0 where
    pub found : Listing
    pub is_named : instance_named name listings ≡ Some found
    pub explains : Explains found.instance left right text

  -- no instance has the name, and the line says so
  pub record LacksInstance (line : List ℕ) : Type 0 where
    pub none : instance_named name listings ≡ None
    pub line_is : line ≡ no_instance_line

  -- the instance of the name is there, the texts ask about no equation over its presentation, and the line says so
  pub record LacksEquation (line : List ℕ) : Type 0 where
    pub found : Listing
    pub is_named : instance_named name listings ≡ Some found
    pub none : (e : Equation) → AsksOf found left right e → ⊥
    pub line_is : line ≡ bad_term_line

  -- the question has no answer, and the line says why
  abbrev pub IsUnanswered : List ℕ → Type 0
  IsUnanswered line = LacksInstance line ⊎ LacksEquation line

  -- what is written in answer to the question, by the status that the run then has
  abbrev pub IsReply : Status → List ℕ → Type 0
  IsReply status.Ok line = IsExplained line
  IsReply status.Refused line = IsUnanswered line
  IsReply _ line = ⊥
