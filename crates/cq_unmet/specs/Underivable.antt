-- What is told of a duty that isn't derivable.
use Rattle.std.specs.Prelude.{ℕ, List, ◌++◌, ◌≡◌, ◌⊎◌}
use Rattle.cq_explain.specs.Explanation.{equation_text}
use Rattle.cq_instance.specs.InstanceData.{InstanceData}
use Rattle.cq_instance.specs.Listed.{IsListed}
use Rattle.cq_rows.specs.Saturated.{NoneCloses, SomeWide}
use Rattle.cq_theory.specs.declared.presentation.Equation.{Equation}
use Rattle.cq_theory.specs.declared.presentation.Presentation.{Presentation}
use Rattle.cq_theory.specs.Closing.{IsInconsistent}
use Rattle.cq_theory.specs.Derivation.{left_of, right_of}
use Rattle.cq_theory.specs.SchemaData.{SchemaData as Schema}
use Rattle.cq_witness.specs.Phrases.{words}
use Rattle.cq_witness.specs.Sides.{TellsSides}
use Rattle.cq_witness.specs.declared.phrases.Phrase.TheVariants as phrase

-- the equation of a duty
abbrev pub duty_text : Schema → Presentation → Equation → List ℕ
duty_text S P e = words phrase.Follow ++ equation_text S P e ++ words phrase.LineEnd

-- The two rows or values in which the sides differ in the model of the presentation are told, where it has one.
pub data TellsUnderivable (S : Schema) (P : Presentation) (e : Equation) (depth : ℕ) (old new : List ℕ) : Type 0 where
  modelled : (i : InstanceData) → i.schema ≡ S → i.presentation ≡ P → IsListed i → TellsSides i (left_of e) (right_of e) old new
      → TellsUnderivable S P e depth old new
  none : NoneCloses S P depth ⊎ (SomeWide S P depth ⊎ IsInconsistent S P) → new ≡ old → TellsUnderivable S P e depth old new
