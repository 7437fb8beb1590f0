-- What is told of images that don't keep an equation.
use Rattle.std.specs.Prelude.{ℕ, List, ◌++◌, ◌≡◌, ◌<◌, None, Some, length, slice_get}
use Rattle.cq_base.specs.declared.name.Name.{Name}
use Rattle.cq_base.specs.declared.raw.Raw.{Raw}
use Rattle.cq_explain.specs.Explanation.{equation_text, ordinal}
use Rattle.cq_instance.specs.InstanceData.{InstanceData}
use Rattle.cq_theory.specs.declared.presentation.Equation.{Equation}
use Rattle.cq_theory.specs.Derivation.{left_of, right_of}
use Rattle.cq_transform.specs.Images.{images_made}
use Rattle.cq_witness.specs.Images.{put_equation}
use Rattle.cq_witness.specs.Phrases.{words}
use Rattle.cq_witness.specs.Sides.{TellsSides}
use Rattle.cq_witness.specs.declared.phrases.Phrase.TheVariants as phrase

-- the name of an instance, and an equation over its presentation
abbrev pub named_text : Name → InstanceData → Equation → List ℕ
named_text name i equation = name ++ words phrase.Colon ++ equation_text i.schema i.presentation equation ++ words phrase.LineEnd

module _ (source target : Name) (i j : InstanceData) where
  -- the equation of the one instance, by its number from 0, and its image in the other
  abbrev pub kept_text : ℕ → Equation → Equation → List ℕ
  kept_text n equation image =
      words phrase.Equation ++ ordinal n ++ words phrase.Of ++ named_text source i equation
      ++ words phrase.Image ++ named_text target j image

-- The equation with this number, from 0, is told with its image by the parts, and the two rows or values to which the image's sides
-- lead. Nothing is told where there is no such equation, and where the parts are too many.
pub data TellsBroken (source target : Name) (i j : InstanceData) (parts : List (Name × Raw)) (n : ℕ) (old new : List ℕ) : Type 0 where
  told : (equation : Equation) (between : List ℕ) → slice_get i.presentation.equations n ≡ Some equation
      → TellsSides j (left_of (put_equation (images_made i j parts) equation)) (right_of (put_equation (images_made i j parts) equation))
      (old ++ kept_text source target i j n equation (put_equation (images_made i j parts) equation)) between
      → new ≡ between ++ words phrase.OtherImages → TellsBroken source target i j parts n old new
  none : slice_get i.presentation.equations n ≡ None → new ≡ old → TellsBroken source target i j parts n old new
  many : 16000000 < length parts → new ≡ old → TellsBroken source target i j parts n old new
