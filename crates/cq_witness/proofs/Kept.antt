-- What is told of an equation that isn't kept.
use Rattle.std.proofs.Common.{ℕ, List, ◌++◌, ◌≡◌, Some, subst, sym, ap, ◌∙◌}
use Rattle.std.specs.Prelude.{slice_get}
use Rattle.cq_base.specs.declared.name.Name.{Name}
use Rattle.cq_base.specs.declared.raw.Raw.{Raw}
use Rattle.cq_instance.specs.InstanceData.{InstanceData}
use Rattle.cq_instance.specs.declared.transform.Image.{Image}
use Rattle.cq_theory.specs.declared.presentation.Equation.{Equation}
use Rattle.cq_theory.specs.Derivation.{left_of, right_of}
use Rattle.cq_transform.specs.Images.{images_made}
use Rattle.cq_witness.specs.Broken.{TellsBroken, told, kept_text}
use Rattle.cq_witness.specs.Images.{put_equation}
use Rattle.cq_witness.specs.Phrases.{words}
use Rattle.cq_witness.specs.Sides.{TellsSides}
use Rattle.cq_witness.specs.declared.phrases.Phrase.TheVariants.{OtherImages}

module _ (source target : Name) (i j : InstanceData) (parts : List (Name × Raw)) (n : ℕ) where
  pub tells_broken : (equation image : Equation) (images : List Image) (old mid between new : List ℕ) → Some equation ≡ slice_get i.presentation.equations n
      → images ≡ images_made i j parts → image ≡ put_equation images equation → mid ≡ old ++ kept_text source target i j n equation image
      → TellsSides j (left_of image) (right_of image) mid between → new ≡ between ++ words OtherImages → TellsBroken source target i j parts n old new
  tells_broken equation image images old mid between new there images_are image_is kept sides end =
      let is : image ≡ put_equation (images_made i j parts) equation = image_is ∙ ap (λ (l : List Image). put_equation l equation) images_are in
      told equation between (sym there)
      (subst (λ (x : Equation). TellsSides j (left_of x) (right_of x) (old ++ kept_text source target i j n equation x) between) is
      (subst (λ (l : List ℕ). TellsSides j (left_of image) (right_of image) l between) kept sides))
      end
