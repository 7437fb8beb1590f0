-- What the answer says of images that are given to generators.
use Rattle.std.specs.Prelude.{ℕ, List, Some, None, ◌≡◌, length, slice_get}
use Rattle.cq_base.specs.declared.name.Name.{Name}
use Rattle.cq_base.specs.declared.raw.Raw.{Raw}
use Rattle.cq_theory.specs.declared.presentation.Equation.{Equation}
use Rattle.cq_instance.specs.InstanceData.{InstanceData}
use Rattle.cq_instance.specs.declared.transform.Image.{Image}
use Rattle.cq_transform.specs.declared.refusal.TransformRefusal.{TransformRefusal}
use Rattle.cq_transform.specs.declared.refusal.TransformRefusal.TheVariants.{Broken, Memory}
use Rattle.cq_transform.specs.Images.{images_fault, images_made}
use Rattle.cq_theory.specs.declared.presentation.Sort.{Sort}
use Rattle.cq_theory.specs.Sorts.{sort_of}
use Rattle.cq_transform.specs.Transforms.{term_of}
use Rattle.cq_transform.specs.Refusals.{IsKept, IsBrokenAt}

-- each equation of i's presentation is kept
abbrev pub AreKept : InstanceData → InstanceData → List Image → Type 0
AreKept i j images = (n : ℕ) (e : Equation) → slice_get i.presentation.equations n ≡ Some e → IsKept j images e

-- the images break no rule, and each equation is kept
pub record AreRight (i j : InstanceData) (parts : List (Name × Raw)) : Type 0 where
  pub images : images_fault i j parts ≡ None
  pub kept : AreKept i j (images_made i j parts)

-- The first rule that is broken: one on images, or, where they break none, that the equations are kept.
abbrev pub Tells : InstanceData → InstanceData → List (Name × Raw) → TransformRefusal → Type 0
Tells i j parts (Broken n) = (images_fault i j parts ≡ None) × IsBrokenAt i j (images_made i j parts) n
Tells i j parts Memory = Unit {0}
Tells i j parts refusal = images_fault i j parts ≡ Some refusal

-- each generator of i has an image, which is a term of its sort over j
pub record AreSorted (i j : InstanceData) (images : List Image) : Type 0 where
  pub count : length images ≡ length i.presentation.generators
  pub sorts : (n : ℕ) (g : Name × Sort) (image : Image) → slice_get i.presentation.generators n ≡ Some g → slice_get images n ≡ Some image
      → sort_of j.schema j.presentation.generators (term_of image) ≡ Some g.1
