-- The rules on the images of a transform are those on the parts of a mapping.
use Rattle.std.specs.Prelude.{List, Option, Some, None, option_and_then}
use Rattle.cq_base.specs.declared.name.Name.{Name}
use Rattle.cq_base.specs.declared.raw.Raw.{Raw}
use Rattle.cq_theory.specs.declared.refusal.ArrowRefusal.{ArrowRefusal}
use Rattle.cq_theory.specs.declared.refusal.ArrowRefusal.TheVariants as arrow
use Rattle.cq_instance.specs.InstanceData.{InstanceData}
use Rattle.cq_transform.specs.declared.refusal.TransformRefusal.{TransformRefusal}
use Rattle.cq_transform.specs.declared.refusal.TransformRefusal.TheVariants as images
use Rattle.cq_transform.specs.Images.{images_fault}

-- the rule on parts that a refusal of images tells; that an equation isn't kept is none
abbrev pub rule_on_images : TransformRefusal → Option ArrowRefusal
rule_on_images (images.Duplicate n) = Some (arrow.Duplicate n)
rule_on_images (images.Unknown n) = Some (arrow.Unknown n)
rule_on_images (images.WrongCount n) = Some (arrow.WrongCount n)
rule_on_images (images.WrongSort n) = Some (arrow.WrongSort n)
rule_on_images (images.Reserved n) = Some (arrow.Reserved n)
rule_on_images (images.TooLarge n) = Some (arrow.TooLarge n)
rule_on_images (images.Missing name) = Some (arrow.Missing name)
rule_on_images (images.Broken n) = None
rule_on_images images.Memory = Some arrow.Memory

-- the first rule that images break
abbrev pub broken_by_images : InstanceData → InstanceData → List (Name × Raw) → Option ArrowRefusal
broken_by_images i j parts = option_and_then rule_on_images (images_fault i j parts)
