-- The image of an equation by the images of generators.
use Rattle.std.specs.Prelude.{List, map}
use Rattle.cq_base.specs.declared.name.Name.{Name}
use Rattle.cq_base.specs.declared.raw.Raw.{Raw}
use Rattle.cq_instance.specs.declared.transform.Image.{Image}
use Rattle.cq_theory.specs.declared.presentation.Equation.{Equation}
use Rattle.cq_theory.specs.declared.presentation.Equation.TheVariants.{Ent, Typ}
use Rattle.cq_theory.specs.declared.presentation.Sort.TheVariants.{Plain}
use Rattle.cq_theory.specs.Sorts.{Generators}
use Rattle.cq_transform.specs.Composing.{put_row, put_value}

-- the names of parts, as those of generators
abbrev pub parts_as_generators : List (Name × Raw) → Generators
parts_as_generators parts = map (λ part. (part.0, Plain 0)) parts

-- the equation with the image of each generator in the generator's place
abbrev pub put_equation : List Image → Equation → Equation
put_equation images (Ent t u) = Ent (put_row images t) (put_row images u)
put_equation images (Typ t u) = Typ (put_value images t) (put_value images u)
