-- The presentations of coproducts and pushouts.
use Rattle.std.specs.Prelude.{ℕ, List, [], ◌∷◌, ◌++◌, ◌+◌, map, length}
use Rattle.std.specs.List.{flat_map}
use Rattle.cq_theory.specs.declared.presentation.Sort.{Sort}
use Rattle.cq_theory.specs.declared.presentation.Equation.{Equation}
use Rattle.cq_theory.specs.declared.presentation.Presentation.{Presentation}
use Rattle.cq_theory.specs.Canonical.{named}
use Rattle.cq_theory.specs.Parts.{equation_of}
use Rattle.cq_instance.specs.declared.transform.Image.{Image}
use Rattle.cq_instance.specs.declared.transform.Transform.{Transform}
use Rattle.cq_transform.specs.Transforms.{term_of}
use Rattle.cq_transform.specs.Shifted.{shifted_term, shifted_equation}

-- the sorts of the generators of some presentations, in order
abbrev pub sorts_of : List Presentation → List Sort
sorts_of parts = flat_map (λ P. map (λ g. g.1) P.generators) parts

-- the equations of some presentations, in order; each one's generators stand behind those of the ones before it
abbrev pub equations_from : ℕ → List Presentation → List Equation
equations_from first [] = []
equations_from first (P ∷ parts) = map (shifted_equation first) P.equations ++ equations_from (first + length P.generators) parts

-- generators of these sorts, named g1, g2, .., with these equations
abbrev pub presented : List Sort → List Equation → Presentation
presented sorts equations = record { generators = named sorts; equations = equations }

-- the disjoint union of some presentations
abbrev pub coproduct_of : List Presentation → Presentation
coproduct_of parts = presented (sorts_of parts) (equations_from 0 parts)

-- the image of a generator on the left, and its image on the right, whose generators stand behind `first` ones of the left
abbrev pub glued : ℕ → Image → Image → Equation
glued first left right = equation_of (term_of left) (shifted_term first (term_of right))

-- one equation for each generator
abbrev pub glued_images : ℕ → List Image → List Image → List Equation
glued_images first [] rights = []
glued_images first (left ∷ lefts) [] = []
glued_images first (left ∷ lefts) (right ∷ rights) = glued first left right ∷ glued_images first lefts rights

-- the disjoint union of the left and the right, where each generator of the start has one image
abbrev pub pushout_of : Transform → Transform → Presentation → Presentation → Presentation
pushout_of to_left to_right left right =
    presented (sorts_of (left ∷ right ∷ []))
    (equations_from 0 (left ∷ right ∷ []) ++ glued_images (length left.generators) to_left.images to_right.images)
