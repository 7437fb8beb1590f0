-- The two ways from the start of a pushout into a model of the gluing.
use Rattle.std.specs.Prelude.{ℕ, List, map}
use Rattle.cq_theory.specs.Tables.{Tables, Assignment, meaning_of}
use Rattle.cq_instance.specs.declared.transform.Image.{Image}
use Rattle.cq_transform.specs.Transforms.{term_of}
use Rattle.cq_transform.specs.Shifted.{shifted_term}

-- what the images of the start's generators on the left mean in the model
abbrev pub through_left : Tables → Assignment → List Image → Assignment
through_left M A images = map (λ image. meaning_of M A (term_of image)) images

-- what their images on the right mean there, whose generators stand behind `first` ones of the left
abbrev pub through_right : ℕ → Tables → Assignment → List Image → Assignment
through_right first M A images = map (λ image. meaning_of M A (shifted_term first (term_of image))) images
