-- Transforms between instances.
use Rattle.std.specs.Prelude.{ℕ, List, Some, ◌≡◌, map, length, slice_get}
use Rattle.cq_base.specs.declared.name.Name.{Name}
use Rattle.cq_theory.specs.declared.presentation.Sort.{Sort}
use Rattle.cq_theory.specs.declared.term.Term.{Term}
use Rattle.cq_theory.specs.declared.term.Term.TheVariants.{Ent, Typ}
use Rattle.cq_theory.specs.Sorts.{sort_of}
use Rattle.cq_theory.specs.Tables.{Assignment, meaning_of, Holds}
use Rattle.cq_theory.specs.Homomorphism.{IsHomomorphism}
use Rattle.cq_instance.specs.InstanceData.{InstanceData}
use Rattle.cq_instance.specs.declared.transform.Image.{Image}
use Rattle.cq_instance.specs.declared.transform.Image.TheVariants.{Row, Value}
use Rattle.cq_instance.specs.declared.transform.Transform.{Transform}
use Rattle.cq_transform.specs.Agreement.{Agrees}

-- the image of a generator as a term
abbrev pub term_of : Image → Term
term_of (Row t) = Ent t
term_of (Value t) = Typ t

-- what the images mean in an instance
abbrev pub meanings_in : InstanceData → List Image → Assignment
meanings_in j images = map (λ image. meaning_of j.tables j.assignment (term_of image)) images

-- Each generator of i has an image, which is a term of its sort over j. The presentation of i holds in the tables of j, where
-- a generator stands for what its image means. The rows and nulls are a homomorphism that agrees with the images.
pub record GoesFrom (transform : Transform) (i j : InstanceData) : Type 0 where
  pub schema : j.schema ≡ i.schema
  pub count : length transform.images ≡ length i.presentation.generators
  pub sorts : (n : ℕ) (g : Name × Sort) (image : Image) → slice_get i.presentation.generators n ≡ Some g
      → slice_get transform.images n ≡ Some image
      → sort_of j.schema j.presentation.generators (term_of image) ≡ Some g.1
  pub holds : Holds i.schema i.presentation j.tables (meanings_in j transform.images)
  pub homomorphism : IsHomomorphism i.schema i.tables j.tables transform.rows transform.nulls
  pub agrees : Agrees i.schema i.presentation i.tables j.tables i.assignment (meanings_in j transform.images) transform.rows transform.nulls
