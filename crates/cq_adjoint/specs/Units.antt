-- The unit and the counit of sigma and delta, as images.
use Rattle.std.specs.Prelude.{ℕ, List, slice_index_or}
use Rattle.cq_theory.specs.declared.term.TypeTerm.{TypeTerm}
use Rattle.cq_theory.specs.Tables.{AtRow}
use Rattle.cq_theory.specs.Homomorphism.{identity_rows, identity_nulls}
use Rattle.cq_mapping.specs.MappingData.{MappingData as Mapping}
use Rattle.cq_mapping.specs.Images.{sort_image}
use Rattle.cq_instance.specs.InstanceData.{InstanceData}
use Rattle.cq_instance.specs.declared.transform.Image.{Image}
use Rattle.cq_instance.specs.declared.transform.Transform.{Transform}
use Rattle.cq_transform.specs.Identities.{identity_images}
use Rattle.cq_adjoint.specs.Moves.{spelled, named, each_generator}

-- the identity of an instance
abbrev pub identity_of : InstanceData → Transform
identity_of i = record {
  images = identity_images i.presentation.generators;
  rows = identity_rows i.tables;
  nulls = identity_nulls i.tables;
}

-- x is sigma of i, and b is delta of x: each generator goes to the spelling in b of what it stands for in x
abbrev pub unit_images : (i x b : InstanceData) → List Image
unit_images i x b = each_generator
    (λ n sort. spelled b sort (slice_index_or x.assignment n (AtRow 0))) i.presentation.generators

-- x is delta of i: the generator of a row or a null of x goes to its name in i
abbrev pub counit_images : Mapping → (ℕ → TypeTerm) → (i x : InstanceData) → List Image
counit_images F null_term i x =
    each_generator (λ n sort. named i null_term (sort_image F sort)
    (slice_index_or x.assignment n (AtRow 0))) x.presentation.generators
