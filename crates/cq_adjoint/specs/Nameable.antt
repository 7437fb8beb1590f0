-- What has to hold of a generator whose image is a name.
use Rattle.std.specs.Prelude.{ℕ, Some, ◌≡◌, slice_get, slice_index_or}
use Rattle.cq_base.specs.declared.name.Name.{Name}
use Rattle.cq_theory.specs.declared.presentation.Sort.{Sort}
use Rattle.cq_theory.specs.declared.term.TypeTerm.{TypeTerm}
use Rattle.cq_theory.specs.Sorts.{Generators}
use Rattle.cq_theory.specs.Tables.{Meaning, AtRow, HasSort}
use Rattle.cq_mapping.specs.MappingData.{MappingData as Mapping}
use Rattle.cq_mapping.specs.Images.{sort_image}
use Rattle.cq_instance.specs.InstanceData.{InstanceData}
use Rattle.cq_instance.specs.declared.transform.Image.{Image}
use Rattle.cq_instance.specs.declared.transform.Transform.{Transform}
use Rattle.cq_transform.specs.Agreement.{meaning_image}
use Rattle.cq_adjoint.specs.Moves.{named}
use Rattle.cq_adjoint.specs.Spellable.{IsGenerator}

module _ (F : Mapping) (k : Transform) (from to : InstanceData) where
  -- where k sends what generator n stands for
  abbrev pub moved : ℕ → Sort → Meaning
  moved n sort = meaning_image to.schema from.tables to.tables k.rows k.nulls sort
      (slice_index_or from.assignment n (AtRow 0))

  abbrev pub moved_name : (ℕ → TypeTerm) → ℕ → Sort → Image
  moved_name null_term n sort = named to null_term (sort_image F sort) (moved n sort)

  -- it is of the image of the sort in `to`
  pub record IsNameable (n : ℕ) (sort : Sort) : Type 0 where
    pub ground : IsGenerator from n sort
    pub sorted : HasSort to.schema to.tables (sort_image F sort) (moved n sort)

  abbrev pub AreNameable : Generators → Type 0
  AreNameable G = (n : ℕ) (g : Name × Sort) → slice_get G n ≡ Some g → IsNameable n g.1
