-- What has to hold of a generator whose image is made.
use Rattle.std.specs.Prelude.{ℕ, [], Some, ◌≡◌, slice_get, slice_index_or}
use Rattle.cq_base.specs.declared.name.Name.{Name}
use Rattle.cq_theory.specs.declared.presentation.Sort.{Sort}
use Rattle.cq_theory.specs.declared.presentation.Sort.TheVariants.{Plain, Entity}
use Rattle.cq_theory.specs.declared.term.Term.TheVariants.{Ent, Typ}
use Rattle.cq_theory.specs.declared.term.TypeTerm.TheVariants.{Gen}
use Rattle.cq_theory.specs.Sorts.{Generators, IsGround}
use Rattle.cq_theory.specs.Tables.{Meaning, AtRow, HasSort}
use Rattle.cq_mapping.specs.MappingData.{MappingData as Mapping}
use Rattle.cq_mapping.specs.Images.{sort_image}
use Rattle.cq_instance.specs.InstanceData.{InstanceData}
use Rattle.cq_instance.specs.declared.transform.Image.{Image}
use Rattle.cq_instance.specs.declared.transform.Transform.{Transform}
use Rattle.cq_transform.specs.Agreement.{meaning_image}
use Rattle.cq_adjoint.specs.Moves.{spelled}

-- generator n is a term of this kind of sort over the instance
abbrev pub IsGenerator : InstanceData → ℕ → Sort → Type 0
IsGenerator i n (Entity entity) = IsGround i.schema i.presentation (Ent (record { generator = n; path = [] }))
IsGenerator i n (Plain type) = IsGround i.schema i.presentation (Typ (Gen n))

module _ (F : Mapping) (h : Transform) (from to : InstanceData) where
  -- where h sends, at the image of the sort, what generator n stands for
  abbrev pub moved : ℕ → Sort → Meaning
  moved n sort =
      meaning_image to.schema from.tables to.tables h.rows h.nulls (sort_image F sort)
      (slice_index_or from.assignment n (AtRow 0))

  abbrev pub moved_spelling : ℕ → Sort → Image
  moved_spelling n sort = spelled to sort (moved n sort)

  -- it is of the sort in `to`
  pub record IsSpellable (n : ℕ) (sort : Sort) : Type 0 where
    pub ground : IsGenerator from n sort
    pub sorted : HasSort to.schema to.tables sort (moved n sort)

  abbrev pub AreSpellable : Generators → Type 0
  AreSpellable G = (n : ℕ) (g : Name × Sort) → slice_get G n ≡ Some g → IsSpellable n g.1
