-- The images of transforms that go along mappings.
use Rattle.std.specs.Prelude.{ℕ, List, map, slice_index_or}
use Rattle.std.specs.List.{enumerate_from}
use Rattle.cq_theory.specs.declared.presentation.Sort.{Sort}
use Rattle.cq_theory.specs.declared.presentation.Sort.TheVariants.{Plain, Entity}
use Rattle.cq_theory.specs.declared.term.TypeTerm.{TypeTerm}
use Rattle.cq_theory.specs.declared.term.TypeTerm.TheVariants as term
use Rattle.cq_theory.specs.declared.value.Value.{Value}
use Rattle.cq_theory.specs.declared.value.Value.TheOpen.{Value-F, Const, Null, Fun}
use Rattle.cq_theory.specs.declared.value.Value.TheFolds.{fold-Value}
use Rattle.cq_theory.specs.Canonical.{row_term, value_term}
use Rattle.cq_theory.specs.Sorts.{Generators}
use Rattle.cq_theory.specs.Tables.{Meaning, AtRow, row_in, value_in}
use Rattle.cq_mapping.specs.MappingData.{MappingData as Mapping}
use Rattle.cq_mapping.specs.Images.{ent_image, type_image, sort_image}
use Rattle.cq_instance.specs.InstanceData.{InstanceData, name_at}
use Rattle.cq_instance.specs.declared.transform.Image.{Image}
use Rattle.cq_instance.specs.declared.transform.Image.TheVariants.{Row, Value as ValueImage}
use Rattle.cq_instance.specs.declared.transform.Transform.{Transform}
use Rattle.cq_transform.specs.Agreement.{meaning_image}

-- where h, which goes from i to j, sends what generator n of i stands for
abbrev pub sent : InstanceData → InstanceData → Transform → Sort → ℕ → Meaning
sent i j h sort n = meaning_image i.schema i.tables j.tables h.rows h.nulls sort
    (slice_index_or i.assignment n (AtRow 0))

-- the spelling of a row or a value in the instance of tables: the row's generator, and the value as a term over those
-- of nulls
abbrev pub spelled : InstanceData → Sort → Meaning → Image
spelled d (Entity entity) m = Row (row_term d.schema d.tables entity (row_in m))
spelled d (Plain type) m = ValueImage (value_term d.schema d.tables (value_in m))

-- a value as a term in which each null is spelled by a term of its own
module _ (null_term : ℕ → TypeTerm) where
  abbrev pub spelled_step : Value-F TypeTerm → TypeTerm
  spelled_step (Const c) = term.Const c
  spelled_step (Null n) = null_term n
  spelled_step (Fun f args) = term.Fun f args

  abbrev pub spelled_value : Value → TypeTerm
  spelled_value = fold-Value TypeTerm spelled_step

-- a row by its least name, and a value with its nulls spelled
abbrev pub named : InstanceData → (ℕ → TypeTerm) → Sort → Meaning → Image
named j null_term (Entity entity) m = Row (name_at j.names entity (row_in m))
named j null_term (Plain type) m = ValueImage (spelled_value null_term (value_in m))

-- the image of each generator, from its number and its sort
abbrev pub each_generator : (ℕ → Sort → Image) → Generators → List Image
each_generator f G = map (λ g. f g.0 g.1.1) (enumerate_from 0 G)

module _ (F : Mapping) where
  -- sigma: F's image of the image
  abbrev pub image_along : Image → Image
  image_along (Row t) = Row (ent_image F t)
  image_along (ValueImage t) = ValueImage (type_image F t)

  abbrev pub sigma_images : Transform → List Image
  sigma_images h = map image_along h.images

  -- h goes from i to j, and a and b are delta of i and of j: of row r at e the generator in b of h's row for the row r
  -- of F(e), of a null the spelling of h's value for it
  abbrev pub delta_images : Transform → (i j a b : InstanceData) → List Image
  delta_images h i j a b = each_generator (λ n sort. spelled b sort
      (meaning_image i.schema i.tables j.tables h.rows h.nulls (sort_image F sort)
      (slice_index_or a.assignment n (AtRow 0))))
      a.presentation.generators

  -- h goes from a, which is sigma of i, to j, of which d is delta: of a generator the spelling in d of what h makes of
  -- what it stands for in a
  abbrev pub to_delta_images : Transform → (i a j d : InstanceData) → List Image
  to_delta_images h i a j d = each_generator
      (λ n sort. spelled d sort (sent a j h (sort_image F sort) n)) i.presentation.generators

  -- h goes from i to d, which is delta of j: of a generator the name in j of what h makes of what it stands for in i
  abbrev pub from_delta_images : Transform → (ℕ → TypeTerm) → (i j d : InstanceData) → List Image
  from_delta_images h null_term i j d =
      each_generator (λ n sort. named j null_term (sort_image F sort) (sent i d h sort n)) i.presentation.generators
