-- What arrives at an instance that a mapping pulls back leaves the one that it pushes forward.
use Rattle.std.proofs.Common.{ℕ, List, ◌≡◌, refl, sym, ap, subst, ◌∙◌}
use Rattle.std.specs.Prelude.{slice_index_or}
use Rattle.cq_theory.specs.declared.presentation.Sort.{Sort}
use Rattle.cq_theory.specs.declared.term.TypeTerm.{TypeTerm}
use Rattle.cq_theory.specs.SchemaData.{SchemaData as Schema}
use Rattle.cq_theory.specs.Presentation.{IsPresentation}
use Rattle.cq_theory.specs.Schema.{IsSchema}
use Rattle.cq_theory.specs.Tables.{Tables, AtRow, HasSort, IsWellFormed, Satisfies, Holds}
use Rattle.cq_theory.specs.Homomorphism.{IsHomomorphism}
use Rattle.cq_mapping.specs.MappingData.{MappingData as Mapping}
use Rattle.cq_mapping.specs.Mapping.{IsMapping}
use Rattle.cq_mapping.specs.Images.{sort_image}
use Rattle.cq_mapping.specs.Moved.{delta_tables}
use Rattle.cq_instance.specs.InstanceData.{InstanceData, IsInstance}
use Rattle.cq_instance.specs.declared.transform.Image.{Image}
use Rattle.cq_instance.specs.declared.transform.Transform.{Transform}
use Rattle.cq_transform.specs.Agreement.{meaning_image}
use Rattle.cq_transform.specs.Nulls.{IsInitial}
use Rattle.cq_transform.specs.Transforms.{GoesFrom}
use Rattle.cq_transform.specs.Transforming.{AreKept, AreSorted}
use Rattle.cq_adjoint.specs.Moved.{IsSigmaOf, IsDeltaOf}
use Rattle.cq_adjoint.specs.Moves.{named, each_generator, from_delta_images}
use Rattle.cq_adjoint.specs.Nameable.{AreNameable, moved_name}
use Rattle.cq_instance.specs.Spelling.{AreNullsSpelled}
use Rattle.cq_adjoint.specs.Transposed.{Transposed, IsOnlyOutOf}
use Rattle.cq_adjoint.proofs.Grounds.{generator_ground}
use Rattle.cq_adjoint.proofs.MovedImages.{same_image}
use Rattle.cq_adjoint.proofs.PushedImages as pushing

module _ (F : Mapping) (is : IsMapping F) (i a j d : InstanceData) (first : IsInstance i) (last : IsInstance j) (end : IsInstance d) (initial : IsInitial i) (least : IsInitial j)
    (pushed : IsSigmaOf F i a) (pulled : IsDeltaOf F j d) (null_term : ℕ → TypeTerm) (spell : AreNullsSpelled j null_term) (k : Transform) (from : GoesFrom k i d) where
  well : IsWellFormed F.target j.tables
  well = subst (λ (x : Schema). IsWellFormed x j.tables) pulled.over last.well_formed

  satisfies : Satisfies F.target j.tables
  satisfies = subst (λ (x : Schema). Satisfies x j.tables) pulled.over last.satisfies

  formed : IsWellFormed F.source (delta_tables F j.tables)
  formed = subst (λ (x : InstanceData). IsWellFormed x.schema x.tables) pulled.instance end.well_formed

  satisfied : Satisfies F.source (delta_tables F j.tables)
  satisfied = subst (λ (x : InstanceData). Satisfies x.schema x.tables) pulled.instance end.satisfies

  tables_are : d.tables ≡ delta_tables F j.tables
  tables_are = ap (λ (x : InstanceData). x.tables) pulled.instance

  presented : IsPresentation F.source i.presentation
  presented = subst (λ (x : Schema). IsPresentation x i.presentation) pushed.over first.presented

  homomorphism : IsHomomorphism F.source i.tables (delta_tables F j.tables) k.rows k.nulls
  homomorphism = subst (λ (x : Schema × Tables). IsHomomorphism x.0 i.tables x.1 k.rows k.nulls) (λ l. (pushed.over l, tables_are l)) from.homomorphism

  holds : Holds F.source i.presentation i.tables i.assignment
  holds = subst (λ (x : Schema). Holds x i.presentation i.tables i.assignment) pushed.over initial.0.holds

  abbrev source_images : List Image
  source_images = each_generator (λ n sort. named j null_term (sort_image F sort) (meaning_image F.source i.tables (delta_tables F j.tables) k.rows k.nulls sort (slice_index_or i.assignment n (AtRow 0)))) i.presentation.generators

  over_source : source_images ≡ from_delta_images F k null_term i j d
  over_source = ap (λ (x : Schema × Tables). each_generator (λ n sort. named j null_term (sort_image F sort) (meaning_image x.0 i.tables x.1 k.rows k.nulls sort (slice_index_or i.assignment n (AtRow 0)))) i.presentation.generators)
      (λ l. (sym pushed.over l, sym tables_are l))

  entries : j.tables.algebra.entries ≡ d.tables.algebra.entries
  entries = ap (λ (x : Tables). x.algebra.entries) (sym tables_are)

  -- the images that the code makes
  pub images_are : each_generator (moved_name F k i j null_term) i.presentation.generators ≡ from_delta_images F k null_term i j d
  images_are =
      λ l. each_generator (λ n sort. named j null_term (sort_image F sort)
      (same_image j.schema i.schema i.tables i.tables j.tables d.tables k.rows k.nulls entries sort (slice_index_or i.assignment n (AtRow 0)) l)) i.presentation.generators

  pub schema_is : j.schema ≡ a.schema
  schema_is = pulled.over ∙ sym pushed.schema

  pub nameable : AreNameable F k i j i.presentation.generators
  nameable n g at = record {
    ground = generator_ground i n g.0 g.1 at;
    sorted =
        let one = pushing.moved_sorted F is i a j presented pushed.presentation pushed.schema pulled.over k.rows k.nulls homomorphism holds well satisfies formed satisfied null_term spell least.1 n g at in
        subst (HasSort j.schema j.tables (sort_image F g.1))
        (same_image F.source j.schema i.tables i.tables (delta_tables F j.tables) j.tables k.rows k.nulls refl g.1 (slice_index_or i.assignment n (AtRow 0))) one;
  }

  pub sorted : AreSorted a j (from_delta_images F k null_term i j d)
  sorted = subst (AreSorted a j) over_source
      (pushing.sorted F is i a j presented pushed.presentation pushed.schema pulled.over k.rows k.nulls homomorphism holds well satisfies formed satisfied null_term spell least.1)

  pub kept : AreKept a j (from_delta_images F k null_term i j d)
  kept = subst (AreKept a j) over_source
      (pushing.kept F is i a j presented pushed.presentation pushed.schema pulled.over k.rows k.nulls homomorphism holds well satisfies formed satisfied null_term spell least.1)

  module _ (made : Transform) (images : made.images ≡ from_delta_images F k null_term i j d) (goes : GoesFrom made a j) where
    made_images : made.images ≡ source_images
    made_images = images ∙ sym over_source

    -- where k sends what generator n stands for, over the source of F
    source_sent : (n : ℕ) (sort : Sort) → meaning_image i.schema i.tables d.tables k.rows k.nulls sort (slice_index_or i.assignment n (AtRow 0))
        ≡ meaning_image F.source i.tables (delta_tables F j.tables) k.rows k.nulls sort (slice_index_or i.assignment n (AtRow 0))
    source_sent n sort = λ l. meaning_image (pushed.over l) i.tables (tables_are l) k.rows k.nulls sort (slice_index_or i.assignment n (AtRow 0))

    pub transposed : Transposed F i a j d made k
    transposed n g at =
        source_sent n g.1
        ∙ pushing.transposed F is i a j presented pushed.presentation pushed.schema pulled.over k.rows k.nulls homomorphism holds well satisfies formed satisfied null_term spell least.1 made made_images goes n g at

    pub only : IsSchema a.schema → IsOnlyOutOf F i a j d made k
    only schema other arrow says =
        pushing.only_one F is i a j presented pushed.presentation pushed.schema pulled.over k.rows k.nulls homomorphism holds well satisfies formed satisfied null_term spell least.1 schema pushed.initial
        made made_images goes other.rows other.nulls arrow (λ n g at. sym (source_sent n g.1) ∙ says n g at)
