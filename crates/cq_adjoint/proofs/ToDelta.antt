-- What leaves an instance that a mapping pushes forward arrives at the one that it pulls back.
use Rattle.std.proofs.Common.{ℕ, List, Some, ◌≡◌, sym, ap, subst, ◌∙◌}
use Rattle.std.specs.Prelude.{slice_get, slice_index_or}
use Rattle.cq_base.specs.declared.name.Name.{Name}
use Rattle.cq_theory.specs.declared.presentation.Presentation.{Presentation}
use Rattle.cq_theory.specs.declared.presentation.Sort.{Sort}
use Rattle.cq_theory.specs.SchemaData.{SchemaData as Schema}
use Rattle.cq_theory.specs.Schema.{IsSchema}
use Rattle.cq_theory.specs.Tables.{Tables, AtRow, IsWellFormed, Satisfies, Holds}
use Rattle.cq_theory.specs.Homomorphism.{IsHomomorphism}
use Rattle.cq_mapping.specs.MappingData.{MappingData as Mapping}
use Rattle.cq_mapping.specs.Mapping.{IsMapping}
use Rattle.cq_mapping.specs.Images.{sort_image, sigma}
use Rattle.cq_mapping.specs.Moved.{delta_tables}
use Rattle.cq_instance.specs.InstanceData.{InstanceData, IsInstance}
use Rattle.cq_instance.specs.declared.transform.Image.{Image}
use Rattle.cq_instance.specs.declared.transform.Transform.{Transform}
use Rattle.cq_instance.proofs.Lists.{get-map}
use Rattle.cq_transform.specs.Agreement.{meaning_image}
use Rattle.cq_transform.specs.Nulls.{IsInitial}
use Rattle.cq_transform.specs.Transforms.{GoesFrom}
use Rattle.cq_transform.specs.Transforming.{AreKept, AreSorted}
use Rattle.cq_adjoint.specs.Moved.{IsSigmaOf, IsDeltaOf}
use Rattle.cq_adjoint.specs.Moves.{spelled, each_generator, to_delta_images}
use Rattle.cq_adjoint.specs.Spellable.{AreSpellable, moved_spelling}
use Rattle.cq_adjoint.specs.Transposed.{Transposed, IsOnlyInto}
use Rattle.cq_adjoint.proofs.Grounds.{generator_ground, image_ground}
use Rattle.cq_adjoint.proofs.MovedImages.{same_image}
use Rattle.cq_adjoint.proofs.PulledImages as pulling

-- the spellings in an instance of tables, over the tables from which a mapping pulls these back
pub spellings_are : (F : Mapping) (h : Transform) (from d : InstanceData) (S : Schema) (L N : Tables) → d.tables.algebra.entries ≡ N.algebra.entries → (G : List (Name × Sort))
    → each_generator (moved_spelling F h from d) G
    ≡ each_generator (λ n sort. spelled d sort (meaning_image S L N h.rows h.nulls (sort_image F sort) (slice_index_or from.assignment n (AtRow 0)))) G
spellings_are F h from d S L N entries G =
    λ k. each_generator (λ n sort. spelled d sort (same_image d.schema S from.tables L d.tables N h.rows h.nulls entries (sort_image F sort) (slice_index_or from.assignment n (AtRow 0)) k)) G

module _ (F : Mapping) (is : IsMapping F) (i a j d : InstanceData) (first : IsInstance i) (middle : IsInstance a) (last : IsInstance j) (end : IsInstance d)
    (pushed : IsSigmaOf F i a) (pulled : IsDeltaOf F j d) (h : Transform) (from : GoesFrom h a j) where
  over : j.schema ≡ F.target
  over = pulled.over

  well : IsWellFormed F.target j.tables
  well = subst (λ (x : Schema). IsWellFormed x j.tables) over last.well_formed

  satisfies : Satisfies F.target j.tables
  satisfies = subst (λ (x : Schema). Satisfies x j.tables) over last.satisfies

  homomorphism : IsHomomorphism F.target a.tables j.tables h.rows h.nulls
  homomorphism = subst (λ (x : Schema). IsHomomorphism x a.tables j.tables h.rows h.nulls) pushed.schema from.homomorphism

  holds : Holds F.target (sigma F i.presentation) a.tables a.assignment
  holds = subst (λ (x : Schema × Presentation). Holds x.0 x.1 a.tables a.assignment) (λ k. (pushed.schema k, pushed.presentation k)) pushed.initial.0.holds

  formed : IsWellFormed F.source (delta_tables F j.tables)
  formed = subst (λ (x : InstanceData). IsWellFormed x.schema x.tables) pulled.instance end.well_formed

  satisfied : Satisfies F.source (delta_tables F j.tables)
  satisfied = subst (λ (x : InstanceData). Satisfies x.schema x.tables) pulled.instance end.satisfies

  entries : d.tables.algebra.entries ≡ j.tables.algebra.entries
  entries = ap (λ (x : InstanceData). x.tables.algebra.entries) pulled.instance

  abbrev target_images : List Image
  target_images = each_generator (λ n sort. spelled d sort (meaning_image F.target a.tables j.tables h.rows h.nulls (sort_image F sort) (slice_index_or a.assignment n (AtRow 0)))) i.presentation.generators

  over_target : target_images ≡ to_delta_images F h i a j d
  over_target = ap (λ (x : Schema). each_generator (λ n sort. spelled d sort (meaning_image x a.tables j.tables h.rows h.nulls (sort_image F sort) (slice_index_or a.assignment n (AtRow 0)))) i.presentation.generators)
      (sym pushed.schema)

  -- the images that the code makes
  pub images_are : each_generator (moved_spelling F h a d) i.presentation.generators ≡ to_delta_images F h i a j d
  images_are = spellings_are F h a d a.schema a.tables j.tables entries i.presentation.generators

  pub schema_is : d.schema ≡ i.schema
  schema_is = ap (λ (x : InstanceData). x.schema) pulled.instance ∙ sym pushed.over

  pub spellable : AreSpellable F h a d i.presentation.generators
  spellable n g at =
      let there : slice_get a.presentation.generators n ≡ Some (g.0, sort_image F g.1) =
      ap (λ (P : Presentation). slice_get P.generators n) pushed.presentation ∙ get-map (λ (x : Name × Sort). (x.0, sort_image F x.1)) i.presentation.generators n g at in
      record {
        ground = image_ground F a n g.1 (generator_ground a n g.0 (sort_image F g.1) there);
        sorted = pulling.moved_sorted F is i d pushed.over first.presented a.tables j.tables a.assignment h.rows h.nulls homomorphism holds well satisfies pulled.instance formed satisfied a.tables n g at;
      }

  pub sorted : AreSorted i d (to_delta_images F h i a j d)
  sorted = subst (AreSorted i d) over_target
      (pulling.sorted F is i d pushed.over first.presented a.tables j.tables a.assignment h.rows h.nulls homomorphism holds well satisfies pulled.instance formed satisfied)

  pub kept : AreKept i d (to_delta_images F h i a j d)
  kept = subst (AreKept i d) over_target
      (pulling.kept F is i d pushed.over first.presented a.tables j.tables a.assignment h.rows h.nulls homomorphism holds well satisfies pulled.instance formed satisfied)

  module _ (made : Transform) (images : made.images ≡ to_delta_images F h i a j d) (goes : GoesFrom made i d) where
    made_images : made.images ≡ target_images
    made_images = images ∙ sym over_target

    -- where h sends what generator n stands for, over the target of F
    target_sent : (n : ℕ) (sort : Sort) → meaning_image F.target a.tables j.tables h.rows h.nulls (sort_image F sort) (slice_index_or a.assignment n (AtRow 0))
        ≡ meaning_image a.schema a.tables j.tables h.rows h.nulls (sort_image F sort) (slice_index_or a.assignment n (AtRow 0))
    target_sent n sort = ap (λ (x : Schema). meaning_image x a.tables j.tables h.rows h.nulls (sort_image F sort) (slice_index_or a.assignment n (AtRow 0))) (sym pushed.schema)

    pub transposed : Transposed F i a j d h made
    transposed n g at =
        pulling.transposed F is i d pushed.over first.presented a.tables j.tables a.assignment h.rows h.nulls homomorphism holds well satisfies pulled.instance formed satisfied made made_images goes n g at
        ∙ target_sent n g.1

    pub only : IsSchema i.schema → IsInitial i → IsOnlyInto F i a j d h made
    only schema initial k other says =
        pulling.only_one F is i d pushed.over first.presented a.tables j.tables a.assignment h.rows h.nulls homomorphism holds well satisfies pulled.instance formed satisfied schema initial made made_images goes
        k.rows k.nulls other (λ n g at. says n g at ∙ sym (target_sent n g.1))
