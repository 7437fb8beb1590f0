-- A transform goes along to what a mapping pulls back.
use Rattle.std.proofs.Common.{ℕ, List, Some, ◌≡◌, sym, ap, subst, ◌∙◌}
use Rattle.std.specs.Prelude.{slice_get, slice_index_or}
use Rattle.cq_base.specs.declared.name.Name.{Name}
use Rattle.cq_theory.specs.declared.presentation.Sort.{Sort}
use Rattle.cq_theory.specs.SchemaData.{SchemaData as Schema}
use Rattle.cq_theory.specs.Presentation.{IsPresentation}
use Rattle.cq_theory.specs.Tables.{Tables, AtRow, IsWellFormed, Satisfies, Holds}
use Rattle.cq_theory.specs.Homomorphism.{IsHomomorphism}
use Rattle.cq_mapping.specs.MappingData.{MappingData as Mapping}
use Rattle.cq_mapping.specs.Mapping.{IsMapping}
use Rattle.cq_mapping.specs.Images.{sort_image, sigma}
use Rattle.cq_mapping.specs.Moved.{delta_tables}
use Rattle.cq_instance.specs.InstanceData.{InstanceData, IsInstance}
use Rattle.cq_instance.specs.declared.transform.Image.{Image}
use Rattle.cq_instance.specs.declared.transform.Transform.{Transform}
use Rattle.cq_transform.specs.Agreement.{meaning_image}
use Rattle.cq_transform.specs.Nulls.{IsInitial}
use Rattle.cq_transform.specs.Transforms.{GoesFrom}
use Rattle.cq_transform.specs.Transforming.{AreKept, AreSorted}
use Rattle.cq_adjoint.specs.Moved.{IsDeltaOf}
use Rattle.cq_adjoint.specs.Moves.{spelled, each_generator, delta_images}
use Rattle.cq_adjoint.specs.Spellable.{AreSpellable, moved_spelling}
use Rattle.cq_adjoint.proofs.GivenModels.{given_initial}
use Rattle.cq_adjoint.proofs.Grounds.{generator_ground}
use Rattle.cq_adjoint.proofs.PulledImages as pulling
use Rattle.cq_adjoint.proofs.SameMeanings.{holds_pushed}
use Rattle.cq_adjoint.proofs.ToDelta.{spellings_are}

module _ (F : Mapping) (is : IsMapping F) (i j a b : InstanceData) (first : IsInstance i) (last : IsInstance j) (start : IsInstance a) (end : IsInstance b)
    (from_pulled : IsDeltaOf F i a) (pulled : IsDeltaOf F j b) (h : Transform) (from : GoesFrom h i j) where
  first_formed : IsWellFormed F.target i.tables
  first_formed = subst (λ (x : Schema). IsWellFormed x i.tables) from_pulled.over first.well_formed

  first_satisfies : Satisfies F.target i.tables
  first_satisfies = subst (λ (x : Schema). Satisfies x i.tables) from_pulled.over first.satisfies

  well : IsWellFormed F.target j.tables
  well = subst (λ (x : Schema). IsWellFormed x j.tables) pulled.over last.well_formed

  satisfies : Satisfies F.target j.tables
  satisfies = subst (λ (x : Schema). Satisfies x j.tables) pulled.over last.satisfies

  homomorphism : IsHomomorphism F.target i.tables j.tables h.rows h.nulls
  homomorphism = subst (λ (x : Schema). IsHomomorphism x i.tables j.tables h.rows h.nulls) from_pulled.over from.homomorphism

  start_formed : IsWellFormed F.source (delta_tables F i.tables)
  start_formed = subst (λ (x : InstanceData). IsWellFormed x.schema x.tables) from_pulled.instance start.well_formed

  start_satisfies : Satisfies F.source (delta_tables F i.tables)
  start_satisfies = subst (λ (x : InstanceData). Satisfies x.schema x.tables) from_pulled.instance start.satisfies

  formed : IsWellFormed F.source (delta_tables F j.tables)
  formed = subst (λ (x : InstanceData). IsWellFormed x.schema x.tables) pulled.instance end.well_formed

  satisfied : Satisfies F.source (delta_tables F j.tables)
  satisfied = subst (λ (x : InstanceData). Satisfies x.schema x.tables) pulled.instance end.satisfies

  pub start_initial : IsInitial a
  start_initial = given_initial F.source (delta_tables F i.tables) is.source start_formed start_satisfies a from_pulled.instance

  over : a.schema ≡ F.source
  over = ap (λ (x : InstanceData). x.schema) from_pulled.instance

  presented : IsPresentation F.source a.presentation
  presented = subst (λ (x : Schema). IsPresentation x a.presentation) over start.presented

  -- the presentation of a, along F, holds in i
  pub holds : Holds F.target (sigma F a.presentation) i.tables a.assignment
  holds = holds_pushed F is i.tables first_formed a.presentation presented a.assignment first_satisfies
      (subst (λ (x : Schema × Tables). Holds x.0 a.presentation x.1 a.assignment)
      (λ k. (over k, ap (λ (x : InstanceData). x.tables) from_pulled.instance k)) start_initial.0.holds)

  abbrev target_images : List Image
  target_images = each_generator (λ n sort. spelled b sort (meaning_image F.target i.tables j.tables h.rows h.nulls (sort_image F sort) (slice_index_or a.assignment n (AtRow 0)))) a.presentation.generators

  over_target : target_images ≡ delta_images F h i j a b
  over_target = ap (λ (x : Schema). each_generator (λ n sort. spelled b sort (meaning_image x i.tables j.tables h.rows h.nulls (sort_image F sort) (slice_index_or a.assignment n (AtRow 0)))) a.presentation.generators)
      (sym from_pulled.over)

  -- the images that the code makes
  pub images_are : each_generator (moved_spelling F h a b) a.presentation.generators ≡ delta_images F h i j a b
  images_are = spellings_are F h a b i.schema i.tables j.tables (ap (λ (x : InstanceData). x.tables.algebra.entries) pulled.instance) a.presentation.generators

  pub schema_is : b.schema ≡ a.schema
  schema_is = ap (λ (x : InstanceData). x.schema) pulled.instance ∙ sym over

  pub spellable : AreSpellable F h a b a.presentation.generators
  spellable n g at = record {
    ground = generator_ground a n g.0 g.1 at;
    sorted = pulling.moved_sorted F is a b over start.presented i.tables j.tables a.assignment h.rows h.nulls homomorphism holds well satisfies pulled.instance formed satisfied a.tables n g at;
  }

  pub sorted : AreSorted a b (delta_images F h i j a b)
  sorted = subst (AreSorted a b) over_target
      (pulling.sorted F is a b over start.presented i.tables j.tables a.assignment h.rows h.nulls homomorphism holds well satisfies pulled.instance formed satisfied)

  pub kept : AreKept a b (delta_images F h i j a b)
  kept = subst (AreKept a b) over_target
      (pulling.kept F is a b over start.presented i.tables j.tables a.assignment h.rows h.nulls homomorphism holds well satisfies pulled.instance formed satisfied)

  -- what is made of the images sends what a generator stands for where h sends it, at the image of its sort
  pub sends : (made : Transform) → made.images ≡ delta_images F h i j a b → GoesFrom made a b → (n : ℕ) (g : Name × Sort) → slice_get a.presentation.generators n ≡ Some g
      → meaning_image a.schema a.tables b.tables made.rows made.nulls g.1 (slice_index_or a.assignment n (AtRow 0))
      ≡ meaning_image F.target i.tables j.tables h.rows h.nulls (sort_image F g.1) (slice_index_or a.assignment n (AtRow 0))
  sends made same goes =
      pulling.transposed F is a b over start.presented i.tables j.tables a.assignment h.rows h.nulls homomorphism holds well satisfies pulled.instance formed satisfied made (same ∙ sym over_target) goes
