-- Images that are named in an instance make a transform into it, where a homomorphism goes into the tables that a mapping pulls back.
use Rattle.std.proofs.Common.{ℕ, List, Some, ◌≡◌, length, sym, ap, subst, ◌∙◌}
use Rattle.std.specs.Prelude.{slice_get, slice_index_or}
use Rattle.std.proofs.lemmas.List.{length-map}
use Rattle.cq_base.specs.declared.name.Name.{Name}
use Rattle.cq_theory.specs.declared.presentation.Presentation.{Presentation}
use Rattle.cq_theory.specs.declared.presentation.Sort.{Sort}
use Rattle.cq_theory.specs.declared.term.TypeTerm.{TypeTerm}
use Rattle.cq_theory.specs.declared.value.Value.{Value}
use Rattle.cq_theory.specs.SchemaData.{SchemaData as Schema}
use Rattle.cq_theory.specs.Presentation.{IsPresentation}
use Rattle.cq_theory.specs.Schema.{IsSchema}
use Rattle.cq_theory.specs.Tables.{Tables, Meaning, AtRow, Assignment, HasSort, IsWellFormed, Satisfies, Holds}
use Rattle.cq_theory.specs.Homomorphism.{IsHomomorphism}
use Rattle.cq_mapping.specs.MappingData.{MappingData as Mapping}
use Rattle.cq_mapping.specs.Mapping.{IsMapping}
use Rattle.cq_mapping.specs.Images.{sort_image, sigma}
use Rattle.cq_mapping.specs.Moved.{delta_tables}
use Rattle.cq_instance.specs.InstanceData.{InstanceData}
use Rattle.cq_instance.specs.Given.{HasLeastNames}
use Rattle.cq_instance.specs.declared.transform.Image.{Image}
use Rattle.cq_instance.specs.declared.transform.Transform.{Transform}
use Rattle.cq_instance.proofs.Lists.{get-map, get-map_from}
use Rattle.cq_transform.specs.Agreement.{meaning_image}
use Rattle.cq_transform.specs.Nulls.{IsInitial}
use Rattle.cq_transform.specs.Transforms.{meanings_in, GoesFrom}
use Rattle.cq_transform.specs.Transforming.{AreKept, AreSorted}
use Rattle.cq_transform.proofs.ExactlyOne.{one_homomorphism}
use Rattle.cq_adjoint.specs.Moves.{named, each_generator}
use Rattle.cq_instance.specs.Spelling.{AreNullsSpelled}
use Rattle.cq_adjoint.proofs.NamedImages.{named_image}
use Rattle.cq_adjoint.proofs.PulledImages.{image_at, image_count}
use Rattle.cq_adjoint.proofs.RightImages as images_of
use Rattle.cq_adjoint.proofs.SameMeanings.{holds_pushed}
use Rattle.cq_adjoint.proofs.SentModels.{are_sided, sent_on, sent_at, sent_holds}
use Rattle.cq_adjoint.proofs.SpelledImages.{IsImageOf}

-- i's presentation holds in i, a homomorphism goes from i to the tables that F pulls back from j, and a has the presentation along F
module _ (F : Mapping) (is : IsMapping F) (i a j : InstanceData) (presented : IsPresentation F.source i.presentation) (presentation_is : a.presentation ≡ sigma F i.presentation)
    (schema_is : a.schema ≡ F.target) (over : j.schema ≡ F.target) (rows : List (List ℕ)) (nulls : List Value)
    (homomorphism : IsHomomorphism F.source i.tables (delta_tables F j.tables) rows nulls) (holds : Holds F.source i.presentation i.tables i.assignment)
    (well : IsWellFormed F.target j.tables) (satisfies : Satisfies F.target j.tables) (formed : IsWellFormed F.source (delta_tables F j.tables)) (pulled : Satisfies F.source (delta_tables F j.tables))
    (null_term : ℕ → TypeTerm) (spell : AreNullsSpelled j null_term) (least : HasLeastNames j) where
  abbrev D : Tables
  D = delta_tables F j.tables

  -- what the homomorphism makes of what generator n stands for
  abbrev goes : ℕ → Sort → Meaning
  goes n sort = meaning_image F.source i.tables D rows nulls sort (slice_index_or i.assignment n (AtRow 0))

  abbrev image : ℕ → Sort → Image
  image n sort = named j null_term (sort_image F sort) (goes n sort)

  abbrev images : List Image
  images = each_generator image i.presentation.generators

  abbrev C : Assignment
  C = sent_on F.source i.tables D rows nulls homomorphism formed holds.well_formed i.presentation (are_sided F.source i.presentation presented) i.assignment holds

  source_holds : Holds F.source i.presentation D C
  source_holds = sent_holds F.source i.tables D rows nulls homomorphism formed holds.well_formed i.presentation (are_sided F.source i.presentation presented) i.assignment holds pulled

  target_holds : Holds F.target (sigma F i.presentation) j.tables C
  target_holds = holds_pushed F is j.tables well i.presentation presented C satisfies source_holds

  pushed_holds : Holds a.schema a.presentation j.tables C
  pushed_holds = subst (λ (x : Schema × Presentation). Holds x.0 x.1 j.tables C) (λ k. (sym schema_is k, sym presentation_is k)) target_holds

  goes_at : (n : ℕ) (g : Name × Sort) → slice_get i.presentation.generators n ≡ Some g → slice_index_or C n (AtRow 0) ≡ goes n g.1
  goes_at n g at = sent_at F.source i.tables D rows nulls homomorphism formed holds.well_formed i.presentation (are_sided F.source i.presentation presented) i.assignment holds n g at

  -- a generator of a is one of i at its image sort
  generator_from : (n : ℕ) (g : Name × Sort) → slice_get a.presentation.generators n ≡ Some g → (x : Name × Sort) × (slice_get i.presentation.generators n ≡ Some x) × (sort_image F x.1 ≡ g.1)
  generator_from n g at =
      let before = get-map_from (λ (x : Name × Sort). (x.0, sort_image F x.1)) i.presentation.generators n g (ap (λ (P : Presentation). slice_get P.generators n) (sym presentation_is) ∙ at) in
      (before.0, before.1, ap (λ (x : Name × Sort). x.1) before.2)

  -- what is named is of its sort in j
  pub moved_sorted : (n : ℕ) (x : Name × Sort) → slice_get i.presentation.generators n ≡ Some x → HasSort j.schema j.tables (sort_image F x.1) (goes n x.1)
  moved_sorted n x at =
      let in_target : HasSort F.target j.tables (sort_image F x.1) (slice_index_or C n (AtRow 0)) =
      target_holds.sorts n (x.0, sort_image F x.1) (get-map (λ (y : Name × Sort). (y.0, sort_image F y.1)) i.presentation.generators n x at) in
      subst (λ (y : Schema × Meaning). HasSort y.0 j.tables (sort_image F x.1) y.1) (λ l. (sym over l, goes_at n x at l)) in_target

  right : (n : ℕ) (g : Name × Sort) (picture : Image) → slice_get a.presentation.generators n ≡ Some g → slice_get images n ≡ Some picture → IsImageOf j g.1 (slice_index_or C n (AtRow 0)) picture
  right n g picture at there =
      let x = generator_from n g at in
      let m : Meaning = goes n x.0.1 in
      let of : IsImageOf j (sort_image F x.0.1) m (image n x.0.1) = named_image j null_term spell least (sort_image F x.0.1) m (moved_sorted n x.0 x.1) in
      subst (λ (y : Sort × (Meaning × Image)). IsImageOf j y.0 y.1.0 y.1.1)
      (λ k. (x.2 k, (sym (goes_at n x.0 x.1) k, image_at image i.presentation.generators n x.0 picture x.1 there k))) of

  count : length images ≡ length a.presentation.generators
  count =
      image_count image i.presentation.generators ∙ sym (length-map i.presentation.generators (λ (x : Name × Sort). (x.0, sort_image F x.1)))
      ∙ ap (λ (P : Presentation). length P.generators) (sym presentation_is)

  pub sorted : AreSorted a j images
  sorted = images_of.are_sorted a j images C pushed_holds count right

  pub kept : AreKept a j images
  kept = images_of.are_kept a j images C pushed_holds count right

  -- a transform by these images sends what a generator stands for where the homomorphism sends it
  at_generator : (n : ℕ) (g : Name × Sort) → slice_get i.presentation.generators n ≡ Some g → slice_get a.presentation.generators n ≡ Some (g.0, sort_image F g.1)
  at_generator n g at =
      ap (λ (P : Presentation). slice_get P.generators n) presentation_is ∙ get-map (λ (x : Name × Sort). (x.0, sort_image F x.1)) i.presentation.generators n g at

  pub transposed : (made : Transform) → made.images ≡ images → GoesFrom made a j → (n : ℕ) (g : Name × Sort) → slice_get i.presentation.generators n ≡ Some g
      → goes n g.1 ≡ meaning_image a.schema a.tables j.tables made.rows made.nulls (sort_image F g.1) (slice_index_or a.assignment n (AtRow 0))
  transposed made same from n g at =
      sym (from.agrees n (g.0, sort_image F g.1) (at_generator n g at)
      ∙ ap (λ (B : Assignment). slice_index_or B n (AtRow 0)) (ap (meanings_in j) same ∙ images_of.meanings_are a j images C pushed_holds count right)
      ∙ goes_at n g at)

  -- and no other homomorphism does
  pub only_one : IsSchema a.schema → IsInitial a → (made : Transform) → made.images ≡ images → GoesFrom made a j → (rows' : List (List ℕ)) (nulls' : List Value)
      → IsHomomorphism a.schema a.tables j.tables rows' nulls'
      → ((n : ℕ) (g : Name × Sort) → slice_get i.presentation.generators n ≡ Some g
      → goes n g.1 ≡ meaning_image a.schema a.tables j.tables rows' nulls' (sort_image F g.1) (slice_index_or a.assignment n (AtRow 0)))
      → (rows' ≡ made.rows) × (nulls' ≡ made.nulls)
  only_one schema initial made same from rows' nulls' other says =
      one_homomorphism a.schema a.presentation a.tables j.tables a.assignment C schema initial.0 pushed_holds rows' made.rows nulls' made.nulls
      other (λ n g at. says_at n g at)
      from.homomorphism
      (λ n g at. from.agrees n g at ∙ ap (λ (B : Assignment). slice_index_or B n (AtRow 0)) (ap (meanings_in j) same ∙ images_of.meanings_are a j images C pushed_holds count right))
    where
      says_at : (n : ℕ) (g : Name × Sort) → slice_get a.presentation.generators n ≡ Some g
          → meaning_image a.schema a.tables j.tables rows' nulls' g.1 (slice_index_or a.assignment n (AtRow 0)) ≡ slice_index_or C n (AtRow 0)
      says_at n g at =
          let x = generator_from n g at in
          ap (λ (sort : Sort). meaning_image a.schema a.tables j.tables rows' nulls' sort (slice_index_or a.assignment n (AtRow 0))) (sym x.2)
          ∙ sym (says n x.0 x.1) ∙ sym (goes_at n x.0 x.1)
