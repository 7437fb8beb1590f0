-- The images of a transform's images along a mapping make a transform between the instances that the mapping pushes forward.
use Rattle.std.proofs.Common.{ℕ, List, Some, ◌≡◌, length, refl, sym, ap, subst, ◌∙◌}
use Rattle.std.specs.Prelude.{slice_get, slice_index_or}
use Rattle.std.proofs.lemmas.List.{length-map}
use Rattle.std.proofs.lemmas.Option.{get_or_from_slice_get}
use Rattle.cq_base.specs.declared.name.Name.{Name}
use Rattle.cq_theory.specs.declared.presentation.Presentation.{Presentation}
use Rattle.cq_theory.specs.declared.presentation.Sort.{Sort}
use Rattle.cq_theory.specs.declared.term.Term.{Term}
use Rattle.cq_theory.specs.declared.value.Value.{Value}
use Rattle.cq_theory.specs.SchemaData.{SchemaData as Schema}
use Rattle.cq_theory.specs.Presentation.{IsPresentation}
use Rattle.cq_theory.specs.Sorts.{sort_of}
use Rattle.cq_theory.specs.Tables.{Tables, AtRow, Assignment, meaning_of, IsWellFormed, Satisfies, Holds, Initial, HasSort}
use Rattle.cq_theory.specs.Homomorphism.{IsHomomorphism}
use Rattle.cq_mapping.specs.MappingData.{MappingData as Mapping}
use Rattle.cq_mapping.specs.Mapping.{IsMapping}
use Rattle.cq_mapping.specs.Duties.{Preserves}
use Rattle.cq_mapping.specs.Images.{sort_image, term_image, generator_images}
use Rattle.cq_mapping.specs.Moved.{delta_tables}
use Rattle.cq_mapping.proofs.Imaged.{sort_of-image}
use Rattle.cq_instance.specs.InstanceData.{InstanceData, IsInstance}
use Rattle.cq_instance.specs.declared.transform.Image.{Image}
use Rattle.cq_instance.specs.declared.transform.Image.TheVariants.{Row, Value as ValueImage}
use Rattle.cq_instance.specs.declared.transform.Transform.{Transform}
use Rattle.cq_instance.proofs.Lists.{get-map, get-map_from}
use Rattle.cq_move.proofs.Pulled as pulled
use Rattle.cq_transform.specs.Agreement.{meaning_image, Agrees}
use Rattle.cq_transform.specs.Transforms.{term_of, meanings_in, GoesFrom}
use Rattle.cq_transform.specs.Transforming.{AreKept, AreSorted}
use Rattle.cq_transform.proofs.Composites.{meaning_goes}
use Rattle.cq_transform.proofs.ExactlyOne.{some_homomorphism}
use Rattle.cq_adjoint.specs.Moved.{IsSigmaOf}
use Rattle.cq_adjoint.specs.Moves.{image_along, sigma_images}
use Rattle.cq_adjoint.proofs.RightImages as images_of
use Rattle.cq_adjoint.proofs.SameMeanings.{meaning_same, holds_pulled, holds_pushed}
use Rattle.cq_adjoint.proofs.SentModels.{are_sided, sent_on, sent_at, sent_holds}
use Rattle.cq_adjoint.proofs.SpelledImages.{IsImageOf}

pub term_along : (F : Mapping) (image : Image) → term_of (image_along F image) ≡ term_image F (term_of image)
term_along F (Row t) = refl
term_along F (ValueImage t) = refl

module _ (F : Mapping) (is : IsMapping F) (preserves : Preserves F) (i j a b : InstanceData) (here : IsSigmaOf F i a) (there : IsSigmaOf F j b)
    (first : IsInstance i) (second : IsInstance j) (pushed : IsInstance b) (initial : Initial j.schema j.presentation j.tables j.assignment) (h : Transform) (from : GoesFrom h i j) where
  abbrev S : Schema
  S = F.source

  abbrev T : Schema
  T = F.target

  abbrev N : Tables
  N = b.tables

  abbrev D : Tables
  D = delta_tables F N

  well : IsWellFormed T N
  well = subst (λ (x : Schema). IsWellFormed x N) there.schema pushed.well_formed

  satisfies : Satisfies T N
  satisfies = subst (λ (x : Schema). Satisfies x N) there.schema pushed.satisfies

  formed : IsWellFormed S D
  formed = pulled.well_formed F is N well satisfies

  satisfied : Satisfies S D
  satisfied = pulled.satisfied F is N well satisfies preserves

  presented : IsPresentation S i.presentation
  presented = subst (λ (x : Schema). IsPresentation x i.presentation) here.over first.presented

  presented' : IsPresentation S j.presentation
  presented' = subst (λ (x : Schema). IsPresentation x j.presentation) there.over second.presented

  initial_there : Initial S j.presentation j.tables j.assignment
  initial_there = subst (λ (x : Schema). Initial x j.presentation j.tables j.assignment) there.over initial

  -- the presentation of j holds in what F pulls back from b
  pub holds_there : Holds S j.presentation D b.assignment
  holds_there =
      holds_pulled F is N well j.presentation presented' b.assignment formed satisfied
      (subst (λ (x : Schema × Presentation). Holds x.0 x.1 N b.assignment) (λ k. (there.schema k, there.presentation k)) there.initial.0.holds)

  -- so a homomorphism goes there from j
  record IsArrow : Type 0 where
    rows : List (List ℕ)
    nulls : List Value
    homomorphism : IsHomomorphism S j.tables D rows nulls
    agrees : Agrees S j.presentation j.tables D j.assignment b.assignment rows nulls

  arrow : IsArrow
  arrow =
      let some = some_homomorphism S j.presentation j.tables D j.assignment b.assignment is.source initial_there holds_there in
      record { rows = some.0; nulls = some.1; homomorphism = some.2; agrees = some.3 }

  abbrev B : Assignment
  B = meanings_in j h.images

  holds_here : Holds S i.presentation j.tables B
  holds_here = subst (λ (x : Schema). Holds x i.presentation j.tables B) here.over from.holds

  abbrev C : Assignment
  C = sent_on S j.tables D arrow.rows arrow.nulls arrow.homomorphism formed holds_here.well_formed i.presentation (are_sided S i.presentation presented) B holds_here

  source_holds : Holds S i.presentation D C
  source_holds = sent_holds S j.tables D arrow.rows arrow.nulls arrow.homomorphism formed holds_here.well_formed i.presentation (are_sided S i.presentation presented) B holds_here satisfied

  target_holds : Holds a.schema a.presentation N C
  target_holds = subst (λ (x : Schema × Presentation). Holds x.0 x.1 N C) (λ k. (sym here.schema k, sym here.presentation k))
      (holds_pushed F is N well i.presentation presented C satisfies source_holds)

  abbrev images : List Image
  images = sigma_images F h

  generator_from : (n : ℕ) (g : Name × Sort) → slice_get a.presentation.generators n ≡ Some g → (x : Name × Sort) × (slice_get i.presentation.generators n ≡ Some x) × (sort_image F x.1 ≡ g.1)
  generator_from n g at =
      let before = get-map_from (λ (x : Name × Sort). (x.0, sort_image F x.1)) i.presentation.generators n g (ap (λ (P : Presentation). slice_get P.generators n) (sym here.presentation) ∙ at) in
      (before.0, before.1, ap (λ (x : Name × Sort). x.1) before.2)

  -- the image of an image means what the arrow makes of what the image means
  along : (n : ℕ) (x : Name × Sort) (image : Image) → slice_get i.presentation.generators n ≡ Some x → slice_get h.images n ≡ Some image
      → IsImageOf b (sort_image F x.1) (slice_index_or C n (AtRow 0)) (image_along F image)
  along n x image at stands =
      let t : Term = term_of image in
      let of_sort : sort_of S j.presentation.generators t ≡ Some x.1 =
      ap (λ (y : Schema). sort_of y j.presentation.generators t) (sym there.over) ∙ from.sorts n x image at stands in
      let generators : b.presentation.generators ≡ generator_images F j.presentation.generators = ap (λ (P : Presentation). P.generators) there.presentation in
      let sorted : sort_of b.schema b.presentation.generators (term_of (image_along F image)) ≡ Some (sort_image F x.1) =
      (λ k. sort_of (there.schema k) (generators k) (term_along F image k)) ∙ sort_of-image F is j.presentation.generators t x.1 of_sort in
      let before : slice_index_or B n (AtRow 0) ≡ meaning_of j.tables j.assignment t =
      get_or_from_slice_get B n (meaning_of j.tables j.assignment t) (AtRow 0)
      (get-map (λ (y : Image). meaning_of j.tables j.assignment (term_of y)) h.images n image stands) in
      let goes : slice_index_or C n (AtRow 0) ≡ meaning_image S j.tables D arrow.rows arrow.nulls x.1 (slice_index_or B n (AtRow 0)) =
      sent_at S j.tables D arrow.rows arrow.nulls arrow.homomorphism formed holds_here.well_formed i.presentation (are_sided S i.presentation presented) B holds_here n x at in
      record {
        of_sort = sorted;
        means =
            ap (meaning_of N b.assignment) (term_along F image)
            ∙ sym (meaning_same F is N well j.presentation.generators b.assignment holds_there.sorts t x.1 of_sort)
            ∙ sym (meaning_goes S j.presentation j.tables D j.assignment b.assignment arrow.rows arrow.nulls initial_there.holds arrow.homomorphism arrow.agrees t x.1 of_sort)
            ∙ ap (meaning_image S j.tables D arrow.rows arrow.nulls x.1) (sym before) ∙ sym goes;
      }

  right : (n : ℕ) (g : Name × Sort) (picture : Image) → slice_get a.presentation.generators n ≡ Some g → slice_get images n ≡ Some picture → IsImageOf b g.1 (slice_index_or C n (AtRow 0)) picture
  right n g picture at stands =
      let x = generator_from n g at in
      let image = get-map_from (image_along F) h.images n picture stands in
      let of = along n x.0 image.0 x.1 image.1 in
      subst (λ (y : Sort × Image). IsImageOf b y.0 (slice_index_or C n (AtRow 0)) y.1) (λ k. (x.2 k, image.2 k)) of

  count : length images ≡ length a.presentation.generators
  count =
      length-map h.images (image_along F) ∙ from.count ∙ sym (length-map i.presentation.generators (λ (x : Name × Sort). (x.0, sort_image F x.1)))
      ∙ ap (λ (P : Presentation). length P.generators) (sym here.presentation)

  pub sorted : AreSorted a b images
  sorted = images_of.are_sorted a b images C target_holds count right

  pub kept : AreKept a b images
  kept = images_of.are_kept a b images C target_holds count right

  -- what the images mean is of its sort in what F pulls back from b
  pub sorted_there : (n : ℕ) (g : Name × Sort) → slice_get i.presentation.generators n ≡ Some g → HasSort S D g.1 (slice_index_or (meanings_in b images) n (AtRow 0))
  sorted_there n g at =
      subst (λ (X : Assignment). HasSort S D g.1 (slice_index_or X n (AtRow 0))) (sym (images_of.meanings_are a b images C target_holds count right)) (source_holds.sorts n g at)
