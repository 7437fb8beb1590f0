-- Images that are spelled in tables that a mapping pulls back make a transform into them.
use Rattle.std.proofs.Common.{ℕ, List, Some, ◌≡◌, length, sym, ap, subst, ◌∙◌}
use Rattle.std.specs.Prelude.{slice_get, slice_index_or}
use Rattle.std.specs.List.{enumerate_from}
use Rattle.std.proofs.lemmas.List.{length-map}
use Rattle.std.proofs.lemmas.List.FromFn.{length-enumerate_from}
use Rattle.cq_base.specs.declared.name.Name.{Name}
use Rattle.cq_theory.specs.declared.presentation.Sort.{Sort}
use Rattle.cq_theory.specs.declared.value.Value.{Value}
use Rattle.cq_theory.specs.SchemaData.{SchemaData as Schema}
use Rattle.cq_theory.specs.Presentation.{IsPresentation}
use Rattle.cq_theory.specs.Schema.{IsSchema}
use Rattle.cq_theory.specs.Tables.{Tables, Meaning, AtRow, Assignment, HasSort, IsWellFormed, Satisfies, Holds}
use Rattle.cq_theory.specs.Homomorphism.{IsHomomorphism}
use Rattle.cq_mapping.specs.MappingData.{MappingData as Mapping}
use Rattle.cq_mapping.specs.Mapping.{IsMapping}
use Rattle.cq_mapping.specs.Images.{sort_image, sigma}
use Rattle.cq_mapping.specs.Moved.{delta_tables}
use Rattle.cq_instance.specs.InstanceData.{InstanceData}
use Rattle.cq_instance.specs.Given.{given}
use Rattle.cq_instance.specs.declared.transform.Image.{Image}
use Rattle.cq_instance.specs.declared.transform.Transform.{Transform}
use Rattle.cq_instance.proofs.Enumerated.{get-enumerate}
use Rattle.cq_instance.proofs.Lists.{get-map}
use Rattle.cq_transform.specs.Agreement.{meaning_image}
use Rattle.cq_transform.specs.Nulls.{IsInitial}
use Rattle.cq_transform.specs.Transforms.{meanings_in, GoesFrom}
use Rattle.cq_transform.specs.Transforming.{AreKept, AreSorted}
use Rattle.cq_transform.proofs.ExactlyOne.{one_homomorphism}
use Rattle.cq_adjoint.specs.Moves.{spelled, each_generator}
use Rattle.cq_adjoint.proofs.MovedImages.{same_image}
use Rattle.cq_adjoint.proofs.RightImages as images_of
use Rattle.cq_adjoint.proofs.SameMeanings.{image_sided, holds_pulled}
use Rattle.cq_adjoint.proofs.SentModels.{sent_on, sent_at, sent_holds}
use Rattle.cq_adjoint.proofs.SpelledImages.{IsImageOf, spelled_image}

-- the images of generators by their numbers
pub image_at : (f : ℕ → Sort → Image) (G : List (Name × Sort)) (n : ℕ) (g : Name × Sort) (image : Image) → slice_get G n ≡ Some g → slice_get (each_generator f G) n ≡ Some image → f n g.1 ≡ image
image_at f G n g image at there =
    let is : Some (f n g.1) ≡ Some image = sym (get-map (λ (x : ℕ × (Name × Sort)). f x.0 x.1.1) (enumerate_from 0 G) n (n, g) (get-enumerate G n g at)) ∙ there in
    cc

pub image_count : (f : ℕ → Sort → Image) (G : List (Name × Sort)) → length (each_generator f G) ≡ length G
image_count f G = length-map (enumerate_from 0 G) (λ (x : ℕ × (Name × Sort)). f x.0 x.1.1) ∙ length-enumerate_from 0 G

-- i's presentation, along F, holds in M by A; a homomorphism goes from M to N, from which F pulls back the tables of d
module _ (F : Mapping) (is : IsMapping F) (i d : InstanceData) (over : i.schema ≡ F.source) (presented : IsPresentation i.schema i.presentation)
    (M N : Tables) (A : Assignment) (rows : List (List ℕ)) (nulls : List Value) (homomorphism : IsHomomorphism F.target M N rows nulls)
    (holds : Holds F.target (sigma F i.presentation) M A) (well : IsWellFormed F.target N) (satisfies : Satisfies F.target N)
    (d_is : d ≡ given F.source (delta_tables F N)) (formed : IsWellFormed F.source (delta_tables F N)) (pulled : Satisfies F.source (delta_tables F N)) where
  abbrev D : Tables
  D = delta_tables F N

  -- what the homomorphism makes of what generator n stands for
  abbrev goes : ℕ → Sort → Meaning
  goes n sort = meaning_image F.target M N rows nulls (sort_image F sort) (slice_index_or A n (AtRow 0))

  abbrev images : List Image
  images = each_generator (λ n sort. spelled d sort (goes n sort)) i.presentation.generators

  source_presented : IsPresentation F.source i.presentation
  source_presented = subst (λ (T : Schema). IsPresentation T i.presentation) over presented

  abbrev C : Assignment
  C = sent_on F.target M N rows nulls homomorphism well holds.well_formed (sigma F i.presentation) (image_sided F is N well i.presentation source_presented A) A holds

  target_holds : Holds F.target (sigma F i.presentation) N C
  target_holds = sent_holds F.target M N rows nulls homomorphism well holds.well_formed (sigma F i.presentation) (image_sided F is N well i.presentation source_presented A) A holds satisfies

  source_holds : Holds F.source i.presentation D C
  source_holds = holds_pulled F is N well i.presentation source_presented C formed pulled target_holds

  tables_are : d.tables ≡ D
  tables_are = ap (λ (x : InstanceData). x.tables) d_is

  pulled_holds : Holds i.schema i.presentation d.tables C
  pulled_holds = subst (λ (x : Schema × Tables). Holds x.0 i.presentation x.1 C) (λ k. (sym over k, sym tables_are k)) source_holds

  goes_at : (n : ℕ) (g : Name × Sort) → slice_get i.presentation.generators n ≡ Some g → slice_index_or C n (AtRow 0) ≡ goes n g.1
  goes_at n g at =
      sent_at F.target M N rows nulls homomorphism well holds.well_formed (sigma F i.presentation) (image_sided F is N well i.presentation source_presented A) A holds n (g.0, sort_image F g.1)
      (get-map (λ (x : Name × Sort). (x.0, sort_image F x.1)) i.presentation.generators n g at)

  right : (n : ℕ) (g : Name × Sort) (image : Image) → slice_get i.presentation.generators n ≡ Some g → slice_get images n ≡ Some image → IsImageOf d g.1 (slice_index_or C n (AtRow 0)) image
  right n g image at there =
      let m : Meaning = goes n g.1 in
      let sorted : HasSort F.source D g.1 m = subst (HasSort F.source D g.1) (goes_at n g at) (source_holds.sorts n g at) in
      let of : IsImageOf d g.1 m (spelled d g.1 m) = spelled_image F.source D formed d d_is g.1 m sorted in
      subst (λ (x : Meaning × Image). IsImageOf d g.1 x.0 x.1) (λ k. (sym (goes_at n g at) k, image_at (λ l sort. spelled d sort (goes l sort)) i.presentation.generators n g image at there k)) of

  count : length images ≡ length i.presentation.generators
  count = image_count (λ n sort. spelled d sort (goes n sort)) i.presentation.generators

  pub sorted : AreSorted i d images
  sorted = images_of.are_sorted i d images C pulled_holds count right

  pub kept : AreKept i d images
  kept = images_of.are_kept i d images C pulled_holds count right

  -- what is spelled is of its sort in d
  pub moved_sorted : (L : Tables) (n : ℕ) (g : Name × Sort) → slice_get i.presentation.generators n ≡ Some g
      → HasSort d.schema d.tables g.1 (meaning_image d.schema L d.tables rows nulls (sort_image F g.1) (slice_index_or A n (AtRow 0)))
  moved_sorted L n g at =
      let one : HasSort F.source D g.1 (goes n g.1) = subst (HasSort F.source D g.1) (goes_at n g at) (source_holds.sorts n g at) in
      let entries : D.algebra.entries ≡ d.tables.algebra.entries = ap (λ (x : Tables). x.algebra.entries) (sym tables_are) in
      let schema_is : d.schema ≡ F.source = ap (λ (x : InstanceData). x.schema) d_is in
      let same : goes n g.1 ≡ meaning_image d.schema L d.tables rows nulls (sort_image F g.1) (slice_index_or A n (AtRow 0)) =
      same_image F.target d.schema M L N d.tables rows nulls entries (sort_image F g.1) (slice_index_or A n (AtRow 0)) in
      subst (λ (x : Schema × (Tables × Meaning)). HasSort x.0 x.1.0 g.1 x.1.1) (λ k. (sym schema_is k, (sym tables_are k, same k))) one

  -- a transform by these images sends what a generator stands for where the homomorphism sends it
  pub transposed : (made : Transform) → made.images ≡ images → GoesFrom made i d → (n : ℕ) (g : Name × Sort) → slice_get i.presentation.generators n ≡ Some g
      → meaning_image i.schema i.tables d.tables made.rows made.nulls g.1 (slice_index_or i.assignment n (AtRow 0)) ≡ goes n g.1
  transposed made same from n g at =
      from.agrees n g at
      ∙ ap (λ (B : Assignment). slice_index_or B n (AtRow 0)) (ap (meanings_in d) same ∙ images_of.meanings_are i d images C pulled_holds count right)
      ∙ goes_at n g at

  -- and no other homomorphism does
  pub only_one : IsSchema i.schema → IsInitial i → (made : Transform) → made.images ≡ images → GoesFrom made i d → (rows' : List (List ℕ)) (nulls' : List Value)
      → IsHomomorphism i.schema i.tables d.tables rows' nulls'
      → ((n : ℕ) (g : Name × Sort) → slice_get i.presentation.generators n ≡ Some g → meaning_image i.schema i.tables d.tables rows' nulls' g.1 (slice_index_or i.assignment n (AtRow 0)) ≡ goes n g.1)
      → (rows' ≡ made.rows) × (nulls' ≡ made.nulls)
  only_one schema initial made same from rows' nulls' other says =
      one_homomorphism i.schema i.presentation i.tables d.tables i.assignment C schema initial.0 pulled_holds rows' made.rows nulls' made.nulls
      other (λ n g at. says n g at ∙ sym (goes_at n g at))
      from.homomorphism (λ n g at. transposed made same from n g at ∙ sym (goes_at n g at))
