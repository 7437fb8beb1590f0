-- Images that mean what makes the presentation hold are sorted and keep its equations.
use Rattle.std.proofs.Common.{ℕ, List, Some, ◌≡◌, ◌<◌, length, sym, subst, ◌∙◌, arith}
use Rattle.std.specs.Prelude.{slice_get, slice_index_or}
use Rattle.std.proofs.lemmas.List.{length-map}
use Rattle.std.proofs.lemmas.Option.{get_or_from_slice_get}
use Rattle.cq_base.specs.declared.name.Name.{Name}
use Rattle.cq_theory.specs.declared.presentation.Sort.{Sort}
use Rattle.cq_theory.specs.Tables.{Meaning, AtRow, Assignment, meaning_of, Holds}
use Rattle.cq_instance.specs.InstanceData.{InstanceData}
use Rattle.cq_instance.specs.declared.transform.Image.{Image}
use Rattle.cq_instance.proofs.Lists.{get-map}
use Rattle.cq_transform.specs.Refusals.{IsEqual}
use Rattle.cq_transform.specs.Transforms.{term_of, meanings_in}
use Rattle.cq_transform.specs.Transforming.{AreKept, AreSorted}
use Rattle.cq_transform.proofs.Itself.{same_members}
use Rattle.cq_transform.proofs.Loops.{member_at}
use Rattle.cq_adjoint.proofs.SpelledImages.{IsImageOf}

module _ (i d : InstanceData) (images : List Image) (C : Assignment) (holds : Holds i.schema i.presentation d.tables C)
    (count : length images ≡ length i.presentation.generators)
    (right : (n : ℕ) (g : Name × Sort) (image : Image) → slice_get i.presentation.generators n ≡ Some g → slice_get images n ≡ Some image
    → IsImageOf d g.1 (slice_index_or C n (AtRow 0)) image) where
  pub are_sorted : AreSorted i d images
  are_sorted = record { count = count; sorts = λ n g image at there. (right n g image at there).of_sort }

  abbrev means : Image → Meaning
  means image = meaning_of d.tables d.assignment (term_of image)

  meaning_at : (n : ℕ) → n < length (meanings_in d images) → slice_index_or (meanings_in d images) n (AtRow 0) ≡ slice_index_or C n (AtRow 0)
  meaning_at n within =
      let size : length (meanings_in d images) ≡ length images = length-map images means in
      let image = member_at images n (omega (arith, size, within)) in
      let g = member_at i.presentation.generators n (omega (arith, size, within, count)) in
      get_or_from_slice_get (meanings_in d images) n (means image.0) (AtRow 0) (get-map means images n image.0 image.1) ∙ (right n g.0 image.0 g.1 image.1).means

  -- what the images mean
  pub meanings_are : meanings_in d images ≡ C
  meanings_are = same_members (AtRow 0) (meanings_in d images) C (length-map images means ∙ count ∙ sym holds.count) meaning_at

  pub are_kept : AreKept i d images
  are_kept n e at = subst (λ (B : Assignment). IsEqual d.tables B e) (sym meanings_are) (holds.equations n e at)
