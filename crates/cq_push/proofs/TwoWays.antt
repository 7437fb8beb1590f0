-- The two ways from the start of a pushout agree in each model of the gluing.
use Rattle.std.proofs.Common.{ℕ, suc, List, [], ◌∷◌, ◌++◌, Some, ◌≡◌, ◌<◌, map, length, refl, sym, ap, ◌∙◌, arith}
use Rattle.std.specs.Prelude.{slice_get}
use Rattle.cq_theory.specs.declared.presentation.Equation.{Equation}
use Rattle.cq_theory.specs.declared.presentation.Presentation.{Presentation}
use Rattle.cq_theory.specs.declared.presentation.Sort.TheVariants.{Plain, Entity}
use Rattle.cq_theory.specs.declared.term.Term.TheVariants.{Ent, Typ}
use Rattle.cq_theory.specs.SchemaData.{SchemaData as Schema}
use Rattle.cq_theory.specs.Derivation.{left_of, right_of}
use Rattle.cq_theory.specs.Sorts.{entity_of, type_of}
use Rattle.cq_theory.specs.Tables.{Tables, Assignment, meaning_of, Holds}
use Rattle.cq_theory.proofs.Every.{Every, Every-from, Every-parts}
use Rattle.cq_theory.proofs.ResolvedSorts.{map_some}
use Rattle.cq_instance.specs.InstanceData.{InstanceData}
use Rattle.cq_instance.specs.declared.transform.Image.{Image}
use Rattle.cq_instance.specs.declared.transform.Image.TheVariants.{Row, Value}
use Rattle.cq_instance.specs.declared.transform.Transform.{Transform}
use Rattle.cq_transform.specs.Transforms.{term_of, GoesFrom}
use Rattle.cq_transform.specs.Shifted.{shifted_term}
use Rattle.cq_transform.specs.Gluing.{equations_from, glued, glued_images, pushout_of}
use Rattle.cq_push.specs.Ways.{through_left, through_right}
use Rattle.cq_push.proofs.Presented.{AreImagesOf}
use Rattle.cq_push.proofs.Glued.{images_of}

module _ (S : Schema) (B C : Presentation) (M : Tables) (A : Assignment) where
  abbrev IsTrueThere : Equation → Type 0
  IsTrueThere e = meaning_of M A (left_of e) ≡ meaning_of M A (right_of e)

  abbrev first : ℕ
  first = length B.generators

  one_image : (left right : Image) → AreImagesOf S B C left right → IsTrueThere (glued first left right) → meaning_of M A (term_of left) ≡ meaning_of M A (shifted_term first (term_of right))
  one_image (Row t) (Row u) h is = is
  one_image (Value t) (Value u) h is = is
  one_image (Row t) (Value u) h is =
      let left = map_some Entity (entity_of S B.generators t) h.sort h.on_left in
      let right = map_some Plain (type_of S C.generators u) h.sort h.on_right in
      absurd (let clash : Entity left.0 ≡ Plain right.0 = left.2 ∙ sym right.2 in cc)
  one_image (Value t) (Row u) h is =
      let left = map_some Plain (type_of S B.generators t) h.sort h.on_left in
      let right = map_some Entity (entity_of S C.generators u) h.sort h.on_right in
      absurd (let clash : Plain left.0 ≡ Entity right.0 = left.2 ∙ sym right.2 in cc)

  all_images : (lefts rights : List Image) → length lefts ≡ length rights
      → ((n : ℕ) (left right : Image) → slice_get lefts n ≡ Some left → slice_get rights n ≡ Some right → AreImagesOf S B C left right)
      → Every IsTrueThere (glued_images first lefts rights) → through_left M A lefts ≡ through_right first M A rights
  all_images [] [] same h are = refl
  all_images [] (right ∷ rights) same h are = absurd (omega arith)
  all_images (left ∷ lefts) [] same h are = absurd (omega arith)
  all_images (left ∷ lefts) (right ∷ rights) same h are =
      let here : meaning_of M A (term_of left) ≡ meaning_of M A (shifted_term first (term_of right)) = one_image left right (h 0 left right refl refl) are.0 in
      let rest : through_left M A lefts ≡ through_right first M A rights = all_images lefts rights (omega arith) (λ n x y at there. h (suc n) x y at there) are.1 in
      λ i. here i ∷ rest i

pub one_way : (to_left to_right : Transform) (start left right : InstanceData) → GoesFrom to_left start left → GoesFrom to_right start right
    → (M : Tables) (A : Assignment) → Holds start.schema (pushout_of to_left to_right left.presentation right.presentation) M A
    → through_left M A to_left.images ≡ through_right (length left.presentation.generators) M A to_right.images
one_way to_left to_right start left right f g M A holds =
    let B : Presentation = left.presentation in
    let C : Presentation = right.presentation in
    let P : Presentation = pushout_of to_left to_right B C in
    let all = Every-from (λ e. meaning_of M A (left_of e) ≡ meaning_of M A (right_of e)) P.equations holds.equations in
    let parts = Every-parts (λ e. meaning_of M A (left_of e) ≡ meaning_of M A (right_of e)) (equations_from 0 (B ∷ C ∷ [])) (glued_images (length B.generators) to_left.images to_right.images) all in
    all_images start.schema B C M A to_left.images to_right.images (f.count ∙ sym g.count) (images_of to_left to_right start left right f g) parts.1
