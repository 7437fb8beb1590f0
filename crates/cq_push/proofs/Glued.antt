-- Images that are glued one after another.
use Rattle.std.proofs.Common.{ℕ, zero, suc, List, [], ◌∷◌, ◌++◌, Some, ◌≡◌, ◌<◌, ◌≤◌, ◌+◌, take, length, get_or, refl, sym, ap, ◌∙◌, append_assoc, arith}
use Rattle.std.specs.Prelude.{slice_get}
use Rattle.std.proofs.lemmas.List.{take_all}
use Rattle.std.proofs.lemmas.Option.{slice_get_within, slice_get-get_or}
use Rattle.cq_base.specs.declared.name.Name.{Name}
use Rattle.cq_theory.specs.declared.presentation.Sort.{Sort}
use Rattle.cq_theory.specs.declared.presentation.Equation.{Equation}
use Rattle.cq_theory.specs.SchemaData.{SchemaData as Schema}
use Rattle.cq_theory.specs.Sorts.{sort_of}
use Rattle.cq_instance.specs.InstanceData.{InstanceData}
use Rattle.cq_instance.specs.declared.transform.Image.{Image}
use Rattle.cq_instance.specs.declared.transform.Transform.{Transform}
use Rattle.cq_transform.specs.Transforms.{term_of, GoesFrom}
use Rattle.cq_transform.specs.Gluing.{glued, glued_images}
use Rattle.cq_push.proofs.Presented.{AreImagesOf}

glued_next : (first : ℕ) (lefts rights : List Image) (i : ℕ) (dl dr : Image) → i < length lefts → length lefts ≡ length rights
    → glued_images first (take (i + 1) lefts) (take (i + 1) rights) ≡ glued_images first (take i lefts) (take i rights) ++ glued first (get_or lefts i dl) (get_or rights i dr) ∷ []
glued_next first [] rights i dl dr within same = absurd (omega arith)
glued_next first (l ∷ lefts) [] i dl dr within same = absurd (omega arith)
glued_next first (l ∷ lefts) (r ∷ rights) zero dl dr within same = refl
glued_next first (l ∷ lefts) (r ∷ rights) (suc i) dl dr within same =
    let one : suc i + 1 ≡ suc (i + 1) = omega arith in
    ap (λ (n : ℕ). glued_images first (take n (l ∷ lefts)) (take n (r ∷ rights))) one
    ∙ ap (λ (es : List Equation). glued first l r ∷ es) (glued_next first lefts rights i dl dr (omega arith) (omega arith))

-- one more
pub glued_more : (first : ℕ) (lefts rights : List Image) (i : ℕ) (dl dr : Image) (before old new : List Equation) → i < length lefts → length lefts ≡ length rights
    → old ≡ before ++ glued_images first (take i lefts) (take i rights) → new ≡ old ++ glued first (get_or lefts i dl) (get_or rights i dr) ∷ []
    → new ≡ before ++ glued_images first (take (i + 1) lefts) (take (i + 1) rights)
glued_more first lefts rights i dl dr before old new within same are is =
    is ∙ ap (λ (es : List Equation). es ++ glued first (get_or lefts i dl) (get_or rights i dr) ∷ []) are
    ∙ append_assoc before (glued_images first (take i lefts) (take i rights)) (glued first (get_or lefts i dl) (get_or rights i dr) ∷ [])
    ∙ ap (λ (es : List Equation). before ++ es) (sym (glued_next first lefts rights i dl dr within same))

-- all of them
pub glued_all : (first : ℕ) (lefts rights : List Image) (i : ℕ) (before made : List Equation) → length lefts ≤ i → length lefts ≡ length rights
    → made ≡ before ++ glued_images first (take i lefts) (take i rights) → made ≡ before ++ glued_images first lefts rights
glued_all first lefts rights i before made past same are =
    let other : length rights ≤ i = omega arith in
    are ∙ (λ j. before ++ glued_images first (take_all i lefts past j) (take_all i rights other j))

-- the images of a generator by two transforms from one instance have its sort
pub images_of : (to_left to_right : Transform) (start left right : InstanceData) → GoesFrom to_left start left → GoesFrom to_right start right
    → (n : ℕ) (l r : Image) → slice_get to_left.images n ≡ Some l → slice_get to_right.images n ≡ Some r → AreImagesOf start.schema left.presentation right.presentation l r
images_of to_left to_right start left right f g n l r at_left at_right =
    let inside : n < length to_left.images = slice_get_within to_left.images n l at_left in
    let known : n < length start.presentation.generators = omega (arith, inside, f.count) in
    here known
  where
    here : n < length start.presentation.generators → AreImagesOf start.schema left.presentation right.presentation l r
    here known = at start.presentation.generators refl known
      where
        at : (gs : List (Name × Sort)) → start.presentation.generators ≡ gs → n < length start.presentation.generators → AreImagesOf start.schema left.presentation right.presentation l r
        at [] is inside = absurd (omega (arith, ap length is))
        at (x ∷ xs) is inside =
            let there : slice_get start.presentation.generators n ≡ Some (get_or start.presentation.generators n x) = slice_get-get_or start.presentation.generators n x inside in
            let sort : Sort = (get_or start.presentation.generators n x).1 in
            record {
              sort = sort;
              on_left = ap (λ (S : Schema). sort_of S left.presentation.generators (term_of l)) (sym f.schema) ∙ f.sorts n (get_or start.presentation.generators n x) l there at_left;
              on_right = ap (λ (S : Schema). sort_of S right.presentation.generators (term_of r)) (sym g.schema) ∙ g.sorts n (get_or start.presentation.generators n x) r there at_right;
            }
