-- What identities are sent to along mappings, and units and counits.
use Rattle.std.proofs.Common.{ℕ, suc, [], ◌∷◌, Some, ◌≡◌, ◌+◌, map, refl, ap, subst, ◌∙◌, arith}
use Rattle.std.specs.Prelude.{slice_get, slice_index_or}
use Rattle.std.specs.List.{enumerate_from}
use Rattle.std.proofs.lemmas.Option.{get_or_from_slice_get}
use Rattle.cq_base.specs.declared.name.Name.{Name}
use Rattle.cq_theory.specs.declared.presentation.Sort.{Sort}
use Rattle.cq_theory.specs.declared.presentation.Sort.TheVariants.{Plain, Entity}
use Rattle.cq_theory.specs.declared.presentation.Presentation.{Presentation}
use Rattle.cq_theory.specs.declared.term.TypeTerm.{TypeTerm}
use Rattle.cq_theory.specs.declared.value.Value.{Value}
use Rattle.cq_theory.specs.Sorts.{Generators}
use Rattle.cq_theory.specs.Tables.{Meaning, AtRow, AtValue, row_in, value_in, value_step, meaning_of, HasSort, Holds}
use Rattle.cq_theory.proofs.TypeTerms.{fold-Gen}
use Rattle.cq_mapping.specs.MappingData.{MappingData as Mapping}
use Rattle.cq_mapping.specs.Images.{sort_image, generator_images, type_image_step}
use Rattle.cq_instance.specs.InstanceData.{InstanceData}
use Rattle.cq_instance.specs.declared.transform.Image.{Image}
use Rattle.cq_instance.specs.declared.transform.Image.TheVariants.{Value as ValueImage}
use Rattle.cq_instance.proofs.Enumerated.{get-enumerate}
use Rattle.cq_instance.proofs.Lists.{get-map}
use Rattle.cq_transform.specs.Identities.{itself, identity_images}
use Rattle.cq_transform.specs.Transforms.{term_of, meanings_in, GoesFrom}
use Rattle.cq_transform.proofs.Itself.{identity_goes}
use Rattle.cq_adjoint.specs.Moved.{IsSigmaOf}
use Rattle.cq_adjoint.specs.Moves.{sent, spelled, named, each_generator, image_along, to_delta_images, from_delta_images}
use Rattle.cq_adjoint.specs.Units.{identity_of, unit_images, counit_images}

-- images that are the same at each generator
same_from : (f f' : ℕ → Sort → Image) (s : ℕ) (G : Generators) → ((n : ℕ) (g : Name × Sort) → slice_get G n ≡ Some g → f (s + n) g.1 ≡ f' (s + n) g.1)
    → map (λ (g : ℕ × (Name × Sort)). f g.0 g.1.1) (enumerate_from s G) ≡ map (λ (g : ℕ × (Name × Sort)). f' g.0 g.1.1) (enumerate_from s G)
same_from f f' s [] h = refl
same_from f f' s (x ∷ xs) h =
    let here : s + 0 ≡ s = omega arith in
    let first : f s x.1 ≡ f' s x.1 = subst (λ (m : ℕ). f m x.1 ≡ f' m x.1) here (h 0 x refl) in
    let rest : map (λ (g : ℕ × (Name × Sort)). f g.0 g.1.1) (enumerate_from (s + 1) xs) ≡ map (λ (g : ℕ × (Name × Sort)). f' g.0 g.1.1) (enumerate_from (s + 1) xs) =
    same_from f f' (s + 1) xs (λ n g at.
    let there : s + suc n ≡ s + 1 + n = omega arith in
    subst (λ (m : ℕ). f m g.1 ≡ f' m g.1) there (h (suc n) g at)) in
    λ i. first i ∷ rest i

same_each : (f f' : ℕ → Sort → Image) (G : Generators) → ((n : ℕ) (g : Name × Sort) → slice_get G n ≡ Some g → f n g.1 ≡ f' n g.1) → each_generator f G ≡ each_generator f' G
same_each f f' G h = same_from f f' 0 G (λ n g at.
    let here : n ≡ 0 + n = omega arith in
    subst (λ (m : ℕ). f m g.1 ≡ f' m g.1) here (h n g at))

module _ (i : InstanceData) (holds : Holds i.schema i.presentation i.tables i.assignment) where
  pub own_meaning : (n : ℕ) (name : Name) (sort : Sort) (m : Meaning) → slice_index_or i.assignment n (AtRow 0) ≡ m → HasSort i.schema i.tables sort m
      → meaning_of i.tables i.assignment (term_of (itself (n, (name, sort)))) ≡ m
  own_meaning n name (Entity e) (AtRow r) is h = ap (λ (x : Meaning). AtRow (row_in x)) is
  own_meaning n name (Entity e) (AtValue v) is h = absurd h
  own_meaning n name (Plain type) (AtRow r) is h = absurd h
  own_meaning n name (Plain type) (AtValue v) is h = ap AtValue (fold-Gen Value (value_step i.tables i.assignment) n ∙ ap value_in is)

  -- the identity sends what a generator stands for to itself
  pub sent_itself : (n : ℕ) (g : Name × Sort) → slice_get i.presentation.generators n ≡ Some g → sent i i (identity_of i) g.1 n ≡ slice_index_or i.assignment n (AtRow 0)
  sent_itself n g at =
      let goes : GoesFrom (identity_of i) i i = identity_goes i holds (identity_of i).images (identity_of i).rows (identity_of i).nulls refl refl refl in
      let means : Image → Meaning = λ image. meaning_of i.tables i.assignment (term_of image) in
      goes.agrees n g at
      ∙ get_or_from_slice_get (meanings_in i (identity_of i).images) n (means (itself (n, g))) (AtRow 0)
      (get-map means (identity_of i).images n (itself (n, g)) (get-map itself (enumerate_from 0 i.presentation.generators) n (n, g) (get-enumerate i.presentation.generators n g at)))
      ∙ own_meaning n g.0 g.1 (slice_index_or i.assignment n (AtRow 0)) refl (holds.sorts n g at)

-- the transform into delta of an identity is the unit
pub unit_of_identity : (F : Mapping) (i x b : InstanceData) → IsSigmaOf F i x → to_delta_images F (identity_of x) i x x b ≡ unit_images i x b
unit_of_identity F i x b pushed =
    same_each (λ n sort. spelled b sort (sent x x (identity_of x) (sort_image F sort) n)) (λ n sort. spelled b sort (slice_index_or x.assignment n (AtRow 0))) i.presentation.generators
    (λ n g at. ap (spelled b g.1) (sent_itself x pushed.initial.0.holds n (g.0, sort_image F g.1)
    (ap (λ (P : Presentation). slice_get P.generators n) pushed.presentation ∙ get-map (λ (y : Name × Sort). (y.0, sort_image F y.1)) i.presentation.generators n g at)))

-- the transform out of sigma of an identity is the counit
pub counit_of_identity : (F : Mapping) (null_term : ℕ → TypeTerm) (i x : InstanceData) → Holds x.schema x.presentation x.tables x.assignment
    → from_delta_images F (identity_of x) null_term x i x ≡ counit_images F null_term i x
counit_of_identity F null_term i x holds =
    same_each (λ n sort. named i null_term (sort_image F sort) (sent x x (identity_of x) sort n)) (λ n sort. named i null_term (sort_image F sort) (slice_index_or x.assignment n (AtRow 0)))
    x.presentation.generators (λ n g at. ap (named i null_term (sort_image F g.1)) (sent_itself x holds n g at))

-- the images of an identity along a mapping are those of one
along_itself : (F : Mapping) (n : ℕ) (name : Name) (sort : Sort) → image_along F (itself (n, (name, sort))) ≡ itself (n, (name, sort_image F sort))
along_itself F n name (Entity e) = refl
along_itself F n name (Plain type) = ap ValueImage (fold-Gen TypeTerm (type_image_step F) n)

along_from : (F : Mapping) (s : ℕ) (G : Generators) → map (image_along F) (map itself (enumerate_from s G)) ≡ map itself (enumerate_from s (generator_images F G))
along_from F s [] = refl
along_from F s (g ∷ G) =
    let first : image_along F (itself (s, g)) ≡ itself (s, (g.0, sort_image F g.1)) = along_itself F s g.0 g.1 in
    let rest : map (image_along F) (map itself (enumerate_from (s + 1) G)) ≡ map itself (enumerate_from (s + 1) (generator_images F G)) = along_from F (s + 1) G in
    λ i. first i ∷ rest i

pub sigma_of_identity : (F : Mapping) (G : Generators) → map (image_along F) (identity_images G) ≡ identity_images (generator_images F G)
sigma_of_identity F G = along_from F 0 G
