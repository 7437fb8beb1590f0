-- The first generator without an image, one generator after another; and the faults of images over first generators.
use Rattle.std.proofs.Common.{ℕ, Bool, true, false, List, [], ◌∷◌, ◌++◌, Option, Some, None, ◌≡◌, ◌⊎◌, ◌<◌, ◌≤◌, ◌+◌, ◌&&◌, inl, inr, not, cond, drop, map, get_or, length, refl, sym, ap, ◌∙◌, add-one, drop-cons}
use Rattle.std.specs.Prelude.{option_map}
use Rattle.std.proofs.Math.ListN.{drop_of_length-le}
use Rattle.cq_base.specs.declared.name.Name.{Name}
use Rattle.cq_base.specs.declared.raw.Raw.{Raw}
use Rattle.cq_theory.specs.declared.refusal.TheoryRefusal.{TheoryRefusal}
use Rattle.cq_theory.specs.declared.refusal.TheoryRefusal.TheVariants as theory_refusal
use Rattle.cq_theory.specs.declared.presentation.Sort.{Sort}
use Rattle.cq_theory.specs.Resolve.{or_else}
use Rattle.cq_theory.specs.SchemaData.{SchemaData as Schema}
use Rattle.cq_theory.specs.Sorts.{Generators}
use Rattle.cq_scope.specs.declared.names.Firsts.{Firsts}
use Rattle.cq_scope.specs.Firsts.{AreFirstsOf}
use Rattle.cq_instance.specs.declared.transform.Image.{Image}
use Rattle.cq_transform.specs.declared.refusal.TransformRefusal.{TransformRefusal}
use Rattle.cq_transform.specs.declared.refusal.TransformRefusal.TheVariants.{Missing, Memory}
use Rattle.cq_transform.specs.Images.{of_transform, names_of, parts_fault, given, has_image, first_missing, fault_over, image_named, made_over, scope_of}
use Rattle.cq_transform.proofs.Overs.{parts_over}

-- the name is given and stands for no earlier generator, or not
pub both_hold : (a b : Bool) → a ≡ true → b ≡ false → (a && not b) ≡ true
both_hold true false h k = refl
both_hold true true h k = cc
both_hold false b h k = cc

pub first_fails : (a b : Bool) → a ≡ false → (a && not b) ≡ false
first_fails false b h = refl
first_fails true b h = cc

pub second_fails : (a b : Bool) → b ≡ true → (a && not b) ≡ false
second_fails false b h = refl
second_fails true true h = refl
second_fails true false h = cc

module _ (names : List Name) where
  module _ (G : Generators) (k : ℕ) (g : Name × Sort) (within : k < length G) (is : g ≡ get_or G k g) (earlier : List Name)
      (so_far : first_missing names earlier (names_of (drop k G)) ≡ first_missing names [] (names_of G)) where
    rest_is : names_of (drop k G) ≡ g.0 ∷ names_of (drop (k + 1) G)
    rest_is = ap names_of (drop-cons G k g within) ∙ (λ i. (sym is i).0 ∷ names_of (drop (sym (add-one k) i) G))

    -- the generator has an image
    pub more_given : (after : List Name) → has_image names earlier g.0 ≡ true → after ≡ earlier ++ g.0 ∷ []
        → first_missing names after (names_of (drop (k + 1) G)) ≡ first_missing names [] (names_of G)
    more_given after has after_is =
        ap (λ ns. first_missing names ns (names_of (drop (k + 1) G))) after_is
        ∙ sym (ap (λ b. cond b (first_missing names (earlier ++ g.0 ∷ []) (names_of (drop (k + 1) G))) (Some (Missing g.0))) has)
        ∙ sym (ap (first_missing names earlier) rest_is) ∙ so_far

    -- or not
    pub not_given : (refusal : TransformRefusal) → (refusal ≡ Memory) ⊎ ((has_image names earlier g.0 ≡ false) × (refusal ≡ Missing g.0))
        → (refusal ≡ Memory) ⊎ (first_missing names [] (names_of G) ≡ Some refusal)
    not_given refusal (inl memory) = inl memory
    not_given refusal (inr told) = inr (
        sym so_far ∙ ap (first_missing names earlier) rest_is
        ∙ ap (λ b. cond b (first_missing names (earlier ++ g.0 ∷ []) (names_of (drop (k + 1) G))) (Some (Missing g.0))) told.0
        ∙ ap (λ r. Some r) (sym told.1))

  -- each generator has one
  pub all_given : (G : Generators) (k : ℕ) (earlier : List Name) → length G ≤ k → first_missing names earlier (names_of (drop k G)) ≡ first_missing names [] (names_of G)
      → first_missing names [] (names_of G) ≡ None
  all_given G k earlier all so_far = sym so_far ∙ ap (λ (l : Generators). first_missing names earlier (names_of l)) (drop_of_length-le G all)

module _ (S : Schema) (G H : Generators) (from to : Firsts) (starts : AreFirstsOf G from) (ends : AreFirstsOf H to) (parts : List (Name × Raw)) where
  abbrev part : Option TheoryRefusal
  part = parts_fault S from.scope to.scope parts

  over : parts_fault S (scope_of G) (scope_of H) parts ≡ parts_fault S from.scope to.scope parts
  over = sym (parts_over S G H from to starts ends parts)

  -- a part that breaks a rule
  pub part_refused : (told : TheoryRefusal) (refusal : TransformRefusal) → refusal ≡ of_transform told
      → (told ≡ theory_refusal.Memory) ⊎ (parts_fault S from.scope to.scope parts ≡ Some told) → (refusal ≡ Memory) ⊎ (fault_over S G H parts ≡ Some refusal)
  part_refused told refusal is (inl memory) = inl (is ∙ ap of_transform memory)
  part_refused told refusal is (inr fault) =
      inr (ap (λ p. or_else (option_map of_transform p) (first_missing (given parts) [] (names_of G))) (over ∙ fault) ∙ ap (λ r. Some r) (sym is))

  module _ (names : List Name) (names_are : names ≡ given parts) (none : parts_fault S from.scope to.scope parts ≡ None) where
    fault_is : fault_over S G H parts ≡ or_else (option_map of_transform part) (first_missing names [] (names_of G))
    fault_is = λ i. or_else (option_map of_transform (over i)) (first_missing (sym names_are i) [] (names_of G))

    -- the parts break no rule, and each generator has an image
    pub no_fault : first_missing names [] (names_of G) ≡ None → fault_over S G H parts ≡ None
    no_fault all = fault_is ∙ (λ i. or_else (option_map of_transform (none i)) (all i))

    -- or one hasn't
    pub missing_refused : (refusal : TransformRefusal) → (refusal ≡ Memory) ⊎ (first_missing names [] (names_of G) ≡ Some refusal)
        → (refusal ≡ Memory) ⊎ (fault_over S G H parts ≡ Some refusal)
    missing_refused refusal (inl memory) = inl memory
    missing_refused refusal (inr missing) = inr (fault_is ∙ (λ i. or_else (option_map of_transform (none i)) (missing i)))

  -- the images that were made
  pub made_over_all : (names : List Name) (made : List Image) → names ≡ given parts → made ≡ map (image_named S (scope_of H) names parts) (names_of G) → made ≡ made_over S G H parts
  made_over_all names made names_are is = is ∙ ap (λ ns. map (image_named S (scope_of H) ns parts) (names_of G)) names_are
