-- What the refusals of a transform tell.
use Rattle.std.proofs.Common.{ℕ, List, [], ◌∷◌, ◌++◌, Option, Some, None, Bool, true, false, ◌≡◌, ◌⊎◌, inl, inr, cond, length, refl, sym, ap, subst, ◌∙◌}
use Rattle.std.specs.Prelude.{slice_get, option_map}
use Rattle.std.proofs.lemmas.Option.{slice_get_within}
use Rattle.cq_base.specs.declared.name.Name.{Name}
use Rattle.cq_base.specs.declared.raw.Raw.{Raw}
use Rattle.cq_theory.specs.declared.refusal.TheoryRefusal.{TheoryRefusal}
use Rattle.cq_theory.specs.declared.refusal.TheoryRefusal.TheVariants as theory_refusal
use Rattle.cq_theory.specs.declared.presentation.Equation.{Equation}
use Rattle.cq_theory.specs.SchemaData.{SchemaData as Schema}
use Rattle.cq_theory.specs.Sorts.{Generators}
use Rattle.cq_theory.specs.Resolve.{or_else}
use Rattle.cq_theory.specs.Tables.{Assignment}
use Rattle.cq_instance.specs.InstanceData.{InstanceData}
use Rattle.cq_instance.specs.declared.transform.Image.{Image}
use Rattle.cq_transform.specs.declared.refusal.TransformRefusal.{TransformRefusal}
use Rattle.cq_transform.specs.declared.refusal.TransformRefusal.TheVariants.{Duplicate, Unknown, WrongCount, WrongSort, Reserved, TooLarge, Missing, Broken, Memory}
use Rattle.cq_transform.specs.Images.{of_transform, names_of, scope_of, parts_fault, given, first_missing, has_image, fault_over, images_fault, images_made}
use Rattle.cq_transform.specs.Refusals.{IsEqual, IsFirstUnequal, AreEqualBefore, TellsUnequal}
use Rattle.cq_transform.specs.Transforming.{AreKept, Tells}
use Rattle.cq_transform.specs.Transforms.{meanings_in}

-- no fault of images is that of an equation
no_part : (o : Option TheoryRefusal) (n : ℕ) → option_map of_transform o ≡ Some (Broken n) → ⊥
no_part None n h = cc
no_part (Some (theory_refusal.Duplicate m)) n h = cc
no_part (Some (theory_refusal.Unknown m)) n h = cc
no_part (Some (theory_refusal.WrongCount m)) n h = cc
no_part (Some (theory_refusal.WrongSort m)) n h = cc
no_part (Some (theory_refusal.Reserved m)) n h = cc
no_part (Some (theory_refusal.TooLarge m)) n h = cc
no_part (Some theory_refusal.Memory) n h = cc

none_missing : (names earlier wanted : List Name) (n : ℕ) → first_missing names earlier wanted ≡ Some (Broken n) → ⊥
none_missing names earlier [] n h = cc
none_missing names earlier (x ∷ xs) n h = at_test (has_image names earlier x) h (none_missing names (earlier ++ x ∷ []) xs n)
  where
    at_test : (b : Bool) → cond b (first_missing names (earlier ++ x ∷ []) xs) (Some (Missing x)) ≡ Some (Broken n) → (first_missing names (earlier ++ x ∷ []) xs ≡ Some (Broken n) → ⊥) → ⊥
    at_test true e rest = rest e
    at_test false e rest = cc

no_broken : (o : Option TheoryRefusal) (p : Option TransformRefusal) (n : ℕ) → (p ≡ Some (Broken n) → ⊥) → or_else (option_map of_transform o) p ≡ Some (Broken n) → ⊥
no_broken None p n never h = never h
no_broken (Some r) p n never h = no_part (Some r) n h

module _ (i j : InstanceData) (parts : List (Name × Raw)) where
  tells : (refusal : TransformRefusal) → images_fault i j parts ≡ Some refusal → Tells i j parts refusal
  tells (Duplicate n) h = h
  tells (Unknown n) h = h
  tells (WrongCount n) h = h
  tells (WrongSort n) h = h
  tells (Reserved n) h = h
  tells (TooLarge n) h = h
  tells (Missing name) h = h
  tells (Broken n) h = absurd (no_broken (parts_fault i.schema (scope_of i.presentation.generators) (scope_of j.presentation.generators) parts)
      (first_missing (given parts) [] (names_of i.presentation.generators)) n (none_missing (given parts) [] (names_of i.presentation.generators) n) h)
  tells Memory h = tt

  -- the first fault of the images, over lists that are those of the instances
  pub tells_fault : (S : Schema) (G H : Generators) (refusal : TransformRefusal) → S ≡ i.schema → G ≡ i.presentation.generators → H ≡ j.presentation.generators
      → (refusal ≡ Memory) ⊎ (fault_over S G H parts ≡ Some refusal) → Tells i j parts refusal
  tells_fault S G H refusal s g h (inl memory) = subst (Tells i j parts) (sym memory) tt
  tells_fault S G H refusal s g h (inr fault) = tells refusal ((λ k. fault_over (sym s k) (sym g k) (sym h k) parts) ∙ fault)

  -- the first equation that isn't kept
  pub tells_unequal : (images : List Image) (B : Assignment) (equations : List Equation) (refusal : TransformRefusal) → images_fault i j parts ≡ None → images ≡ images_made i j parts
      → B ≡ meanings_in j images → equations ≡ i.presentation.equations → TellsUnequal j.tables B equations refusal → Tells i j parts refusal
  tells_unequal images B equations (Broken n) none made meant same told = (
    none,
    subst (λ (x : Assignment × List Equation). IsFirstUnequal j.tables x.0 x.1 n) (λ k. ((meant ∙ ap (meanings_in j) made) k, same k)) told,
  )
  tells_unequal images B equations Memory none made meant same told = tt
  tells_unequal images B equations (Duplicate n) none made meant same told = absurd told
  tells_unequal images B equations (Unknown n) none made meant same told = absurd told
  tells_unequal images B equations (WrongCount n) none made meant same told = absurd told
  tells_unequal images B equations (WrongSort n) none made meant same told = absurd told
  tells_unequal images B equations (Reserved n) none made meant same told = absurd told
  tells_unequal images B equations (TooLarge n) none made meant same told = absurd told
  tells_unequal images B equations (Missing name) none made meant same told = absurd told

-- all equations are kept
pub are_kept : (i j : InstanceData) (images : List Image) (B : Assignment) (equations : List Equation) → B ≡ meanings_in j images → equations ≡ i.presentation.equations
    → AreEqualBefore j.tables B equations (length equations) → AreKept i j images
are_kept i j images B equations meant same equal =
    subst (λ (x : Assignment × List Equation). (n : ℕ) (e : Equation) → slice_get x.1 n ≡ Some e → IsEqual j.tables x.0 e) (λ k. (meant k, same k))
    (λ n e at. equal n (slice_get_within equations n e at) e at)
