-- Tables satisfy the joined schema exactly if they satisfy each part and hold the added equations.
use Rattle.std.proofs.Common.{ℕ, suc, List, [], ◌∷◌, Some, ◌≡◌, ◌<◌, ◌+◌, ◌↔◌, inl, inr, map, length, get_or, refl, sym, subst, ◌∙◌}
use Rattle.std.specs.Prelude.{slice_get, slice_index, All}
use Rattle.std.specs.List.{flat_map}
use Rattle.std.proofs.lemmas.Option.{slice_get-get_or}
use Rattle.cq_theory.specs.declared.schema.PathEq.{PathEq}
use Rattle.cq_theory.specs.declared.schema.ObsEq.{ObsEq}
use Rattle.cq_theory.specs.SchemaData.{SchemaData as Schema}
use Rattle.cq_theory.specs.Tables.{Tables, AtRow, count_of, row_from, value_of, IsWellFormed, Satisfies}
use Rattle.cq_theory.proofs.Faults.{made_of}
use Rattle.cq_mapping.specs.MappingData.{MappingData as Mapping}
use Rattle.cq_mapping.specs.Mapping.{IsMapping}
use Rattle.cq_mapping.specs.Moved.{delta_tables}
use Rattle.cq_mapping.proofs.Named.{get_front, get_back, get_mapped}
use Rattle.cq_colimit.specs.PlacedData.{PlacedData as Placed}
use Rattle.cq_colimit.specs.Placing.{placed}
use Rattle.cq_colimit.specs.Joined.{links_in, framed, inclusion, path_eq_image, obs_eq_image, path_eq_images, obs_eq_images, with_images, joined, inclusions}
use Rattle.cq_colimit.specs.Models.{SatisfiesPart, SatisfiesByParts}
use Rattle.cq_colimit.proofs.Preserving.{in_parts}
use Rattle.cq_colimit.proofs.AllPreserving.{in_flat}
use Rattle.cq_colimit.proofs.Distinct.{all_at}
use Rattle.cq_colimit.proofs.Singles.{AreSingle, inclusion_single}
use Rattle.cq_colimit.proofs.Pulled.{count_is, row_from-image, value_of-image}

-- where a member of the list of all comes from
module _ {X Y : Type 0} (f : X → List Y) where
  abbrev ComesFrom : List X → Y → Type 0
  ComesFrom xs y = (k : ℕ) × (x : X) × (slice_get xs k ≡ Some x) × (n : ℕ) × (slice_get (f x) n ≡ Some y)

  behind : (x : X) (xs : List X) (y : Y) → ComesFrom xs y → ComesFrom (x ∷ xs) y
  behind x xs y found = (suc found.0, found.1, found.2, found.3, found.4)

  from_flat : (xs : List X) (m : ℕ) (y : Y) → slice_get (flat_map f xs) m ≡ Some y → ComesFrom xs y
  from_flat [] m y h = cc
  from_flat (x ∷ xs) m y h = elim (in_parts (f x) (flat_map f xs) m y h) as (λ _. ComesFrom (x ∷ xs) y) [
    | inl first ↦ (0, x, refl, first.0, first.1)
    | inr second ↦ behind x xs y (from_flat xs second.0 y second.1)
  ]

module _ (F : Mapping) (is : IsMapping F) (M : Tables) (well : IsWellFormed F.target M) (links : List (ℕ × ℕ)) (J : Schema) (part : Placed) (own : F ≡ inclusion links J part) where
  -- a path equation of the part holds in the pulled-back tables exactly if its image holds
  path_eq_at : (n : ℕ) (e : PathEq) → slice_get F.source.path_eqs n ≡ Some e → (row : ℕ) → row < count_of M (path_eq_image F e).entity
      → (row_from (delta_tables F M) row e.left ≡ row_from M row (path_eq_image F e).left) × (row_from (delta_tables F M) row e.right ≡ row_from M row (path_eq_image F e).right)
  path_eq_at n e at row inside =
      let sides = is.source.path_eqs n e at in
      let single : AreSingle F = subst (λ (G : Mapping). AreSingle G) (sym own) (inclusion_single links J part) in
      (row_from-image F is single M well e.left e.entity sides.target row sides.left inside, row_from-image F is single M well e.right e.entity sides.target row sides.right inside)

  obs_eq_at : (n : ℕ) (e : ObsEq) → slice_get F.source.obs_eqs n ≡ Some e → (row : ℕ) → row < count_of M (obs_eq_image F e).entity
      → (value_of (delta_tables F M) (AtRow row ∷ []) e.left ≡ value_of M (AtRow row ∷ []) (obs_eq_image F e).left)
      × (value_of (delta_tables F M) (AtRow row ∷ []) e.right ≡ value_of M (AtRow row ∷ []) (obs_eq_image F e).right)
  obs_eq_at n e at row inside =
      let sides = is.source.obs_eqs n e at in
      let single : AreSingle F = subst (λ (G : Mapping). AreSingle G) (sym own) (inclusion_single links J part) in
      (value_of-image F is single M well e.entity row inside e.left sides.type sides.left, value_of-image F is single M well e.entity row inside e.right sides.type sides.right)

  count_at : (e : ℕ) → e < length F.source.entities → count_of (delta_tables F M) e ≡ count_of M (slice_index F.entities e)
  count_at = count_is F is (subst (λ (G : Mapping). AreSingle G) (sym own) (inclusion_single links J part)) M well

module _ (links : List (ℕ × ℕ)) (P : List Placed) (F : Schema) (M : Tables) where
  abbrev J : Schema
  J = with_images links F P

  abbrev G : Placed → Mapping
  G part = inclusion links J part

  module _ (well : IsWellFormed J M) (mappings : (k : ℕ) (part : Placed) → slice_get P k ≡ Some part → IsMapping (G part)) where
    to_parts : Satisfies J M → (k : ℕ) (part : Placed) → slice_get P k ≡ Some part → SatisfiesPart M (G part)
    to_parts h k part there =
        let is = mappings k part there in
        record {
          paths = λ n e at row inside.
              let sides = is.source.path_eqs n e at in
              let within : row < count_of M (path_eq_image (G part) e).entity = subst (λ c. row < c) (count_at (G part) is M well links J part refl e.entity sides.entity) inside in
              let image = in_flat (λ (p : Placed). path_eq_images (G p)) P k part there n (path_eq_image (G part) e) (get_mapped (path_eq_image (G part)) part.schema.path_eqs n e at) in
              let same = path_eq_at (G part) is M well links J part refl n e at row within in
              same.0 ∙ h.paths image.0 (path_eq_image (G part) e) (get_front (flat_map (λ (p : Placed). path_eq_images (G p)) P) F.path_eqs image.0 _ image.1) row within ∙ sym same.1;
          observations = λ n e at row inside.
              let sides = is.source.obs_eqs n e at in
              let within : row < count_of M (obs_eq_image (G part) e).entity = subst (λ c. row < c) (count_at (G part) is M well links J part refl e.entity sides.entity) inside in
              let image = in_flat (λ (p : Placed). obs_eq_images (G p)) P k part there n (obs_eq_image (G part) e) (get_mapped (obs_eq_image (G part)) part.schema.obs_eqs n e at) in
              let same = obs_eq_at (G part) is M well links J part refl n e at row within in
              same.0 ∙ h.observations image.0 (obs_eq_image (G part) e) (get_front (flat_map (λ (p : Placed). obs_eq_images (G p)) P) F.obs_eqs image.0 _ image.1) row within ∙ sym same.1;
        }

    to_added : Satisfies J M → Satisfies F M
    to_added h = record {
      paths = λ n e at. h.paths (length (flat_map (λ (p : Placed). path_eq_images (G p)) P) + n) e (get_back (flat_map (λ (p : Placed). path_eq_images (G p)) P) F.path_eqs n e at);
      observations = λ n e at. h.observations (length (flat_map (λ (p : Placed). obs_eq_images (G p)) P) + n) e (get_back (flat_map (λ (p : Placed). obs_eq_images (G p)) P) F.obs_eqs n e at);
    }

    image_holds : ((k : ℕ) (part : Placed) → slice_get P k ≡ Some part → SatisfiesPart M (G part)) → (m : ℕ) (e : PathEq) → slice_get (flat_map (λ (p : Placed). path_eq_images (G p)) P) m ≡ Some e
        → (row : ℕ) → row < count_of M e.entity → row_from M row e.left ≡ row_from M row e.right
    image_holds each m e at =
        let found = from_flat (λ (p : Placed). path_eq_images (G p)) P m e at in
        let is = mappings found.0 found.1 found.2 in
        let source = made_of (path_eq_image (G found.1)) found.1.schema.path_eqs found.3 e found.4 in
        subst (λ (x : PathEq). (row : ℕ) → row < count_of M x.entity → row_from M row x.left ≡ row_from M row x.right) (sym source.2)
        (λ row within.
        let sides = is.source.path_eqs found.3 source.0 source.1 in
        let inside : row < count_of (delta_tables (G found.1) M) source.0.entity = subst (λ c. row < c) (sym (count_at (G found.1) is M well links J found.1 refl source.0.entity sides.entity)) within in
        let same = path_eq_at (G found.1) is M well links J found.1 refl found.3 source.0 source.1 row within in
        sym same.0 ∙ (each found.0 found.1 found.2).paths found.3 source.0 source.1 row inside ∙ same.1)

    observation_holds : ((k : ℕ) (part : Placed) → slice_get P k ≡ Some part → SatisfiesPart M (G part)) → (m : ℕ) (e : ObsEq) → slice_get (flat_map (λ (p : Placed). obs_eq_images (G p)) P) m ≡ Some e
        → (row : ℕ) → row < count_of M e.entity → value_of M (AtRow row ∷ []) e.left ≡ value_of M (AtRow row ∷ []) e.right
    observation_holds each m e at =
        let found = from_flat (λ (p : Placed). obs_eq_images (G p)) P m e at in
        let is = mappings found.0 found.1 found.2 in
        let source = made_of (obs_eq_image (G found.1)) found.1.schema.obs_eqs found.3 e found.4 in
        subst (λ (x : ObsEq). (row : ℕ) → row < count_of M x.entity → value_of M (AtRow row ∷ []) x.left ≡ value_of M (AtRow row ∷ []) x.right) (sym source.2)
        (λ row within.
        let sides = is.source.obs_eqs found.3 source.0 source.1 in
        let inside : row < count_of (delta_tables (G found.1) M) source.0.entity = subst (λ c. row < c) (sym (count_at (G found.1) is M well links J found.1 refl source.0.entity sides.entity)) within in
        let same = obs_eq_at (G found.1) is M well links J found.1 refl found.3 source.0 source.1 row within in
        sym same.0 ∙ (each found.0 found.1 found.2).observations found.3 source.0 source.1 row inside ∙ same.1)

    to_joined : ((k : ℕ) (part : Placed) → slice_get P k ≡ Some part → SatisfiesPart M (G part)) → Satisfies F M → Satisfies J M
    to_joined each added = record {
      paths = λ n e at. elim (in_parts (flat_map (λ (p : Placed). path_eq_images (G p)) P) F.path_eqs n e at) as (λ _. (row : ℕ) → row < count_of M e.entity → row_from M row e.left ≡ row_from M row e.right) [
        | inl m ↦ image_holds each m.0 e m.1
        | inr m ↦ added.paths m.0 e m.1
      ];
      observations = λ n e at. elim (in_parts (flat_map (λ (p : Placed). obs_eq_images (G p)) P) F.obs_eqs n e at) as (λ _. (row : ℕ) → row < count_of M e.entity → value_of M (AtRow row ∷ []) e.left ≡ value_of M (AtRow row ∷ []) e.right) [
        | inl m ↦ observation_holds each m.0 e m.1
        | inr m ↦ added.observations m.0 e m.1
      ];
    }

  pub by_parts : All IsMapping (map (inclusion links J) P) → IsWellFormed J M → Satisfies J M ↔ (All (SatisfiesPart M) (map (inclusion links J) P) × Satisfies F M)
  by_parts all well =
      let mappings : (k : ℕ) (part : Placed) → slice_get P k ≡ Some part → IsMapping (G part) =
      λ k part there. all_at IsMapping (map (inclusion links J) P) k (G part) all (get_mapped (inclusion links J) P k part there) in (
        λ h. (
          λ k d within.
              let found = made_of (inclusion links J) P k (get_or (map (inclusion links J) P) k d) (slice_get-get_or (map (inclusion links J) P) k d within) in
              subst (SatisfiesPart M) (sym found.2) (to_parts well mappings h k found.0 found.1),
          to_added well mappings h,
        ),
        λ h. to_joined well mappings (λ k part there. all_at (SatisfiesPart M) (map (inclusion links J) P) k (G part) h.0 (get_mapped (inclusion links J) P k part there)) h.1,
      )

pub satisfies_by_parts : SatisfiesByParts
unfolding joined inclusions
satisfies_by_parts = λ T parts joins M. by_parts (links_in parts joins) (placed parts) (framed (links_in parts joins) T (placed parts) joins) M
