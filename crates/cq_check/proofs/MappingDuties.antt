-- The duties of a mapping are well sorted.
use Rattle.std.proofs.Common.{ℕ, zero, suc, List, [], ◌∷◌, ◌++◌, Some, ◌≡◌, ◌<◌, ◌⊎◌, map, length, ap, subst, arith, inl, inr}
use Rattle.std.specs.Prelude.{slice_get, option_map}
use Rattle.std.proofs.lemmas.List.Elements.{All-nil, All-cons}
use Rattle.cq_base.specs.declared.name.Name.{Name}
use Rattle.cq_check.specs.Answers.{IsWellSorted, over}
use Rattle.cq_check.proofs.Lists.{mapped_at}
use Rattle.cq_mapping.specs.MappingData.{MappingData as Mapping}
use Rattle.cq_mapping.specs.Mapping.{IsMapping}
use Rattle.cq_mapping.specs.Images.{entity_image, path_image}
use Rattle.cq_mapping.specs.Duties.{path_duty, observation_duty, duties_of, one_generator}
use Rattle.cq_mapping.specs.declared.duties.Duty.{Duty}
use Rattle.cq_mapping.proofs.Imaged.{sort_of-image}
use Rattle.cq_theory.specs.declared.presentation.Sort.{Sort}
use Rattle.cq_theory.specs.declared.presentation.Sort.TheVariants.{Plain, Entity}
use Rattle.cq_theory.specs.declared.schema.PathEq.{PathEq}
use Rattle.cq_theory.specs.declared.schema.ObsEq.{ObsEq}
use Rattle.cq_theory.specs.declared.term.Term.TheVariants.{Ent, Typ}
use Rattle.cq_theory.specs.Schema.{one_of}
use Rattle.cq_theory.specs.Presentation.{IsSort, IsPresentation}
use Rattle.cq_theory.specs.Sorts.{target_of, sort_of}

either_at : {X : Type 0} (xs ys : List X) (n : ℕ) (x : X) → slice_get (xs ++ ys) n ≡ Some x → ((i : ℕ) × (slice_get xs i ≡ Some x)) ⊎ ((i : ℕ) × (slice_get ys i ≡ Some x))
either_at [] ys n x h = inr (n, h)
either_at (y ∷ xs) ys zero x h = inl (0, h)
either_at (y ∷ xs) ys (suc n) x h = elim (either_at xs ys n x h) [
  | inl there ↦ inl (suc there.0, there.1)
  | inr there ↦ inr there
]

module _ (F : Mapping) (is : IsMapping F) where
  abbrev IsPosed : Duty → Type 0
  IsPosed duty = (duty.schema_entity < length F.target.entities) × IsWellSorted F.target (one_generator duty.schema_entity) duty.equation

  image_within : (e : ℕ) → e < length F.source.entities → entity_image F e < length F.target.entities
  image_within e h = is.entity_images e 0 (omega (arith, h, is.entities))

  path_side : (path : List ℕ) (e target : ℕ) → target_of F.source.keys path e ≡ Some target
      → sort_of F.target (one_of (entity_image F e)) (Ent (record { generator = 0; path = path_image F path })) ≡ Some (Entity (entity_image F target))
  path_side path e target leads = sort_of-image F is (one_of e) (Ent (record { generator = 0; path = path })) (Entity target) (ap (option_map Entity) leads)

  path_posed : (n : ℕ) (e : PathEq) → slice_get F.source.path_eqs n ≡ Some e → IsPosed (path_duty F e)
  path_posed n e found =
      let sides = is.source.path_eqs n e found in
      (image_within e.entity sides.entity, record { sort = Entity (entity_image F sides.target); left = path_side e.left e.entity sides.target sides.left; right = path_side e.right e.entity sides.target sides.right })

  observation_posed : (n : ℕ) (e : ObsEq) → slice_get F.source.obs_eqs n ≡ Some e → IsPosed (observation_duty F e)
  observation_posed n e found =
      let sides = is.source.obs_eqs n e found in (
        image_within e.entity sides.entity,
        record {
          sort = Plain sides.type;
          left = sort_of-image F is (one_of e.entity) (Typ e.left) (Plain sides.type) (ap (option_map Plain) sides.left);
          right = sort_of-image F is (one_of e.entity) (Typ e.right) (Plain sides.type) (ap (option_map Plain) sides.right);
        },
      )

  duty_posed : (n : ℕ) (duty : Duty) → slice_get (duties_of F) n ≡ Some duty → IsPosed duty
  duty_posed n duty h = elim (either_at (map (path_duty F) F.source.path_eqs) (map (observation_duty F) F.source.obs_eqs) n duty h) [
    | inl there ↦ let from = mapped_at (path_duty F) F.source.path_eqs there.0 duty there.1 in subst IsPosed from.2 (path_posed there.0 from.0 from.1)
    | inr there ↦ let from = mapped_at (observation_duty F) F.source.obs_eqs there.0 duty there.1 in subst IsPosed from.2 (observation_posed there.0 from.0 from.1)
  ]

  pub duty_sorted : (n : ℕ) (duty : Duty) → slice_get (duties_of F) n ≡ Some duty → IsWellSorted F.target (over F duty) duty.equation
  duty_sorted n duty h = (duty_posed n duty h).1

  pub duty_within : (n : ℕ) (duty : Duty) → slice_get (duties_of F) n ≡ Some duty → duty.schema_entity < length F.target.entities
  duty_within n duty h = (duty_posed n duty h).0

-- one generator of an entity is well sorted
pub one_presented : (F : Mapping) (entity : ℕ) → entity < length F.target.entities → IsPresentation F.target (one_generator entity)
one_presented F entity within = record {
  generators = All-cons (λ (g : Name × Sort). IsSort F.target g.1) ([], Entity entity) [] within (All-nil (λ (g : Name × Sort). IsSort F.target g.1));
  count = omega arith;
  equations = λ i e at. cc;
}
