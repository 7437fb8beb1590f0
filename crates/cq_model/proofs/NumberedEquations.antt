-- The observation equations of an entity, found by their numbers.
use Rattle.std.proofs.Common.{ℕ, Bool, true, false, cond, List, [], ◌∷◌, Some, ◌≡◌, ◌<◌, ◌==◌, map, length, refl, sym, ap, subst, ◌∙◌}
use Rattle.std.specs.Prelude.{filter, slice_get, slice_index_or}
use Rattle.std.proofs.lemmas.Option.{same_Some, slice_get_within}
use Rattle.cq_tables.specs.Content.{Content}
use Rattle.cq_theory.specs.declared.groups.Groups.{Groups}
use Rattle.cq_theory.specs.declared.schema.ObsEq.{ObsEq}
use Rattle.cq_theory.specs.Groups.{positions, obs_eq_sources, AreGroups}
use Rattle.cq_theory.specs.Schema.{IsSchema}
use Rattle.cq_theory.specs.SchemaData.{SchemaData as Schema}
use Rattle.cq_theory.specs.TypeTerm.{substituted}
use Rattle.cq_theory.proofs.Beginning.{obs_eqs_within}
use Rattle.cq_model.specs.declared.places.Places.{Places}
use Rattle.cq_model.specs.NodeListData.{NodeListData}
use Rattle.cq_model.specs.Equating.{AddsSides}
use Rattle.cq_model.proofs.AddedSides.{AreAtRow}
use Rattle.cq_instance.proofs.FoundEquations.{found_at, found_group}
use Rattle.cq_instance.proofs.IndexedRows.{positions_at as group_at}
use Rattle.cq_instance.proofs.Lists.{get-map_from}
use Rattle.cq_names.proofs.Ranks.{positions_at}

-- a test that was made is passed again
filter_twice : {X : Type 0} (p : X → Bool) (xs : List X) → filter p (filter p xs) ≡ filter p xs
filter_twice p [] = refl
filter_twice p (x ∷ xs) = step (filter_twice p xs) (p x) refl
  where
    step : filter p (filter p xs) ≡ filter p xs → (b : Bool) → p x ≡ b → filter p (cond b (x ∷ filter p xs) (filter p xs)) ≡ cond b (x ∷ filter p xs) (filter p xs)
    step rest true passes = ap (λ b. cond b (x ∷ filter p (filter p xs)) (filter p (filter p xs))) passes ∙ ap (λ (l : List _). x ∷ l) rest
    step rest false fails = rest

module _ (equations : List ObsEq) (entity : ℕ) where
  module _ (numbers : List ℕ) (are : numbers ≡ positions (obs_eq_sources equations) entity) (i n : ℕ) (at : slice_get numbers i ≡ Some n) where
    source : slice_get (obs_eq_sources equations) n ≡ Some entity
    source = (positions_at (obs_eq_sources equations) entity i n (ap (λ l. slice_get l i) (sym are) ∙ at)).0

    pub number_within : n < length equations
    number_within =
        let e = get-map_from (λ (e : ObsEq). e.entity) equations n entity source in
        slice_get_within equations n e.0 e.1

    pub entity_at_number : (e : ObsEq) → slice_get equations n ≡ Some e → e.entity ≡ entity
    entity_at_number e is =
        let other = get-map_from (λ (e : ObsEq). e.entity) equations n entity source in
        ap (λ (e : ObsEq). e.entity) (same_Some e other.0 (sym is ∙ other.1)) ∙ other.2

-- what is added at a row by the numbers of its entity's equations is what all equations add
pub at_row_of_group : (S : Schema) (m : Content) (places : Places) (entity row : ℕ) (numbers : List ℕ) (old new : NodeListData) → numbers ≡ positions (obs_eq_sources S.obs_eqs) entity
    → AreAtRow S m places entity row (found_at S.obs_eqs numbers) old new → AreAtRow S m places entity row S.obs_eqs old new
at_row_of_group S m places entity row numbers old new are h =
    let group : found_at S.obs_eqs numbers ≡ filter (λ e. e.entity == entity) S.obs_eqs = ap (found_at S.obs_eqs) are ∙ found_group S.obs_eqs entity in
    let same : filter (λ (e : ObsEq). e.entity == entity) (found_at S.obs_eqs numbers) ≡ filter (λ e. e.entity == entity) S.obs_eqs =
    ap (filter (λ (e : ObsEq). e.entity == entity)) group ∙ filter_twice (λ (e : ObsEq). e.entity == entity) S.obs_eqs in
    record {
      grows = h.grows;
      added = λ P entries t name.
          subst (λ (es : List ObsEq). AddsSides S m places P entries (map (λ (e : ObsEq). (substituted t e.left, substituted t e.right)) es) old new) same (h.added P entries t name);
    }

-- the group of an entity, and none past the last entity
pub group_is : (S : Schema) → IsSchema S → (groups : Groups) → AreGroups (obs_eq_sources S.obs_eqs) (length S.entities) groups → (entity : ℕ)
    → slice_index_or groups.groups entity [] ≡ positions (obs_eq_sources S.obs_eqs) entity
group_is S schema groups are entity =
    group_at (obs_eq_sources S.obs_eqs) (length S.entities) groups.groups (obs_eqs_within S schema (length S.entities) refl S.obs_eqs refl) are.each_group entity
