-- The observation equation that a loop over the places of an entity's equations reads.
use Rattle.std.proofs.Common.{ℕ, List, Some, ◌≡◌, ◌<◌, ◌∙◌, length, get_or, sym, ap}
use Rattle.std.specs.Prelude.{slice_get}
use Rattle.std.proofs.lemmas.Option.{slice_get-get_or}
use Rattle.cq_tables.specs.Content.{Content}
use Rattle.cq_tables.specs.Content.{entity_of as row_entity}
use Rattle.cq_theory.specs.declared.schema.ObsEq.{ObsEq}
use Rattle.cq_theory.specs.Groups.{positions, obs_eq_sources}
use Rattle.cq_theory.specs.SchemaData.{SchemaData as Schema}
use Rattle.cq_query.proofs.SortedDuties.{from_position}
use Rattle.cq_rows.proofs.ByEntity.{position_below}
use Rattle.cq_check.proofs.Lists.{one_at}

module _ (S : Schema) (m : Content) (row : ℕ) (places : List ℕ) (are : places ≡ positions (obs_eq_sources S.obs_eqs) (row_entity m row)) (r : ℕ) (within : r < length places) where
  there : slice_get (positions (obs_eq_sources S.obs_eqs) (row_entity m row)) r ≡ Some (get_or places r 0)
  there = ap (λ l. slice_get l r) (sym are) ∙ slice_get-get_or places r 0 within

  pub place_within : get_or places r 0 < length S.obs_eqs
  place_within = position_below (λ (e : ObsEq). e.entity) S.obs_eqs (row_entity m row) r (get_or places r 0) there

  -- an equation of the schema, of the row's entity
  pub record IsObserved (e : ObsEq) : Type 0 where
    pub at : slice_get places r ≡ Some (get_or places r 0)
    pub found : slice_get S.obs_eqs (get_or places r 0) ≡ Some e
    pub entity : e.entity ≡ row_entity m row

  pub observed_at : (e : ObsEq) → slice_get S.obs_eqs (get_or places r 0) ≡ Some e → IsObserved e
  observed_at e found =
      let p = from_position (λ (x : ObsEq). x.entity) S.obs_eqs (row_entity m row) r (get_or places r 0) there in
      record {
        at = slice_get-get_or places r 0 within;
        found = found;
        entity = ap (λ (x : ObsEq). x.entity) (one_at S.obs_eqs (get_or places r 0) e p.0 found p.1) ∙ p.2;
      }
