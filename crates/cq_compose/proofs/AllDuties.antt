-- What holds of each kind of duty holds of all duties.
use Rattle.std.proofs.Common.{ℕ, ◌++◌, Option, Some, ◌≡◌, sym, subst}
use Rattle.std.specs.Prelude.{slice_get}
use Rattle.std.specs.List.{flat_map}
use Rattle.cq_theory.specs.declared.presentation.Equation.{Equation}
use Rattle.cq_theory.specs.declared.schema.Edge.{Edge}
use Rattle.cq_theory.specs.declared.schema.PathEq.{PathEq}
use Rattle.cq_theory.specs.declared.schema.ObsEq.{ObsEq}
use Rattle.cq_theory.specs.Groups.{positions}
use Rattle.cq_query.specs.QueryData.{QueryData as Query}
use Rattle.cq_query.specs.Translation.{key_sources, path_sources, observation_sources}
use Rattle.cq_query.specs.Duties.{key_duties, path_duties, observation_duties, duties}
use Rattle.cq_query.proofs.SortedDuties.{All_in, all_append, all_flat_map, from_position}

module _ (Q : Query) (R : ℕ → Equation → Type 0)
    (of_keys : (k : ℕ) (edge : Edge) → slice_get Q.target.keys k ≡ Some edge → All_in (R edge.from) (key_duties Q k (Some edge)))
    (of_paths : (n : ℕ) (e : PathEq) → slice_get Q.target.path_eqs n ≡ Some e → All_in (R e.entity) (path_duties Q e.entity (Some e)))
    (of_observations : (n : ℕ) (e : ObsEq) → slice_get Q.target.obs_eqs n ≡ Some e → All_in (R e.entity) (observation_duties Q e.entity (Some e))) where
  all_keys : (u : ℕ) → All_in (λ k. All_in (R u) (key_duties Q k (slice_get Q.target.keys k))) (positions (key_sources Q) u)
  all_keys u r k is =
      let edge = from_position (λ (x : Edge). x.from) Q.target.keys u r k is in
      subst (λ (o : Option Edge). All_in (R u) (key_duties Q k o)) (sym edge.1)
      (subst (λ m. All_in (R m) (key_duties Q k (Some edge.0))) edge.2 (of_keys k edge.0 edge.1))

  all_paths : (u : ℕ) → All_in (λ n. All_in (R u) (path_duties Q u (slice_get Q.target.path_eqs n))) (positions (path_sources Q) u)
  all_paths u r n is =
      let e = from_position (λ (x : PathEq). x.entity) Q.target.path_eqs u r n is in
      subst (λ (o : Option PathEq). All_in (R u) (path_duties Q u o)) (sym e.1)
      (subst (λ m. All_in (R m) (path_duties Q m (Some e.0))) e.2 (of_paths n e.0 e.1))

  all_observations : (u : ℕ) → All_in (λ n. All_in (R u) (observation_duties Q u (slice_get Q.target.obs_eqs n))) (positions (observation_sources Q) u)
  all_observations u r n is =
      let e = from_position (λ (x : ObsEq). x.entity) Q.target.obs_eqs u r n is in
      subst (λ (o : Option ObsEq). All_in (R u) (observation_duties Q u o)) (sym e.1)
      (subst (λ m. All_in (R m) (observation_duties Q m (Some e.0))) e.2 (of_observations n e.0 e.1))

  pub all_duties : (u : ℕ) → All_in (R u) (duties Q u)
  all_duties u = all_append (R u)
      (flat_map (λ k. key_duties Q k (slice_get Q.target.keys k)) (positions (key_sources Q) u) ++ flat_map (λ n. path_duties Q u (slice_get Q.target.path_eqs n)) (positions (path_sources Q) u))
      (flat_map (λ n. observation_duties Q u (slice_get Q.target.obs_eqs n)) (positions (observation_sources Q) u))
      (all_append (R u)
      (flat_map (λ k. key_duties Q k (slice_get Q.target.keys k)) (positions (key_sources Q) u)) (flat_map (λ n. path_duties Q u (slice_get Q.target.path_eqs n)) (positions (path_sources Q) u))
      (all_flat_map (R u) (λ k. key_duties Q k (slice_get Q.target.keys k)) (positions (key_sources Q) u) (all_keys u))
      (all_flat_map (R u) (λ n. path_duties Q u (slice_get Q.target.path_eqs n)) (positions (path_sources Q) u) (all_paths u)))
      (all_flat_map (R u) (λ n. observation_duties Q u (slice_get Q.target.obs_eqs n)) (positions (observation_sources Q) u) (all_observations u))
