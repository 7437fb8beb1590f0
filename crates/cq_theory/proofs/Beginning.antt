-- What begins at each entity of a schema begins at an entity of the schema.
use Rattle.std.proofs.Common.{ℕ, List, ◌≡◌, ◌<◌, length, get_or, sym, ap, subst}
use Rattle.std.specs.Prelude.{All}
use Rattle.std.proofs.lemmas.List.Elements.{All-map}
use Rattle.std.proofs.lemmas.Option.{slice_get-get_or}
use Rattle.cq_theory.specs.declared.schema.Edge.{Edge}
use Rattle.cq_theory.specs.declared.schema.PathEq.{PathEq}
use Rattle.cq_theory.specs.declared.schema.ObsEq.{ObsEq}
use Rattle.cq_theory.specs.SchemaData.{SchemaData as Schema}
use Rattle.cq_theory.specs.Schema.{IsSchema}
use Rattle.cq_theory.specs.declared.groups.Groups.{Groups}
use Rattle.cq_theory.specs.Groups.{AreGroups}
use Rattle.cq_theory.specs.Groups.{edge_sources, path_eq_sources, obs_eq_sources}

abbrev AreBelow : ℕ → List ℕ → Type 0
AreBelow count sources = All (λ source. source < count) sources

-- these are the sources of a list of the schema, and the number of its entities
moved : (count n : ℕ) (sources found : List ℕ) → found ≡ sources → n ≡ count → AreBelow count sources → AreBelow n found
moved count n sources found same size h =
    let both : (count, sources) ≡ (n, found) = λ i. (sym size i, sym same i) in
    let Told : ℕ × List ℕ → Type 0 = λ x. AreBelow x.0 x.1 in
    subst Told both h

module _ (S : Schema) (schema : IsSchema S) (count : ℕ) (size : count ≡ length S.entities) where
  pub keys_within : (edges : List Edge) → edges ≡ S.keys → AreBelow count (edge_sources edges)
  keys_within edges same = moved (length S.entities) count (edge_sources S.keys) (edge_sources edges) (ap edge_sources same) size (All-map (λ n. n < length S.entities) (λ (e : Edge). e.from) S.keys (λ k d h. (schema.keys k d h).0))

  pub attributes_within : (edges : List Edge) → edges ≡ S.attributes → AreBelow count (edge_sources edges)
  attributes_within edges same =
      moved (length S.entities) count (edge_sources S.attributes) (edge_sources edges) (ap edge_sources same) size (All-map (λ n. n < length S.entities) (λ (e : Edge). e.from) S.attributes (λ k d h. (schema.attributes k d h).0))

  pub path_eqs_within : (equations : List PathEq) → equations ≡ S.path_eqs → AreBelow count (path_eq_sources equations)
  path_eqs_within equations same =
      moved (length S.entities) count (path_eq_sources S.path_eqs) (path_eq_sources equations) (ap path_eq_sources same) size
      (All-map (λ n. n < length S.entities) (λ (e : PathEq). e.entity) S.path_eqs (λ k d h. (schema.path_eqs k (get_or S.path_eqs k d) (slice_get-get_or S.path_eqs k d h)).entity))

  pub obs_eqs_within : (equations : List ObsEq) → equations ≡ S.obs_eqs → AreBelow count (obs_eq_sources equations)
  obs_eqs_within equations same =
      moved (length S.entities) count (obs_eq_sources S.obs_eqs) (obs_eq_sources equations) (ap obs_eq_sources same) size
      (All-map (λ n. n < length S.entities) (λ (e : ObsEq). e.entity) S.obs_eqs (λ k d h. (schema.obs_eqs k (get_or S.obs_eqs k d) (slice_get-get_or S.obs_eqs k d h)).entity))

pub groups_as : (made : Groups) (owners found : List ℕ) (count n : ℕ) → found ≡ owners → n ≡ count → AreGroups found n made → AreGroups owners count made
groups_as made owners found count n same size h =
    let both : (found, n) ≡ (owners, count) = λ i. (same i, size i) in
    let Told : List ℕ × ℕ → Type 0 = λ x. AreGroups x.0 x.1 made in
    subst Told both h
