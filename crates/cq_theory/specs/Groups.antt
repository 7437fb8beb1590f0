-- Numbers grouped by what they belong to.
use Rattle.std.specs.Prelude.{ℕ, List, [], ◌∷◌, ◌≡◌, ◌+◌, ◌==◌, if◌then◌else◌, map, take, length, slice_index}
use Rattle.cq_theory.specs.Canonical.{below}
use Rattle.cq_theory.specs.declared.schema.Edge.{Edge}
use Rattle.cq_theory.specs.declared.schema.PathEq.{PathEq}
use Rattle.cq_theory.specs.declared.schema.ObsEq.{ObsEq}
use Rattle.cq_theory.specs.declared.groups.Groups.{Groups}

-- the places at which e stands in the list, the first member of which has the place s
abbrev pub positions_from : ℕ → List ℕ → ℕ → List ℕ
positions_from s [] e = []
positions_from s (x ∷ xs) e = if x == e then s ∷ positions_from (s + 1) xs e else positions_from (s + 1) xs e

abbrev pub positions : List ℕ → ℕ → List ℕ
positions xs e = positions_from 0 xs e

-- how often the member at place n stands before
abbrev pub place_of : List ℕ → ℕ → ℕ
place_of xs n = length (positions (take n xs) (slice_index xs n))

abbrev pub places : List ℕ → List ℕ
places xs = map (place_of xs) (below (length xs))

-- the places of each owner below `count`, and the place of each member among those of its owner
pub record AreGroups (owners : List ℕ) (count : ℕ) (made : Groups) : Type 0 where
  pub each_group : made.groups ≡ map (positions owners) (below count)
  pub each_place : made.places ≡ places owners

-- the entities at which edges and equations begin
abbrev pub edge_sources : List Edge → List ℕ
edge_sources edges = map (λ edge. edge.from) edges

abbrev pub path_eq_sources : List PathEq → List ℕ
path_eq_sources equations = map (λ e. e.entity) equations

abbrev pub obs_eq_sources : List ObsEq → List ℕ
obs_eq_sources equations = map (λ e. e.entity) equations
