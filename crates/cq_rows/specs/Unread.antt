-- Keys that no equation reads, and paths of such keys.
use Rattle.std.specs.Prelude.{◌≡◌, ℕ, ◌<◌, ◌≤◌, Bool, true, false, List, length, map, Option, Some, IsSome}
use Rattle.std.specs.Prelude.{slice_get, slice_index_or}
use Rattle.cq_tables.specs.Content.{end_of}
use Rattle.cq_theory.specs.declared.presentation.Presentation.{Presentation}
use Rattle.cq_rows.specs.Plain.{generator_entity}
use Rattle.cq_rows.specs.Theory.{Term, Rule, Theory}

-- whether a key is listed as one that no equation reads
abbrev pub is_free : List Bool → ℕ → Bool
is_free free k = slice_index_or free k false

-- a path without free keys
abbrev pub HasNone : List Bool → List ℕ → Type 0
HasNone free path = (i k : ℕ) → slice_get path i ≡ Some k → is_free free k ≡ false

-- no path equation, and no equation of the presentation, reads a free key
abbrev pub RulesReadNone : List Rule → List Bool → Type 0
RulesReadNone rules free = (i : ℕ) (r : Rule) → slice_get rules i ≡ Some r → HasNone free r.left × HasNone free r.right

abbrev pub GivenReadNone : List (Option (Term × Term)) → List Bool → Type 0
GivenReadNone given free = (i : ℕ) (t u : Term) → slice_get given i ≡ Some (Some (t, u))
    → HasNone free t.path × HasNone free u.path

pub record AreUnread (s : Theory) (free : List Bool) : Type 0 where
  pub rules : RulesReadNone s.rules free
  pub given : GivenReadNone s.given free

-- a path of free keys from an entity, of at most n keys
pub record IsFreePath (keys : List (ℕ × ℕ)) (free : List Bool) (e n : ℕ) (p : List ℕ) : Type 0 where
  pub end : IsSome (end_of keys e p)
  pub few : length p ≤ n
  pub all_free : (i k : ℕ) → slice_get p i ≡ Some k → is_free free k ≡ true

-- there are so many of them, or more
pub record HasFreePaths (keys : List (ℕ × ℕ)) (free : List Bool) (e n count : ℕ) : Type 0 where
  pub paths : List (List ℕ)
  pub many : count ≤ length paths
  pub each : (i : ℕ) (p : List ℕ) → slice_get paths i ≡ Some p → IsFreePath keys free e n p
  pub apart : (i j : ℕ) (p : List ℕ) → slice_get paths i ≡ Some p → slice_get paths j ≡ Some p → i ≡ j

-- from each entity there are as many as its count, or more
abbrev pub AreCounts : List (ℕ × ℕ) → List Bool → ℕ → List ℕ → Type 0
AreCounts keys free n counts = (e : ℕ) → HasFreePaths keys free e n (slice_index_or counts e 0)

-- the count of some generator's entity is over n
pub record HasMany (P : Presentation) (counts : List ℕ) (n : ℕ) : Type 0 where
  pub generator : ℕ
  pub entity : ℕ
  pub found : slice_get (map generator_entity P.generators) generator ≡ Some (Some entity)
  pub many : n < slice_index_or counts entity 0
