-- The part of a schema and a presentation that speaks of entity terms, and the equations that it derives, as one family
-- over their two sides.
use Rattle.std.specs.Prelude.{◌≡◌, ◌≢◌, ℕ, ◌<◌, ◌≤◌, ◌^◌, List, [], ◌∷◌, ◌++◌, length, Option, Some, None, option_and_then, slice_get}
use Rattle.cq_tables.specs.Content.{step_of, end_of}
use Rattle.cq_theory.specs.declared.term.EntTerm.{EntTerm}
use Rattle.cq_theory.specs.declared.schema.PathEq.{PathEq}

abbrev pub Term : Type 0
Term = EntTerm

abbrev pub Rule : Type 0
Rule = PathEq

-- what of a schema and a presentation over it speaks of entity terms: foreign keys, path equations, the entity of each
-- generator that has one, and the equations between entity terms
pub record Theory : Type 0 where
  pub entities : ℕ
  pub keys : List (ℕ × ℕ)
  pub rules : List Rule
  pub generators : List (Option ℕ)
  pub given : List (Option (Term × Term))

-- t followed along keys
abbrev pub along : Term → List ℕ → Term
along t path = record { generator = t.generator; path = t.path ++ path }

-- a generator
abbrev pub generator_term : ℕ → Term
generator_term g = record { generator = g; path = [] }

-- the entity of a term, if it is one of this theory
unfoldable pub sort_of : Theory → Term → Option ℕ
sort_of s t = option_and_then (λ e. end_of s.keys e t.path) (option_and_then (λ e. e) (slice_get s.generators t.generator))

-- a bound on the depth of terms, or none
abbrev pub Fits : Option ℕ → Term → Type 0
Fits None t = Unit {0}
Fits (Some k) t = length t.path ≤ k

-- equations that are derived with terms of this depth at most
pub data Proves (s : Theory) (bound : Option ℕ) : Term → Term → Type 0 where
  reflexive : {t : Term} (e : ℕ) → sort_of s t ≡ Some e → Fits bound t → Proves s bound t t
  symmetric : {t u : Term} → Proves s bound t u → Proves s bound u t
  transitive : {t u v : Term} → Proves s bound t u → Proves s bound u v → Proves s bound t v
  key : {t u : Term} (k e d : ℕ) → Proves s bound t u → sort_of s t ≡ Some e → step_of s.keys e k ≡ Some d
      → Fits bound (along t (k ∷ [])) → Fits bound (along u (k ∷ [])) → Proves s bound (along t (k ∷ [])) (along u (k ∷ []))
  given : {t u : Term} (i : ℕ) → slice_get s.given i ≡ Some (Some (t, u)) → Fits bound t → Fits bound u → Proves s bound t u
  rule : (i : ℕ) (r : Rule) (t : Term) → slice_get s.rules i ≡ Some r → sort_of s t ≡ Some r.entity → Fits bound t
      → Fits bound (along t r.left) → Fits bound (along t r.right) → Proves s bound (along t r.left) (along t r.right)

abbrev pub Derives : Theory → Term → Term → Type 0
Derives s t u = Proves s None t u

abbrev pub Within : Theory → ℕ → Term → Term → Type 0
Within s k t u = Proves s (Some k) t u

-- each term of depth at most k whose entity has a key is equal, within k, to a term of depth below k
abbrev pub Closes : Theory → ℕ → Type 0
Closes s k = (t : Term) (e f d : ℕ) → sort_of s t ≡ Some e → length t.path ≤ k → step_of s.keys e f ≡ Some d
    → (u : Term) × (length u.path < k) × Within s k t u

-- there are more than n terms of depth at most k of which no two are equal within k
pub record IsWide (s : Theory) (k n : ℕ) : Type 0 where
  pub terms : List Term
  pub many : n < length terms
  pub sorts : (i : ℕ) (t : Term) → slice_get terms i ≡ Some t → (e : ℕ) × (sort_of s t ≡ Some e) × (length t.path ≤ k)
  pub apart : (i j : ℕ) (t u : Term) → slice_get terms i ≡ Some t → slice_get terms j ≡ Some u → i ≢ j → Within s k t u → ⊥

-- both sides of a path equation can be followed from its entity, and end at one entity
pub record IsRule (s : Theory) (r : Rule) : Type 0 where
  pub target : ℕ
  pub left : end_of s.keys r.entity r.left ≡ Some target
  pub right : end_of s.keys r.entity r.right ≡ Some target

-- two terms of one entity
pub record IsEquation (s : Theory) (t u : Term) : Type 0 where
  pub target : ℕ
  pub left : sort_of s t ≡ Some target
  pub right : sort_of s u ≡ Some target

-- all parts are in range and well sorted
pub record IsTheory (s : Theory) : Type 0 where
  pub few : length s.keys < 2 ^ 32
  pub keys : (k e d : ℕ) → step_of s.keys e k ≡ Some d → (e < s.entities) × (d < s.entities)
  pub rules : (i : ℕ) (r : Rule) → slice_get s.rules i ≡ Some r → IsRule s r
  pub generators : (g e : ℕ) → slice_get s.generators g ≡ Some (Some e) → e < s.entities
  pub given : (i : ℕ) (t u : Term) → slice_get s.given i ≡ Some (Some (t, u)) → IsEquation s t u
