-- The numbers of the edges from an entity.
use Rattle.std.proofs.Common.{ℕ, Bool, List, [], ◌∷◌, ◌++◌, ◌+◌, ◌≡◌, ◌<◌, length, map, take, get_or, cond, subst, ap, sym, ◌∙◌, arith, zero-add}
use Rattle.std.specs.Prelude.{All, Some, IfSome, slice_get, filter, ◌==◌, ◌≢◌, slice_index_or}
use Rattle.std.specs.List.{enumerate_from}
use Rattle.std.proofs.lemmas.Bool.{eqb-true, eq-eqb, ne_eqb}
use Rattle.std.proofs.lemmas.List.{take_more, map-append, append-nil, length-take-le}
use Rattle.std.proofs.lemmas.List.Elements.{All-map, All-filter, filter-append, filter_passes}
use Rattle.std.proofs.lemmas.List.FromFn.{length-enumerate_from, get_or-enumerate_from}
use Rattle.std.proofs.lemmas.Option.{slice_get-get_or, IfSome_then}
use Rattle.cq_theory.specs.declared.schema.Edge.{Edge}
use Rattle.cq_theory.specs.Tables.{Tables, count_of}
use Rattle.cq_theory.specs.Canonical.{edges_from}
use Rattle.cq_text.specs.Grouped.{numbers_from}
use Rattle.cq_text.specs.Spelling.{LeavesRow}

-- an edge under its number
abbrev pub IsNumbered : List Edge → ℕ × Edge → Type 0
IsNumbered edges p = (p.0 < length edges) × (slice_get edges p.0 ≡ Some p.1)

all_numbered : (edges : List Edge) → All (IsNumbered edges) (enumerate_from 0 edges)
all_numbered edges k d within =
    let inside : k < length edges = omega (arith, length-enumerate_from 0 edges) in
    let here : slice_get edges (0 + k) ≡ Some (get_or edges k d.1) = ap (slice_get edges) (zero-add k) ∙ slice_get-get_or edges k d.1 inside in
    subst (IsNumbered edges) (sym (get_or-enumerate_from 0 edges k d inside)) (omega arith, here)

pub edges_are_numbered : (entity : ℕ) (edges : List Edge) → All (IsNumbered edges) (edges_from entity edges)
edges_are_numbered entity edges = All-filter (λ p. p.1.from == entity) (IsNumbered edges) (enumerate_from 0 edges) (all_numbered edges)

-- the number of an edge from the entity
abbrev pub IsNumberFrom : ℕ → List Edge → ℕ → Type 0
IsNumberFrom entity edges n = (n < length edges) × IfSome (slice_get edges n) (λ edge. edge.from ≡ entity)

pub numbers_are_from : (entity : ℕ) (edges : List Edge) → All (IsNumberFrom entity edges) (numbers_from entity edges)
numbers_are_from entity edges =
    let test : ℕ × Edge → Bool = λ p. p.1.from == entity in
    let from_entity : All (λ (p : ℕ × Edge). IsNumberFrom entity edges p.0) (edges_from entity edges) = λ k d within.
    let numbered = All-filter test (IsNumbered edges) (enumerate_from 0 edges) (all_numbered edges) k d within in
    let passes = filter_passes test (enumerate_from 0 edges) k d within in
    (numbered.0, subst (λ o. IfSome o (λ (edge : Edge). edge.from ≡ entity)) (sym numbered.1) (eqb-true _ _ passes)) in
    All-map (IsNumberFrom entity edges) (λ (p : ℕ × Edge). p.0) (edges_from entity edges) from_entity

-- a row of the entity is a row of the source of each of the entity's edges
pub row_of_source : (entity row : ℕ) (edges : List Edge) (count : ℕ → ℕ) (numbers : List ℕ) (k : ℕ) → numbers ≡ numbers_from entity edges → row < count entity → k < length numbers
    → (slice_index_or numbers k 0 < length edges) × IfSome (slice_get edges (slice_index_or numbers k 0)) (λ edge. row < count edge.from)
row_of_source entity row edges count numbers k is within inside =
    let here = subst (All (IsNumberFrom entity edges)) (sym is) (numbers_are_from entity edges) k 0 inside in
    (here.0, IfSome_then (slice_get edges (slice_index_or numbers k 0)) here.1 (λ edge from. subst (λ e. row < count e) (sym from) within))

-- each of the entity's edges leaves each of its rows
pub leaves_row : (M : Tables) (entity row : ℕ) (edges : List Edge) (numbers : List ℕ) → numbers ≡ numbers_from entity edges → row < count_of M entity → All (LeavesRow M edges row) numbers
leaves_row M entity row edges numbers is within = λ k d inside.
    let here = subst (All (IsNumberFrom entity edges)) (sym is) (numbers_are_from entity edges) k d inside in
    (here.0, IfSome_then (slice_get edges (slice_index_or numbers k d)) here.1 (λ edge from. subst (λ e. row < count_of M e) (sym from) within))

pub numbers_within : (entity : ℕ) (edges : List Edge) (numbers : List ℕ) → numbers ≡ numbers_from entity edges → All (λ n. n < length edges) numbers
numbers_within entity edges numbers is = λ k d inside. (subst (All (IsNumberFrom entity edges)) (sym is) (numbers_are_from entity edges) k d inside).0

pub enumerate_from-append : {X : Type 0} (n : ℕ) (xs ys : List X) → enumerate_from n (xs ++ ys) ≡ enumerate_from n xs ++ enumerate_from (n + length xs) ys
enumerate_from-append n [] ys = ap (λ m. enumerate_from m ys) (omega arith)
enumerate_from-append n (x ∷ xs) ys =
    let same : n + 1 + length xs ≡ n + length (x ∷ xs) = omega arith in
    ap (λ l. (n, x) ∷ l) (enumerate_from-append (n + 1) xs ys ∙ ap (λ m. enumerate_from (n + 1) xs ++ enumerate_from m ys) same)

module _ (entity : ℕ) (edges : List Edge) (i : ℕ) (d : Edge) (within : i < length edges) where
  abbrev last : ℕ × Edge
  last = (0 + length (take i edges), get_or edges i d)

  numbers_from_split : numbers_from entity (take (i + 1) edges) ≡ numbers_from entity (take i edges) ++ map (λ p. p.0) (filter (λ p. p.1.from == entity) (last ∷ []))
  numbers_from_split =
      let test : ℕ × Edge → Bool = λ p. p.1.from == entity in
      let number : ℕ × Edge → ℕ = λ p. p.0 in
      let front = enumerate_from 0 (take i edges) in
      ap (numbers_from entity) (take_more edges i d within)
      ∙ ap (λ l. map number (filter test l)) (enumerate_from-append 0 (take i edges) (get_or edges i d ∷ []))
      ∙ ap (map number) (filter-append test front (last ∷ []))
      ∙ map-append number (filter test front) (filter test (last ∷ []))

  -- one more edge from the entity
  pub numbers_from_more : (get_or edges i d).from ≡ entity → numbers_from entity (take (i + 1) edges) ≡ numbers_from entity (take i edges) ++ i ∷ []
  numbers_from_more is =
      let number : last.0 ≡ i = zero-add _ ∙ length-take-le i edges (omega arith) in
      numbers_from_split
      ∙ ap (λ b. numbers_from entity (take i edges) ++ map (λ p. p.0) (cond b (last ∷ []) [])) (eq-eqb _ _ is)
      ∙ ap (λ n. numbers_from entity (take i edges) ++ n ∷ []) number

  -- one more edge from another entity
  pub numbers_from_same : (get_or edges i d).from ≢ entity → numbers_from entity (take (i + 1) edges) ≡ numbers_from entity (take i edges)
  numbers_from_same other =
      numbers_from_split
      ∙ ap (λ b. numbers_from entity (take i edges) ++ map (λ p. p.0) (cond b (last ∷ []) [])) (ne_eqb _ _ other)
      ∙ append-nil (numbers_from entity (take i edges))
