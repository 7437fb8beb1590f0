-- How many parts the literals of queries and transforms give, and in which block each part of a query stands.
use Rattle.std.proofs.Common.{ℕ, List, [], ◌∷◌, ◌++◌, ◌≡◌, ◌+◌, ◌<◌, ◌≤◌, ◌^◌, length, map, take, get_or, refl, sym, ap, ◌∙◌, subst, arith}
use Rattle.std.specs.Prelude.{All, sum_by}
use Rattle.std.specs.List.{flat_map, enumerate_from}
use Rattle.std.proofs.lemmas.List.{append-nil, length-map, length-append, length-take-le, take_more}
use Rattle.std.proofs.lemmas.Grind.{flat_map-append}
use Rattle.std.proofs.lemmas.List.Concat.{length-flat_map}
use Rattle.std.proofs.lemmas.List.Elements.{All-nil, All-cons, All-append}
use Rattle.std.proofs.lemmas.List.Sums.{sum_by-cons}
use Rattle.cq_base.specs.declared.name.Name.{Name}
use Rattle.cq_syntax.specs.declared.part.Spot.{Spot}
use Rattle.cq_syntax.specs.declared.part.GroupSyn.{GroupSyn}
use Rattle.cq_syntax.specs.declared.literal.QueryKey.{QueryKey}
use Rattle.cq_syntax.specs.declared.literal.QueryBlock.{QueryBlock}
use Rattle.cq_syntax.specs.declared.literal.QueryLit.{QueryLit}
use Rattle.cq_blocks.specs.declared.parts.Clause.{Clause}
use Rattle.cq_blocks.specs.declared.parts.Clause.TheVariants as clause
use Rattle.cq_blocks.specs.declared.parts.QueryParts.{QueryParts}
use Rattle.cq_parts.specs.Parts.{variable_parts, test_clause, attribute_clause, assign_clause, key_clauses, block_variables, block_clauses, query_parts, variable_count, key_count, clause_count, query_count}

-- what each member of a numbered list gives, counted
counted : {X Y : Type 0} (f : ℕ × X → List Y) (g : X → ℕ) → ((n : ℕ) (x : X) → length (f (n, x)) ≡ g x) → (n : ℕ) (xs : List X) → length (flat_map f (enumerate_from n xs)) ≡ sum_by g xs
counted f g each n [] = refl
counted f g each n (x ∷ xs) =
    length-append (f (n, x)) (flat_map f (enumerate_from (n + 1) xs))
    ∙ (λ i. each n x i + counted f g each (n + 1) xs i)
    ∙ sym (sum_by-cons g x xs)

variables_of : (n : ℕ) (b : QueryBlock) → length (block_variables (n, b)) ≡ variable_count b
variables_of n b = length-flat_map (variable_parts n) b.vars ∙ (λ i. sum_by (λ (g : GroupSyn). length-map {B = ℕ × Name × Name} g.names (λ (spot : Spot). (n, spot.name, g.sort)) i) b.vars)

key_of : (n : ℕ) (k : QueryKey) → length (key_clauses n k) ≡ key_count k
key_of n k = omega (arith, length-map k.assigns (assign_clause n k.name))

clauses_of : (n : ℕ) (b : QueryBlock) → length (block_clauses (n, b)) ≡ clause_count b
clauses_of n b =
    length-append (map (test_clause n) b.tests ++ map (attribute_clause n) b.attributes) (flat_map (key_clauses n) b.keys)
    ∙ (λ i. (length-append (map (test_clause n) b.tests) (map (attribute_clause n) b.attributes) ∙ (λ j. length-map b.tests (test_clause n) j + length-map b.attributes (attribute_clause n) j)) i
    + (length-flat_map (key_clauses n) b.keys ∙ (λ j. sum_by (λ (k : QueryKey). key_of n k j) b.keys)) i)

abbrev query_size : QueryParts → ℕ
query_size parts = length parts.entities + length parts.vars + length parts.clauses

query_counted : (q : QueryLit) → query_size (query_parts q) ≡ query_count q
unfolding query_parts
query_counted q = λ i.
    length-map q.blocks (λ (b : QueryBlock). b.entity) i + counted block_variables variable_count variables_of 0 q.blocks i
    + counted block_clauses clause_count clauses_of 0 q.blocks i

pub query_fits : (q : QueryLit) (parts : QueryParts) → parts ≡ query_parts q → query_count q < 2 ^ 32 → query_size parts < 2 ^ 32
query_fits q parts is few = subst (λ n. n < 2 ^ 32) (sym (ap query_size is ∙ query_counted q)) few

-- What each member of a numbered list gives stands in the block of its number.
all_flat : {X Y : Type 0} (P : Y → Type 0) (f : X → List Y) → ((x : X) → All P (f x)) → (xs : List X) → All P (flat_map f xs)
all_flat P f each [] = All-nil P
all_flat P f each (x ∷ xs) = All-append P (f x) (flat_map f xs) (each x) (all_flat P f each xs)

all_mapped : {X Y : Type 0} (P : Y → Type 0) (f : X → Y) → ((x : X) → P (f x)) → (xs : List X) → All P (map f xs)
all_mapped P f each [] = All-nil P
all_mapped P f each (x ∷ xs) = All-cons P (f x) (map f xs) (each x) (all_mapped P f each xs)

all_numbered : {X Y : Type 0} (P : Y → Type 0) (total : ℕ) (f : ℕ × X → List Y) → ((n : ℕ) (x : X) → n < total → All P (f (n, x)))
    → (n : ℕ) (xs : List X) → n + length xs ≤ total → All P (flat_map f (enumerate_from n xs))
all_numbered P total f each n [] few = All-nil P
all_numbered P total f each n (x ∷ xs) few =
    All-append P (f (n, x)) (flat_map f (enumerate_from (n + 1) xs)) (each n x (omega (arith, few))) (all_numbered P total f each (n + 1) xs (omega (arith, few)))

abbrev IsVariableBelow : ℕ → ℕ × Name × Name → Type 0
IsVariableBelow total part = part.0 < total

abbrev IsClauseBelow : ℕ → ℕ × Clause → Type 0
IsClauseBelow total part = part.0 < total

variables_in : (total n : ℕ) (b : QueryBlock) → n < total → All (IsVariableBelow total) (block_variables (n, b))
variables_in total n b within =
    all_flat (IsVariableBelow total) (variable_parts n) (λ g. all_mapped (IsVariableBelow total) (λ (spot : Spot). let p : ℕ × Name × Name = (n, spot.name, g.sort) in p) (λ spot. within) g.names) b.vars

key_within : (total n : ℕ) (k : QueryKey) → n < total → All (IsClauseBelow total) (key_clauses n k)
key_within total n k within =
    let first : ℕ × Clause = (n, clause.Key k.name) in
    All-cons (IsClauseBelow total) first (map (assign_clause n k.name) k.assigns) within (all_mapped (IsClauseBelow total) (assign_clause n k.name) (λ b. within) k.assigns)

clauses_in : (total n : ℕ) (b : QueryBlock) → n < total → All (IsClauseBelow total) (block_clauses (n, b))
clauses_in total n b within =
    All-append (IsClauseBelow total) (map (test_clause n) b.tests ++ map (attribute_clause n) b.attributes) (flat_map (key_clauses n) b.keys)
    (All-append (IsClauseBelow total) (map (test_clause n) b.tests) (map (attribute_clause n) b.attributes)
    (all_mapped (IsClauseBelow total) (test_clause n) (λ e. within) b.tests) (all_mapped (IsClauseBelow total) (attribute_clause n) (λ a. within) b.attributes))
    (all_flat (IsClauseBelow total) (key_clauses n) (λ k. key_within total n k within) b.keys)

abbrev AreWithin : QueryParts → Type 0
AreWithin parts = All (IsVariableBelow (length parts.entities)) parts.vars × All (IsClauseBelow (length parts.entities)) parts.clauses

within_parts : (q : QueryLit) → AreWithin (query_parts q)
unfolding query_parts
within_parts q =
    let total : ℕ = length (map (λ (b : QueryBlock). b.entity) q.blocks) in
    let few : 0 + length q.blocks ≤ length (map (λ (b : QueryBlock). b.entity) q.blocks) = omega (arith, length-map q.blocks (λ (b : QueryBlock). b.entity)) in (
      all_numbered (IsVariableBelow total) total block_variables (variables_in total) 0 q.blocks few,
      all_numbered (IsClauseBelow total) total block_clauses (clauses_in total) 0 q.blocks few,
    )

pub variables_within : (q : QueryLit) (parts : QueryParts) → parts ≡ query_parts q → All (λ part. part.0 < length parts.entities) parts.vars
variables_within q parts is = (subst AreWithin (sym is) (within_parts q)).0

pub clauses_within : (q : QueryLit) (parts : QueryParts) → parts ≡ query_parts q → All (λ part. part.0 < length parts.entities) parts.clauses
clauses_within q parts is = (subst AreWithin (sym is) (within_parts q)).1

enumerated_last : {X : Type 0} (n : ℕ) (xs : List X) (x : X) → enumerate_from n (xs ++ x ∷ []) ≡ enumerate_from n xs ++ (n + length xs, x) ∷ []
enumerated_last n [] x = let here : n ≡ n + 0 = omega arith in ap (λ m. (m, x) ∷ []) here
enumerated_last n (y ∷ ys) x =
    let there : n + 1 + length ys ≡ n + length (y ∷ ys) = omega arith in
    ap (λ l. (n, y) ∷ l) (enumerated_last (n + 1) ys x ∙ ap (λ m. enumerate_from (n + 1) ys ++ (m, x) ∷ []) there)

-- one member more of a numbered list
pub numbered_more : {X Y : Type 0} (f : ℕ × X → List Y) (xs : List X) (n : ℕ) (x : X) (before after : List Y) → n < length xs → x ≡ get_or xs n x
    → before ≡ flat_map f (enumerate_from 0 (take n xs)) → after ≡ before ++ f (n, x) → after ≡ flat_map f (enumerate_from 0 (take (n + 1) xs))
numbered_more {X} {Y} f xs n x before after inside is so_far more =
    let taken : length (take n xs) ≡ n = length-take-le n xs (omega (arith, inside)) in
    let here : 0 + length (take n xs) ≡ n = omega (arith, taken) in
    let longer : enumerate_from 0 (take (n + 1) xs) ≡ enumerate_from 0 (take n xs) ++ (n, x) ∷ [] =
    ap (enumerate_from 0) (take_more xs n x inside ∙ (λ i. take n xs ++ sym is i ∷ [])) ∙ enumerated_last 0 (take n xs) x
    ∙ ap (λ m. enumerate_from 0 (take n xs) ++ (m, x) ∷ []) here in
    more ∙ ap (λ (l : List Y). l ++ f (n, x)) so_far ∙ ap (λ (l : List Y). flat_map f (enumerate_from 0 (take n xs)) ++ l) (sym (append-nil (f (n, x))))
    ∙ sym (flat_map-append f (enumerate_from 0 (take n xs)) ((n, x) ∷ [])) ∙ ap (flat_map f) (sym longer)
