-- The where equations of each block in one pass over the clauses, and the blocks made with them.
use Rattle.std.proofs.Common.{ℕ, zero, suc, false, List, [], ◌∷◌, ◌++◌, ◌≡◌, ◌<◌, ◌≤◌, ◌+◌, ◌-◌, ◌==◌, if◌then◌else◌, inl, inr, map, length, refl, sym, ap, ◌∙◌, arith, length-append}
use Rattle.std.specs.Prelude.{slice_get, slice_index}
use Rattle.std.specs.List.{flat_map, range_with_len}
use Rattle.std.proofs.lemmas.Bool.{cases_eq, ne_eqb}
use Rattle.std.proofs.lemmas.List.FromFn.{map-range_with_len_more}
use Rattle.cq_base.specs.declared.name.Name.{Name}
use Rattle.cq_theory.specs.declared.presentation.Equation.{Equation}
use Rattle.cq_theory.specs.SchemaData.{SchemaData as Schema}
use Rattle.cq_theory.specs.Canonical.{below}
use Rattle.cq_blocks.specs.declared.parts.Clause.{Clause}
use Rattle.cq_blocks.specs.declared.block.Block.{Block}
use Rattle.cq_theory.specs.Groups.{positions}
use Rattle.cq_theory.specs.Groups.{edge_sources}
use Rattle.cq_blocks.specs.Blocks.{scope_or_none, test_made, test_in, tests_made, attribute_made, key_made, block_in, block_made}

-- a list that is made from a function of the numbers from k up to n, and its first item
next_left : {Y : Type 0} (f : ℕ → Y) (n k : ℕ) (y : Y) (ys : List Y) → y ∷ ys ≡ map f (range_with_len k (n - k)) → (k < n) × (y ≡ f k) × (ys ≡ map f (range_with_len (k + 1) (n - (k + 1))))
next_left f n k y ys is = by_size (n - k) refl is
  where
    by_size : (m : ℕ) → n - k ≡ m → y ∷ ys ≡ map f (range_with_len k m) → (k < n) × (y ≡ f k) × (ys ≡ map f (range_with_len (k + 1) (n - (k + 1))))
    by_size zero size is' = cc
    by_size (suc m) size is' =
        let rest : ys ≡ map f (range_with_len (k + 1) m) = cc in
        let less : m ≡ n - (k + 1) = omega arith in
        (omega arith, cc, rest ∙ ap (λ j. map f (range_with_len (k + 1) j)) less)

none_left : {Y : Type 0} (f : ℕ → Y) (n k : ℕ) → [] ≡ map f (range_with_len k (n - k)) → n ≤ k
none_left f n k is = by_size (n - k) refl is
  where
    by_size : (m : ℕ) → n - k ≡ m → [] ≡ map f (range_with_len k m) → n ≤ k
    by_size zero size is' = omega arith
    by_size (suc m) size is' = cc

module _ (S : Schema) (entities : List ℕ) (scopes : List (List (Name × ℕ))) where
  abbrev owner : ℕ × Clause → ℕ
  owner c = slice_index entities c.0

  -- the where equation of a clause, over the variables of its own block
  abbrev pub own_test : ℕ × Clause → List Equation
  own_test c = test_made S (scope_or_none (slice_get scopes (owner c))) c.1

  -- what the clauses give to the block of an entity
  abbrev pub tests_given : List (ℕ × Clause) → ℕ → List Equation
  tests_given clauses e = flat_map (λ c. if owner c == e then own_test c else []) clauses

  one_given : (e : ℕ) (c : ℕ × Clause) → (if owner c == e then own_test c else []) ≡ test_in S entities (scope_or_none (slice_get scopes e)) e c
  one_given e c = elim (cases_eq (owner c) e) [
    | inl same ↦ ap (λ m. if owner c == e then test_made S (scope_or_none (slice_get scopes m)) c.1 else []) same
    | inr other ↦
        let unlike : (owner c == e) ≡ false = ne_eqb (owner c) e other in
        ap (λ b. if b then own_test c else []) unlike ∙ sym (ap (λ b. if b then test_made S (scope_or_none (slice_get scopes e)) c.1 else []) unlike)
  ]

  pub all_given : (clauses : List (ℕ × Clause)) (count : ℕ) → map (tests_given clauses) (below count) ≡ map (tests_made S entities scopes clauses) (below count)
  all_given clauses count = λ i. map (λ e. flat_map (λ c. one_given e c i) clauses) (below count)

module _ (S T : Schema) (entities : List ℕ) (scopes : List (List (Name × ℕ))) (clauses : List (ℕ × Clause)) where
  -- the block of an entity with these where equations
  abbrev pub with_tests : ℕ → List Equation → Block
  with_tests entity tests = record {
    vars = scope_or_none (slice_get scopes entity);
    tests = tests;
    attributes = map (attribute_made S T scopes clauses) (positions (edge_sources T.attributes) entity);
    keys = map (key_made S T scopes clauses) (positions (edge_sources T.keys) entity);
  }

  block_is : (entity : ℕ) (tests : List Equation) → tests ≡ tests_made S entities scopes clauses entity → with_tests entity tests ≡ block_made S T entities scopes clauses entity
  unfolding block_in
  block_is entity tests is = ap (with_tests entity) is

  -- the first blocks are made, and the where equations of the others are left
  pub record IsUpTo (made : List Block) (left : List (List Equation)) : Type 0 where
    pub blocks : made ≡ map (block_made S T entities scopes clauses) (below (length made))
    pub within : length made ≤ length T.entities
    pub others : left ≡ map (tests_made S entities scopes clauses) (range_with_len (length made) (length T.entities - length made))

  pub more_left : (made : List Block) (tests : List Equation) (left : List (List Equation)) → IsUpTo made (tests ∷ left) → length made < length T.entities
  more_left made tests left before = (next_left (tests_made S entities scopes clauses) (length T.entities) (length made) tests left before.others).0

  pub one_more : (made now : List Block) (tests : List Equation) (left : List (List Equation)) (block : Block) → IsUpTo made (tests ∷ left) → block ≡ with_tests (length made) tests
      → now ≡ made ++ block ∷ [] → IsUpTo now left
  one_more made now tests left block before is now_is =
      let next = next_left (tests_made S entities scopes clauses) (length T.entities) (length made) tests left before.others in
      let size : length made + 1 ≡ length now = sym (ap length now_is ∙ length-append made (block ∷ [])) in
      record {
        blocks =
            now_is ∙ (λ i. before.blocks i ++ (is ∙ block_is (length made) tests next.1) i ∷ [])
            ∙ sym (map-range_with_len_more (block_made S T entities scopes clauses) 0 (length made) (length made) (omega arith))
            ∙ ap (λ n. map (block_made S T entities scopes clauses) (below n)) size;
        within = omega (arith, next.0);
        others = next.2 ∙ ap (λ n. map (tests_made S entities scopes clauses) (range_with_len n (length T.entities - n))) size;
      }

  pub all_made : (made : List Block) → IsUpTo made [] → made ≡ map (block_made S T entities scopes clauses) (below (length T.entities))
  all_made made before =
      let size : length made ≡ length T.entities = omega (arith, before.within, none_left (tests_made S entities scopes clauses) (length T.entities) (length made) before.others) in
      before.blocks ∙ ap (λ n. map (block_made S T entities scopes clauses) (below n)) size

  pub none_made : (lists : List (List Equation)) (count : ℕ) → lists ≡ map (tests_made S entities scopes clauses) (below count) → count ≡ length T.entities → IsUpTo [] lists
  none_made lists count is size = record {
    blocks = refl;
    within = omega arith;
    others =
        let all : count ≡ length T.entities - 0 = omega arith in
        is ∙ ap (λ n. map (tests_made S entities scopes clauses) (range_with_len 0 n)) all;
  }
