-- Bounds that grow.
use Rattle.std.proofs.Common.{ℕ, List, [], ◌∷◌, ◌≡◌, ◌<◌, ◌≤◌, ◌+◌, ◌*◌, length, map, sum, take, get_or, sym, ap, subst, ◌∙◌, arith}
use Rattle.std.specs.Prelude.{All, IfSome, Option, Some, None}
use Rattle.std.proofs.Math.Nat.{mul-le-mul_right}
use Rattle.std.proofs.lemmas.List.{take_all, take_more, map-append}
use Rattle.std.proofs.lemmas.List.Sums.{sum_by-append, sum_by-cons}
use Rattle.std.proofs.lemmas.List.Elements.{All-more}
use Rattle.cq_theory.specs.declared.presentation.Equation.{Equation}
use Rattle.cq_theory.specs.declared.presentation.Equation.TheVariants as equation
use Rattle.cq_theory.specs.declared.term.EntTerm.{EntTerm}
use Rattle.cq_theory.specs.declared.term.TypeTerm.{TypeTerm}
use Rattle.cq_blocks.specs.declared.block.Block.{Block}
use Rattle.cq_query.specs.QueryData.{QueryData as Query}
use Rattle.cq_lazy.specs.declared.lengths.Lengths.{Lengths}
use Rattle.cq_lazy.specs.Lengths.{length_at, IsShortKey, IsShortAttribute, IsShortTest, IsShortBlock, AreLengths, AreWider}

pub wider_itself : (m : Lengths) → AreWider m m
wider_itself m = record { keys = omega arith; symbols = omega arith; leaves = omega arith; most = omega arith }

pub wider_twice : (m n k : Lengths) → AreWider m n → AreWider n k → AreWider m k
wider_twice m n k h i = record {
  keys = omega (arith, h.keys, i.keys);
  symbols = omega (arith, h.symbols, i.symbols);
  leaves = omega (arith, h.leaves, i.leaves);
  most = omega (arith, h.most, i.most);
}

-- what holds of each member goes on holding
all_wider : {X : Type 0} (P R : X → Type 0) → ((x : X) → P x → R x) → (xs : List X) → All P xs → All R xs
all_wider P R h xs all k d within = h _ (all k d within)

module _ (m n k : Lengths) (wider : AreWider n k) where
  pub key_wider : (t : EntTerm) → IsShortKey m n t → IsShortKey m k t
  key_wider t h = omega (arith, h, wider.keys)

  pub keys_wider : (ts : List EntTerm) → All (IsShortKey m n) ts → All (IsShortKey m k) ts
  keys_wider ts = all_wider (IsShortKey m n) (IsShortKey m k) key_wider ts

  pub attribute_wider : (t : TypeTerm) → IsShortAttribute m n t → IsShortAttribute m k t
  attribute_wider t h x = omega (arith, h x, wider.symbols, mul-le-mul_right x wider.leaves)

  pub test_wider : (e : Equation) → IsShortTest m n.most e → IsShortTest m k.most e
  test_wider (equation.Ent t u) h = (omega (arith, h.0, wider.most), omega (arith, h.1, wider.most))
  test_wider (equation.Typ t u) h = (omega (arith, h.0, wider.most), omega (arith, h.1, wider.most))

  pub tests_wider : (es : List Equation) → All (IsShortTest m n.most) es → All (IsShortTest m k.most) es
  tests_wider es = all_wider (IsShortTest m n.most) (IsShortTest m k.most) test_wider es

  pub attributes_wider : (ts : List TypeTerm) → All (IsShortAttribute m n) ts → All (IsShortAttribute m k) ts
  attributes_wider ts = all_wider (IsShortAttribute m n) (IsShortAttribute m k) attribute_wider ts

  pub block_wider : (b : Block) → IsShortBlock m n b → IsShortBlock m k b
  block_wider b h = record {
    tests = tests_wider b.tests h.tests;
    attributes = attributes_wider b.attributes h.attributes;
    keys = all_wider (All (IsShortKey m n)) (All (IsShortKey m k)) keys_wider b.keys h.keys;
  }

-- one member more
pub wider_more : {X : Type 0} (P : Lengths → X → Type 0) → ((n k : Lengths) → AreWider n k → (x : X) → P n x → P k x) → (xs : List X) (i : ℕ) (d : X) (first old new : Lengths) → i < length xs
    → AreWider first old × All (P old) (take i xs) → AreWider old new × P new (get_or xs i d) → AreWider first new × All (P new) (take (i + 1) xs)
wider_more P mono xs i d first old new within so_far next =
    (wider_twice first old new so_far.0 next.0, All-more (P new) xs i d within (all_wider (P old) (P new) (mono old new next.0) (take i xs) so_far.1) next.1)

-- no member at first
pub wider_none : {X : Type 0} (P : Lengths → X → Type 0) (xs : List X) (m : Lengths) → AreWider m m × All (P m) (take 0 xs)
wider_none P xs m = (wider_itself m, λ k d within. absurd (none xs k within))
  where
    none : {X : Type 0} (ys : List X) (k : ℕ) → k < length (take 0 ys) → ⊥
    none [] k h = omega arith
    none (y ∷ ys) k h = omega arith

-- and all at the end
pub wider_all : {X : Type 0} (P : Lengths → X → Type 0) (xs : List X) (i : ℕ) (m n : Lengths) → length xs ≤ i → AreWider m n × All (P n) (take i xs) → AreWider m n × All (P n) xs
wider_all P xs i m n past h = (h.0, subst (All (P n)) (take_all i xs past) h.1)

-- a sum of lengths with one summand more
pub line_more : (f : TypeTerm → ℕ) (ts : List TypeTerm) (i : ℕ) (d : TypeTerm) (x s l s' l' s'' l'' : ℕ) → i < length ts → sum (map f (take i ts)) + 1 ≡ s + l * x → f (get_or ts i d) ≡ s' + l' * x
    → s'' ≡ s + s' → l'' ≡ l + l' → sum (map f (take (i + 1) ts)) + 1 ≡ s'' + l'' * x
line_more f ts i d x s l s' l' s'' l'' within before next symbols leaves =
    let more : sum (map f (take (i + 1) ts)) ≡ sum (map f (take i ts)) + sum (f (get_or ts i d) ∷ []) =
    ap (λ l. sum (map f l)) (take_more ts i d within) ∙ ap sum (map-append f (take i ts) (get_or ts i d ∷ [])) ∙ sum_by-append (λ n. n) (map f (take i ts)) (f (get_or ts i d) ∷ []) in
    let one : sum (f (get_or ts i d) ∷ []) ≡ f (get_or ts i d) + 0 = sum_by-cons (λ n. n) (f (get_or ts i d)) [] in
    let both : l'' * x ≡ (l + l') * x = ap (λ n. n * x) leaves in
    omega (arith, more, one, before, next, symbols, both)

pub if_some : {X : Type 0} (r : Option X) (P R : X → Type 0) → ((x : X) → P x → R x) → IfSome r P → IfSome r R
if_some None P R f h = tt
if_some (Some x) P R f h = f x h

-- the bounds of a query, by those of its blocks
pub lengths_closed : (m none found closed : Lengths) (Q : Query) (bs : List Block) → bs ≡ Q.blocks → 1 ≤ none.symbols → AreWider none found × All (IsShortBlock m found) bs
    → AreWider found closed × (closed.symbols ≤ closed.most) × (closed.keys + 1 ≤ closed.most) × (closed.most ≤ 1024)
    → AreLengths m Q closed × (none.most ≤ closed.most) × (closed.most ≤ 1024)
lengths_closed m none found closed Q bs same some so_far done =
    let wider = wider_twice none found closed so_far.0 done.0 in (
      record {
        some = omega (arith, some, wider.symbols);
        symbols = done.1;
        keys = done.2;
        blocks = subst (All (IsShortBlock m closed)) same (all_wider (IsShortBlock m found) (IsShortBlock m closed) (block_wider m found closed done.0) bs so_far.1);
      },
      wider.most,
      done.3,
    )

-- a where equation between type terms
pub typ_short : (m : Lengths) (most : ℕ) (t u : TypeTerm) (e : Equation) → e ≡ equation.Typ t u → length_at m 0 t ≤ most → length_at m 0 u ≤ most → IsShortTest m most e
typ_short m most t u e is left right = subst (IsShortTest m most) (sym is) (left, right)

-- the bounds of a block
pub block_covered : (m found by_tests by_attributes : Lengths) (b : Block) (tests : List Equation) (attributes : List TypeTerm) (keys : List (List EntTerm)) → tests ≡ b.tests → attributes ≡ b.attributes → keys ≡ b.keys
    → AreWider found by_tests × All (IsShortTest m by_tests.most) tests → AreWider by_tests by_attributes × All (IsShortAttribute m by_attributes) attributes
    → (r : Option Lengths) → IfSome r (λ wide. AreWider by_attributes wide × All (All (IsShortKey m wide)) keys) → IfSome r (λ wide. AreWider found wide × IsShortBlock m wide b)
block_covered m found by_tests by_attributes b tests attributes keys tests_are attributes_are keys_are first second r told =
    if_some r (λ wide. AreWider by_attributes wide × All (All (IsShortKey m wide)) keys) (λ wide. AreWider found wide × IsShortBlock m wide b) (λ wide h.
    let later : AreWider by_tests wide = wider_twice by_tests by_attributes wide second.0 h.0 in (
      wider_twice found by_tests wide first.0 later,
      record {
        tests = subst (All (IsShortTest m wide.most)) tests_are (tests_wider m by_tests wide later tests first.1);
        attributes = subst (All (IsShortAttribute m wide)) attributes_are (attributes_wider m by_attributes wide h.0 attributes second.1);
        keys = subst (All (All (IsShortKey m wide))) keys_are h.1;
      },
    )) told
