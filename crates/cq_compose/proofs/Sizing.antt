-- Where a block of a composite is too large, by what is counted.
use Rattle.std.proofs.Common.{ℕ, zero, suc, Bool, true, false, List, [], ◌∷◌, ◌++◌, Option, Some, None, ◌≡◌, ◌<◌, ◌≤◌, ◌+◌, ◌||◌, map, sum, take, length, refl, sym, ap, subst, ◌∙◌, arith, slice_index_or, get_or}
use Rattle.std.specs.Prelude.{slice_get, nat_lt, codes, decimal}
use Rattle.std.specs.List.{flat_map, enumerate_from, list_any}
use Rattle.std.proofs.lemmas.List.{length-map, take_more, map-append}
use Rattle.std.proofs.lemmas.List.Folds.{list_any-append}
use Rattle.std.proofs.lemmas.List.FromFn.{length-enumerate_from}
use Rattle.std.proofs.lemmas.List.Sums.{sum_by-append, sum_by-cons}
use Rattle.std.proofs.lemmas.Bool.Decides.{nat_tests}
use Rattle.std.proofs.lemmas.Option.{slice_get_within}
use Rattle.cq_base.specs.declared.name.Name.{Name}
use Rattle.cq_theory.specs.declared.presentation.Equation.{Equation}
use Rattle.cq_theory.specs.declared.presentation.Equation.TheVariants as equation
use Rattle.cq_theory.specs.declared.term.EntTerm.{EntTerm}
use Rattle.cq_theory.specs.declared.term.TypeTerm.{TypeTerm}
use Rattle.cq_theory.specs.EntTerm as ent
use Rattle.cq_theory.specs.EntTerm.{alone, extended}
use Rattle.cq_theory.specs.TypeTerm as typ
use Rattle.cq_theory.specs.TypeTerm.{symbols_step}
use Rattle.cq_theory.specs.Derivation.{left_of, right_of}
use Rattle.cq_theory.specs.Presentation.{term_symbols, is_long, has_long_side}
use Rattle.cq_theory.proofs.Faults.{made_of}
use Rattle.cq_theory.proofs.TypeTerms.{fold-Gen, fold-Const, fold-Att, fold-Fun, Each, on_terms}
use Rattle.cq_blocks.specs.declared.block.Block.{Block}
use Rattle.cq_query.specs.QueryData.{QueryData as Query}
use Rattle.cq_query.specs.Puts.{put, put_type, put_type_step, put_equation}
use Rattle.cq_query.specs.Translation.{variables_at, variables_in, tests_at, tests_in}
use Rattle.cq_query.specs.IsQuery.{IsQuery}
use Rattle.cq_query.proofs.SortedDuties.{All_in, all_flat_map}
use Rattle.cq_compose.specs.Composite.{numbered, width, components, term_components, translated, translated_test, component_entities, composite_tests, composite_block, is_large_block}
use Rattle.cq_compose.specs.Counting.{widths, start_in, has_long_test, has_long_attribute, has_long_key, has_long_term}
use Rattle.cq_compose.proofs.Following.{first_or_index, no_keys}
use Rattle.cq_compose.proofs.Places.{length-flat}

-- Whether a member passes a test.
any_map : {X Y : Type 0} (p : Y → Bool) (f : X → Y) (xs : List X) → list_any p (map f xs) ≡ list_any (λ x. p (f x)) xs
any_map p f [] = refl
any_map p f (x ∷ xs) = ap (λ b. p (f x) || b) (any_map p f xs)

any_flat : {X Y : Type 0} (p : Y → Bool) (f : X → List Y) (xs : List X) → list_any p (flat_map f xs) ≡ list_any (λ x. list_any p (f x)) xs
any_flat p f [] = refl
any_flat p f (x ∷ xs) = list_any-append p (f x) (flat_map f xs) ∙ ap (λ b. list_any p (f x) || b) (any_flat p f xs)

none_of : {X : Type 0} (p : X → Bool) (xs : List X) → All_in (λ x. p x ≡ false) xs → list_any p xs ≡ false
none_of p [] h = refl
none_of p (x ∷ xs) h = ap (λ b. b || list_any p xs) (h 0 x refl) ∙ none_of p xs (λ n y at. h (suc n) y at)

short : (n : ℕ) → n ≤ 1024 → nat_lt 1024 n ≡ false
short n h = grind (arith, nat_tests)

is_more : (n : ℕ) → 16000000 < n → nat_lt 16000000 n ≡ true
is_more n h = grind (arith, nat_tests)

is_less : (n : ℕ) → n ≤ 16000000 → nat_lt 16000000 n ≡ false
is_less n h = grind (arith, nat_tests)

module _ (Q W : Query) (u : ℕ) where
  -- a variable's components in place of generators leave terms as long as they are
  put_as_long : (y : ℕ) (t : EntTerm) → ent.symbols_of (put (components Q W u y) t) ≡ ent.symbols_of t
  put_as_long y t =
      ap (λ (s : EntTerm). ent.symbols_of (extended s t.path)) (first_or_index (components Q W u y) t.generator)
      ∙ ap (λ p. length (p ++ t.path) + 1) (no_keys Q W u y t.generator)

  all_as_long : (y : ℕ) (ts : List TypeTerm) → Each (λ t. typ.symbols_of (put_type (components Q W u y) t) ≡ typ.symbols_of t) ts
      → map typ.symbols_of (map (put_type (components Q W u y)) ts) ≡ map typ.symbols_of ts
  all_as_long y [] each = refl
  all_as_long y (t ∷ ts) each =
      let first : typ.symbols_of (put_type (components Q W u y) t) ≡ typ.symbols_of t = each.0 in
      let rest = all_as_long y ts each.1 in
      λ i. first i ∷ rest i

  put_type_as_long : (y : ℕ) (t : TypeTerm) → typ.symbols_of (put_type (components Q W u y) t) ≡ typ.symbols_of t
  put_type_as_long y = on_terms (λ t. typ.symbols_of (put_type (components Q W u y) t) ≡ typ.symbols_of t)
      (λ n. ap typ.symbols_of (fold-Gen TypeTerm (put_type_step (components Q W u y)) n))
      (λ c. ap typ.symbols_of (fold-Const TypeTerm (put_type_step (components Q W u y)) c))
      (λ a t. ap typ.symbols_of (fold-Att TypeTerm (put_type_step (components Q W u y)) a t) ∙ fold-Att ℕ symbols_step a (put (components Q W u y) t)
      ∙ ap (λ n. n + 1) (put_as_long y t) ∙ sym (fold-Att ℕ symbols_step a t))
      (λ f ts each. ap typ.symbols_of (fold-Fun TypeTerm (put_type_step (components Q W u y)) f ts) ∙ fold-Fun ℕ symbols_step f (map (put_type (components Q W u y)) ts)
      ∙ ap (λ ns. sum ns + 1) (all_as_long y ts each) ∙ sym (fold-Fun ℕ symbols_step f ts))

  put_equation_short : (y : ℕ) (e : Equation) → term_symbols (left_of e) ≤ 1024 → term_symbols (right_of e) ≤ 1024 → has_long_side (put_equation (components Q W u y) e) ≡ false
  put_equation_short y (equation.Ent t v) left right =
      (λ i. nat_lt 1024 (put_as_long y t i) || nat_lt 1024 (put_as_long y v i)) ∙ (λ i. short (ent.symbols_of t) left i || short (ent.symbols_of v) right i)
  put_equation_short y (equation.Typ t v) left right =
      (λ i. nat_lt 1024 (put_type_as_long y t i) || nat_lt 1024 (put_type_as_long y v i)) ∙ (λ i. short (typ.symbols_of t) left i || short (typ.symbols_of v) right i)

  module _ (first : IsQuery Q) where
    test_short : (e n : ℕ) (x : Equation) → slice_get (tests_at Q e) n ≡ Some x → (term_symbols (left_of x) ≤ 1024) × (term_symbols (right_of x) ≤ 1024)
    test_short e n x at = at_block (slice_get Q.blocks e) refl at
      where
        at_block : (o : Option Block) → slice_get Q.blocks e ≡ o → slice_get (tests_in o) n ≡ Some x → (term_symbols (left_of x) ≤ 1024) × (term_symbols (right_of x) ≤ 1024)
        at_block None is h = cc
        at_block (Some b) is h =
            let inside : e < length Q.target.entities = omega (arith, first.blocks, slice_get_within Q.blocks e b is) in
            let test = (first.each_frozen e inside).equations n x at in
            (test.left_fits, test.right_fits)

    first_short : list_any has_long_side (flat_map (λ (y : ℕ × (Name × ℕ)). map (put_equation (components Q W u y.0)) (tests_at Q y.1.1)) (enumerate_from 0 (variables_at W u))) ≡ false
    first_short =
        none_of has_long_side (flat_map (λ (y : ℕ × (Name × ℕ)). map (put_equation (components Q W u y.0)) (tests_at Q y.1.1)) (enumerate_from 0 (variables_at W u)))
        (all_flat_map (λ e. has_long_side e ≡ false) (λ (y : ℕ × (Name × ℕ)). map (put_equation (components Q W u y.0)) (tests_at Q y.1.1)) (enumerate_from 0 (variables_at W u)) (λ p y at n e at'.
        let made = made_of (put_equation (components Q W u y.0)) (tests_at Q y.1.1) n e at' in
        let fits = test_short y.1.1 n made.0 made.1 in
        ap has_long_side made.2 ∙ put_equation_short y.0 made.0 fits.0 fits.1))

    module _ (b : Block) (there : slice_get W.blocks u ≡ Some b) where
      count_is : length (numbered (component_entities Q W u)) ≡ sum (widths Q b.vars)
      count_is =
          length-map (enumerate_from 1 (component_entities Q W u)) (λ (p : ℕ × ℕ). let v : Name × ℕ = (codes "x" ++ decimal p.0, p.1) in v) ∙ length-enumerate_from 1 (component_entities Q W u)
          ∙ ap (λ o. length (flat_map (λ (y : Name × ℕ). map (λ (v : Name × ℕ). v.1) (variables_at Q y.1)) (variables_in o))) there
          ∙ length-flat {V = Name × ℕ} (λ (y : Name × ℕ). map (λ (v : Name × ℕ). v.1) (variables_at Q y.1)) (λ (y : Name × ℕ). length (variables_at Q y.1)) b.vars (λ (y : Name × ℕ). length (variables_at Q y.1))
          (λ y. length-map (variables_at Q y.1) (λ (v : Name × ℕ). v.1))

      tests_are : list_any has_long_side (composite_tests Q W u) ≡ has_long_test Q W u b.tests
      tests_are =
          list_any-append has_long_side (flat_map (λ (y : ℕ × (Name × ℕ)). map (put_equation (components Q W u y.0)) (tests_at Q y.1.1)) (enumerate_from 0 (variables_at W u))) (flat_map (translated_test Q W u) (tests_at W u))
          ∙ ap (λ c. c || list_any has_long_side (flat_map (translated_test Q W u) (tests_at W u))) first_short
          ∙ any_flat has_long_side (translated_test Q W u) (tests_at W u) ∙ ap (λ o. has_long_test Q W u (tests_in o)) there

      attributes_are : list_any (λ t. nat_lt 1024 (typ.symbols_of t)) (map (translated Q W u) b.attributes) ≡ has_long_attribute Q W u b.attributes
      attributes_are = any_map (λ t. nat_lt 1024 (typ.symbols_of t)) (translated Q W u) b.attributes

      keys_are : list_any (list_any (λ t. nat_lt 1024 (ent.symbols_of t))) (map (flat_map (term_components Q W u)) b.keys) ≡ has_long_key Q W u b.keys
      keys_are =
          any_map (list_any (λ t. nat_lt 1024 (ent.symbols_of t))) (flat_map (term_components Q W u)) b.keys
          ∙ λ i. list_any (λ ts. any_flat (λ t. nat_lt 1024 (ent.symbols_of t)) (term_components Q W u) ts i) b.keys

      -- too many variables
      pub many_large : 16000000 < sum (widths Q b.vars) → is_large_block (composite_block Q W (u, b)) ≡ true
      many_large h =
          ap (λ c. c || list_any has_long_side (composite_tests Q W u) || list_any (λ t. nat_lt 1024 (typ.symbols_of t)) (map (translated Q W u) b.attributes)
          || list_any (list_any (λ t. nat_lt 1024 (ent.symbols_of t))) (map (flat_map (term_components Q W u)) b.keys)) (ap (nat_lt 16000000) count_is ∙ is_more (sum (widths Q b.vars)) h)

      -- where the variables are not too many, the terms decide
      pub few_large : sum (widths Q b.vars) ≤ 16000000 → is_large_block (composite_block Q W (u, b)) ≡ has_long_term Q W u b
      few_large h =
          ap (λ c. c || list_any has_long_side (composite_tests Q W u) || list_any (λ t. nat_lt 1024 (typ.symbols_of t)) (map (translated Q W u) b.attributes)
          || list_any (list_any (λ t. nat_lt 1024 (ent.symbols_of t))) (map (flat_map (term_components Q W u)) b.keys)) (ap (nat_lt 16000000) count_is ∙ is_less (sum (widths Q b.vars)) h)
          ∙ (λ i. tests_are i || attributes_are i || keys_are i)

      pub few_components : sum (widths Q b.vars) ≤ 16000000 → length (component_entities Q W u) ≤ 16000000
      few_components h =
          let named : length (numbered (component_entities Q W u)) ≡ length (component_entities Q W u) =
          length-map (enumerate_from 1 (component_entities Q W u)) (λ (p : ℕ × ℕ). let v : Name × ℕ = (codes "x" ++ decimal p.0, p.1) in v) ∙ length-enumerate_from 1 (component_entities Q W u) in
          omega (arith, named, count_is, h)

-- The starts.
module _ (Q : Query) (variables : List (Name × ℕ)) where
  pub start_more : (i : ℕ) (d : Name × ℕ) → i < length variables → start_in Q variables (i + 1) ≡ start_in Q variables i + length (variables_at Q (get_or variables i d).1)
  start_more i d within =
      let w : Name × ℕ → ℕ = λ v. length (variables_at Q v.1) in
      let one : 0 + length (variables_at Q (get_or variables i d).1) ≡ length (variables_at Q (get_or variables i d).1) = omega arith in
      ap (λ l. sum (map (λ (v : Name × ℕ). length (variables_at Q v.1)) l)) (take_more variables i d within)
      ∙ ap sum (map-append (λ (v : Name × ℕ). length (variables_at Q v.1)) (take i variables) (get_or variables i d ∷ []))
      ∙ sum_by-append (λ n. n) (widths Q (take i variables)) (length (variables_at Q (get_or variables i d).1) ∷ [])
      ∙ ap (λ n. start_in Q variables i + n) one

pub sum_of_first : (f : Name × ℕ → ℕ) (vs : List (Name × ℕ)) (i : ℕ) → sum (map f (take i vs)) ≤ sum (map f vs)
sum_of_first f vs zero = omega arith
sum_of_first f [] (suc i) = omega arith
sum_of_first f (v ∷ vs) (suc i) =
    let rest = sum_of_first f vs i in
    let front : sum (map f (take (suc i) (v ∷ vs))) ≡ f v + sum (map f (take i vs)) = sum_by-cons (λ n. n) (f v) (map f (take i vs)) in
    let all : sum (map f (v ∷ vs)) ≡ f v + sum (map f vs) = sum_by-cons (λ n. n) (f v) (map f vs) in
    omega (arith, rest, front, all)
