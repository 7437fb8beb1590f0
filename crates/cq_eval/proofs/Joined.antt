-- Answers that are found one variable at a time are all answers.
use Rattle.std.proofs.Common.{ℕ, Bool, true, false, not, cond, List, [], ◌∷◌, ◌++◌, ◌≡◌, ◌<◌, ◌≤◌, ◌+◌, ◌==◌, ◌&&◌, ◌||◌, map, filter, length, refl, sym, ap, ◌∙◌, arith, append_assoc}
use Rattle.std.specs.Prelude.{nat_le}
use Rattle.std.specs.List.{list_all, flat_map}
use Rattle.std.proofs.lemmas.Bool.Decides.{nat_tests}
use Rattle.std.proofs.lemmas.List.{map-append, append-nil, length-append}
use Rattle.std.proofs.lemmas.List.Elements.{filter-append}
use Rattle.cq_theory.specs.Canonical.{below}
use Rattle.cq_query.specs.Answers.{tuples}
use Rattle.cq_eval.specs.Join.{passes_at, passes, found}

list_all-and : {E : Type 0} (f g h : E → Bool) → ((e : E) → f e ≡ (g e && h e)) → (tests : List E) → list_all f tests ≡ (list_all g tests && list_all h tests)
list_all-and f g h each [] = refl
list_all-and f g h each (e ∷ tests) = (λ i. each e i && list_all-and f g h each tests i) ∙ four (g e) (h e) (list_all g tests) (list_all h tests)
  where
    four : (a b c d : Bool) → ((a && b) && (c && d)) ≡ ((a && c) && (b && d))
    four true true c d = refl
    four true false true d = refl
    four true false false d = refl
    four false b c d = refl

list_all-same : {E : Type 0} (f g : E → Bool) → ((e : E) → f e ≡ g e) → (tests : List E) → list_all f tests ≡ list_all g tests
list_all-same f g each [] = refl
list_all-same f g each (e ∷ tests) = λ i. each e i && list_all-same f g each tests i

-- a test with two parts, of which the first is one for all members
module _ {X : Type 0} (q : Bool) (p p' : X → Bool) where
  abbrev Splits : List X → Type 0
  Splits [] = Unit {0}
  Splits (x ∷ xs) = (p x ≡ (q && p' x)) × Splits xs

  nothing : (b : Bool) (l : List X) → l ≡ cond b l l
  nothing true l = refl
  nothing false l = refl

  split_filter : (xs : List X) → Splits xs → filter p xs ≡ cond q (filter p' xs) []
  split_filter [] h = nothing q []
  split_filter (x ∷ xs) h = (λ i. cond (h.0 i) (x ∷ split_filter xs h.1 i) (split_filter xs h.1 i)) ∙ both q (p' x) (filter p' xs)
    where
      both : (b c : Bool) (l : List X) → cond (b && c) (x ∷ cond b l []) (cond b l []) ≡ cond b (cond c (x ∷ l) l) []
      both true c l = refl
      both false c l = refl

  splits_each : ((x : X) → p x ≡ (q && p' x)) → (xs : List X) → Splits xs
  splits_each each [] = tt
  splits_each each (x ∷ xs) = (each x, splits_each each xs)

  splits_of : {Y : Type 0} (f : Y → X) → ((y : Y) → p (f y) ≡ (q && p' (f y))) → (ys : List Y) → Splits (map f ys)
  splits_of f each [] = tt
  splits_of f each (y ∷ ys) = (each y, splits_of f each ys)

map-map_same : {X Y Z : Type 0} (f : X → Y) (g : Y → Z) (h : X → Z) → ((x : X) → g (f x) ≡ h x) → (xs : List X) → map g (map f xs) ≡ map h xs
map-map_same f g h each [] = refl
map-map_same f g h each (x ∷ xs) = λ i. each x i ∷ map-map_same f g h each xs i

module _ {E : Type 0} (stage : E → ℕ) (holds : List ℕ → E → Bool) (tests : List E) (count_of_variables : ℕ)
    (within : (e : E) → stage e ≤ count_of_variables)
    (local : (e : E) (bound rest : List ℕ) → stage e < count_of_variables → stage e ≤ length bound → holds (bound ++ rest) e ≡ holds bound e) where
  abbrev N : ℕ
  N = count_of_variables

  -- each test of a later stage holds
  abbrev after : ℕ → List ℕ → Bool
  after bound rows = list_all (λ e. nat_le (stage e) bound || holds rows e) tests

  none_after : (rows : List ℕ) → after N rows ≡ true
  none_after rows = at tests
    where
      at : (es : List E) → list_all (λ e. nat_le (stage e) N || holds rows e) es ≡ true
      at [] = refl
      at (e ∷ es) = let inside : stage e ≤ N = within e in
          let first : (nat_le (stage e) N || holds rows e) ≡ true = one (holds rows e) (stage e) inside in
          λ i. first i && at es i
        where
          one : (b : Bool) (s : ℕ) → s ≤ N → (nat_le s N || b) ≡ true
          one true s h = grind (arith, nat_tests)
          one false s h = grind (arith, nat_tests)

  one_stage : (s m : ℕ) (b : Bool) → (nat_le s m || b) ≡ ((not (s == m + 1) || b) && (nat_le s (m + 1) || b))
  one_stage s m true = grind (arith, nat_tests)
  one_stage s m false = grind (arith, nat_tests)

  after_stage : (m : ℕ) (rows : List ℕ) → after m rows ≡ (passes_at stage holds tests (m + 1) rows && after (m + 1) rows)
  after_stage m rows = list_all-and (λ e. nat_le (stage e) m || holds rows e) (λ e. not (stage e == m + 1) || holds rows e) (λ e. nat_le (stage e) (m + 1) || holds rows e)
      (λ e. one_stage (stage e) m (holds rows e)) tests

  -- before the last stage the rows that are bound decide
  same_test : (bound rest : List ℕ) → length bound < N → (e : E) → (not (stage e == length bound) || holds (bound ++ rest) e) ≡ (not (stage e == length bound) || holds bound e)
  same_test bound rest inner e = at (stage e) (holds (bound ++ rest) e) (holds bound e) (λ (h : stage e ≡ length bound). local e bound rest (omega arith) (omega arith))
    where
      at : (s : ℕ) (b c : Bool) → (s ≡ length bound → b ≡ c) → (not (s == length bound) || b) ≡ (not (s == length bound) || c)
      at s true true h = refl
      at s false false h = refl
      at s true false h = grind (arith, nat_tests)
      at s false true h = grind (arith, nat_tests)

  pub passes_local : (bound rest : List ℕ) → length bound < N → passes_at stage holds tests (length bound) (bound ++ rest) ≡ passes stage holds tests bound
  passes_local bound rest inner = list_all-same (λ e. not (stage e == length bound) || holds (bound ++ rest) e) (λ e. not (stage e == length bound) || holds bound e) (same_test bound rest inner) tests

  abbrev all_from : List ℕ → List ℕ → List (List ℕ)
  all_from bound counts = map (λ rows. bound ++ rows) (tuples counts)

  -- the members that pass at a longer prefix
  step : (m : ℕ) (bound counts : List ℕ) → length bound ≡ m + 1 → length bound + length counts ≡ N
      → filter (after m) (all_from bound counts) ≡ cond (passes stage holds tests bound) (filter (after (m + 1)) (all_from bound counts)) []
  step m bound [] long whole = split_filter (passes stage holds tests bound) (after m) (after (m + 1)) (all_from bound [])
      (let same : bound ++ [] ≡ bound = append-nil bound in
      let here : passes_at stage holds tests (m + 1) (bound ++ []) ≡ passes stage holds tests bound = λ i. passes_at stage holds tests (sym long i) (same i) in
      (after_stage m (bound ++ []) ∙ ap (λ b. b && after (m + 1) (bound ++ [])) here, tt))
  step m bound (c ∷ counts) long whole = split_filter (passes stage holds tests bound) (after m) (after (m + 1)) (all_from bound (c ∷ counts))
      (splits_of (passes stage holds tests bound) (after m) (after (m + 1)) (λ rows. bound ++ rows)
      (λ rest. after_stage m (bound ++ rest)
      ∙ ap (λ b. b && after (m + 1) (bound ++ rest)) (ap (λ n. passes_at stage holds tests n (bound ++ rest)) (sym long) ∙ passes_local bound rest (omega arith)))
      (tuples (c ∷ counts)))

  module _ (counts bound : List ℕ) (whole : length bound + (length counts + 1) ≡ N)
      (shorter : (row : ℕ) → found stage holds tests counts (bound ++ row ∷ []) ≡ filter (after (length bound + 1)) (all_from (bound ++ row ∷ []) counts)) where
    abbrev longer : ℕ → List ℕ
    longer row = bound ++ row ∷ []

    abbrev rest_of : List ℕ → List (List ℕ)
    rest_of rows = found stage holds tests counts rows

    kept : (b : Bool) (rows : List ℕ) (l : List (List ℕ)) → flat_map rest_of (cond b (rows ∷ l) l) ≡ cond b (rest_of rows) [] ++ flat_map rest_of l
    kept true rows l = refl
    kept false rows l = refl

    at_row : (row : ℕ) → filter (after (length bound)) (map (λ rows. bound ++ rows) (map (λ rows. row ∷ rows) (tuples counts))) ≡ cond (passes stage holds tests (longer row)) (rest_of (longer row)) []
    at_row row =
        let long : length (longer row) ≡ length bound + 1 = simp length-append refl in
        ap (filter (after (length bound))) (map-map_same (λ rows. row ∷ rows) (λ rows. bound ++ rows) (λ rows. longer row ++ rows) (λ rows. sym (append_assoc bound (row ∷ []) rows)) (tuples counts))
        ∙ step (length bound) (longer row) counts long (omega (arith, long, whole))
        ∙ ap (λ l. cond (passes stage holds tests (longer row)) l []) (sym (shorter row))

    each : (xs : List ℕ) → flat_map rest_of (filter (passes stage holds tests) (map longer xs))
        ≡ filter (after (length bound)) (map (λ rows. bound ++ rows) (flat_map (λ row. map (λ rows. row ∷ rows) (tuples counts)) xs))
    each [] = refl
    each (row ∷ xs) =
        let first : List (List ℕ) = map (λ rows. row ∷ rows) (tuples counts) in
        let others : List (List ℕ) = flat_map (λ row. map (λ rows. row ∷ rows) (tuples counts)) xs in
        kept (passes stage holds tests (longer row)) (longer row) (filter (passes stage holds tests) (map longer xs))
        ∙ (λ i. sym (at_row row) i ++ each xs i)
        ∙ sym (ap (filter (after (length bound))) (map-append (λ rows. bound ++ rows) first others)
        ∙ filter-append (after (length bound)) (map (λ rows. bound ++ rows) first) (map (λ rows. bound ++ rows) others))

  pub found_all : (counts bound : List ℕ) → length bound + length counts ≡ N → found stage holds tests counts bound ≡ filter (after (length bound)) (all_from bound counts)
  found_all [] bound whole =
      let last : length bound ≡ N = omega arith in
      let all : after (length bound) (bound ++ []) ≡ true = ap (λ n. after n (bound ++ [])) last ∙ none_after (bound ++ []) in
      ap (λ b. b ∷ []) (sym (append-nil bound)) ∙ ap (λ b. cond b ((bound ++ []) ∷ []) []) (sym all)
  found_all (count ∷ counts) bound whole =
      each counts bound (omega arith)
      (λ row.
      let long : length (bound ++ row ∷ []) ≡ length bound + 1 = simp length-append refl in
      found_all counts (bound ++ row ∷ []) (omega (arith, long, whole)) ∙ ap (λ n. filter (after n) (all_from (bound ++ row ∷ []) counts)) long)
      (below count)

  zero_stage : (s : ℕ) (b : Bool) → b ≡ ((not (s == 0) || b) && (nat_le s 0 || b))
  zero_stage s true = grind (arith, nat_tests)
  zero_stage s false = grind (arith, nat_tests)

  start_stage : (rows : List ℕ) → list_all (holds rows) tests ≡ (passes_at stage holds tests 0 rows && after 0 rows)
  start_stage rows = list_all-and (holds rows) (λ e. not (stage e == 0) || holds rows e) (λ e. nat_le (stage e) 0 || holds rows e) (λ e. zero_stage (stage e) (holds rows e)) tests

  at_start : (counts : List ℕ) → length counts ≡ N → Splits (passes stage holds tests []) (λ rows. list_all (holds rows) tests) (after 0) (tuples counts)
  at_start [] whole = (start_stage [], tt)
  at_start (count ∷ counts) whole = splits_each (passes stage holds tests []) (λ rows. list_all (holds rows) tests) (after 0)
      (λ rows. start_stage rows ∙ ap (λ b. b && after 0 rows) (passes_local [] rows (omega arith))) (tuples (count ∷ counts))

  same_map : {X : Type 0} (xs : List X) → map (λ x. x) xs ≡ xs
  same_map [] = refl
  same_map (x ∷ xs) = ap (λ l. x ∷ l) (same_map xs)

  -- the answers are what is found from no rows, if the where equations without variables hold
  pub all_found : (counts : List ℕ) → length counts ≡ N → filter (λ rows. list_all (holds rows) tests) (tuples counts) ≡ cond (passes stage holds tests []) (found stage holds tests counts []) []
  all_found counts whole =
      split_filter (passes stage holds tests []) (λ rows. list_all (holds rows) tests) (after 0) (tuples counts) (at_start counts whole)
      ∙ ap (λ l. cond (passes stage holds tests []) l [])
      (sym (found_all counts [] (omega arith) ∙ ap (filter (after 0)) (same_map (tuples counts))))
