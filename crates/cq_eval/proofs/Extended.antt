-- The steps of the search for answers.
use Rattle.std.proofs.Common.{ℕ, zero, suc, Bool, true, false, cond, List, [], ◌∷◌, ◌++◌, ◌≡◌, ◌<◌, ◌≤◌, ◌+◌, ◌-◌, ◌==◌, ◌⊎◌, inl, inr, map, filter, take, drop, set, length, get_or, refl, sym, ap, subst, ◌∙◌, arith, append_assoc, add-one, drop-cons}
use Rattle.std.specs.Prelude.{slice_index, Result, Ok, Err, OnOk, IfErr}
use Rattle.std.specs.List.{list_all, list_any, flat_map}
use Rattle.std.proofs.lemmas.Bool.{cases_order, or_parts, or_cases, eqb-true, eqb-false}
use Rattle.std.proofs.lemmas.List.{length-append, append-nil, map-append, length-take-le, take_more, take_more_set, take-set, take-append-drop, take-take, take_all, drop_all}
use Rattle.std.proofs.lemmas.List.Elements.{filter-append}
use Rattle.std.proofs.lemmas.List.Concat.{flat_map-append}
use Rattle.std.proofs.lemmas.List.FromFn.{map-range_with_len_more}
use Rattle.cq_theory.specs.declared.presentation.Equation.{Equation}
use Rattle.cq_theory.specs.Canonical.{below}
use Rattle.cq_theory.specs.Tables.{Tables}
use Rattle.cq_query.specs.Answers.{tuples, IsTuple}
use Rattle.cq_query.proofs.Holding.{tuple_length}
use Rattle.cq_eval.specs.Testing.{holds_at, stage}
use Rattle.cq_eval.specs.Join.{passes, found, test_passes_at, found_from, found_by}
use Rattle.cq_eval.specs.Index.{IsCover}
use Rattle.cq_eval.specs.Made.{answers_with}
use Rattle.cq_eval.specs.Refused.{TellsOver}
use Rattle.cq_eval.specs.declared.refusal.EvalRefusal.{EvalRefusal}
use Rattle.cq_eval.specs.declared.refusal.EvalRefusal.TheVariants.{TooManyAnswers, TooLarge, Memory}
use Rattle.cq_eval.proofs.Joined.{passes_local, all_found}
use Rattle.cq_eval.proofs.Tested.{holds_local}

-- choices of rows
pub tuple_set : (rows counts : List ℕ) (n row : ℕ) → IsTuple rows counts → row < slice_index counts n → IsTuple (set rows n row) counts
tuple_set [] [] n row h less = h
tuple_set [] (count ∷ counts) n row h less = h
tuple_set (r ∷ rows) [] n row h less = absurd h
tuple_set (r ∷ rows) (count ∷ counts) zero row h less = (less, h.1)
tuple_set (r ∷ rows) (count ∷ counts) (suc n) row h less = (h.0, tuple_set rows counts n row h.1 less)

pub first_tuple : (counts : List ℕ) → list_any (λ count. count == 0) counts ≡ false → IsTuple (map (λ _. 0) counts) counts
first_tuple [] h = tt
first_tuple (count ∷ counts) h =
    let parts = or_parts (count == 0) (list_any (λ n. n == 0) counts) h in
    let positive : 0 < count = omega (arith, eqb-false count 0 parts.0) in
    (positive, first_tuple counts parts.1)

-- where some variable has no rows there are no choices
no_rows : (xs : List ℕ) → flat_map (λ (row : ℕ). map (λ (rows : List ℕ). row ∷ rows) []) xs ≡ []
no_rows [] = refl
no_rows (x ∷ xs) = no_rows xs

no_more : (counts : List ℕ) (count : ℕ) → tuples counts ≡ [] → tuples (count ∷ counts) ≡ []
no_more counts count h = ap (λ (l : List (List ℕ)). flat_map (λ row. map (λ rows. row ∷ rows) l) (below count)) h ∙ no_rows (below count)

pub no_tuples : (counts : List ℕ) → list_any (λ count. count == 0) counts ≡ true → tuples counts ≡ []
no_tuples [] h = let both : false ≡ true = h in cc
no_tuples (count ∷ counts) h = elim (or_cases (count == 0) (list_any (λ n. n == 0) counts) h) [
  | inl e ↦ let zero_is : count ≡ 0 = eqb-true count 0 e in ap (λ n. tuples (n ∷ counts)) zero_is
  | inr e ↦ no_more counts count (no_tuples counts e)
]

shorter : (xs ys : List ℕ) (m : ℕ) → take (m + 1) xs ≡ take (m + 1) ys → take m xs ≡ take m ys
shorter xs ys m h = sym (take-take m (m + 1) xs (omega arith)) ∙ ap (take m) h ∙ take-take m (m + 1) ys (omega arith)

-- answers of calls
pub on_ok : {T E : Type 0} (r : Result T E) (P Q : Type 0) → (P → Q) → OnOk r P → OnOk r Q
on_ok (Ok x) P Q f h = f h
on_ok (Err e) P Q f h = h

pub if_err : {T E : Type 0} (r : Result T E) (P Q : E → Type 0) → ((e : E) → P e → Q e) → IfErr r P → IfErr r Q
if_err (Ok x) P Q f h = h
if_err (Err e) P Q f h = f e h

-- a limit that is passed by less is passed
pub tells_more : (entity n m : ℕ) (refusal : EvalRefusal) → n ≤ m → TellsOver entity n refusal → TellsOver entity m refusal
tells_more entity n m (TooManyAnswers told) h over = (over.0, omega (arith, h, over.1))
tells_more entity n m TooLarge h over = over
tells_more entity n m Memory h over = tt

module _ (M : Tables) (tests : List Equation) (counts : List ℕ) where
  abbrev N : ℕ
  N = length counts

  abbrev pub test_passes : List ℕ → Bool
  test_passes rows = passes (stage N) (holds_at M) tests rows

  within : (e : Equation) → stage N e ≤ N
  within e = omega arith

  local : (e : Equation) (bound rest : List ℕ) → stage N e < N → stage N e ≤ length bound → holds_at M (bound ++ rest) e ≡ holds_at M bound e
  local e bound rest inner less = holds_local M bound rest e (omega (arith, inner, less))

  -- the tests that are made when so many rows are bound, at all rows that are chosen
  pub passes_bound : (rows : List ℕ) (m : ℕ) → IsTuple rows counts → m ≤ N → test_passes_at M tests counts m rows ≡ test_passes (take m rows)
  passes_bound rows m tuple less = at (cases_order m N)
    where
      long : length rows ≡ N
      long = tuple_length rows counts tuple

      size : length (take m rows) ≡ m
      size = length-take-le m rows (omega (arith, long, less))

      at : ((m ≡ N) ⊎ ((m < N) ⊎ (N < m))) → test_passes_at M tests counts m rows ≡ test_passes (take m rows)
      at (inl same) =
          let whole : take m rows ≡ rows = take_all m rows (omega (arith, long, same)) in
          ap (λ r. test_passes_at M tests counts m r) (sym whole) ∙ ap (λ n. test_passes_at M tests counts n (take m rows)) (sym size)
      at (inr (inl inner)) =
          ap (λ r. test_passes_at M tests counts m r) (sym (take-append-drop m rows))
          ∙ ap (λ n. test_passes_at M tests counts n (take m rows ++ drop m rows)) (sym size)
          ∙ passes_local (stage N) (holds_at M) tests N within local (take m rows) (drop m rows) (omega (arith, size, inner))
      at (inr (inr over)) = absurd (omega (arith, over, less))

  -- what is found from a row further
  abbrev pub step : List ℕ → List ℕ → ℕ → List (List ℕ)
  step left bound row = found_by M tests counts left (bound ++ row ∷ [])

  abbrev pub so_far : List ℕ → List ℕ → ℕ → List (List ℕ)
  so_far left bound row = flat_map (found_from M tests counts left) (filter test_passes (map (λ r. bound ++ r ∷ []) (below row)))

  one : (left rows : List ℕ) (b : Bool) → flat_map (found_from M tests counts left) (cond b (rows ∷ []) []) ≡ cond b (found_from M tests counts left rows) []
  one left rows true = append-nil (found_from M tests counts left rows)
  one left rows false = refl

  pub row_more : (left bound : List ℕ) (row : ℕ) → so_far left bound (row + 1) ≡ so_far left bound row ++ step left bound row
  row_more left bound row =
      let f : ℕ → List ℕ = λ r. bound ++ r ∷ [] in
      ap (λ l. flat_map (found_from M tests counts left) (filter test_passes l)) (map-range_with_len_more f 0 row row (omega arith))
      ∙ ap (flat_map (found_from M tests counts left)) (filter-append test_passes (map f (below row)) (f row ∷ []))
      ∙ flat_map-append (found_from M tests counts left) (filter test_passes (map f (below row))) (filter test_passes (f row ∷ []))
      ∙ ap (λ l. so_far left bound row ++ l) (one left (f row) (test_passes (f row)))

  amount_more : (left bound : List ℕ) (row : ℕ) → length (so_far left bound (row + 1)) ≡ length (so_far left bound row) + length (step left bound row)
  amount_more left bound row = ap length (row_more left bound row) ∙ length-append (so_far left bound row) (step left bound row)

  amount_below : (left bound : List ℕ) (row k : ℕ) → length (so_far left bound row) ≤ length (so_far left bound (row + k))
  amount_below left bound row zero = let same : row + 0 ≡ row = omega arith in subst (λ n. length (so_far left bound row) ≤ length (so_far left bound n)) (sym same) (omega arith)
  amount_below left bound row (suc k) =
      let there : row + k + 1 ≡ row + suc k = omega arith in
      subst (λ n. length (so_far left bound row) ≤ length (so_far left bound n)) there (omega (arith, amount_below left bound row k, amount_more left bound (row + k)))

  pub amount_within : (left bound : List ℕ) (row count : ℕ) → row < count → length (so_far left bound row) + length (step left bound row) ≤ length (so_far left bound count)
  amount_within left bound row count less =
      let there : row + 1 + (count - (row + 1)) ≡ count = omega arith in
      let all : length (so_far left bound (row + 1)) ≤ length (so_far left bound count) = subst (λ n. length (so_far left bound (row + 1)) ≤ length (so_far left bound n)) there (amount_below left bound (row + 1) (count - (row + 1))) in
      omega (arith, all, amount_more left bound row)

  -- all rows of a variable
  pub rows_all : (m : ℕ) (bound : List ℕ) → m < N → found_from M tests counts (drop m counts) bound ≡ so_far (drop (m + 1) counts) bound (slice_index counts m)
  rows_all m bound less =
      let next : drop m counts ≡ get_or counts m 0 ∷ drop (m + 1) counts = rw (add-one) (drop-cons counts m 0 less) in
      ap (λ l. found_from M tests counts l bound) next

  pub none_left : (m : ℕ) (bound : List ℕ) → N ≤ m → found_from M tests counts (drop m counts) bound ≡ bound ∷ []
  none_left m bound less = ap (λ l. found_from M tests counts l bound) (drop_all m counts less)

  -- the answers are found from no rows
  pub all_are : answers_with M tests counts ≡ found_by M tests counts counts []
  all_are = all_found (stage N) (holds_at M) tests N within local counts refl

  -- what the loop over the rows of a variable keeps
  pub found_step : (left bound now : List ℕ) (row : ℕ) (found0 found found' : List (List ℕ)) → found ≡ found0 ++ so_far left bound row → now ≡ bound → found' ≡ found ++ found_by M tests counts left (now ++ row ∷ [])
      → found' ≡ found0 ++ so_far left bound (row + 1)
  found_step left bound now row found0 found found' is kept more =
      more ∙ (λ j. is j ++ step left (kept j) row) ∙ append_assoc found0 (so_far left bound row) (step left bound row) ∙ ap (λ l. found0 ++ l) (sym (row_more left bound row))

  pub found_end : (m end : ℕ) (bound : List ℕ) (found0 found : List (List ℕ)) → m < N → end ≡ slice_index counts m → found ≡ found0 ++ so_far (drop (m + 1) counts) bound end
      → found ≡ found0 ++ found_from M tests counts (drop m counts) bound
  found_end m end bound found0 found less same is = is ∙ ap (λ l. found0 ++ l) (ap (so_far (drop (m + 1) counts) bound) same ∙ sym (rows_all m bound less))

  pub refused_step : (entity m row : ℕ) (bound now : List ℕ) (found0 found : List (List ℕ)) (refusal : EvalRefusal) → m < N → row < slice_index counts m
      → found ≡ found0 ++ so_far (drop (m + 1) counts) bound row → now ≡ bound → TellsOver entity (length found + length (found_by M tests counts (drop (m + 1) counts) (now ++ row ∷ []))) refusal
      → TellsOver entity (length found0 + length (found_from M tests counts (drop m counts) bound)) refusal
  refused_step entity m row bound now found0 found refusal less inside is kept tells =
      let left : List ℕ = drop (m + 1) counts in
      let amount : length found ≡ length found0 + length (so_far left bound row) = ap length is ∙ length-append found0 (so_far left bound row) in
      let last : length (found_by M tests counts left (now ++ row ∷ [])) ≡ length (step left bound row) = ap (λ r. length (step left r row)) kept in
      let whole : length (found_from M tests counts (drop m counts) bound) ≡ length (so_far left bound (slice_index counts m)) = ap length (rows_all m bound less) in
      tells_more entity (length found + length (found_by M tests counts left (now ++ row ∷ []))) (length found0 + length (found_from M tests counts (drop m counts) bound)) refusal
      (omega (arith, amount, last, whole, amount_within left bound row (slice_index counts m) inside)) tells

  -- one more variable is bound
  module _ (rows next : List ℕ) (m row : ℕ) (tuple : IsTuple rows counts) (less : m < N) (inside : row < slice_index counts m) (set_is : next ≡ set rows m row) where
    pub next_tuple : IsTuple next counts
    next_tuple = subst (λ r. IsTuple r counts) (sym set_is) (tuple_set rows counts m row tuple inside)

    next_take : take (m + 1) next ≡ take m rows ++ row ∷ []
    next_take = ap (take (m + 1)) set_is ∙ take_more_set rows m row (omega (arith, tuple_length rows counts tuple, less))

    pub next_passes : test_passes_at M tests counts (m + 1) next ≡ test_passes (take m rows ++ row ∷ [])
    next_passes = passes_bound next (m + 1) next_tuple (omega arith) ∙ ap test_passes next_take

    pub none_found : (passed : Bool) → passed ≡ test_passes_at M tests counts (m + 1) next → passed ≡ false → (found : List (List ℕ)) → found ≡ found ++ found_by M tests counts (drop (m + 1) counts) (take m rows ++ row ∷ [])
    none_found passed is not found =
        sym (ap (λ b. found ++ cond b (found_from M tests counts (drop (m + 1) counts) (take m rows ++ row ∷ [])) []) (sym next_passes ∙ sym is ∙ not) ∙ append-nil found)

    pub some_found : (passed : Bool) → passed ≡ test_passes_at M tests counts (m + 1) next → passed ≡ true
        → found_from M tests counts (drop (m + 1) counts) (take (m + 1) next) ≡ found_by M tests counts (drop (m + 1) counts) (take m rows ++ row ∷ [])
    some_found passed is met =
        ap (found_from M tests counts (drop (m + 1) counts)) next_take
        ∙ sym (ap (λ b. cond b (found_from M tests counts (drop (m + 1) counts) (take m rows ++ row ∷ [])) []) (sym next_passes ∙ sym is ∙ met))

    pub next_kept : (after : List ℕ) → take (m + 1) after ≡ take (m + 1) next → take m after ≡ take m rows
    next_kept after h = shorter after next m h ∙ ap (take m) set_is ∙ take-set rows m row

  -- the answers, where all rows are there
  pub start_passes : (rows : List ℕ) → IsTuple rows counts → test_passes_at M tests counts 0 rows ≡ test_passes []
  start_passes rows tuple = passes_bound rows 0 tuple (omega arith)

  pub none_are : (passed : Bool) (rows : List ℕ) → IsTuple rows counts → passed ≡ test_passes_at M tests counts 0 rows → passed ≡ false → [] ≡ answers_with M tests counts
  none_are passed rows tuple is not = sym (all_are ∙ ap (λ b. cond b (found_from M tests counts counts []) []) (sym (start_passes rows tuple) ∙ sym is ∙ not))

  pub some_are : (passed : Bool) (rows : List ℕ) → IsTuple rows counts → passed ≡ test_passes_at M tests counts 0 rows → passed ≡ true → found_from M tests counts counts [] ≡ answers_with M tests counts
  some_are passed rows tuple is met = sym (all_are ∙ ap (λ b. cond b (found_from M tests counts counts []) []) (sym (start_passes rows tuple) ∙ sym is ∙ met))

  pub no_answers : list_any (λ count. count == 0) counts ≡ true → [] ≡ answers_with M tests counts
  no_answers h = sym (ap (filter (λ rows. list_all (holds_at M rows) tests)) (no_tuples counts h))

  -- what is found from some rows of the next variable
  abbrev pub so_over : List ℕ → List ℕ → List ℕ → List (List ℕ)
  so_over left bound rows = flat_map (found_from M tests counts left) (filter test_passes (map (λ r. bound ++ r ∷ []) rows))

  over_append : (left bound xs ys : List ℕ) → so_over left bound (xs ++ ys) ≡ so_over left bound xs ++ so_over left bound ys
  over_append left bound xs ys =
      let f : ℕ → List ℕ = λ r. bound ++ r ∷ [] in
      ap (λ l. flat_map (found_from M tests counts left) (filter test_passes l)) (map-append f xs ys)
      ∙ ap (flat_map (found_from M tests counts left)) (filter-append test_passes (map f xs) (map f ys))
      ∙ flat_map-append (found_from M tests counts left) (filter test_passes (map f xs)) (filter test_passes (map f ys))

  over_more : (left bound rows : List ℕ) (i row : ℕ) → i < length rows → row ≡ get_or rows i 0 → so_over left bound (take (i + 1) rows) ≡ so_over left bound (take i rows) ++ step left bound row
  over_more left bound rows i row less is =
      ap (so_over left bound) (take_more rows i 0 less ∙ ap (λ r. take i rows ++ r ∷ []) (sym is)) ∙ over_append left bound (take i rows) (row ∷ [])
      ∙ ap (λ l. so_over left bound (take i rows) ++ l) (one left (bound ++ row ∷ []) (test_passes (bound ++ row ∷ [])))

  over_within : (left bound rows : List ℕ) (i row : ℕ) → i < length rows → row ≡ get_or rows i 0 → length (so_over left bound (take i rows)) + length (step left bound row) ≤ length (so_over left bound rows)
  over_within left bound rows i row less is =
      let more = ap length (over_more left bound rows i row less is) ∙ length-append (so_over left bound (take i rows)) (step left bound row) in
      let all = ap length (ap (so_over left bound) (sym (take-append-drop (i + 1) rows)) ∙ over_append left bound (take (i + 1) rows) (drop (i + 1) rows))
      ∙ length-append (so_over left bound (take (i + 1) rows)) (so_over left bound (drop (i + 1) rows)) in
      omega (arith, more, all)

  module _ (m : ℕ) (bound rows : List ℕ) (less : m < N) (cover : IsCover M tests counts bound (slice_index counts m) rows) where
    pub all_over : found_from M tests counts (drop m counts) bound ≡ so_over (drop (m + 1) counts) bound rows
    all_over = rows_all m bound less ∙ ap (flat_map (found_from M tests counts (drop (m + 1) counts))) (sym cover.same)

    pub over_step : (now : List ℕ) (i row : ℕ) (found0 found found' : List (List ℕ)) → i < length rows → row ≡ get_or rows i 0 → found ≡ found0 ++ so_over (drop (m + 1) counts) bound (take i rows) → now ≡ bound
        → found' ≡ found ++ found_by M tests counts (drop (m + 1) counts) (now ++ row ∷ []) → found' ≡ found0 ++ so_over (drop (m + 1) counts) bound (take (i + 1) rows)
    over_step now i row found0 found found' inside read is kept more =
        let left : List ℕ = drop (m + 1) counts in
        more ∙ (λ j. is j ++ step left (kept j) row) ∙ append_assoc found0 (so_over left bound (take i rows)) (step left bound row) ∙ ap (λ l. found0 ++ l) (sym (over_more left bound rows i row inside read))

    pub over_end : (i : ℕ) (found0 found : List (List ℕ)) → length rows ≤ i → found ≡ found0 ++ so_over (drop (m + 1) counts) bound (take i rows) → found ≡ found0 ++ found_from M tests counts (drop m counts) bound
    over_end i found0 found past is = is ∙ ap (λ l. found0 ++ l) (ap (so_over (drop (m + 1) counts) bound) (take_all i rows past) ∙ sym all_over)

    pub refused_over : (entity i row : ℕ) (now : List ℕ) (found0 found : List (List ℕ)) (refusal : EvalRefusal) → i < length rows → row ≡ get_or rows i 0
        → found ≡ found0 ++ so_over (drop (m + 1) counts) bound (take i rows) → now ≡ bound → TellsOver entity (length found + length (found_by M tests counts (drop (m + 1) counts) (now ++ row ∷ []))) refusal
        → TellsOver entity (length found0 + length (found_from M tests counts (drop m counts) bound)) refusal
    refused_over entity i row now found0 found refusal inside read is kept tells =
        let left : List ℕ = drop (m + 1) counts in
        let amount : length found ≡ length found0 + length (so_over left bound (take i rows)) = ap length is ∙ length-append found0 (so_over left bound (take i rows)) in
        let last : length (found_by M tests counts left (now ++ row ∷ [])) ≡ length (step left bound row) = ap (λ r. length (step left r row)) kept in
        let whole : length (found_from M tests counts (drop m counts) bound) ≡ length (so_over left bound rows) = ap length all_over in
        tells_more entity (length found + length (found_by M tests counts left (now ++ row ∷ []))) (length found0 + length (found_from M tests counts (drop m counts) bound)) refusal
        (omega (arith, amount, last, whole, over_within left bound rows i row inside read)) tells
