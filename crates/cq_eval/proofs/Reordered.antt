-- Answers that are found in another order of the variables, put back and sorted, are the answers.
use Rattle.std.proofs.Common.{ℕ, zero, suc, Bool, true, false, cond, List, [], ◌∷◌, Some, ◌≡◌, ◌≤◌, ◌+◌, inl, inr, map, length, refl, sym, ap, subst, ◌∙◌, arith}
use Rattle.std.specs.Prelude.{slice_get, IsPermutation, IsSorted}
use Rattle.std.specs.List.{list_all}
use Rattle.std.specs.Ordering.{nat_cmp}
use Rattle.std.specs.Cmp.Lexicographic.{slice_cmp, nat_list_cmp_total}
use Rattle.std.proofs.lemmas.Bool.{cases_eq}
use Rattle.std.proofs.lemmas.List.{length-map}
use Rattle.std.proofs.lemmas.List.Sorted.{sorted_far, length_permutation}
use Rattle.std.proofs.lemmas.List.MinMax.{ranks_by}
use Rattle.std.proofs.lemmas.Option.{slice_get_within, get_or_from_slice_get}
use Rattle.cq_theory.specs.declared.presentation.Equation.{Equation}
use Rattle.cq_theory.specs.SchemaData.{SchemaData as Schema}
use Rattle.cq_theory.specs.Tables.{Tables}
use Rattle.cq_theory.proofs.Faults.{made_of}
use Rattle.cq_query.specs.Answers.{tuples, IsTuple}
use Rattle.cq_query.proofs.Answering.{IsIn, first, later}
use Rattle.cq_query.proofs.Holding.{tuple_length}
use Rattle.cq_eval.specs.Testing.{holds_at, IsTestAt}
use Rattle.cq_eval.specs.Order.{IsOrder, picked, renamed}
use Rattle.cq_eval.specs.Made.{answers_with}
use Rattle.cq_eval.specs.Refused.{TellsOver}
use Rattle.cq_eval.specs.declared.refusal.EvalRefusal.{EvalRefusal}
use Rattle.cq_eval.proofs.Counted.{same, one_if, times, times_shuffled, itself, is_same, same_length, is_before, Rises, one_list}
use Rattle.cq_eval.proofs.Ordered.{filter_rises, in_filter, tuples_rise, tuple_long, is_tuple, tuple_times, to_tuple, from_tuple, filter_times}
use Rattle.cq_eval.proofs.Renamed.{back_long, forth_long, forth_back, back_forth, tuple_forth, tuple_back, all_hold_same, tested_same}

-- what a sort makes rises
sorted_at : (l : List (List ℕ)) → IsSorted (slice_cmp nat_cmp) l → (i j : ℕ) (x y : List ℕ) → i ≤ j → slice_get l i ≡ Some x → slice_get l j ≡ Some y → is_before y x ≡ false
sorted_at l up i j x y less at there =
    let far = sorted_far is_before (ranks_by nat_list_cmp_total (λ (z : List ℕ). z)) l up i j [] less (slice_get_within l j y there) in
    (λ k. is_before (sym (get_or_from_slice_get l j y [] there) k) (sym (get_or_from_slice_get l i x [] at) k)) ∙ far

rises_from : (l : List (List ℕ)) → ((i j : ℕ) (x y : List ℕ) → i ≤ j → slice_get l i ≡ Some x → slice_get l j ≡ Some y → is_before y x ≡ false) → Rises l
rises_from [] h = tt
rises_from (x ∷ l) h = (
  λ y i. h 0 (suc i.0) x y (omega arith) refl i.1,
  rises_from l (λ i j u v less at there. h (suc i) (suc j) u v (omega (arith, less)) at there),
)

module _ (width : ℕ) (order places : List ℕ) (is : IsOrder width order places) where
  -- lists of full width that are put back
  equal_back : (x y : List ℕ) → length x ≡ width → length y ≡ width → same x (picked places y) ≡ same (picked order x) y
  equal_back x y wide long = by (same x (picked places y)) (same (picked order x) y) refl refl
    where
      by : (b c : Bool) → same x (picked places y) ≡ b → same (picked order x) y ≡ c → b ≡ c
      by true true h k = refl
      by false false h k = refl
      by true false h k =
          let there : picked order x ≡ y = ap (picked order) (is_same x (picked places y) h) ∙ forth_back width order places is y long in
          let both : true ≡ false = sym (itself y) ∙ ap (λ z. same z y) (sym there) ∙ k in
          cc
      by false true h k =
          let there : x ≡ picked places y = sym (back_forth width order places is x wide) ∙ ap (picked places) (is_same (picked order x) y k) in
          let both : false ≡ true = sym h ∙ ap (same x) (sym there) ∙ itself x in
          cc

  times_back : (x : List ℕ) (l : List (List ℕ)) → length x ≡ width → ((y : List ℕ) → IsIn y l → length y ≡ width) → times x (map (picked places) l) ≡ times (picked order x) l
  times_back x [] wide long = refl
  times_back x (y ∷ l) wide long = λ i. one_if (equal_back x y wide (long y (first y l)) i) + times_back x l wide (λ z k. long z (later z y l k)) i

  times_short : (x : List ℕ) (l : List (List ℕ)) → (length x ≡ width → ⊥) → times x (map (picked places) l) ≡ 0
  times_short x [] short = refl
  times_short x (y ∷ l) short = λ i. by (same x (picked places y)) refl i + times_short x l short i
    where
      by : (b : Bool) → same x (picked places y) ≡ b → one_if (same x (picked places y)) ≡ 0
      by false h = ap one_if h
      by true h = absurd (short (ap length (is_same x (picked places y) h) ∙ back_long width order places is y))

  module _ (M : Tables) (tests : List Equation) (counts : List ℕ) (wide : length counts ≡ width) where
    abbrev moved : List ℕ
    moved = picked order counts

    abbrev found : List (List ℕ)
    found = answers_with M (map (renamed places) tests) moved

    moved_long : length moved ≡ width
    moved_long = forth_long width order places is counts

    abbrev meets : List ℕ → Bool
    meets rows = list_all (holds_at M rows) tests

    abbrev meets_moved : List ℕ → Bool
    meets_moved rows = list_all (holds_at M rows) (map (renamed places) tests)

    long : (y : List ℕ) → IsIn y found → length y ≡ width
    long y i = tuple_long moved y (in_filter meets_moved y (tuples moved) i) ∙ moved_long

    same_tuple : (x : List ℕ) → length x ≡ width → is_tuple (picked order x) moved ≡ is_tuple x counts
    same_tuple x size = by (is_tuple (picked order x) moved) (is_tuple x counts) refl refl
      where
        by : (b c : Bool) → is_tuple (picked order x) moved ≡ b → is_tuple x counts ≡ c → b ≡ c
        by true true h k = refl
        by false false h k = refl
        by true false h k =
            let tuple : IsTuple x counts = subst (λ r. IsTuple r counts) (back_forth width order places is x size)
            (tuple_back width order places is (picked order x) counts wide (from_tuple (picked order x) moved h)) in
            let both : true ≡ false = sym (to_tuple x counts tuple) ∙ k in
            cc
        by false true h k =
            let tuple = tuple_forth width order places is x counts wide (from_tuple x counts k) in
            let both : false ≡ true = sym h ∙ to_tuple (picked order x) moved tuple in
            cc

    pub as_often : (x : List ℕ) → times x (answers_with M tests counts) ≡ times x (map (picked places) found)
    as_often x = elim (cases_eq (length x) width) [
      | inl size ↦
          let meets_same : meets_moved (picked order x) ≡ meets x =
          all_hold_same width order places is (picked order x) (forth_long width order places is x) M tests
          ∙ ap meets (back_forth width order places is x size) in
          filter_times meets x (tuples counts) ∙ ap (λ n. cond (meets x) n 0) (tuple_times x counts)
          ∙ sym (times_back x found size long ∙ filter_times meets_moved (picked order x) (tuples moved)
          ∙ (λ i. cond (meets_same i) ((tuple_times (picked order x) moved ∙ ap one_if (same_tuple x size)) i) 0))
      | inr other ↦
          filter_times meets x (tuples counts) ∙ ap (λ n. cond (meets x) n 0) (tuple_times x counts ∙ none (is_tuple x counts) refl other) ∙ over (meets x)
          ∙ sym (times_short x found (λ size. other size))
    ]
      where
        none : (b : Bool) → is_tuple x counts ≡ b → (length x ≡ width → ⊥) → one_if (is_tuple x counts) ≡ 0
        none false h other = ap one_if h
        none true h other = absurd (other (tuple_length x counts (from_tuple x counts h) ∙ wide))

        over : (b : Bool) → ◌≡◌ {A = ℕ} (cond b 0 0) 0
        over true = refl
        over false = refl

    -- the answers, by what is found in the other order
    pub as_many : length found ≡ length (answers_with M tests counts)
    as_many = sym (same_length (answers_with M tests counts) (map (picked places) found) as_often ∙ length-map found (picked places))

    pub sorted_back : (listed sorted : List (List ℕ)) → listed ≡ map (picked places) found → IsPermutation listed sorted → IsSorted (slice_cmp nat_cmp) sorted
        → sorted ≡ answers_with M tests counts
    sorted_back listed sorted are shuffled up =
        sym (one_list (answers_with M tests counts) sorted (filter_rises meets (tuples counts) (tuples_rise counts)) (rises_from sorted (sorted_at sorted up))
        (λ x. as_often x ∙ ap (times x) (sym are) ∙ sym (times_shuffled x listed sorted shuffled)))

    pub refused_back : (entity : ℕ) (refusal : EvalRefusal) → TellsOver entity (length found) refusal → TellsOver entity (length (answers_with M tests counts)) refusal
    refused_back entity refusal h = subst (λ n. TellsOver entity n refusal) as_many h

    -- the sides of the renumbered equations
    module _ (S : Schema) (typed : (rows : List ℕ) → IsTuple rows counts → (n : ℕ) (e : Equation) → slice_get tests n ≡ Some e → IsTestAt S M rows e) where
      pub typed_moved : (rows : List ℕ) → IsTuple rows moved → (n : ℕ) (e : Equation) → slice_get (map (renamed places) tests) n ≡ Some e → IsTestAt S M rows e
      typed_moved rows tuple n e at =
          let made = made_of (renamed places) tests n e at in
          let size : length rows ≡ width = tuple_length rows moved tuple ∙ moved_long in
          subst (IsTestAt S M rows) (sym made.2)
          (tested_same width order places is rows size M S made.0 (typed (picked places rows) (tuple_back width order places is rows counts wide tuple) n made.0 made.1))

    module _ (tests' : List Equation) (counts' : List ℕ) (tests_are : tests' ≡ map (renamed places) tests) (counts_are : counts' ≡ picked order counts) where
      pub typed_as : (S : Schema) → ((rows : List ℕ) → IsTuple rows counts → (n : ℕ) (e : Equation) → slice_get tests n ≡ Some e → IsTestAt S M rows e)
          → (rows : List ℕ) → IsTuple rows counts' → (n : ℕ) (e : Equation) → slice_get tests' n ≡ Some e → IsTestAt S M rows e
      typed_as S typed rows tuple n e at = typed_moved S typed rows (subst (IsTuple rows) counts_are tuple) n e (ap (λ (l : List Equation). slice_get l n) (sym tests_are) ∙ at)

      same_found : answers_with M tests' counts' ≡ found
      same_found = λ i. answers_with M (tests_are i) (counts_are i)

      pub sorted_as : (listed sorted : List (List ℕ)) → listed ≡ answers_with M tests' counts' → IsPermutation (map (picked places) listed) sorted → IsSorted (slice_cmp nat_cmp) sorted
          → sorted ≡ answers_with M tests counts
      sorted_as listed sorted are shuffled up = sorted_back (map (picked places) listed) sorted (ap (map (picked places)) (are ∙ same_found)) shuffled up

      pub refused_as : (entity : ℕ) (refusal : EvalRefusal) → TellsOver entity (length (answers_with M tests' counts')) refusal → TellsOver entity (length (answers_with M tests counts)) refusal
      refused_as entity refusal h = refused_back entity refusal (subst (λ (l : List (List ℕ)). TellsOver entity (length l) refusal) same_found h)

pub few_as : (places : List ℕ) (listed sorted : List (List ℕ)) → length listed ≤ 1000000 → IsPermutation (map (picked places) listed) sorted → length sorted ≤ 1000000
few_as places listed sorted few shuffled =
    let size : length sorted ≡ length listed = length_permutation (map (picked places) listed) sorted shuffled ∙ length-map listed (picked places) in
    omega (arith, few, size)
