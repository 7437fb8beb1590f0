-- Variables in no where equation that is still tested have all their rows.
use Rattle.std.proofs.Common.{ℕ, zero, suc, Bool, true, false, not, cond, List, [], ◌∷◌, ◌++◌, Some, ◌≡◌, ◌<◌, ◌≤◌, ◌+◌, ◌*◌, ◌==◌, ◌||◌, inl, inr, map, filter, take, drop, length, get_or, min, max, suc-mul, mul_assoc, refl, sym, ap, subst, ◌∙◌, arith}
use Rattle.std.specs.Prelude.{slice_get}
use Rattle.std.specs.List.{flat_map}
use Rattle.std.proofs.lemmas.Bool.{cases_order, ne_eqb}
use Rattle.std.proofs.lemmas.Nat.{mul-le}
use Rattle.std.proofs.lemmas.List.{length-append, length-take-le, drop_all}
use Rattle.std.proofs.lemmas.List.FromFn.{length-range_with_len}
use Rattle.std.proofs.lemmas.Option.{get_or_from_slice_get}
use Rattle.cq_theory.specs.declared.presentation.Equation.{Equation}
use Rattle.cq_theory.specs.Canonical.{below}
use Rattle.cq_theory.specs.Tables.{Tables}
use Rattle.cq_query.specs.Answers.{IsTuple}
use Rattle.cq_query.proofs.Holding.{tuple_length}
use Rattle.cq_eval.specs.Testing.{holds_at, reach, stage}
use Rattle.cq_eval.specs.Join.{IsLast, combinations, passes, found_from}
use Rattle.cq_eval.specs.Refused.{TellsOver}
use Rattle.cq_eval.specs.declared.refusal.EvalRefusal.TheVariants.{TooManyAnswers}
use Rattle.cq_eval.proofs.Answered.{all_from_each}

all_kept : {X Y : Type 0} (p : Y → Bool) (f : X → Y) → ((x : X) → p (f x) ≡ true) → (xs : List X) → filter p (map f xs) ≡ map f xs
all_kept p f h [] = refl
all_kept p f h (x ∷ xs) = (λ i. cond (h x i) (f x ∷ all_kept p f h xs i) (all_kept p f h xs i))

as_long : {X : Type 0} (f : ℕ → X) (g : X → List (List ℕ)) (size : ℕ) → ((n : ℕ) → length (g (f n)) ≡ size) → (ns : List ℕ) → length (flat_map g (map f ns)) ≡ length ns * size
as_long f g size h [] = let none : 0 ≡ 0 * size = omega arith in none
as_long f g size h (n ∷ ns) =
    let one = length-append (g (f n)) (flat_map g (map f ns)) in
    let first = h n in
    let rest = as_long f g size h ns in
    one ∙ (λ i. first i + rest i) ∙ more (length ns) size
  where
    more : (m k : ℕ) → k + m * k ≡ suc m * k
    more m k = let is = suc-mul m k in omega (arith, is)

module _ (M : Tables) (tests : List Equation) (counts : List ℕ) (last : ℕ) (is : IsLast tests counts last) where
  abbrev N : ℕ
  N = length counts

  untested : (rows : List ℕ) → last < length rows → passes (stage N) (holds_at M) tests rows ≡ true
  untested rows more = all_from_each (λ e. not (stage N e == length rows) || holds_at M rows e) tests (λ n e at.
      let early : stage N e ≤ last = is n e at in
      by (stage N e == length rows) (holds_at M rows e) (ne_eqb (stage N e) (length rows) (λ same. absurd (omega (arith, early, more, same)))))
    where
      by : (b c : Bool) → b ≡ false → (not b || c) ≡ true
      by false c h = refl
      by true c h = cc

  found_free : (left bound : List ℕ) → last ≤ length bound → length (found_from M tests counts left bound) ≡ combinations left
  found_free [] bound more = refl
  found_free (count ∷ left) bound more =
      let f : ℕ → List ℕ = λ row. bound ++ row ∷ [] in
      let longer : (row : ℕ) → length (f row) ≡ length bound + 1 = λ row. length-append bound (row ∷ []) in
      ap (λ l. length (flat_map (found_from M tests counts left) l))
      (all_kept (passes (stage N) (holds_at M) tests) f (λ row. let size = longer row in untested (f row) (omega (arith, more, size))) (below count))
      ∙ as_long f (found_from M tests counts left) (combinations left) (λ row. let size = longer row in found_free left (f row) (omega (arith, more, size))) (below count)
      ∙ ap (λ n. n * combinations left) (length-range_with_len 0 count)

  pub tells_free : (entity bound : ℕ) (rows : List ℕ) → IsTuple rows counts → bound ≤ N → bound ≡ last → (amount given : ℕ) → given ≡ amount → 1000000 < given + combinations (drop bound counts)
      → TellsOver entity (amount + length (found_from M tests counts (drop bound counts) (take bound rows))) (TooManyAnswers entity)
  tells_free entity bound rows tuple within at amount given same many =
      let size : length (take bound rows) ≡ bound = length-take-le bound rows (omega (arith, within, tuple_length rows counts tuple)) in
      let all = found_free (drop bound counts) (take bound rows) (omega (arith, size, at)) in
      (refl, omega (arith, same, many, all))

-- the last stage so far
pub later_last : (tests : List Equation) (counts : List ℕ) (i last : ℕ) → ((n : ℕ) (e : Equation) → n < i → slice_get tests n ≡ Some e → stage (length counts) e ≤ last)
    → (later : ℕ) → last ≤ later → ((e : Equation) → slice_get tests i ≡ Some e → stage (length counts) e ≤ later) → (n : ℕ) (e : Equation) → n < i + 1 → slice_get tests n ≡ Some e → stage (length counts) e ≤ later
later_last tests counts i last before later more here n e less at = elim (cases_order n i) [
  | inl same ↦ here e (ap (slice_get tests) (sym same) ∙ at)
  | inr other ↦ elim other [ inl lower ↦ (let early : stage (length counts) e ≤ last = before n e lower at in omega (arith, early, more)) | inr upper ↦ absurd (omega (arith, upper, less)) ]
]

pub combinations_more : (counts : List ℕ) (i : ℕ) → i < length counts → combinations (drop i counts) ≡ get_or counts i 0 * combinations (drop (i + 1) counts)
combinations_more [] i less = absurd (omega (arith, less))
combinations_more (c ∷ counts) zero less = refl
combinations_more (c ∷ counts) (suc i) less =
    let there : suc i + 1 ≡ suc (i + 1) = omega arith in
    combinations_more counts i (omega (arith, less)) ∙ ap (λ k. get_or counts i 0 * combinations (drop k (c ∷ counts))) (sym there)

-- one count more, of a product that doesn't grow past what fits
pub step_more : (counts : List ℕ) (i : ℕ) → i < length counts → (choices next whole most : ℕ) → choices * combinations (drop i counts) ≤ whole → next ≡ min (choices * get_or counts i 0) most
    → next * combinations (drop (i + 1) counts) ≤ whole
step_more counts i less choices next whole most before is =
    let rest : ℕ = combinations (drop (i + 1) counts) in
    let few : next ≤ choices * get_or counts i 0 = omega (arith, is) in
    let most_is : next * rest ≤ choices * get_or counts i 0 * rest = mul-le next rest (choices * get_or counts i 0) rest few (omega arith) in
    let same : choices * get_or counts i 0 * rest ≡ choices * combinations (drop i counts) = mul_assoc choices (get_or counts i 0) rest ∙ ap (λ n. choices * n) (sym (combinations_more counts i less)) in
    le_trans (next * rest) (choices * combinations (drop i counts)) whole (subst (λ n. next * rest ≤ n) same most_is) before
  where
    le_trans : (a b c : ℕ) → a ≤ b → b ≤ c → a ≤ c
    le_trans a b c h k = omega (arith, h, k)

pub over : (counts : List ℕ) (bound place found choices : ℕ) → length counts ≤ place → choices * combinations (drop place counts) ≤ combinations (drop bound counts) → found ≤ 1000000 → 1000000 < found + choices
    → 1000000 < found + combinations (drop bound counts)
over counts bound place found choices past before few more =
    let none : combinations (drop place counts) ≡ 1 = ap combinations (drop_all place counts past) in
    let one : choices * combinations (drop place counts) ≡ choices = ap (λ n. choices * n) none ∙ mul-one choices in
    let whole : choices ≤ combinations (drop bound counts) = subst (λ n. n ≤ combinations (drop bound counts)) one before in
    omega (arith, whole, more)
  where
    mul-one : (n : ℕ) → n * 1 ≡ n
    mul-one n = omega arith

-- that of one where equation
pub here_last : (tests : List Equation) (width i last wide reached least later : ℕ) (test : Equation) → test ≡ get_or tests i test → wide ≡ width → reached ≡ reach test → least ≡ min wide reached → later ≡ max least last
    → (e : Equation) → slice_get tests i ≡ Some e → stage width e ≤ later
here_last tests width i last wide reached least later test is wide_is reached_is least_is later_is e at =
    let same : test ≡ e = is ∙ get_or_from_slice_get tests i e test at in
    let early : stage width test ≤ later = omega (arith, wide_is, reached_is, least_is, later_is) in
    subst (λ x. stage width x ≤ later) same early
