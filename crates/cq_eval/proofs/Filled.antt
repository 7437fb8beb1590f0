-- Columns that are filled answer by answer.
use Rattle.std.proofs.Common.{ℕ, zero, suc, Bool, true, false, List, [], ◌∷◌, ◌++◌, Some, ◌≡◌, ◌<◌, ◌≤◌, ◌+◌, ◌||◌, map, take, length, sum, get_or, sym, ap, ◌∙◌, arith}
use Rattle.std.specs.Prelude.{slice_get, nat_lt}
use Rattle.std.specs.List.{list_any}
use Rattle.std.proofs.lemmas.Bool.{lt-ltb}
use Rattle.std.proofs.lemmas.List.{take_more, map-append}
use Rattle.std.proofs.lemmas.List.FromFn.{get_or-map-range_with_len, length-map-range_with_len}
use Rattle.std.proofs.lemmas.List.Sums.{sum_by-cons}
use Rattle.std.proofs.lemmas.Option.{slice_get-get_or, slice_get_within, get_or_from_slice_get}
use Rattle.cq_theory.specs.declared.value.Value.{Value}
use Rattle.cq_theory.specs.Canonical.{below}
use Rattle.cq_theory.specs.Value.{symbols_of}
use Rattle.cq_instance.proofs.Lists.{get-map}
use Rattle.cq_eval.specs.Refused.{TellsLarge}
use Rattle.cq_eval.specs.declared.refusal.EvalRefusal.{EvalRefusal}
use Rattle.cq_eval.specs.declared.refusal.EvalRefusal.TheVariants.{TooManyAnswers, TooLarge, Memory}
use Rattle.cq_eval.proofs.Answered.{any_at, neither}

abbrev pub is_long : Value → Bool
is_long v = nat_lt 1024 (symbols_of v)

-- a refusal that tells one limit tells another, if that is passed wherever the one is
pub tells_too : (b b' : Bool) (refusal : EvalRefusal) → (b ≡ true → b' ≡ true) → TellsLarge b refusal → TellsLarge b' refusal
tells_too b b' (TooManyAnswers entity) more h = absurd h
tells_too b b' TooLarge more h = more h
tells_too b b' Memory more h = tt

-- one answer more
pub column_more : {X Y : Type 0} (f : X → Y) (xs : List X) (i : ℕ) (x : X) → slice_get xs i ≡ Some x → map f (take (i + 1) xs) ≡ map f (take i xs) ++ f x ∷ []
column_more f xs i x at =
    let within : i < length xs = slice_get_within xs i x at in
    ap (map f) (take_more xs i x within ∙ ap (λ y. take i xs ++ y ∷ []) (get_or_from_slice_get xs i x x at)) ∙ map-append f (take i xs) (x ∷ [])

-- no member passes, and the new one doesn't
pub none_more : {X : Type 0} (p : X → Bool) (xs : List X) (x : X) → list_any p xs ≡ false → p x ≡ false → list_any p (xs ++ x ∷ []) ≡ false
none_more p [] x h e = ap (λ b. b || false) e
none_more p (y ∷ xs) x h e =
    let parts = neither (p y) (list_any p xs) h in
    ap (λ b. b || list_any p (xs ++ x ∷ [])) parts.0 ∙ none_more p xs x parts.1 e

pub passes_at_member : {X Y : Type 0} (p : Y → Bool) (f : X → Y) (xs : List X) (i : ℕ) (x : X) → slice_get xs i ≡ Some x → p (f x) ≡ true → list_any p (map f xs) ≡ true
passes_at_member p f xs i x at h = any_at p (map f xs) i (f x) (get-map f xs i x at) h

-- what an index into a list reads
pub read_at : {X : Type 0} (xs items : List X) (i : ℕ) (x : X) → items ≡ xs → i < length items → x ≡ get_or items i x → slice_get xs i ≡ Some x
read_at xs items i x same within is = ap (λ l. slice_get l i) (sym same) ∙ slice_get-get_or items i x within ∙ ap (λ y. Some y) (sym is)

pub entity_within : {X : Type 0} (f : ℕ → X) (n entity : ℕ) (answers : List X) → answers ≡ map f (below n) → entity < n → entity < length answers
entity_within f n entity answers are less = omega (arith, less, ap length are ∙ length-map-range_with_len f 0 n)

pub entity_reads : {X : Type 0} (f : ℕ → X) (n entity : ℕ) (answers : List X) (x : X) → answers ≡ map f (below n) → entity < n → x ≡ get_or answers entity x → x ≡ f entity
entity_reads f n entity answers x are less is =
    let here : 0 + entity ≡ entity = omega arith in
    is ∙ ap (λ l. get_or l entity x) are ∙ get_or-map-range_with_len f 0 n entity entity x less here

-- rows are counted until the room is used up
rows_before : (f : List (List ℕ) → ℕ) (xs : List (List (List ℕ))) (i : ℕ) (d : List (List ℕ)) → i < length xs → sum (map f (take i xs)) + f (get_or xs i d) ≤ sum (map f xs)
rows_before f [] i d h = absurd (omega arith)
rows_before f (x ∷ xs) zero d h = omega (arith, sum_by-cons (λ n. n) (f x) (map f xs))
rows_before f (x ∷ xs) (suc i) d h =
    omega (arith, rows_before f xs i d (omega arith), sum_by-cons (λ n. n) (f x) (map f xs), sum_by-cons (λ n. n) (f x) (map f (take i xs)))

pub many_rows : (answers : List (List (List ℕ))) (i room nulls count : ℕ) (found : List (List ℕ)) → i < length answers → found ≡ get_or answers i found → count ≡ length found
    → room + sum (map length (take i answers)) + nulls ≡ 16000000 → room < count → true ≡ nat_lt 16000000 (sum (map length answers) + nulls)
many_rows answers i room nulls count found within is counted so_far over =
    let many : 16000000 < sum (map length answers) + nulls = omega (arith, rows_before length answers i found within, ap length is, counted, so_far, over) in
    sym (lt-ltb 16000000 (sum (map length answers) + nulls) many)

pub long_column : (columns : List (List Value)) (i : ℕ) (column : List Value) → slice_get columns i ≡ Some column → list_any is_long column ≡ true → list_any (list_any is_long) columns ≡ true
long_column columns i column at h = any_at (list_any is_long) columns i column at h
