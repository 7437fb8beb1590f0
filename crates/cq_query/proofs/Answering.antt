-- What stands among the answers of a query.
use Rattle.std.proofs.Common.{ℕ, zero, suc, List, [], ◌∷◌, ◌++◌, Some, None, ◌≡◌, ◌<◌, ◌↔◌, ◌+◌, map, refl, sym, ap, subst, arith}
use Rattle.std.specs.Prelude.{slice_get}
use Rattle.std.specs.List.{flat_map, range_with_len}
use Rattle.cq_theory.specs.Tables.{Tables}
use Rattle.cq_query.specs.QueryData.{QueryData as Query}
use Rattle.cq_query.specs.Answers.{tuples, IsTuple, AreFiltered, none, kept, left_out, MeetsTests, AreAnswers, variable_counts}

-- x stands at some place of xs
abbrev pub IsIn : {X : Type 0} → X → List X → Type 0
IsIn x xs = (place : ℕ) × (slice_get xs place ≡ Some x)

pub first : {X : Type 0} (x : X) (xs : List X) → IsIn x (x ∷ xs)
first x xs = (0, refl)

pub later : {X : Type 0} (x y : X) (xs : List X) → IsIn x xs → IsIn x (y ∷ xs)
later x y xs h = (suc h.0, h.1)

-- a member of a list with one more in front is that one or a member of the rest
pub cases_in : {X : Type 0} (P : Type 0) (x y : X) (xs : List X) → IsIn x (y ∷ xs) → (y ≡ x → P) → (IsIn x xs → P) → P
cases_in P x y xs h one rest = at h.0 h.1
  where
    at : (n : ℕ) → slice_get (y ∷ xs) n ≡ Some x → P
    at zero is = one (let same : y ≡ x = cc in same)
    at (suc n) is = rest (n, is)

pub no_member : {X : Type 0} (x : X) → IsIn x [] → ⊥
no_member x h = let none_is : None ≡ Some x = h.1 in cc

pub in_front : {X : Type 0} (x : X) (xs ys : List X) → IsIn x xs → IsIn x (xs ++ ys)
in_front x [] ys h = absurd (no_member x h)
in_front x (y ∷ xs) ys h = cases_in (IsIn x ((y ∷ xs) ++ ys)) x y xs h
    (λ same. (0, ap (λ z. Some z) same))
    (λ rest. later x y (xs ++ ys) (in_front x xs ys rest))

pub in_back : {X : Type 0} (x : X) (xs ys : List X) → IsIn x ys → IsIn x (xs ++ ys)
in_back x [] ys h = h
in_back x (y ∷ xs) ys h = later x y (xs ++ ys) (in_back x xs ys h)

pub in_either : {X : Type 0} (P : Type 0) (x : X) (xs ys : List X) → IsIn x (xs ++ ys) → (IsIn x xs → P) → (IsIn x ys → P) → P
in_either P x [] ys h left right = right h
in_either P x (y ∷ xs) ys h left right = cases_in P x y (xs ++ ys) h
    (λ same. left (0, ap (λ z. Some z) same))
    (λ rest. in_either P x xs ys rest (λ (i : IsIn x xs). left (later x y xs i)) right)

-- rows in front of which one more row is put
in_longer : (row : ℕ) (rows : List ℕ) (rest : List (List ℕ)) → IsIn rows rest → IsIn (row ∷ rows) (map (λ r. row ∷ r) rest)
in_longer row rows [] h = absurd (no_member rows h)
in_longer row rows (r ∷ rest) h = cases_in (IsIn (row ∷ rows) (map (λ r. row ∷ r) (r ∷ rest))) rows r rest h
    (λ same. (0, ap (λ z. Some (row ∷ z)) same))
    (λ i. later (row ∷ rows) (row ∷ r) (map (λ r. row ∷ r) rest) (in_longer row rows rest i))

pub from_longer : (P : Type 0) (row : ℕ) (rows : List ℕ) (rest : List (List ℕ)) → IsIn rows (map (λ r. row ∷ r) rest)
    → ((tail : List ℕ) → rows ≡ row ∷ tail → IsIn tail rest → P) → P
from_longer P row rows [] h then = absurd (no_member rows h)
from_longer P row rows (r ∷ rest) h then = cases_in P rows (row ∷ r) (map (λ r. row ∷ r) rest) h
    (λ same. then r (sym same) (first r rest))
    (λ i. from_longer P row rows rest i (λ tail is j. then tail is (later tail r rest j)))

module _ (counts : List ℕ) where
  abbrev longer : ℕ → List (List ℕ)
  longer row = map (λ rows. row ∷ rows) (tuples counts)

  into : (s n row : ℕ) (rows : List ℕ) → row < n → IsIn rows (tuples counts) → IsIn ((s + row) ∷ rows) (flat_map longer (range_with_len s n))
  into s zero row rows h i = absurd (omega arith)
  into s (suc n) zero rows h i =
      let here : s ≡ s + 0 = omega arith in
      in_front ((s + 0) ∷ rows) (longer s) (flat_map longer (range_with_len (s + 1) n)) (subst (λ (m : ℕ). IsIn (m ∷ rows) (longer s)) here (in_longer s rows (tuples counts) i))
  into s (suc n) (suc row) rows h i =
      let there : s + 1 + row ≡ s + suc row = omega arith in
      in_back ((s + suc row) ∷ rows) (longer s) (flat_map longer (range_with_len (s + 1) n))
      (subst (λ (m : ℕ). IsIn (m ∷ rows) (flat_map longer (range_with_len (s + 1) n))) there (into (s + 1) n row rows (omega arith) i))

  out_of : (P : Type 0) (s n : ℕ) (rows : List ℕ) → IsIn rows (flat_map longer (range_with_len s n))
      → ((row : ℕ) (tail : List ℕ) → row < s + n → rows ≡ row ∷ tail → IsIn tail (tuples counts) → P) → P
  out_of P s zero rows h then = absurd (no_member rows h)
  out_of P s (suc n) rows h then = in_either P rows (longer s) (flat_map longer (range_with_len (s + 1) n)) h
      (λ i. from_longer P s rows (tuples counts) i (λ tail is j. then s tail (omega arith) is j))
      (λ i. out_of P (s + 1) n rows i (λ row tail less is j. then row tail (omega arith) is j))

-- the tuples are all lists with a number below each count
tuple_in : (rows counts : List ℕ) → IsTuple rows counts → IsIn rows (tuples counts)
tuple_in [] [] h = (0, refl)
tuple_in [] (count ∷ counts) h = absurd h
tuple_in (row ∷ rows) [] h = absurd h
tuple_in (row ∷ rows) (count ∷ counts) h =
    let here : 0 + row ≡ row = omega arith in
    subst (λ (m : ℕ). IsIn (m ∷ rows) (tuples (count ∷ counts))) here (into counts 0 count row rows h.0 (tuple_in rows counts h.1))

in_tuple : (rows counts : List ℕ) → IsIn rows (tuples counts) → IsTuple rows counts
in_tuple rows [] h = cases_in (IsTuple rows []) rows [] [] h
    (λ same. subst (λ (r : List ℕ). IsTuple r []) same tt)
    (λ rest. absurd (no_member rows rest))
in_tuple rows (count ∷ counts) h = out_of counts (IsTuple rows (count ∷ counts)) 0 count rows h
    (λ row tail less is i. subst (λ (r : List ℕ). IsTuple r (count ∷ counts)) (sym is) (let below_count : row < count = omega arith in (below_count, in_tuple tail counts i)))

module _ {X : Type 0} (P : X → Type 0) where
  pub filtered_out : {xs ys : List X} → AreFiltered P xs ys → (x : X) → IsIn x ys → IsIn x xs × P x
  filtered_out none x h = absurd (no_member x h)
  filtered_out (kept {x = y} {xs = xs} {ys = ys} p rest) x h = cases_in (IsIn x (y ∷ xs) × P x) x y ys h
      (λ same. ((0, ap (λ z. Some z) same), subst P same p))
      (λ i. let before = filtered_out rest x i in (later x y xs before.0, before.1))
  filtered_out (left_out {x = y} {xs = xs} {ys = ys} p rest) x h = let before = filtered_out rest x h in (later x y xs before.0, before.1)

  filtered_in : {xs ys : List X} → AreFiltered P xs ys → (x : X) → IsIn x xs → P x → IsIn x ys
  filtered_in none x h q = h
  filtered_in (kept {x = y} {xs = xs} {ys = ys} p rest) x h q = cases_in (IsIn x (y ∷ ys)) x y xs h
      (λ same. (0, ap (λ z. Some z) same))
      (λ i. later x y ys (filtered_in rest x i q))
  filtered_in (left_out {x = y} {xs = xs} {ys = ys} p rest) x h q = cases_in (IsIn x ys) x y xs h
      (λ same. absurd (p (subst P (sym same) q)))
      (λ i. filtered_in rest x i q)

pub among_answers : (Q : Query) (M : Tables) (entity : ℕ) (answers : List (List ℕ)) → AreAnswers Q M entity answers → (rows : List ℕ)
    → ((place : ℕ) × (slice_get answers place ≡ Some rows)) ↔ (IsTuple rows (variable_counts Q M entity) × MeetsTests Q M entity rows)
among_answers Q M entity answers are rows = (
  λ h. let found = filtered_out (MeetsTests Q M entity) are rows h in (in_tuple rows (variable_counts Q M entity) found.0, found.1),
  λ h. filtered_in (MeetsTests Q M entity) are rows (tuple_in rows (variable_counts Q M entity) h.0) h.1,
)
