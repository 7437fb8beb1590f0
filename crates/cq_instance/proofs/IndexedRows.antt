-- Rows that are added to the groups of their values, and rows by where a foreign key leads.
use Rattle.std.proofs.Common.{ℕ, zero, suc, Bool, true, false, List, [], ◌∷◌, ◌++◌, ◌≡◌, ◌<◌, ◌≤◌, ◌+◌, ◌%◌, if◌then◌else◌, inl, inr, map, take, length, get_or, slice_set, refl, sym, ap, subst, ◌∙◌, arith}
use Rattle.std.specs.Prelude.{All, Result, Ok, Err, OnOk, slice_index_or}
use Rattle.std.proofs.lemmas.Bool.{cases_eq, cases_lt, ne_eqb}
use Rattle.std.proofs.lemmas.List.{append-nil, get_or_default, get_or-set_same, get_or-set_other, length-set, take_more, length-take-le}
use Rattle.std.proofs.lemmas.List.Elements.{All-head, All-tail, All-append, All-nil, All-cons}
use Rattle.std.proofs.lemmas.List.FromFn.{get_or-map-range_with_len, length-map-range_with_len}
use Rattle.cq_base.specs.declared.hashing.Hashing.{Hashing}
use Rattle.cq_theory.specs.declared.value.Value.{Value}
use Rattle.cq_theory.specs.Canonical.{below}
use Rattle.cq_instance.specs.Digests.{digest_of}
use Rattle.cq_theory.specs.Groups.{positions, positions_from}
use Rattle.cq_instance.specs.SameValue.{same_value}
use Rattle.cq_instance.specs.CellRows.{rows_from, rows_with, group_rows, indexed_rows}
use Rattle.cq_instance.specs.declared.cell_index.ValueRows.{ValueRows}
use Rattle.cq_instance.proofs.SameValues.{same_from_value, value_from_same}

-- the rows of a column that is longer by one cell
rows_from-append : (s : ℕ) (cells : List Value) (cell v : Value) → rows_from s (cells ++ cell ∷ []) v ≡ rows_from s cells v ++ (if same_value cell v then (s + length cells) ∷ [] else [])
rows_from-append s [] cell v = let start : s ≡ s + 0 = omega arith in ap (λ n. if same_value cell v then n ∷ [] else []) start
rows_from-append s (x ∷ cells) cell v =
    let place : s + 1 + length cells ≡ s + length (x ∷ cells) = omega arith in
    by (same_value x v) (rows_from-append (s + 1) cells cell v ∙ ap (λ n. rows_from (s + 1) cells v ++ (if same_value cell v then n ∷ [] else [])) place)
  where
    by : (b : Bool) → rows_from (s + 1) (cells ++ cell ∷ []) v ≡ rows_from (s + 1) cells v ++ (if same_value cell v then (s + length (x ∷ cells)) ∷ [] else [])
        → (if b then s ∷ rows_from (s + 1) (cells ++ cell ∷ []) v else rows_from (s + 1) (cells ++ cell ∷ []) v)
        ≡ (if b then s ∷ rows_from (s + 1) cells v else rows_from (s + 1) cells v) ++ (if same_value cell v then (s + length (x ∷ cells)) ∷ [] else [])
    by true rest = ap (λ l. s ∷ l) rest
    by false rest = rest

pub rows_with_more : (column : List Value) (n : ℕ) (cell d : Value) → n < length column → cell ≡ get_or column n d → (v : Value)
    → rows_with (take (n + 1) column) v ≡ rows_with (take n column) v ++ (if same_value cell v then n ∷ [] else [])
rows_with_more column n cell d within is v =
    let longer : take (n + 1) column ≡ take n column ++ cell ∷ [] = take_more column n d within ∙ ap (λ c. take n column ++ c ∷ []) (sym is) in
    let size : 0 + length (take n column) ≡ n = omega (arith, length-take-le n column (omega arith)) in
    ap (λ l. rows_with l v) longer ∙ rows_from-append 0 (take n column) cell v ∙ ap (λ m. rows_with (take n column) v ++ (if same_value cell v then m ∷ [] else [])) size

module _ (v : Value) (row : ℕ) where
  -- what a row of v adds to the rows of a value
  abbrev more : Value → List ℕ
  more other = if same_value v other then row ∷ [] else []

  abbrev Differs : ValueRows → Type 0
  Differs group = same_value group.value v ≡ false

  -- a group of another value gains nothing
  past : (group : ValueRows) (rest rest' : List ℕ) (other : Value) → Differs group → rest' ≡ rest ++ more other
      → (if same_value group.value other then group.rows.items else rest') ≡ (if same_value group.value other then group.rows.items else rest) ++ more other
  past group rest rest' other differs later = by (same_value group.value other) refl
    where
      apart : (b : Bool) → same_value group.value other ≡ true → same_value v other ≡ b → group.rows.items ≡ group.rows.items ++ (if b then row ∷ [] else [])
      apart false e f = sym (append-nil group.rows.items)
      apart true e f =
          let both : true ≡ false = sym (value_from_same group.value v (same_from_value group.value other e ∙ sym (same_from_value v other f))) ∙ differs in
          cc

      by : (b : Bool) → same_value group.value other ≡ b → (if b then group.rows.items else rest') ≡ (if b then group.rows.items else rest) ++ more other
      by true e = apart (same_value v other) e refl
      by false e = later

  -- a row is put into the group of its value
  pub put_into : (groups : List ValueRows) (p : ℕ) (new d : ValueRows) → p < length groups → All Differs (take p groups) → same_value (get_or groups p d).value v ≡ true
      → new.value ≡ (get_or groups p d).value → new.rows.items ≡ (get_or groups p d).rows.items ++ row ∷ []
      → (other : Value) → group_rows (slice_set groups p new) other ≡ group_rows groups other ++ more other
  put_into [] p new d within before same value rows other = absurd (omega arith)
  put_into (g ∷ groups) zero new d within before same value rows other =
      (λ i. if same_value ((value ∙ is) i) other then rows i else group_rows groups other) ∙ by (same_value v other)
      ∙ (λ i. (if same_value (sym is i) other then g.rows.items else group_rows groups other) ++ more other)
    where
      is : g.value ≡ v
      is = same_from_value g.value v same

      by : (b : Bool) → (if b then g.rows.items ++ row ∷ [] else group_rows groups other) ≡ (if b then g.rows.items else group_rows groups other) ++ (if b then row ∷ [] else [])
      by true = refl
      by false = sym (append-nil (group_rows groups other))
  put_into (g ∷ groups) (suc p) new d within before same value rows other =
      past g (group_rows groups other) (group_rows (slice_set groups p new) other) other (All-head Differs g (take p groups) before)
      (put_into groups p new d (omega arith) (All-tail Differs g (take p groups) before) same value rows other)

  -- a row of a value without a group
  pub put_behind : (groups : List ValueRows) (new : ValueRows) → All Differs groups → new.value ≡ v → new.rows.items ≡ row ∷ []
      → (other : Value) → group_rows (groups ++ new ∷ []) other ≡ group_rows groups other ++ more other
  put_behind [] new before value rows other = λ i. if same_value (value i) other then rows i else []
  put_behind (g ∷ groups) new before value rows other =
      past g (group_rows groups other) (group_rows (groups ++ new ∷ []) other) other (All-head Differs g groups before)
      (put_behind groups new (All-tail Differs g groups before) value rows other)

  -- a row is added to the groups with the number of its value
  pub put_among : (h : Hashing) (lists lists' : List (List ValueRows)) (groups : List ValueRows) (place : ℕ) → 0 < length lists → place ≡ digest_of h v % length lists → lists' ≡ slice_set lists place groups
      → ((other : Value) → group_rows groups other ≡ group_rows (get_or lists place []) other ++ more other)
      → (other : Value) → indexed_rows (h, lists') other ≡ indexed_rows (h, lists) other ++ more other
  put_among h lists lists' groups place some is made added other =
      ap (λ l. indexed_rows (h, l) other) made
      ∙ ap (λ n. group_rows (slice_index_or (slice_set lists place groups) (digest_of h other % n) []) other) (length-set lists place groups)
      ∙ elim (cases_eq number place) [
        | inl same ↦
            ap (λ k. group_rows (slice_index_or (slice_set lists place groups) k []) other) same
            ∙ ap (λ l. group_rows l other) (get_or-set_same lists place groups [] inside) ∙ added other
            ∙ ap (λ k. group_rows (get_or lists k []) other ++ more other) (sym same)
        | inr differ ↦
            ap (λ l. group_rows l other) (get_or-set_other lists place number groups [] differ)
            ∙ apart (same_value v other) refl (λ same. differ (ap (λ w. digest_of h w % length lists) (sym (same_from_value v other same)) ∙ sym is))
      ]
    where
      number : ℕ
      number = digest_of h other % length lists

      inside : place < length lists
      inside = omega (arith, some, is)

      apart : (b : Bool) → same_value v other ≡ b → (b ≡ true → ⊥) → indexed_rows (h, lists) other ≡ indexed_rows (h, lists) other ++ more other
      apart false e not = sym (append-nil (indexed_rows (h, lists) other)) ∙ ap (λ b. indexed_rows (h, lists) other ++ (if b then row ∷ [] else [])) (sym e)
      apart true e not = absurd (not refl)

-- lists without groups
none_at : (xs : List ℕ) (k : ℕ) → slice_index_or (map (λ (_ : ℕ). let none : List ValueRows = [] in none) xs) k [] ≡ []
none_at [] k = refl
none_at (x ∷ xs) zero = refl
none_at (x ∷ xs) (suc k) = none_at xs k

pub no_rows : (h : Hashing) (lists : List (List ValueRows)) (count : ℕ) → lists ≡ map (λ _. []) (below count) → (v : Value) → indexed_rows (h, lists) v ≡ []
no_rows h lists count are v =
    ap (λ l. group_rows l v) (ap (λ l. slice_index_or l (digest_of h v % length lists) []) are ∙ none_at (below count) (digest_of h v % length lists))

-- what no member is stands nowhere
no_positions : (s : ℕ) (xs : List ℕ) (count row : ℕ) → All (λ x. x < count) xs → count ≤ row → positions_from s xs row ≡ []
no_positions s [] count row within over = refl
no_positions s (x ∷ xs) count row within over =
    let less : x < count = All-head (λ x. x < count) x xs within in
    ap (λ b. if b then s ∷ positions_from (s + 1) xs row else positions_from (s + 1) xs row) (ne_eqb x row (λ same. omega arith))
    ∙ no_positions (s + 1) xs count row (All-tail (λ x. x < count) x xs within) over

past_end : (lists : List (List ℕ)) (k : ℕ) → length lists ≤ k → slice_index_or lists k [] ≡ []
past_end [] k over = refl
past_end (l ∷ lists) zero over = absurd (omega arith)
past_end (l ∷ lists) (suc k) over = past_end lists k (omega arith)

pub positions_at : (column : List ℕ) (count : ℕ) (lists : List (List ℕ)) → All (λ row. row < count) column → lists ≡ map (positions column) (below count)
    → (row : ℕ) → slice_index_or lists row [] ≡ positions column row
positions_at column count lists within are row = elim (cases_lt row count) [
  | inl inside ↦ ap (λ l. slice_index_or l row []) are ∙ get_or-map-range_with_len (positions column) 0 count row row [] inside (omega arith)
  | inr over ↦
      past_end lists row (omega (arith, over, ap length are, length-map-range_with_len (positions column) 0 count))
      ∙ sym (no_positions 0 column count row within (omega (arith, over)))
]

pub on_ok : {T E : Type 0} (r : Result T E) (P Q R : Type 0) → (P → Q → R) → OnOk r P → OnOk r Q → OnOk r R
on_ok (Ok x) P Q R f p q = f p q
on_ok (Err e) P Q R f p q = p

-- what holds of the first members and of one more
pub All_more : {X : Type 0} (P : X → Type 0) (xs : List X) (i : ℕ) (x : X) → i < length xs → x ≡ get_or xs i x → All P (take i xs) → P x → All P (take (i + 1) xs)
All_more P xs i x within is before here =
    let longer : take (i + 1) xs ≡ take i xs ++ x ∷ [] = take_more xs i x within ∙ ap (λ y. take i xs ++ y ∷ []) (sym is) in
    subst (All P) (sym longer) (All-append P (take i xs) (x ∷ []) before (All-cons P x [] here (All-nil P)))

-- what an index into columns reads
pub column_read : {X : Type 0} (columns items : List (List X)) (k : ℕ) (column : List X) → items ≡ columns → k < length columns → column ≡ get_or items k column → column ≡ get_or columns k []
column_read columns items k column same inside is = is ∙ ap (λ l. get_or l k column) same ∙ get_or_default columns k column [] inside
