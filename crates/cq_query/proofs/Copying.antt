-- The generators and the equations of the coeval presentation, one step at a time.
use Rattle.std.proofs.Common.{ℕ, zero, suc, true, false, List, [], ◌∷◌, ◌++◌, Some, ◌≡◌, ◌<◌, ◌≤◌, ◌+◌, ◌-◌, ◌*◌, ◌||◌, ◌⊎◌, inl, inr, Result, Ok, Err, IfOk, map, take, length, get_or, sym, ap, subst, ◌∙◌, append_assoc, arith}
use Rattle.std.specs.Prelude.{slice_get, slice_index, nat_lt}
use Rattle.std.specs.List.{sum_by, list_any}
use Rattle.std.proofs.lemmas.List.{length-append, length-map}
use Rattle.std.proofs.lemmas.List.Concat.{length-flat_map}
use Rattle.std.proofs.lemmas.List.Sums.{sum_by-cons, sum-map}
use Rattle.std.specs.List.{range_with_len, flat_map}
use Rattle.std.proofs.lemmas.Bool.Decides.{nat_tests}
use Rattle.std.proofs.lemmas.List.{append-nil, take_more, map-append}
use Rattle.std.proofs.lemmas.List.FromFn.{length-map-range_with_len, sum_by-map-range_with_len_more}
use Rattle.std.proofs.lemmas.Grind.{flat_map-append}
use Rattle.std.proofs.lemmas.Option.{slice_get_within}
use Rattle.std.proofs.Math.Nat.{mul-le-mul_right, suc-mul, zero-mul}
use Rattle.cq_base.specs.declared.name.Name.{Name}
use Rattle.cq_theory.specs.declared.presentation.Sort.{Sort}
use Rattle.cq_theory.specs.declared.presentation.Sort.TheVariants.{Plain, Entity}
use Rattle.cq_theory.specs.declared.refusal.SizeRefusal.{SizeRefusal}
use Rattle.cq_theory.specs.declared.presentation.Presentation.{Presentation}
use Rattle.cq_theory.specs.Presentation.{has_long_side, is_oversized}
use Rattle.cq_theory.specs.Tables.{Tables}
use Rattle.cq_theory.specs.Canonical.{below}
use Rattle.cq_query.specs.QueryData.{QueryData as Query}
use Rattle.cq_query.specs.Translation.{variables_at}
use Rattle.cq_query.specs.Coeval.{size_of, start_of, starts, null_start, row_sorts, coeval_of}
use Rattle.cq_theory.proofs.Grouped.{made_at}
use Rattle.cq_terms.proofs.Naming.{named_length}

-- one number more
range_more : (s n : ℕ) → range_with_len s (suc n) ≡ range_with_len s n ++ (s + n) ∷ []
range_more s zero = let here : s ≡ s + 0 = omega arith in ap (λ m. m ∷ []) here
range_more s (suc n) = let there : s + 1 + n ≡ s + suc n = omega arith in ap (λ l. s ∷ l) (range_more (s + 1) n ∙ ap (λ m. range_with_len (s + 1) n ++ m ∷ []) there)

-- what a loop over the numbers below a count appends, one step on
pub pushed_below : {X : Type 0} (f : ℕ → List X) (before old new : List X) (n : ℕ) → old ≡ before ++ flat_map f (below n) → new ≡ old ++ f n → new ≡ before ++ flat_map f (below (n + 1))
pushed_below f before old new n are is =
    let here : 0 + n ≡ n = omega arith in
    let one : n + 1 ≡ suc n = omega arith in
    let longer : below (n + 1) ≡ below n ++ n ∷ [] = ap below one ∙ range_more 0 n ∙ ap (λ m. below n ++ m ∷ []) here in
    let last : flat_map f (below (n + 1)) ≡ flat_map f (below n) ++ f n =
    ap (flat_map f) longer ∙ flat_map-append f (below n) (n ∷ []) ∙ ap (λ l. flat_map f (below n) ++ l) (append-nil (f n)) in
    is ∙ ap (λ l. l ++ f n) are ∙ append_assoc before (flat_map f (below n)) (f n) ∙ ap (λ l. before ++ l) (sym last)

-- what a loop over a list appends, one member at a time
pub mapped_more : {X Y : Type 0} (f : X → Y) (before old new : List Y) (items xs : List X) (i : ℕ) (d : X) → items ≡ xs → i < length items → old ≡ before ++ map f (take i xs)
    → new ≡ old ++ f (get_or items i d) ∷ [] → new ≡ before ++ map f (take (i + 1) xs)
mapped_more f before old new items xs i d same within are is =
    let inside : i < length xs = omega (arith, ap length same) in
    is ∙ (λ j. are j ++ f (get_or (same j) i d) ∷ []) ∙ append_assoc before (map f (take i xs)) (f (get_or xs i d) ∷ [])
    ∙ ap (λ l. before ++ l) (sym (map-append f (take i xs) (get_or xs i d ∷ [])) ∙ ap (map f) (sym (take_more xs i d inside)))

module _ (Q : Query) (counts : List ℕ) where
  pub start_more : (e : ℕ) → start_of Q counts (e + 1) ≡ start_of Q counts e + size_of Q counts e
  start_more e = sum_by-map-range_with_len_more (λ m. m) (size_of Q counts) 0 e e (omega arith)

  start_rises : (e k : ℕ) → start_of Q counts e ≤ start_of Q counts (e + k)
  start_rises e zero = let same : e + 0 ≡ e = omega arith in omega (arith, ap (start_of Q counts) same)
  start_rises e (suc k) =
      let same : e + suc k ≡ e + k + 1 = omega arith in
      omega (arith, start_rises e k, start_more (e + k), ap (start_of Q counts) same)

  -- the generators of an entity end before those of the nulls begin
  pub start_before : (e : ℕ) → e < length Q.target.entities → start_of Q counts e + size_of Q counts e ≤ null_start Q counts
  start_before e within =
      let same : e + 1 + (length Q.target.entities - (e + 1)) ≡ length Q.target.entities = omega arith in
      omega (arith, start_more e, start_rises (e + 1) (length Q.target.entities - (e + 1)), ap (start_of Q counts) same)

  pub start_fits : (e start : ℕ) → slice_get (starts Q counts) e ≡ Some start → null_start Q counts ≤ 16000000 → start + size_of Q counts e ≤ 16000000
  start_fits e start at small =
      let within : e < length Q.target.entities = subst (λ n. e < n) (length-map-range_with_len (start_of Q counts) 0 (length Q.target.entities)) (slice_get_within (starts Q counts) e start at) in
      let both : Some start ≡ Some (start_of Q counts e) = sym at ∙ made_at (start_of Q counts) (length Q.target.entities) e within in
      let same : start ≡ start_of Q counts e = cc in
      omega (arith, start_before e within)

-- the generators of a row are among those of its entity
pub row_fits : (start row count width : ℕ) → row < count → start + count * width ≤ 16000000 → start + row * width + width ≤ 16000000
row_fits start row count width within small =
    let whole : suc row * width ≤ count * width = mul-le-mul_right width (let next : suc row ≤ count = omega arith in next) in
    omega (arith, whole, suc-mul row width)

pub const_sum : (w s c : ℕ) → sum_by (λ (_ : ℕ). w) (range_with_len s c) ≡ c * w
const_sum w s zero = omega (arith, zero-mul w)
const_sum w s (suc c) = omega (arith, sum_by-cons (λ (_ : ℕ). w) s (range_with_len (s + 1) c), const_sum w (s + 1) c, suc-mul c w)

module _ (Q : Query) (M : Tables) where
  pub rows_size : (e : ℕ) → length (row_sorts Q M.sheet.counts e) ≡ size_of Q M.sheet.counts e
  rows_size e =
      length-flat_map (λ (row : ℕ). map (λ (v : Name × ℕ). Entity v.1) (variables_at Q e)) (below (slice_index M.sheet.counts e))
      ∙ ap (λ w. sum_by (λ (_ : ℕ). w) (below (slice_index M.sheet.counts e))) (length-map (variables_at Q e) (λ (v : Name × ℕ). Entity v.1))
      ∙ const_sum (length (variables_at Q e)) 0 (slice_index M.sheet.counts e)

  abbrev sorts : List Sort
  sorts = flat_map (row_sorts Q M.sheet.counts) (below (length Q.target.entities)) ++ map Plain M.algebra.nulls

  -- how many generators the rows have
  pub rows_count : length (flat_map (row_sorts Q M.sheet.counts) (below (length Q.target.entities))) ≡ null_start Q M.sheet.counts
  rows_count =
      length-flat_map (row_sorts Q M.sheet.counts) (below (length Q.target.entities)) ∙ (λ i. sum_by (λ e. rows_size e i) (below (length Q.target.entities)))
      ∙ sym (sum-map (size_of Q M.sheet.counts) (below (length Q.target.entities)))

  -- how many generators there are
  pub sorts_count : length sorts ≡ null_start Q M.sheet.counts + length M.algebra.nulls
  sorts_count =
      omega (arith, rows_count, length-append (flat_map (row_sorts Q M.sheet.counts) (below (length Q.target.entities))) (map Plain M.algebra.nulls), length-map M.algebra.nulls Plain)

  generators_count : length (coeval_of Q M).generators ≡ null_start Q M.sheet.counts + length M.algebra.nulls
  generators_count = named_length sorts ∙ sorts_count

  -- too many generators
  pub many_generators : 16000000 < null_start Q M.sheet.counts + length M.algebra.nulls → is_oversized (coeval_of Q M) ≡ true
  many_generators h = ap (λ b. b || list_any has_long_side (coeval_of Q M).equations) (ap (nat_lt 16000000) generators_count ∙ is_more (null_start Q M.sheet.counts + length M.algebra.nulls) h)
    where
      is_more : (n : ℕ) → 16000000 < n → nat_lt 16000000 n ≡ true
      is_more n h = grind (arith, nat_tests)

  -- where the generators are not too many, the equations decide
  pub few_generators : null_start Q M.sheet.counts + length M.algebra.nulls ≤ 16000000 → is_oversized (coeval_of Q M) ≡ list_any has_long_side (coeval_of Q M).equations
  few_generators h = ap (λ b. b || list_any has_long_side (coeval_of Q M).equations) (ap (nat_lt 16000000) generators_count ∙ is_less (null_start Q M.sheet.counts + length M.algebra.nulls) h)
    where
      is_less : (n : ℕ) → n ≤ 16000000 → nat_lt 16000000 n ≡ false
      is_less n h = grind (arith, nat_tests)

  -- too many generators of the rows alone
  pub refused_rows : (refusal : SizeRefusal) (counts : List ℕ) → counts ≡ M.sheet.counts → (refusal ≡ SizeRefusal.Memory) ⊎ ((refusal ≡ SizeRefusal.TooLarge) × (16000000 < null_start Q counts))
      → (refusal ≡ SizeRefusal.Memory) ⊎ ((refusal ≡ SizeRefusal.TooLarge) × (is_oversized (coeval_of Q M) ≡ true))
  refused_rows refusal counts same (inl h) = inl h
  refused_rows refusal counts same (inr h) =
      let many : 16000000 < null_start Q M.sheet.counts + length M.algebra.nulls = omega (arith, h.1, ap (null_start Q) same) in
      inr (h.0, many_generators many)

  pub checked : (result : Result Presentation SizeRefusal) (made : Presentation) → made ≡ coeval_of Q M → null_start Q M.sheet.counts + length M.algebra.nulls ≤ 16000000
      → IfOk result (λ same. (same ≡ made) × (list_any has_long_side made.equations ≡ false)) → IfOk result (λ _. is_oversized (coeval_of Q M) ≡ false)
  checked (Ok same) made is small h = few_generators small ∙ ap (λ (P : Presentation). list_any has_long_side P.equations) (sym is) ∙ h.1
  checked (Err refusal) made is small h = h
