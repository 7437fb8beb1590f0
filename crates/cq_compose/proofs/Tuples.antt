-- Tuples of counts that stand one behind another, and answers that are numbered by tuples.
use Rattle.std.proofs.Common.{ℕ, zero, suc, List, [], ◌∷◌, ◌++◌, Some, ◌≡◌, ◌<◌, ◌≤◌, ◌+◌, ◌↔◌, map, length, take, drop, refl, sym, ap, subst, ◌∙◌, arith}
use Rattle.std.specs.Prelude.{slice_get, slice_index_or, sum}
use Rattle.std.specs.List.{flat_map, range_with_len}
use Rattle.std.proofs.Math.Seq.{take-append_seam, drop-append_seam}
use Rattle.std.proofs.lemmas.List.{append-nil, map-append, drop-drop}
use Rattle.std.proofs.lemmas.List.FromFn.{length-range_with_len}
use Rattle.std.proofs.lemmas.List.Sums.{sum_by-cons}
use Rattle.std.proofs.lemmas.Grind.{flat_map-append}
use Rattle.std.proofs.lemmas.Option.{slice_get_within, get_or_from_slice_get}
use Rattle.cq_base.specs.declared.name.Name.{Name}
use Rattle.cq_theory.specs.Canonical.{below}
use Rattle.cq_theory.specs.Tables.{Tables}
use Rattle.cq_theory.proofs.Every.{Every, Every-at, Every-flat_map, Every-map, Every-weaker, at_range}
use Rattle.cq_query.specs.QueryData.{QueryData as Query}
use Rattle.cq_query.specs.Translation.{variables_at}
use Rattle.cq_query.specs.Answers.{tuples, IsTuple, AreFiltered, none, kept, MeetsTests, AreAnswers, variable_counts}
use Rattle.cq_query.proofs.Holding.{variable_count}
use Rattle.cq_compose.proofs.Filtered.{behind, filtered_pairs}

below_count : (c n r : ℕ) → slice_get (below c) n ≡ Some r → r < c
below_count c n r at =
    let inside : n < c = subst (λ m. n < m) (length-range_with_len 0 c) (slice_get_within (below c) n r at) in
    let read : Some r ≡ Some (0 + n) = sym at ∙ at_range 0 c n inside in
    let same : r ≡ 0 + n = cc in
    omega arith

-- the tuples are tuples
pub tuples_are : (counts : List ℕ) → Every (λ a. IsTuple a counts) (tuples counts)
tuples_are [] = (tt, tt)
tuples_are (c ∷ counts) =
    Every-flat_map (λ a. IsTuple a (c ∷ counts)) (λ row. map (λ rows. row ∷ rows) (tuples counts)) (below c) (λ n row at.
    Every-map (λ a. IsTuple a (c ∷ counts)) (λ rows. row ∷ rows) (tuples counts) (λ m rows at'.
    (below_count c n row at, Every-at (λ a. IsTuple a counts) (tuples counts) m rows (tuples_are counts) at')))

module _ (zs : List (List ℕ)) where
  one_in_front : (row : ℕ) (t : List ℕ) (ws : List (List ℕ)) → map (λ rows. row ∷ rows) (behind ws t) ≡ behind ws (row ∷ t)
  one_in_front row t [] = refl
  one_in_front row t (w ∷ ws) = ap (λ l. (row ∷ (t ++ w)) ∷ l) (one_in_front row t ws)

  in_front_of : (row : ℕ) (ts : List (List ℕ)) → map (λ rows. row ∷ rows) (flat_map (behind zs) ts) ≡ flat_map (behind zs) (map (λ rows. row ∷ rows) ts)
  in_front_of row [] = refl
  in_front_of row (t ∷ ts) =
      let one : map (λ rows. row ∷ rows) (behind zs t) ≡ behind zs (row ∷ t) = one_in_front row t zs in
      let rest = in_front_of row ts in
      map-append (λ rows. row ∷ rows) (behind zs t) (flat_map (behind zs) ts) ∙ (λ i. one i ++ rest i)

  all_in_front : (ts us : List (List ℕ)) → us ≡ flat_map (behind zs) ts → (rs : List ℕ)
      → flat_map (λ row. map (λ rows. row ∷ rows) us) rs ≡ flat_map (behind zs) (flat_map (λ row. map (λ rows. row ∷ rows) ts) rs)
  all_in_front ts us is [] = refl
  all_in_front ts us is (r ∷ rs) =
      let one : map (λ rows. r ∷ rows) us ≡ flat_map (behind zs) (map (λ rows. r ∷ rows) ts) = ap (map (λ rows. r ∷ rows)) is ∙ in_front_of r ts in
      let rest : flat_map (λ row. map (λ rows. row ∷ rows) us) rs ≡ flat_map (behind zs) (flat_map (λ row. map (λ rows. row ∷ rows) ts) rs) = all_in_front ts us is rs in
      (λ i. one i ++ rest i) ∙ sym (flat_map-append (behind zs) (map (λ rows. r ∷ rows) ts) (flat_map (λ row. map (λ rows. row ∷ rows) ts) rs))

-- the tuples of counts and more counts are tuples of the former with tuples of the latter behind them
pub tuples-append : (cs ds : List ℕ) → tuples (cs ++ ds) ≡ flat_map (behind (tuples ds)) (tuples cs)
tuples-append [] ds = sym (append-nil (behind (tuples ds) []) ∙ nothing (tuples ds))
  where
    nothing : (zs : List (List ℕ)) → behind zs [] ≡ zs
    nothing [] = refl
    nothing (z ∷ zs) = ap (λ l. z ∷ l) (nothing zs)
tuples-append (c ∷ cs) ds = all_in_front (tuples ds) (tuples cs) (tuples (cs ++ ds)) (tuples-append cs ds) (below c)

-- a function of each of a list's members, read by their numbers
pub by_number : {X Y : Type 0} (g : X → List Y) (all : List X) (d : X) (s : ℕ) (xs : List X) → ((n : ℕ) (x : X) → slice_get xs n ≡ Some x → slice_get all (s + n) ≡ Some x)
    → flat_map (λ n. g (slice_index_or all n d)) (range_with_len s (length xs)) ≡ flat_map g xs
by_number g all d s [] h = refl
by_number g all d s (x ∷ xs) h =
    let here : s ≡ s + 0 = omega arith in
    let found : slice_index_or all s d ≡ x = get_or_from_slice_get all s x d (ap (slice_get all) here ∙ h 0 x refl) in
    let first : g (slice_index_or all s d) ≡ g x = ap g found in
    let rest : flat_map (λ n. g (slice_index_or all n d)) (range_with_len (s + 1) (length xs)) ≡ flat_map g xs = by_number g all d (s + 1) xs (λ n y at.
    let there : s + 1 + n ≡ s + suc n = omega arith in ap (slice_get all) there ∙ h (suc n) y at) in
    λ i. first i ++ rest i

-- variables beside rows: the entity of each variable, and the row
abbrev pub paired : List (Name × ℕ) → List ℕ → List (ℕ × ℕ)
paired [] rows = []
paired (v ∷ vs) [] = []
paired (v ∷ vs) (row ∷ rows) = (v.1, row) ∷ paired vs rows

pub paired_at : (vs : List (Name × ℕ)) (rows : List ℕ) (y : ℕ) (v : Name × ℕ) (row : ℕ) → slice_get vs y ≡ Some v → slice_get rows y ≡ Some row → slice_get (paired vs rows) y ≡ Some (v.1, row)
paired_at [] rows y v row h k = cc
paired_at (w ∷ vs) [] y v row h k = cc
paired_at (w ∷ vs) (r ∷ rows) zero v row h k =
    let left : w ≡ v = cc in
    let right : r ≡ row = cc in
    λ i. Some ((left i).1, right i)
paired_at (w ∷ vs) (r ∷ rows) (suc y) v row h k = paired_at vs rows y v row h k

pub paired_length : (vs : List (Name × ℕ)) (rows : List ℕ) → length rows ≡ length vs → length (paired vs rows) ≡ length vs
paired_length [] rows same = refl
paired_length (v ∷ vs) [] same = absurd (omega arith)
paired_length (v ∷ vs) (r ∷ rows) same = ap suc (paired_length vs rows (omega arith))

abbrev pub answer_of : (ℕ → List (List ℕ)) → ℕ × ℕ → List ℕ
answer_of answers p = slice_index_or (answers p.0) p.1 []

-- the answers that rows number, one behind another
abbrev pub joined : (ℕ → List (List ℕ)) → List (Name × ℕ) → List ℕ → List ℕ
joined answers vs rows = flat_map (answer_of answers) (paired vs rows)

module _ (Q : Query) (M : Tables) (answers : ℕ → List (List ℕ)) where
  abbrev pub size_of : Name × ℕ → ℕ
  size_of v = length (variables_at Q v.1)

  -- the where equations of each variable's block hold at its part of the rows
  abbrev pub AreAllMet : List (Name × ℕ) → List ℕ → Type 0
  AreAllMet [] rows = Unit {0}
  AreAllMet (v ∷ vs) rows = MeetsTests Q M v.1 (take (size_of v) rows) × AreAllMet vs (drop (size_of v) rows)

  abbrev all_counts : List (Name × ℕ) → List ℕ
  all_counts vs = flat_map (λ v. variable_counts Q M v.1) vs

  abbrev numbers : List (Name × ℕ) → List ℕ
  numbers vs = map (λ v. length (answers v.1)) vs

  module _ (v : Name × ℕ) (vs : List (Name × ℕ)) (ts : List (List ℕ)) where
    one_row : (row : ℕ) (us : List (List ℕ)) → map (joined answers (v ∷ vs)) (map (λ rows. row ∷ rows) us) ≡ behind (map (joined answers vs) us) (slice_index_or (answers v.1) row [])
    one_row row [] = refl
    one_row row (u ∷ us) = ap (λ l. (slice_index_or (answers v.1) row [] ++ joined answers vs u) ∷ l) (one_row row us)

    each_row : (rs : List ℕ) → map (joined answers (v ∷ vs)) (flat_map (λ row. map (λ rows. row ∷ rows) ts) rs)
        ≡ flat_map (λ row. behind (map (joined answers vs) ts) (slice_index_or (answers v.1) row [])) rs
    each_row [] = refl
    each_row (r ∷ rs) =
        let one : map (joined answers (v ∷ vs)) (map (λ rows. r ∷ rows) ts) ≡ behind (map (joined answers vs) ts) (slice_index_or (answers v.1) r []) = one_row r ts in
        let rest = each_row rs in
        map-append (joined answers (v ∷ vs)) (map (λ rows. r ∷ rows) ts) (flat_map (λ row. map (λ rows. row ∷ rows) ts) rs) ∙ (λ i. one i ++ rest i)

    joined_first : map (joined answers (v ∷ vs)) (flat_map (λ row. map (λ rows. row ∷ rows) ts) (below (length (answers v.1))))
        ≡ flat_map (behind (map (joined answers vs) ts)) (answers v.1)
    joined_first = each_row (below (length (answers v.1))) ∙ by_number (behind (map (joined answers vs) ts)) (answers v.1) [] 0 (answers v.1) (λ n x at.
        let here : 0 + n ≡ n = omega arith in ap (slice_get (answers v.1)) here ∙ at)

  parts_good : (v : Name × ℕ) (vs : List (Name × ℕ)) (a b : List ℕ) → length a ≡ size_of v → (MeetsTests Q M v.1 a × AreAllMet vs b) ↔ AreAllMet (v ∷ vs) (a ++ b)
  parts_good v vs a b sized =
      let front : take (size_of v) (a ++ b) ≡ a = ap (λ n. take n (a ++ b)) (sym sized) ∙ take-append_seam a b in
      let back : drop (size_of v) (a ++ b) ≡ b = ap (λ n. drop n (a ++ b)) (sym sized) ∙ drop-append_seam a b in (
        λ h. (subst (MeetsTests Q M v.1) (sym front) h.0, subst (AreAllMet vs) (sym back) h.1),
        λ h. (subst (MeetsTests Q M v.1) front h.0, subst (AreAllMet vs) back h.1),
      )

  -- among all rows for the components of the variables, those at which each variable's where equations hold are the answers that tuples number
  pub all_met : (vs : List (Name × ℕ)) → ((n : ℕ) (v : Name × ℕ) → slice_get vs n ≡ Some v → AreAnswers Q M v.1 (answers v.1))
      → AreFiltered (AreAllMet vs) (tuples (all_counts vs)) (map (joined answers vs) (tuples (numbers vs)))
  all_met [] h = kept tt none
  all_met (v ∷ vs) h =
      let rest = all_met vs (λ n w at. h (suc n) w at) in
      let both = filtered_pairs (MeetsTests Q M v.1) (AreAllMet vs) (AreAllMet (v ∷ vs)) (size_of v) (parts_good v vs)
      (tuples (all_counts vs)) (map (joined answers vs) (tuples (numbers vs))) rest (h 0 v refl)
      (Every-weaker (λ a. IsTuple a (variable_counts Q M v.1)) (λ a. length a ≡ size_of v) (λ a tuple. variable_count Q M v.1 a tuple) (tuples (variable_counts Q M v.1)) (tuples_are (variable_counts Q M v.1))) in
      subst (λ (l : List (List ℕ)). AreFiltered (AreAllMet (v ∷ vs)) l (map (joined answers (v ∷ vs)) (tuples (numbers (v ∷ vs))))) (sym (tuples-append (variable_counts Q M v.1) (all_counts vs)))
      (subst (λ (l : List (List ℕ)). AreFiltered (AreAllMet (v ∷ vs)) (flat_map (behind (tuples (all_counts vs))) (tuples (variable_counts Q M v.1))) l) (sym (joined_first v vs (tuples (numbers vs)))) both)

  -- the part of each variable, by its place
  part_start : (v : Name × ℕ) (vs : List (Name × ℕ)) (rows : List ℕ) → drop (sum (map size_of (v ∷ vs))) rows ≡ drop (sum (map size_of vs)) (drop (size_of v) rows)
  part_start v vs rows = ap (λ n. drop n rows) (sum_by-cons (λ n. n) (size_of v) (map size_of vs)) ∙ sym (drop-drop (sum (map size_of vs)) (size_of v) rows)

  pub met_at : (vs : List (Name × ℕ)) (rows : List ℕ) → AreAllMet vs rows → (y : ℕ) (v : Name × ℕ) → slice_get vs y ≡ Some v
      → MeetsTests Q M v.1 (take (size_of v) (drop (sum (map size_of (take y vs))) rows))
  met_at [] rows h y v at = cc
  met_at (w ∷ vs) rows h zero v at = let same : w ≡ v = cc in subst (λ (x : Name × ℕ). MeetsTests Q M x.1 (take (size_of x) rows)) same h.0
  met_at (w ∷ vs) rows h (suc y) v at =
      subst (λ l. MeetsTests Q M v.1 (take (size_of v) l)) (sym (part_start w (take y vs) rows)) (met_at vs (drop (size_of w) rows) h.1 y v at)

  pub met_from : (vs : List (Name × ℕ)) (rows : List ℕ)
      → ((y : ℕ) (v : Name × ℕ) → slice_get vs y ≡ Some v → MeetsTests Q M v.1 (take (size_of v) (drop (sum (map size_of (take y vs))) rows))) → AreAllMet vs rows
  met_from [] rows h = tt
  met_from (w ∷ vs) rows h = (
    h 0 w refl,
    met_from vs (drop (size_of w) rows) (λ y v at. subst (λ l. MeetsTests Q M v.1 (take (size_of v) l)) (part_start w (take y vs) rows) (h (suc y) v at)),
  )

  pub part_fits : (vs : List (Name × ℕ)) (y : ℕ) (v : Name × ℕ) → slice_get vs y ≡ Some v → sum (map size_of (take y vs)) + size_of v ≤ sum (map size_of vs)
  part_fits [] y v at = cc
  part_fits (w ∷ vs) zero v at =
      let same : w ≡ v = cc in
      let width : size_of w ≡ size_of v = ap size_of same in
      let all : sum (map size_of (w ∷ vs)) ≡ size_of w + sum (map size_of vs) = sum_by-cons (λ n. n) (size_of w) (map size_of vs) in
      omega (arith, width, all)
  part_fits (w ∷ vs) (suc y) v at =
      let rest = part_fits vs y v at in
      let all : sum (map size_of (w ∷ vs)) ≡ size_of w + sum (map size_of vs) = sum_by-cons (λ n. n) (size_of w) (map size_of vs) in
      let before : sum (map size_of (w ∷ take y vs)) ≡ size_of w + sum (map size_of (take y vs)) = sum_by-cons (λ n. n) (size_of w) (map size_of (take y vs)) in
      omega (arith, all, before, rest)
