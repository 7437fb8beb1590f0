-- What loops over entities and attributes count out, one step on.
use Rattle.std.proofs.Common.{ℕ, List, [], ◌∷◌, ◌++◌, Some, ◌≡◌, ◌<◌, ◌+◌, ◌==◌, if◌then◌else◌, map, length, get_or, slice_set, slice_index, false, refl, sym, ap, ◌∙◌, arith, eq-eqb}
use Rattle.std.specs.Prelude.{slice_get}
use Rattle.std.specs.List.{flat_map}
use Rattle.std.proofs.lemmas.Bool.{ne_eqb}
use Rattle.std.proofs.lemmas.List.{append-nil}
use Rattle.std.proofs.lemmas.List.Concat.{flat_map-append}
use Rattle.std.proofs.lemmas.List.FromFn.{fill_by_all, get_or-map-range_with_len, map-range_with_len_more}
use Rattle.std.proofs.lemmas.Option.{slice_get-get_or, slice_get_within}
use Rattle.cq_theory.specs.Canonical.{below}
use Rattle.cq_names.specs.Ranks.{rank}
use Rattle.cq_model.specs.LeafPlaces.{AreFirsts}
use Rattle.cq_model.specs.Numbering.{entity_types, types, starts}
use Rattle.cq_instance.proofs.Lists.{range-append}
use Rattle.cq_instance.proofs.Positions.{set-map_below}
use Rattle.cq_names.proofs.Spreads.{AreSpread}
use Rattle.cq_names.proofs.Ranks.{rank_more, rank_zero}

-- the first number of each entity, and of each entity after an attribute more
pub firsts_none : (firsts sources : List ℕ) (n : ℕ) → length firsts ≡ n → firsts ≡ map (λ e. slice_index firsts e + rank sources e 0) (below n)
firsts_none firsts sources n size = fill_by_all (λ e. slice_index firsts e + rank sources e 0) firsts n 0 size (λ k within. omega (arith, rank_zero sources k))

pub firsts_more : (firsts sources : List ℕ) (n i source first : ℕ) → i < length sources → source ≡ get_or sources i 0 → source < n → first ≡ slice_index firsts source + rank sources source i
    → slice_set (map (λ e. slice_index firsts e + rank sources e i) (below n)) source (first + 1) ≡ map (λ e. slice_index firsts e + rank sources e (i + 1)) (below n)
firsts_more firsts sources n i source first within is source_within first_is =
    let found : slice_get sources i ≡ Some source = slice_get-get_or sources i 0 within ∙ ap (λ m. Some m) (sym is) in
    set-map_below (λ e. slice_index firsts e + rank sources e i) (λ e. slice_index firsts e + rank sources e (i + 1)) n source (first + 1) source_within
    (let more : rank sources source (i + 1) ≡ rank sources source i + 1 =
    rank_more sources source i source found ∙ ap (λ b. if b then rank sources source i + 1 else rank sources source i) (eq-eqb source source refl) in
    omega (arith, more, first_is))
    (λ k other.
    let unlike : (source == k) ≡ false = ne_eqb source k (λ same. other (sym same)) in
    ap (λ r. slice_index firsts k + r) (sym (rank_more sources k i source found ∙ ap (λ b. if b then rank sources k i + 1 else rank sources k i) unlike)))

-- what is read of the numbers after some attributes
pub first_read : (firsts sources next : List ℕ) (n i first : ℕ) → next ≡ map (λ e. slice_index firsts e + rank sources e i) (below n) → slice_index sources i < n
    → first ≡ get_or next (slice_index sources i) first → first ≡ slice_index firsts (slice_index sources i) + rank sources (slice_index sources i) i
first_read firsts sources next n i first are within read =
    read ∙ ap (λ l. get_or l (slice_index sources i) first) are
    ∙ get_or-map-range_with_len (λ e. slice_index firsts e + rank sources e i) 0 n (slice_index sources i) (slice_index sources i) first within (omega arith)

module _ (rows attributes : List (List ℕ)) (targets : List ℕ) (n : ℕ) where
  below_more : below (n + 1) ≡ below n ++ n ∷ []
  below_more =
      let here : 0 + n ≡ n = omega arith in
      sym (range-append 0 n 1) ∙ ap (λ t. below n ++ t ∷ []) here

  -- the types of one entity more
  pub types_more : types rows attributes targets (n + 1) ≡ types rows attributes targets n ++ entity_types rows attributes targets n
  types_more =
      ap (flat_map (entity_types rows attributes targets)) below_more ∙ flat_map-append (entity_types rows attributes targets) (below n) (n ∷ [])
      ∙ ap (λ l. types rows attributes targets n ++ l) (append-nil (entity_types rows attributes targets n))

  pub starts_more : starts rows attributes targets (n + 1) ≡ starts rows attributes targets n ++ length (types rows attributes targets n) ∷ []
  starts_more = map-range_with_len_more (λ e. length (types rows attributes targets e)) 0 n n (omega arith)

-- the first place of each row
pub spread_firsts : (members rows starts : List ℕ) (attributes : List (List ℕ)) (n i : ℕ) (next found : List ℕ)
    → AreSpread starts members rows (λ e. length (get_or attributes e [])) n i next found → length rows ≡ i → AreFirsts members rows attributes starts found
spread_firsts members rows starts attributes n i next found spread size p r e a b = spread.found_are p r e (omega (arith, slice_get_within rows p r a, size)) a b
