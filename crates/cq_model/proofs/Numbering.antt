-- Cells are numbered in their order.
use Rattle.std.proofs.Common.{ℕ, zero, suc, List, [], ◌∷◌, ◌++◌, Some, ◌≡◌, ◌≤◌, ◌<◌, ◌+◌, ◌*◌, inl, inr, map, length, refl, sym, ap, subst, ◌∙◌, arith, length-append}
use Rattle.std.specs.Prelude.{slice_get}
use Rattle.std.specs.List.{range_with_len, flat_map}
use Rattle.std.proofs.lemmas.Bool.{cases_eq}
use Rattle.std.proofs.lemmas.List.{append-nil, length-map}
use Rattle.std.proofs.lemmas.List.Concat.{flat_map-append}
use Rattle.std.proofs.lemmas.List.Folds.{flat_map-map}
use Rattle.std.proofs.lemmas.List.FromFn.{length-range_with_len}
use Rattle.std.proofs.lemmas.Option.{slice_get_within}
use Rattle.cq_theory.specs.Canonical.{below}
use Rattle.cq_theory.specs.Groups.{positions}
use Rattle.cq_names.specs.Ranks.{rank, members}
use Rattle.cq_model.specs.Numbering.{Cell, row_cells, entity_cells, cells, label}
use Rattle.cq_instance.proofs.Lists.{IsIn, get-map, in_map, in_flat_map, from_flat_map, from_map, flat_map_same, get-range, range-append, blocks, map-map, map-append, map-flat_map, map-range_shift, in_range, in_range_from}
use Rattle.cq_names.proofs.Ranks.{positions_at, map_rank}

module _ (owners sources : List ℕ) where
  -- the number of a cell
  abbrev pub label_of : Cell → ℕ
  label_of c = label owners sources c.entity (rank owners c.entity c.generator) c.attribute

  row_labels : (e n : ℕ) → map label_of (row_cells owners sources e n) ≡ range_with_len (length (cells owners sources e) + rank owners e n * members sources e) (members sources e)
  row_labels e n =
      let s : ℕ = length (cells owners sources e) + rank owners e n * members sources e in
      let here : s + 0 ≡ s = omega arith in
      map-map label_of (λ a. record { entity = e; generator = n; attribute = a }) (positions sources e)
      ∙ sym (map-map (λ k. s + k) (rank sources e) (positions sources e))
      ∙ ap (map (λ k. s + k)) (map_rank sources e)
      ∙ map-range_shift s 0 (members sources e)
      ∙ ap (λ t. range_with_len t (members sources e)) here

  entity_labels : (e : ℕ) → map label_of (entity_cells owners sources e) ≡ range_with_len (length (cells owners sources e)) (members owners e * members sources e)
  entity_labels e =
      let s : ℕ = length (cells owners sources e) in
      let w : ℕ = members sources e in
      let here : s + 0 * w ≡ s = omega arith in
      map-flat_map label_of (row_cells owners sources e) (positions owners e)
      ∙ flat_map_same (λ n. map label_of (row_cells owners sources e n)) (λ n. range_with_len (s + rank owners e n * w) w) (positions owners e) (λ n _. row_labels e n)
      ∙ sym (flat_map-map (λ row. range_with_len (s + row * w) w) (rank owners e) (positions owners e))
      ∙ ap (flat_map (λ row. range_with_len (s + row * w) w)) (map_rank owners e)
      ∙ blocks s w 0 (members owners e)
      ∙ ap (λ t. range_with_len t (members owners e * w)) here

  below_more : (n : ℕ) → below (suc n) ≡ below n ++ n ∷ []
  below_more n =
      let one : n + 1 ≡ suc n = omega arith in
      let here : 0 + n ≡ n = omega arith in
      ap below (sym one) ∙ sym (range-append 0 n 1) ∙ ap (λ t. below n ++ t ∷ []) here

  -- the cells of one more entity
  pub cells_more : (n : ℕ) → cells owners sources (suc n) ≡ cells owners sources n ++ entity_cells owners sources n
  cells_more n =
      ap (flat_map (entity_cells owners sources)) (below_more n) ∙ flat_map-append (entity_cells owners sources) (below n) (n ∷ [])
      ∙ ap (λ l. cells owners sources n ++ l) (append-nil (entity_cells owners sources n))

  -- how many cells an entity has
  pub entity_size : (n : ℕ) → length (entity_cells owners sources n) ≡ members owners n * members sources n
  entity_size n =
      sym (length-map (entity_cells owners sources n) label_of) ∙ ap length (entity_labels n)
      ∙ length-range_with_len (length (cells owners sources n)) (members owners n * members sources n)

  -- the numbers of the cells, in order, are 0, 1, and so on
  pub numbered : (n : ℕ) → map label_of (cells owners sources n) ≡ below (length (cells owners sources n))
  numbered zero = refl
  numbered (suc n) =
      let before : List Cell = cells owners sources n in
      let more : List Cell = entity_cells owners sources n in
      let size : length more ≡ members owners n * members sources n = entity_size n in
      let here : length before ≡ 0 + length before = omega arith in
      let whole : length before + members owners n * members sources n ≡ length (cells owners sources (suc n)) =
      ap (λ k. length before + k) (sym size) ∙ sym (length-append before more) ∙ sym (ap length (cells_more n)) in
      ap (map label_of) (cells_more n) ∙ map-append label_of before more
      ∙ ap (λ l. l ++ map label_of more) (numbered n) ∙ ap (λ l. below (length before) ++ l) (entity_labels n)
      ∙ ap (λ t. below (length before) ++ range_with_len t (members owners n * members sources n)) here
      ∙ range-append 0 (length before) (members owners n * members sources n) ∙ ap below whole

  -- the cell at a place has the place for its number
  pub label_at : (entities k : ℕ) (c : Cell) → slice_get (cells owners sources entities) k ≡ Some c → label_of c ≡ k
  label_at entities k c h =
      let all : List Cell = cells owners sources entities in
      let at_place : slice_get (below (length all)) k ≡ Some (label_of c) = ap (λ l. slice_get l k) (sym (numbered entities)) ∙ get-map label_of all k c h in
      let same : Some (0 + k) ≡ Some (label_of c) = sym (get-range 0 (length all) k (slice_get_within all k c h)) ∙ at_place in
      let same' : 0 + k ≡ label_of c = cc in
      omega arith

  -- a cell stands at its number
  pub cell_labelled : (entities : ℕ) (c : Cell) → IsIn c (cells owners sources entities) → slice_get (cells owners sources entities) (label_of c) ≡ Some c
  cell_labelled entities c h = ap (slice_get (cells owners sources entities)) (label_at entities h.place c h.is) ∙ h.is

  -- the cells are those of a generator and an attribute of one entity
  pub in_cells : (entities e n a : ℕ) → e < entities → IsIn n (positions owners e) → IsIn a (positions sources e)
      → IsIn (record { entity = e; generator = n; attribute = a }) (cells owners sources entities)
  in_cells entities e n a within generator attribute =
      let c : Cell = record { entity = e; generator = n; attribute = a } in
      in_flat_map (entity_cells owners sources) e (below entities) c (in_range_from entities e within)
      (in_flat_map (row_cells owners sources e) n (positions owners e) c generator
      (in_map (λ b. record { entity = e; generator = n; attribute = b }) a (positions sources e) attribute))

  pub record IsCell (entities : ℕ) (c : Cell) : Type 0 where
    pub entity : c.entity < entities
    pub generator : slice_get owners c.generator ≡ Some c.entity
    pub attribute : slice_get sources c.attribute ≡ Some c.entity

  pub from_cells : (entities : ℕ) (c : Cell) → IsIn c (cells owners sources entities) → IsCell entities c
  from_cells entities c h =
      let part = from_flat_map (entity_cells owners sources) (below entities) c h in
      let row = from_flat_map (row_cells owners sources part.source) (positions owners part.source) c part.in_part in
      let cell = from_map (λ b. record { entity = part.source; generator = row.source; attribute = b }) (positions sources part.source) c row.in_part in
      subst (IsCell entities) cell.image (record {
        entity = in_range entities part.source part.in_source;
        generator = (positions_at owners part.source row.in_source.place row.source row.in_source.is).0;
        attribute = (positions_at sources part.source cell.in_source.place cell.source cell.in_source.is).0;
      })

  -- an entity's cells end where the next entity's begin, and the first cells are no more than all
  pub next_start : (n : ℕ) → length (cells owners sources (suc n)) ≡ length (cells owners sources n) + members owners n * members sources n
  next_start n = ap length (cells_more n) ∙ length-append (cells owners sources n) (entity_cells owners sources n) ∙ ap (λ k. length (cells owners sources n) + k) (entity_size n)

  pub cells-monotone : (m n : ℕ) → m ≤ n → length (cells owners sources m) ≤ length (cells owners sources n)
  cells-monotone m zero h = let here : m ≡ 0 = omega arith in omega (arith, ap (λ k. length (cells owners sources k)) here)
  cells-monotone m (suc n) h = elim (cases_eq m (suc n)) [
    | inl same ↦ omega (arith, ap (λ k. length (cells owners sources k)) same)
    | inr other ↦ let less : m ≤ n = omega arith in omega (arith, cells-monotone m n less, next_start n)
  ]
