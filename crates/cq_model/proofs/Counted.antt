-- What is counted out from grouped numbers is the numbering of the cells.
use Rattle.std.proofs.Common.{ℕ, suc, List, [], ◌≡◌, ◌≤◌, ◌<◌, ◌+◌, ◌*◌, map, length, slice_index, slice_index_or, sym, ap, subst, ◌∙◌, arith}
use Rattle.std.specs.List.{flat_map}
use Rattle.std.proofs.lemmas.List.{length-map}
use Rattle.std.proofs.lemmas.List.FromFn.{get_or-map-range_with_len}
use Rattle.cq_theory.specs.Canonical.{below}
use Rattle.cq_theory.specs.Groups.{positions}
use Rattle.cq_names.specs.Ranks.{members}
use Rattle.cq_model.specs.Numbering.{Cell, row_cells, entity_cells, cells, entity_types, types, starts}
use Rattle.cq_instance.proofs.Lists.{flat_map_same, map-map, map-flat_map, in_range}
use Rattle.cq_model.proofs.Numbering.{next_start, cells-monotone}

module _ (owners sources targets : List ℕ) (entities : ℕ) where
  abbrev rows : List (List ℕ)
  rows = map (positions owners) (below entities)

  abbrev attributes : List (List ℕ)
  attributes = map (positions sources) (below entities)

  abbrev firsts : List ℕ
  firsts = starts rows attributes targets entities

  rows_at : (e : ℕ) → e < entities → slice_index_or rows e [] ≡ positions owners e
  rows_at e within = get_or-map-range_with_len (positions owners) 0 entities e e [] within (omega arith)

  pub attributes_at : (e : ℕ) → e < entities → slice_index_or attributes e [] ≡ positions sources e
  attributes_at e within = get_or-map-range_with_len (positions sources) 0 entities e e [] within (omega arith)

  abbrev type_of_cell : Cell → ℕ
  type_of_cell c = slice_index targets c.attribute

  entity_types_are : (e : ℕ) → e < entities → entity_types rows attributes targets e ≡ map type_of_cell (entity_cells owners sources e)
  entity_types_are e within =
      (λ i. flat_map (λ (row : ℕ). map (slice_index targets) (attributes_at e within i)) (rows_at e within i))
      ∙ flat_map_same (λ n. map (slice_index targets) (positions sources e)) (λ n. map type_of_cell (row_cells owners sources e n)) (positions owners e)
      (λ n _. sym (map-map type_of_cell (λ (a : ℕ). record { entity = e; generator = n; attribute = a }) (positions sources e)))
      ∙ sym (map-flat_map type_of_cell (row_cells owners sources e) (positions owners e))

  -- the types counted out are those of the cells
  pub types_are : (n : ℕ) → n ≤ entities → types rows attributes targets n ≡ map type_of_cell (cells owners sources n)
  types_are n h =
      flat_map_same (entity_types rows attributes targets) (λ e. map type_of_cell (entity_cells owners sources e)) (below n)
      (λ e is. let inside : e < n = in_range n e is in entity_types_are e (omega arith))
      ∙ sym (map-flat_map type_of_cell (entity_cells owners sources) (below n))

  pub first_is : (e : ℕ) → e < entities → slice_index firsts e ≡ length (cells owners sources e)
  first_is e within =
      get_or-map-range_with_len (λ n. length (types rows attributes targets n)) 0 entities e e 0 within (omega arith)
      ∙ ap length (types_are e (omega arith)) ∙ length-map (cells owners sources e) type_of_cell

  -- each entity's cells end below a limit of all cells
  pub starts_fit : (limit : ℕ) → length (types rows attributes targets entities) < limit
      → (e : ℕ) → e < entities → slice_index firsts e + length (slice_index_or rows e []) * length (slice_index_or attributes e []) < limit
  starts_fit limit few e within =
      let whole : length (types rows attributes targets entities) ≡ length (cells owners sources entities) =
      ap length (types_are entities (omega arith)) ∙ length-map (cells owners sources entities) type_of_cell in
      let first : length (cells owners sources e) + members owners e * members sources e ≡ length (cells owners sources (suc e)) = sym (next_start owners sources e) in
      let last : length (cells owners sources (suc e)) ≤ length (cells owners sources entities) = cells-monotone owners sources (suc e) entities (omega arith) in
      let below_limit : length (cells owners sources e) + members owners e * members sources e < limit = omega arith in
      subst (λ n. n < limit) (sym (λ i. first_is e within i + length (rows_at e within i) * length (attributes_at e within i))) below_limit
