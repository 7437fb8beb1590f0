-- Records by their places among all records.
use Rattle.std.proofs.Common.{ℕ, zero, suc, List, [], ◌∷◌, ◌+◌, ◌<◌, ◌≤◌, ◌≡◌, Option, Some, None, length, map, take, get_or, refl, sym, ap, subst, ◌∙◌, arith}
use Rattle.std.specs.Prelude.{sum, slice_get}
use Rattle.std.specs.Option.{option_map}
use Rattle.std.proofs.lemmas.List.{get_or-map, length-map}
use Rattle.std.proofs.lemmas.List.FromFn.{get_or-map-range_with_len}
use Rattle.std.proofs.lemmas.List.Sums.{sum_by_more_le}
use Rattle.std.proofs.lemmas.List.Quantifiers.{position-Some}
use Rattle.std.proofs.lemmas.Option.{slice_get-get_or, slice_get-map}
use Rattle.cq_base.specs.Names.{number_of, same_name}
use Rattle.cq_theory.specs.Canonical.{below}
use Rattle.cq_import.specs.declared.entity_file.EntityFile.{EntityFile}
use Rattle.cq_import.specs.Cells.{Sheet, counts, row_with_id, rows_at, rows_in, start_of}
use Rattle.cq_import.specs.Context.{sheet_in}
use Rattle.cq_import.specs.Records.{Record}
use Rattle.cq_import.specs.Rows.{id_of, ids_of, rows_of}

pub sum_take : (xs : List ℕ) (k : ℕ) → k < length xs → sum (take k xs) + get_or xs k 0 ≤ sum xs
sum_take xs k within = sum_by_more_le (λ (x : ℕ). x) xs k 0 within

module _ (files : List EntityFile) (entity : ℕ) (file : EntityFile) (within : entity < length files) (is : file ≡ get_or files entity file) where
  pub sheet_here : slice_get (map sheet_in files) entity ≡ Some (sheet_in file)
  sheet_here = slice_get-map sheet_in files entity ∙ ap (option_map sheet_in) (slice_get-get_or files entity file within ∙ ap Some (sym is))

  pub rows_here : rows_at (map sheet_in files) entity ≡ rows_of file.text.items
  rows_here = ap rows_in sheet_here

  pub id_here : (id : List ℕ) → row_with_id (map sheet_in files) entity id ≡ number_of (ids_of (rows_of file.text.items)) id
  id_here id = ap (λ (rows : List Record). number_of (ids_of rows) id) rows_here

  pub count_here : get_or (counts (map sheet_in files)) entity 0 ≡ length (rows_of file.text.items)
  count_here =
      get_or-map (λ (s : Sheet). length s.rows) (map sheet_in files) entity (sheet_in file) 0 (omega (arith, length-map files sheet_in))
      ∙ ap (λ (s : Sheet). length s.rows) (get_or-map sheet_in files entity file (sheet_in file) within ∙ ap sheet_in (sym is))

  pub rows_fit : start_of (map sheet_in files) entity + length (rows_of file.text.items) ≤ sum (counts (map sheet_in files))
  rows_fit =
      subst (λ n. start_of (map sheet_in files) entity + n ≤ sum (counts (map sheet_in files))) count_here
      (sum_take (counts (map sheet_in files)) entity (omega (arith, length-map (map sheet_in files) (λ (s : Sheet). length s.rows), length-map files sheet_in)))

  pub row_fits : (id : List ℕ) (row : ℕ) → number_of (ids_of (rows_of file.text.items)) id ≡ Some row → start_of (map sheet_in files) entity + row < sum (counts (map sheet_in files))
  row_fits id row found =
      let place = position-Some (same_name id) (ids_of (rows_of file.text.items)) row [] found in
      omega (arith, place.0, rows_fit, length-map (rows_of file.text.items) id_of)

-- the start of an entity among the starts of all
pub start_here : (sheets : List Sheet) (starts : List ℕ) (count entity : ℕ) → starts ≡ map (start_of sheets) (below count) → entity < count → get_or starts entity 0 ≡ start_of sheets entity
start_here sheets starts count entity are within = ap (λ l. get_or l entity 0) are ∙ get_or-map-range_with_len (start_of sheets) 0 count entity entity 0 within (omega arith)
