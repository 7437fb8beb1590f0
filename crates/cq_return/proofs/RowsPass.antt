-- The records of an entity's file pass.
use Rattle.std.proofs.Common.{ℕ, zero, suc, true, false, not, List, [], ◌∷◌, ◌++◌, Some, None, ◌≡◌, ◌<◌, ◌≤◌, ◌+◌, ◌^◌, cond, map, length, refl, sym, ap, subst, ◌∙◌, arith, IsUtf8}
use Rattle.std.specs.Prelude.{is_some, ◌==◌}
use Rattle.std.specs.List.{range_with_len}
use Rattle.std.specs.Str.{is_utf8}
use Rattle.std.proofs.lemmas.Bool.{ne_eqb}
use Rattle.std.proofs.lemmas.List.FromFn.{map-range_with_len_more}
use Rattle.std.proofs.lemmas.Str.{is_utf8-from_IsUtf8}
use Rattle.cq_base.specs.declared.name.Name.{Name}
use Rattle.cq_base.specs.Names.{number_of}
use Rattle.cq_theory.specs.TypesideData.{TypesideData as Typeside}
use Rattle.cq_theory.specs.ValueText.{value_text}
use Rattle.cq_theory.specs.declared.value.Value.{Value}
use Rattle.cq_theory.specs.declared.constant.Con.{Con}
use Rattle.cq_theory.specs.declared.constant.Con.TheVariants.{Named, Open}
use Rattle.cq_theory.specs.Canonical.{below}
use Rattle.cq_theory.specs.Tables.{count_of, key_at}
use Rattle.cq_theory.proofs.Every.{Every-weaker}
use Rattle.cq_values.specs.Readable.{IsWithin, constant, null, application, is_name}
use Rattle.cq_values.specs.Readable as readable
use Rattle.cq_instance.specs.InstanceData.{InstanceData, IsInstance}
use Rattle.cq_import.specs.declared.columns.Column.{Column}
use Rattle.cq_import.specs.declared.columns.Column.TheVariants.{Attribute, Key}
use Rattle.cq_import.specs.Columns as import
use Rattle.cq_import.specs.Faults.{NotCsv, BadCell, DoubleId, BadHeader, or_else}
use Rattle.cq_import.specs.Labels.{Labels}
use Rattle.cq_import.specs.Records.{Record}
use Rattle.cq_import.specs.Rows.{is_row, row_fault, rows_fault, sheet_fault, id_of}
use Rattle.cq_import.proofs.CellEquations.{IsColumnOf, columns_of}
use Rattle.cq_text.specs.Literal as literal
use Rattle.cq_csv.specs.Files.{cell_field}
use Rattle.cq_return.proofs.AllReadable.{AreReadable}
use Rattle.cq_return.proofs.CellsSaid.{cell_typed, count_fits, key_bound}
use Rattle.cq_return.proofs.Fields.{column_field, columns, fields_of, is_whole, same_header}
use Rattle.cq_return.proofs.Given.{AreGiven}
use Rattle.cq_return.proofs.Ids.{id_text, no_such, some_bytes}
use Rattle.cq_return.proofs.Sheets.{rows}
use Rattle.cq_return.proofs.Utf8.{ascii_then, label_text, name_text, number_text, value_utf8}

-- what stands in an attribute's column is UTF-8
same_content : (T : Typeside) (c : Con) → readable.content_of T c ≡ literal.content_of T c
same_content T (Named c) = refl
same_content T (Open text) = refl

field_of_value : (T : Typeside) {levels sort : ℕ} {v : Value} → IsWithin T levels sort v → IsUtf8 (value_text T v) → IsUtf8 (cell_field T v)
field_of_value T {v = v} (constant c is typing name) text = subst (λ w. IsUtf8 (cell_field T w)) (sym is) (subst IsUtf8 (same_content T c) (name_text (readable.content_of T c) name))
field_of_value T {v = v} (null label is small) text = subst (λ w. IsUtf8 (cell_field T w)) (sym is) (label_text label (omega arith))
field_of_value T {v = v} (application f function args is at gives word name each) text =
    subst (λ w. IsUtf8 (cell_field T w)) (sym is) (ascii_then 61 (value_text T _) (omega arith) (subst (λ w. IsUtf8 (value_text T w)) is text))

cell_utf8 : (T : Typeside) {levels sort : ℕ} {v : Value} → IsWithin T levels sort v → IsUtf8 (cell_field T v)
cell_utf8 T within = field_of_value T within (value_utf8 T within)

-- records that are whole, with ids in order, pass
module _ (file : List ℕ) (width : ℕ) (r : ℕ → Record) (count : ℕ) (few : count < 2 ^ 63) (whole : (row : ℕ) → row < count → is_row width (r row) ≡ true)
    (ids_are : (row : ℕ) → id_of (r row) ≡ id_text row) where
  row_passes : (row number : ℕ) → row < count → (ids : List (List ℕ)) → ids ≡ map id_text (below row) → row_fault file width ids number (r row) ≡ None
  row_passes row number within ids are =
      let new : number_of ids (id_of (r row)) ≡ None = (λ j. number_of (are j) (ids_are row j)) ∙ no_such 0 row row (omega arith) (omega arith) in
      let bytes : 0 < length (id_of (r row)) = subst (λ (id : List ℕ). 0 < length id) (sym (ids_are row)) (some_bytes row (omega arith)) in
      let some : (length (id_of (r row)) == 0) ≡ false = ne_eqb (length (id_of (r row))) 0 (λ e. omega arith) in
      ap (λ b. cond (not b) (Some (NotCsv file number)) (cond (length (id_of (r row)) == 0) (Some (BadCell file number 1)) (cond (is_some (number_of ids (id_of (r row)))) (Some (DoubleId file number)) None)))
      (whole row within)
      ∙ ap (λ b. cond b (Some (BadCell file number 1)) (cond (is_some (number_of ids (id_of (r row)))) (Some (DoubleId file number)) None)) some
      ∙ ap (λ o. cond (is_some o) (Some (DoubleId file number)) None) new

  rows_pass : (s n number : ℕ) → s + n ≤ count → (ids : List (List ℕ)) → ids ≡ map id_text (below s) → rows_fault file width ids number (map r (range_with_len s n)) ≡ None
  rows_pass s zero number within ids are = refl
  rows_pass s (suc n) number within ids are =
      let longer : ids ++ id_of (r s) ∷ [] ≡ map id_text (below (s + 1)) = (λ j. are j ++ ids_are s j ∷ []) ∙ sym (map-range_with_len_more id_text 0 s s (omega arith)) in
      ap (λ f. or_else f (rows_fault file width (ids ++ id_of (r s) ∷ []) (number + 1) (map r (range_with_len (s + 1) n)))) (row_passes s number (omega arith) ids are)
      ∙ rows_pass (s + 1) n (number + 1) (omega arith) (ids ++ id_of (r s) ∷ []) longer

  pub sheet_passes : (wanted : Record) → length wanted ≡ width → sheet_fault file wanted (wanted ∷ map r (below count)) ≡ None
  sheet_passes wanted is =
      ap (λ b. cond b (rows_fault file (length wanted) [] 1 (map r (below count))) (Some (BadHeader file))) (same_header wanted wanted refl)
      ∙ ap (λ w. rows_fault file w [] 1 (map r (below count))) is ∙ rows_pass 0 count 1 (omega arith) [] refl

module _ (dir : Name) (i : InstanceData) (is : IsInstance i) (returnable : AreReadable i) (labels : Labels) (given : AreGiven i.tables.algebra.nulls labels) where
  column_text : (entity row : ℕ) → row < count_of i.tables entity → (c : Column) → IsColumnOf i.schema entity c → is_utf8 (column_field i entity row c) ≡ true
  column_text entity row inside (Attribute a type) leads =
      let at = cell_typed dir i is returnable labels given entity row inside a type leads.0 in
      is_utf8-from_IsUtf8 (column_field i entity row (Attribute a type)) (cell_utf8 i.schema.typeside at.readable.within)
  column_text entity row inside (Key k target) leads =
      let bound = key_bound dir i is returnable labels given entity row inside k target leads in
      is_utf8-from_IsUtf8 (column_field i entity row (Key k target)) (number_text (key_at i.tables k row + 1) (omega arith))

  row_whole : (entity row : ℕ) → row < count_of i.tables entity → is_row (length (import.header i.schema entity)) (fields_of i entity row) ≡ true
  row_whole entity row inside =
      let few = count_fits dir i is returnable labels given entity in
      is_whole i entity row (is_utf8-from_IsUtf8 (id_text row) (number_text (row + 1) (omega arith)))
      (Every-weaker (IsColumnOf i.schema entity) (λ c. is_utf8 (column_field i entity row c) ≡ true) (column_text entity row inside) (columns i entity) (columns_of i.schema returnable.schema entity))

  pub entity_passes : (file : List ℕ) (entity : ℕ) → sheet_fault file (import.header i.schema entity) (import.header i.schema entity ∷ rows dir i entity) ≡ None
  entity_passes file entity =
      let few = count_fits dir i is returnable labels given entity in
      sheet_passes file (length (import.header i.schema entity)) (fields_of i entity) (count_of i.tables entity) (omega arith) (row_whole entity) (λ row. refl)
      (import.header i.schema entity) refl
