-- What a cell of an attribute says, by what its field means.
use Rattle.std.proofs.Common.{ℕ, ◌++◌, ◌≡◌, Some, None, sym, ap, ◌∙◌}
use Rattle.std.proofs.lemmas.List.{append-nil}
use Rattle.cq_theory.specs.declared.value.Value.{Value}
use Rattle.cq_theory.specs.TypesideData.{TypesideData as Typeside}
use Rattle.cq_import.specs.declared.cells.Cell.{Cell as RustCell}
use Rattle.cq_import.specs.declared.cells.Context.{Context}
use Rattle.cq_import.specs.declared.cells.Made.{Made}
use Rattle.cq_import.specs.declared.columns.Column.TheVariants.{Attribute}
use Rattle.cq_import.specs.declared.content.Content.{Content}
use Rattle.cq_import.specs.declared.content.Content.TheVariants.{Blank, Wrong, Means}
use Rattle.cq_import.specs.declared.refusal.CsvRefusal.{CsvRefusal}
use Rattle.cq_import.specs.Cells.{cell_equations, cell_uses, column_equations, column_fault, column_uses, content_equations, content_fault, content_of, trouble_fault, uses_of}
use Rattle.cq_import.specs.Context.{ReadsCell, fault_in, sheets_in, shown_cell, typeside_in}
use Rattle.cq_import.specs.Faults.{BadCell, Tells}
use Rattle.cq_import.specs.Labels.{Labels, uses_in, uses_trouble, with_uses}
use Rattle.cq_import.proofs.Faulty.{refuses_same}

module _ (context : Context) (cell : RustCell) (a type : ℕ) (column : cell.column ≡ Attribute a type) (means : Content)
    (content : content_of (typeside_in context) type cell.field.now ≡ means) where
  fault_is : (made : Made) → fault_in context made (shown_cell cell) ≡ content_fault (typeside_in context) context.room made.labels (shown_cell cell) type means
  fault_is made =
      ap (column_fault (sheets_in context) (typeside_in context) context.room made.labels (shown_cell cell)) column
      ∙ ap (content_fault (typeside_in context) context.room made.labels (shown_cell cell) type) content

  uses_are : cell_uses (typeside_in context) (shown_cell cell) ≡ uses_of (typeside_in context) type means
  uses_are = ap (column_uses (typeside_in context) cell.field.now) column ∙ ap (uses_of (typeside_in context) type) content

  equations_are : (labels : Labels) → cell_equations (sheets_in context) (typeside_in context) context.first labels (shown_cell cell)
      ≡ content_equations (sheets_in context) context.first labels (shown_cell cell) a means
  equations_are labels =
      ap (column_equations (sheets_in context) (typeside_in context) context.first labels (shown_cell cell)) column
      ∙ ap (content_equations (sheets_in context) context.first labels (shown_cell cell) a) content

module _ (context : Context) (cell : RustCell) (a type : ℕ) (column : cell.column ≡ Attribute a type) where
  -- an empty field says nothing
  pub blank_read : (old new : Made) → content_of (typeside_in context) type cell.field.now ≡ Blank → new.labels ≡ old.labels → new.equations.items ≡ old.equations.items
      → ReadsCell context old new (shown_cell cell)
  blank_read old new content labels equations = record {
    fault = fault_is context cell a type column Blank content old;
    labels = labels ∙ ap (with_uses old.labels) (sym (uses_are context cell a type column Blank content));
    equations =
        equations ∙ sym (append-nil old.equations.items)
        ∙ ap (λ l. old.equations.items ++ l) (sym (equations_are context cell a type column Blank content new.labels));
  }

  -- a field without a meaning is wrong
  pub wrong_refused : (made : Made) (r : CsvRefusal) → content_of (typeside_in context) type cell.field.now ≡ Wrong → Tells r (Some (BadCell cell.file.now cell.row_number cell.column_number))
      → Tells r (fault_in context made (shown_cell cell))
  wrong_refused made r content refuses = refuses_same r _ _ (sym (fault_is context cell a type column Wrong content made)) refuses

  module _ (T : Typeside) (v : Value) (same : T ≡ typeside_in context) (content : content_of (typeside_in context) type cell.field.now ≡ Means v) where
    here : uses_in T v type ≡ uses_in (typeside_in context) v type
    here = ap (λ (t : Typeside). uses_in t v type) same

    -- what is wrong with the labels of a value is wrong with the cell
    pub value_refused : (made : Made) (r : CsvRefusal) → Tells r (trouble_fault (shown_cell cell) (uses_trouble context.room made.labels (uses_in T v type)))
        → Tells r (fault_in context made (shown_cell cell))
    value_refused made r refuses =
        refuses_same r _ _
        (ap (λ us. trouble_fault (shown_cell cell) (uses_trouble context.room made.labels us)) here ∙ sym (fault_is context cell a type column (Means v) content made)) refuses

    -- a value whose labels were noted, and whose equation was appended, was read
    pub value_read : (old new : Made) (labels : Labels) → uses_trouble context.room old.labels (uses_in T v type) ≡ None → labels ≡ with_uses old.labels (uses_in T v type)
        → new.labels ≡ labels → new.equations.items ≡ old.equations.items ++ content_equations (sheets_in context) context.first labels (shown_cell cell) a (Means v)
        → ReadsCell context old new (shown_cell cell)
    value_read old new labels none noted kept pushed = record {
      fault =
          fault_is context cell a type column (Means v) content old
          ∙ ap (λ us. trouble_fault (shown_cell cell) (uses_trouble context.room old.labels us)) (sym here) ∙ ap (trouble_fault (shown_cell cell)) none;
      labels = kept ∙ noted ∙ ap (with_uses old.labels) (here ∙ sym (uses_are context cell a type column (Means v) content));
      equations =
          pushed ∙ ap (λ l. old.equations.items ++ content_equations (sheets_in context) context.first l (shown_cell cell) a (Means v)) (sym kept)
          ∙ ap (λ l. old.equations.items ++ l) (sym (equations_are context cell a type column (Means v) content new.labels));
    }
