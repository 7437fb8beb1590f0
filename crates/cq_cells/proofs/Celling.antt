-- One cell that is tested.
use Rattle.std.proofs.Common.{ℕ, List, [], ◌∷◌, ◌≡◌, ◌==◌, Option, Some, None, Result, Ok, Err, true, false, length, refl, sym, ap, subst, ◌∙◌, arith}
use Rattle.std.specs.Prelude.{OnOk, is_some}
use Rattle.std.specs.declared.alloc.AllocError.{AllocError}
use Rattle.std.proofs.lemmas.Bool.Decides.{nat_tests}
use Rattle.cq_theory.specs.declared.value.Value.{Value}
use Rattle.cq_import.specs.declared.columns.Column.TheVariants.{Attribute, Key}
use Rattle.cq_import.specs.declared.content.Content.{Content}
use Rattle.cq_import.specs.declared.content.Content.TheVariants.{Blank, Wrong, Means}
use Rattle.cq_import.specs.declared.labels.Trouble.{Trouble}
use Rattle.cq_import.specs.declared.labels.Trouble.TheVariants as trouble
use Rattle.cq_import.specs.Cells.{Cell, Sheet, cell_fault, cell_uses, column_fault, column_uses, content_fault, content_of, key_fault, missing_id, row_with_id, trouble_fault, uses_of}
use Rattle.cq_import.specs.Faults.{Fault, BadCell, NoSuchId}
use Rattle.cq_import.specs.Labels.{uses_in, uses_trouble, with_uses}
use Rattle.cq_cells.specs.declared.cells.Cell.{Cell as RustCell}
use Rattle.cq_cells.specs.declared.cells.Over.{Over}
use Rattle.cq_cells.specs.declared.cells.Pass.{Pass}
use Rattle.cq_cells.specs.Found.{found_in}
use Rattle.cq_cells.specs.Passes.{Passes, cell_shown, sheets_over, typeside_over}
use Rattle.cq_cells.specs.Shown.{Lists, told, trouble_kind}
use Rattle.cq_cells.proofs.Listing.{lists_none, lists_same}
use Rattle.cq_cells.proofs.Passing.{pass_off, pass_on}

zero_is : (n : ℕ) → (n == 0) ≡ true → n ≡ 0
zero_is n is = grind (arith, nat_tests)

-- a foreign key's cell
blank_key : (sheets : List Sheet) (cell : Cell) (target : ℕ) (field : List ℕ) → (length field == 0) ≡ true → key_fault sheets cell target field ≡ None
blank_key sheets cell target [] is = refl
blank_key sheets cell target (x ∷ field) is = absurd (let none = zero_is (length (x ∷ field)) is in omega arith)

filled_key : (sheets : List Sheet) (cell : Cell) (target : ℕ) (field : List ℕ) → (length field == 0) ≡ false → key_fault sheets cell target field ≡ missing_id cell (row_with_id sheets target field)
filled_key sheets cell target [] is = cc is
filled_key sheets cell target (x ∷ field) is = refl

found_key : (cell : Cell) (row : Option ℕ) → true ≡ is_some row → missing_id cell row ≡ None
found_key cell None is = cc is
found_key cell (Some r) is = refl

missing_key : (cell : Cell) (row : Option ℕ) → false ≡ is_some row → missing_id cell row ≡ Some (NoSuchId cell.file cell.row_number cell.column_number)
missing_key cell None is = refl
missing_key cell (Some r) is = cc is

-- what is told of a label
pub told_trouble : (cell : RustCell) (generator : ℕ) (t : Trouble) (name : ℕ → List ℕ)
    → found_in (Some (told (trouble_kind t) (name cell.file) cell.number cell.place)) None ≡ found_in (trouble_fault (cell_shown generator cell name) (Some t)) None
told_trouble cell generator trouble.Wrong name = refl
told_trouble cell generator trouble.Full name = refl

module _ (over : Over) (old new : Pass) (cell : RustCell) (generator : ℕ) (going : old.going ≡ true) where
  abbrev shown_cell : (ℕ → List ℕ) → Cell
  shown_cell name = cell_shown generator cell name

  abbrev fault_in : (ℕ → List ℕ) → Option Fault
  fault_in name = cell_fault (sheets_over over name) (typeside_over over) (Some over.most) old.labels (shown_cell name)

  -- a cell without labels
  plain : cell_uses (typeside_over over) (shown_cell (λ n. [])) ≡ [] → new.going ≡ true → new.labels ≡ old.labels → Lists old.faults new.faults (λ name. found_in (fault_in name) None)
      → Passes over old new (λ name. shown_cell name ∷ [])
  plain none goes labels lists =
      pass_on over old new shown_cell going lists (λ name. ap (uses_trouble (Some over.most) old.labels) none) goes
      (λ name. labels ∙ ap (with_uses old.labels) (sym none))

  module _ (key target : ℕ) (column : cell.column ≡ Key key target) (goes : new.going ≡ true) (labels : new.labels ≡ old.labels) where
    no_uses : cell_uses (typeside_over over) (shown_cell (λ n. [])) ≡ []
    no_uses = ap (column_uses (typeside_over over) cell.field.now) column

    fault_is : (name : ℕ → List ℕ) → fault_in name ≡ key_fault (sheets_over over name) (shown_cell name) target cell.field.now
    fault_is name = ap (column_fault (sheets_over over name) (typeside_over over) (Some over.most) old.labels (shown_cell name)) column

    pub key_blank : (length cell.field.now == 0) ≡ true → new.faults ≡ old.faults → Passes over old new (λ name. shown_cell name ∷ [])
    key_blank blank same =
        plain no_uses goes labels
        (subst (λ f. Lists old.faults f (λ name. found_in (fault_in name) None)) (sym same)
        (lists_same old.faults old.faults (λ name. []) (λ name. found_in (fault_in name) None)
        (λ name. sym (ap (λ f. found_in f None) (fault_is name ∙ blank_key (sheets_over over name) (shown_cell name) target cell.field.now blank))) (lists_none old.faults)))

    pub key_found : (length cell.field.now == 0) ≡ false → ((name : ℕ → List ℕ) → true ≡ is_some (row_with_id (sheets_over over name) target cell.field.now)) → new.faults ≡ old.faults
        → Passes over old new (λ name. shown_cell name ∷ [])
    key_found filled found same =
        plain no_uses goes labels
        (subst (λ f. Lists old.faults f (λ name. found_in (fault_in name) None)) (sym same)
        (lists_same old.faults old.faults (λ name. []) (λ name. found_in (fault_in name) None)
        (λ name. sym (ap (λ f. found_in f None) (fault_is name ∙ filled_key (sheets_over over name) (shown_cell name) target cell.field.now filled ∙ found_key (shown_cell name) _ (found name)))) (lists_none old.faults)))

    pub key_missing : (length cell.field.now == 0) ≡ false → ((name : ℕ → List ℕ) → false ≡ is_some (row_with_id (sheets_over over name) target cell.field.now))
        → Lists old.faults new.faults (λ name. found_in (Some (NoSuchId (name cell.file) cell.number cell.place)) None) → Passes over old new (λ name. shown_cell name ∷ [])
    key_missing filled missing lists =
        plain no_uses goes labels
        (lists_same old.faults new.faults (λ name. found_in (Some (NoSuchId (name cell.file) cell.number cell.place)) None) (λ name. found_in (fault_in name) None)
        (λ name. sym (ap (λ f. found_in f None) (fault_is name ∙ filled_key (sheets_over over name) (shown_cell name) target cell.field.now filled ∙ missing_key (shown_cell name) _ (missing name)))) lists)

  module _ (attribute type : ℕ) (column : cell.column ≡ Attribute attribute type) where
    uses_are : (content : Content) → content_of (typeside_over over) type cell.field.now ≡ content → cell_uses (typeside_over over) (shown_cell (λ n. [])) ≡ uses_of (typeside_over over) type content
    uses_are content is = ap (column_uses (typeside_over over) cell.field.now) column ∙ ap (uses_of (typeside_over over) type) is

    content_is : (content : Content) → content_of (typeside_over over) type cell.field.now ≡ content → (name : ℕ → List ℕ)
        → fault_in name ≡ content_fault (typeside_over over) (Some over.most) old.labels (shown_cell name) type content
    content_is content is name =
        ap (column_fault (sheets_over over name) (typeside_over over) (Some over.most) old.labels (shown_cell name)) column
        ∙ ap (content_fault (typeside_over over) (Some over.most) old.labels (shown_cell name) type) is

    pub attribute_blank : content_of (typeside_over over) type cell.field.now ≡ Blank → new.going ≡ true → new.labels ≡ old.labels → new.faults ≡ old.faults → Passes over old new (λ name. shown_cell name ∷ [])
    attribute_blank is goes labels same =
        plain (uses_are Blank is) goes labels
        (subst (λ f. Lists old.faults f (λ name. found_in (fault_in name) None)) (sym same)
        (lists_same old.faults old.faults (λ name. []) (λ name. found_in (fault_in name) None) (λ name. sym (ap (λ f. found_in f None) (content_is Blank is name))) (lists_none old.faults)))

    pub attribute_wrong : content_of (typeside_over over) type cell.field.now ≡ Wrong → new.going ≡ true → new.labels ≡ old.labels
        → Lists old.faults new.faults (λ name. found_in (Some (BadCell (name cell.file) cell.number cell.place)) None) → Passes over old new (λ name. shown_cell name ∷ [])
    attribute_wrong is goes labels lists =
        plain (uses_are Wrong is) goes labels
        (lists_same old.faults new.faults (λ name. found_in (Some (BadCell (name cell.file) cell.number cell.place)) None) (λ name. found_in (fault_in name) None)
        (λ name. sym (ap (λ f. found_in f None) (content_is Wrong is name))) lists)

    module _ (v : Value) (is : content_of (typeside_over over) type cell.field.now ≡ Means v) where
      pub attribute_right : uses_trouble (Some over.most) old.labels (uses_in (typeside_over over) v type) ≡ None → new.going ≡ true
          → new.labels ≡ with_uses old.labels (uses_in (typeside_over over) v type) → new.faults ≡ old.faults → Passes over old new (λ name. shown_cell name ∷ [])
      attribute_right right goes labels same =
          pass_on over old new shown_cell going
          (subst (λ f. Lists old.faults f (λ name. found_in (fault_in name) None)) (sym same)
          (lists_same old.faults old.faults (λ name. []) (λ name. found_in (fault_in name) None)
          (λ name. sym (ap (λ f. found_in f None) (content_is (Means v) is name ∙ ap (trouble_fault (shown_cell name)) right))) (lists_none old.faults)))
          (λ name. ap (uses_trouble (Some over.most) old.labels) (uses_are (Means v) is) ∙ right) goes
          (λ name. labels ∙ ap (with_uses old.labels) (sym (uses_are (Means v) is)))

      pub attribute_troubled : (trouble : Trouble) → uses_trouble (Some over.most) old.labels (uses_in (typeside_over over) v type) ≡ Some trouble → new.going ≡ false
          → Lists old.faults new.faults (λ name. found_in (trouble_fault (shown_cell name) (Some trouble)) None) → Passes over old new (λ name. shown_cell name ∷ [])
      attribute_troubled trouble wrong goes lists =
          pass_off over old new shown_cell going
          (lists_same old.faults new.faults (λ name. found_in (trouble_fault (shown_cell name) (Some trouble)) None) (λ name. found_in (fault_in name) None)
          (λ name. sym (ap (λ f. found_in f None) (content_is (Means v) is name ∙ ap (trouble_fault (shown_cell name)) wrong))) lists)
          trouble (λ name. ap (uses_trouble (Some over.most) old.labels) (uses_are (Means v) is) ∙ wrong) goes

      pub attribute_stopped : (result : Result (Unit {0}) AllocError) (trouble : Trouble) → uses_trouble (Some over.most) old.labels (uses_in (typeside_over over) v type) ≡ Some trouble
          → OnOk result (new.going ≡ false) → OnOk result (Lists old.faults new.faults (λ name. found_in (trouble_fault (shown_cell name) (Some trouble)) None))
          → OnOk result (Passes over old new (λ name. shown_cell name ∷ []))
      attribute_stopped (Ok u) trouble wrong goes lists = attribute_troubled trouble wrong goes lists
      attribute_stopped (Err e) trouble wrong goes lists = tt
