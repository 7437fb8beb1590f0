-- The nulls, the cells and the entries, read one after the other.
use Rattle.std.proofs.Common.{ℕ, List, [], ◌∷◌, ◌++◌, ◌+◌, ◌≤◌, ◌≡◌, Option, Some, None, map, filter, length, refl, sym, ap, ◌∙◌, append_assoc}
use Rattle.std.specs.List.{flat_map}
use Rattle.std.proofs.lemmas.List.{length-map}
use Rattle.cq_theory.specs.SchemaData.{SchemaData as Schema}
use Rattle.cq_theory.specs.TypesideData.{TypesideData as Typeside}
use Rattle.cq_import.specs.declared.cells.Context.{Context}
use Rattle.cq_import.specs.declared.cells.Made.{Made}
use Rattle.cq_import.specs.declared.refusal.CsvRefusal.{CsvRefusal}
use Rattle.cq_import.specs.Cells.{Cell, Sheet, all_cells, cells_fault, equations_from}
use Rattle.cq_import.specs.Context.{Reads, faults_in, sheets_in, typeside_in}
use Rattle.cq_import.specs.Entries.{contents2_fault, entries_fault, entry_equations, given, is_null, labels2_of, null_use, nulls_fault, rest_equations, rest_fault}
use Rattle.cq_import.specs.Faults.{Fault, Tells, or_else}
use Rattle.cq_import.specs.Labels.{Labels}
use Rattle.cq_import.specs.Records.{Record}
use Rattle.cq_import.proofs.CellEquations.{cells_given}
use Rattle.cq_import.proofs.Faulty.{both_none, refuses_after, refuses_first, refuses_same}

-- The cells, and then the entries.
module _ (context : Context) (old : Made) (given_all : context.room ≡ None) where
  abbrev cells : List Cell
  cells = all_cells context.schema.now (sheets_in context)

  pub cells_refused : (lines : List Record) (file : List ℕ) (r : CsvRefusal) → Tells r (faults_in context old cells) → Tells r (rest_fault context.schema.now (sheets_in context) lines old.labels file)
  cells_refused lines file r refuses =
      refuses_first r (cells_fault (sheets_in context) (typeside_in context) None old.labels cells) (entries_fault (typeside_in context) file old.labels 1 lines)
      (refuses_same r _ _ (ap (λ room. cells_fault (sheets_in context) (typeside_in context) room old.labels cells) given_all) refuses)

  module _ (now : Made) (reads : Reads context old now (all_cells context.schema.now (sheets_in context))) where
    no_fault : cells_fault (sheets_in context) (typeside_in context) None old.labels cells ≡ None
    no_fault = ap (λ room. cells_fault (sheets_in context) (typeside_in context) room old.labels cells) (sym given_all) ∙ reads.fault

    pub same_labels : now.labels ≡ old.labels
    same_labels = reads.labels ∙ cells_given (sheets_in context) (typeside_in context) old.labels cells no_fault

    module _ (T : Typeside) (is : T ≡ typeside_in context) (lines : List Record) where
      entries_same : (file : List ℕ) → entries_fault T file now.labels 1 lines ≡ entries_fault (typeside_in context) file old.labels 1 lines
      entries_same file = λ i. entries_fault (is i) file (same_labels i) 1 lines

      pub rest_passed : (file : List ℕ) → entries_fault T file now.labels 1 lines ≡ None → rest_fault context.schema.now (sheets_in context) lines old.labels file ≡ None
      rest_passed file none =
          both_none (cells_fault (sheets_in context) (typeside_in context) None old.labels cells) (entries_fault (typeside_in context) file old.labels 1 lines) no_fault (sym (entries_same file) ∙ none)

      pub rest_refused : (file : List ℕ) (r : CsvRefusal) → Tells r (entries_fault T file now.labels 1 lines) → Tells r (rest_fault context.schema.now (sheets_in context) lines old.labels file)
      rest_refused file r refuses =
          refuses_after r (cells_fault (sheets_in context) (typeside_in context) None old.labels cells) (entries_fault (typeside_in context) file old.labels 1 lines) no_fault
          (refuses_same r _ _ (entries_same file) refuses)

      pub rest_made : (first : ℕ) → first ≡ context.first → (new : Made) → new.equations.items ≡ now.equations.items ++ flat_map (entry_equations T first now.labels) lines
          → new.equations.items ≡ old.equations.items ++ rest_equations context.schema.now (sheets_in context) lines context.first old.labels
      rest_made first first_is new adds =
          let front = equations_from (sheets_in context) (typeside_in context) context.first old.labels cells in
          adds ∙ ap (λ l. l ++ flat_map (entry_equations T first now.labels) lines) reads.equations
          ∙ append_assoc old.equations.items front (flat_map (entry_equations T first now.labels) lines)
          ∙ (λ i. old.equations.items ++ (front ++ flat_map (entry_equations (is i) (first_is i) (same_labels i)) lines))

-- The nulls, and then the rest.
module _ (S : Schema) (sheets : List Sheet) (lines : List Record) (T : Typeside) (is : T ≡ S.typeside) (old : Labels) (none : old ≡ []) where
  pub given_labels : (now : Labels) → now ≡ old ++ given T lines → now ≡ labels2_of S sheets lines
  given_labels now adds = adds ∙ (λ i. none i ++ given (is i) lines)

  pub given_count : (now : Labels) → now ≡ old ++ given T lines → length now ≡ length (filter is_null lines)
  given_count now adds = ap length (given_labels now adds) ∙ length-map (filter is_null lines) (null_use S.typeside)

  nulls_same : (file : List ℕ) → nulls_fault T file old 1 lines ≡ nulls_fault S.typeside file [] 1 lines
  nulls_same file = λ i. nulls_fault (is i) file (none i) 1 lines

  pub nulls_refused : (file : List ℕ) (r : CsvRefusal) → Tells r (nulls_fault T file old 1 lines) → Tells r (contents2_fault S sheets lines file)
  nulls_refused file r refuses =
      refuses_first r (nulls_fault S.typeside file [] 1 lines) (rest_fault S sheets lines (labels2_of S sheets lines) file) (refuses_same r _ _ (nulls_same file) refuses)

  module _ (now : Labels) (adds : now ≡ old ++ given T lines) (file : List ℕ) (passed : nulls_fault T file old 1 lines ≡ None) where
    rest_same : rest_fault S sheets lines now file ≡ rest_fault S sheets lines (labels2_of S sheets lines) file
    rest_same = ap (λ l. rest_fault S sheets lines l file) (given_labels now adds)

    pub contents_passed : rest_fault S sheets lines now file ≡ None → contents2_fault S sheets lines file ≡ None
    contents_passed nothing =
        both_none (nulls_fault S.typeside file [] 1 lines) (rest_fault S sheets lines (labels2_of S sheets lines) file) (sym (nulls_same file) ∙ passed) (sym rest_same ∙ nothing)

    pub contents_refused : (r : CsvRefusal) → Tells r (rest_fault S sheets lines now file) → Tells r (contents2_fault S sheets lines file)
    contents_refused r refuses =
        refuses_after r (nulls_fault S.typeside file [] 1 lines) (rest_fault S sheets lines (labels2_of S sheets lines) file) (sym (nulls_same file) ∙ passed) (refuses_same r _ _ rest_same refuses)
