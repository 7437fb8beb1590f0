-- What files without fault present, with that of the nulls and the entries, is a presentation over the schema.
use Rattle.std.proofs.Common.{ℕ, Bool, true, false, List, [], ◌∷◌, ◌++◌, Option, Some, None, ◌≡◌, ◌<◌, ◌≤◌, ◌+◌, ◌⊎◌, inl, map, filter, cond, length, refl, sym, ap, subst, ◌∙◌, arith}
use Rattle.std.specs.Prelude.{Result, Ok, Err, IfOk, OnOk, IfErr, slice_get, if◌then◌else◌, unwrap_or, option_map, option_and_then}
use Rattle.std.specs.List.{flat_map}
use Rattle.std.proofs.lemmas.List.{length-map}
use Rattle.std.proofs.lemmas.List.Quantifiers.{position-Some}
use Rattle.std.proofs.lemmas.Option.{option_and_then_some}
use Rattle.cq_base.specs.Names.{number_of, same_name}
use Rattle.cq_theory.specs.declared.presentation.Equation.{Equation}
use Rattle.cq_theory.specs.declared.presentation.Equation.TheVariants.{Typ}
use Rattle.cq_theory.specs.declared.presentation.Presentation.{Presentation}
use Rattle.cq_theory.specs.declared.presentation.Sort.TheVariants.{Plain}
use Rattle.cq_theory.specs.declared.value.Value.{Value}
use Rattle.cq_theory.specs.Canonical.{below, named}
use Rattle.cq_theory.specs.Presentation.{IsEquation, IsPresentation}
use Rattle.cq_theory.specs.SchemaData.{SchemaData as Schema}
use Rattle.cq_theory.specs.TypesideData.{TypesideData as Typeside}
use Rattle.cq_theory.specs.Schema.{IsSchema}
use Rattle.cq_theory.specs.Typeside.{IsTypeside}
use Rattle.cq_theory.proofs.Every.{Every, Every-append, Every-at}
use Rattle.cq_values.specs.Built.{label_in, built_at, built_in, built_type, if_built, is_built}
use Rattle.cq_values.specs.Readable.{IsRead}
use Rattle.cq_values.specs.Reading.{as_name, value_in}
use Rattle.cq_values.proofs.Exactness.{exact}
use Rattle.cq_import.specs.declared.labels.Trouble.{Trouble}
use Rattle.cq_import.specs.declared.refusal.CsvRefusal.{CsvRefusal}
use Rattle.cq_import.specs.Cells.{Sheet, all_cells, cell_uses, cells_fault, equations_from}
use Rattle.cq_import.specs.Entries.{contents2_fault, entries_fault, entry_equations, entry_fault, given, is_entry, is_new, is_null, kind_fault, labels2_of, null_fault, null_use, nulls_fault, or_bad, presented2, rest_equations, rest_fault, right_equations, right_fault, sheets2_fault, sides_equations, sides_fault, size2_fault, trouble_in, type_named, uses_fault, with_null}
use Rattle.cq_import.specs.Faults.{BadCell, Fault, Tells, TooLarge}
use Rattle.cq_import.specs.Imports.{entity_sorts, row_sorts, size_fault, total}
use Rattle.cq_import.specs.Labels.{Labels, Use, uses_in, uses_trouble, value_term, with_uses}
use Rattle.cq_import.specs.Records.{Record, field_in}
use Rattle.cq_import.proofs.CellEquations.{cells_given, cells_of, equations_hold, neither_fault}
use Rattle.cq_import.proofs.Faulty.{both_none, refuses_after, refuses_first, refuses_same}
use Rattle.cq_import.proofs.LabelPlaces.{AreNamed, Has, given_uses, have_uses}
use Rattle.cq_import.proofs.Presented.{size_fails, size_passes}
use Rattle.cq_import.proofs.ValueTerms.{IsInRange, IsMeant, meant_symbols, meant_typed}
use Rattle.cq_import.proofs.WellFormed.{few, generators_count, generators_sorted, labels_named, row_named}

no_bad : (o : Option ℕ) (fault : Fault) → or_bad o fault ≡ None → (n : ℕ) × (o ≡ Some n)
no_bad None fault none = cc
no_bad (Some n) fault none = (n, refl)

no_trouble_in : (o : Option Trouble) (fault : Fault) → trouble_in o fault ≡ None → o ≡ None
no_trouble_in None fault none = refl
no_trouble_in (Some t) fault none = cc

-- The nulls have types of the typeside.
module _ (T : Typeside) (made : IsTypeside T) (file : List ℕ) where
  named_in_range : (name : List ℕ) (type : ℕ) → type_named T name ≡ Some type → type < length T.types
  named_in_range name type h = option_and_then_some (number_of T.types) (as_name name) type h (λ n is found. (position-Some (same_name n) T.types type [] found).0)

  null_in_range : (labels : Labels) (number : ℕ) (fields : Record) → null_fault T file labels number fields ≡ None → IsInRange T made (null_use T fields)
  null_in_range labels number fields none =
      let parts = neither_fault (or_bad (is_new labels (label_in (field_in fields 1))) (BadCell file number 2)) (or_bad (type_named T (field_in fields 2)) (BadCell file number 3)) none in
      let type = no_bad (type_named T (field_in fields 2)) (BadCell file number 3) parts.1 in
      subst (λ n. n < length T.types) (sym (ap (λ o. unwrap_or o 0) type.1)) (named_in_range (field_in fields 2) type.0 type.1)

  pub given_in_range : (labels : Labels) (number : ℕ) (lines : List Record) → nulls_fault T file labels number lines ≡ None → Every (IsInRange T made) (given T lines)
  given_in_range labels number [] none = tt
  given_in_range labels number (fields ∷ lines) none =
      let parts = neither_fault (kind_fault T file labels number fields) (nulls_fault T file (with_null T labels fields) (number + 1) lines) none in
      at_kind (is_null fields) parts.0 (given_in_range (with_null T labels fields) (number + 1) lines parts.1)
    where
      at_kind : (b : Bool) → (if b then null_fault T file labels number fields else (if is_entry fields then None else Some (BadCell file number 1))) ≡ None → Every (IsInRange T made) (given T lines)
          → Every (IsInRange T made) (map (null_use T) (cond b (fields ∷ filter is_null lines) (filter is_null lines)))
      at_kind true h rest = (null_in_range labels number fields h, rest)
      at_kind false h rest = rest

-- Both sides of an entry have one type.
module _ (S : Schema) (schema : IsSchema S) (P : Presentation) (first : ℕ) (labels : Labels) (named_all : AreNamed P.generators first labels) (file : List ℕ) where
  read_meant : (type : ℕ) (text : List ℕ) (v : Value) → value_in S.typeside type text ≡ Some v → IsMeant S.typeside type v
  read_meant type text v is = inl (subst (IsRead S.typeside type text) is (exact S.typeside type text schema.typeside)).0

  built_read : (o : Option Value) (sort : ℕ) (left : ℕ × Value) → if_built sort o ≡ Some left → (sort ≡ left.0) × (o ≡ Some left.1)
  built_read None sort left h = cc
  built_read (Some v) sort left h = at_test (is_built v) h
    where
      at_test : (b : Bool) → (if b then Some (sort, v) else None) ≡ Some left → (sort ≡ left.0) × (Some v ≡ Some left.1)
      at_test true h' = let same : (sort, v) ≡ left = cc in (ap (λ (p : ℕ × Value). p.0) same, ap (λ (p : ℕ × Value). Some p.1) same)
      at_test false h' = cc

  left_meant : (text : List ℕ) (o : Option ℕ) (left : ℕ × Value) → built_at S.typeside text o ≡ Some left → IsMeant S.typeside left.0 left.1
  left_meant text None left h = cc
  left_meant text (Some sort) left h =
      let parts = built_read (value_in S.typeside sort text) sort left h in
      subst (λ type. IsMeant S.typeside type left.1) parts.0 (read_meant sort text left.1 parts.1)

  labels_have : (number column type : ℕ) (v : Value) → uses_fault S.typeside file labels number column v type ≡ None → Every (Has labels) (uses_in S.typeside v type)
  labels_have number column type v none =
      let trouble = no_trouble_in (uses_trouble None labels (uses_in S.typeside v type)) (BadCell file number column) none in
      subst (λ l. Every (Has l) (uses_in S.typeside v type)) (given_uses labels (uses_in S.typeside v type) trouble) (have_uses None labels (uses_in S.typeside v type) trouble)

  entry_equation : (type : ℕ) (v w : Value) → IsMeant S.typeside type v → IsMeant S.typeside type w → Every (Has labels) (uses_in S.typeside v type) → Every (Has labels) (uses_in S.typeside w type)
      → IsEquation S P (Typ (value_term first labels v) (value_term first labels w))
  entry_equation type v w left right left_has right_has = record {
    sort = Plain type;
    left = ap (option_map Plain) (meant_typed S P.generators first labels named_all type v left left_has);
    right = ap (option_map Plain) (meant_typed S P.generators first labels named_all type w right right_has);
    left_fits = meant_symbols first labels S.typeside type v left;
    right_fits = meant_symbols first labels S.typeside type w right;
  }

  right_holds : (number type : ℕ) (v : Value) (text : List ℕ) (o : Option Value) → value_in S.typeside type text ≡ o → IsMeant S.typeside type v → Every (Has labels) (uses_in S.typeside v type)
      → right_fault S.typeside file labels number type o ≡ None → Every (IsEquation S P) (right_equations S.typeside first labels v o)
  right_holds number type v text None is left has none = tt
  right_holds number type v text (Some w) is left has none = (entry_equation type v w left (read_meant type text w is) has (labels_have number 3 type w none), tt)

  sides_hold : (number : ℕ) (text right : List ℕ) (o : Option (ℕ × Value)) → built_in S.typeside text ≡ o → sides_fault S.typeside file labels number o right ≡ None
      → Every (IsEquation S P) (sides_equations S.typeside first labels o right)
  sides_hold number text right None is none = tt
  sides_hold number text right (Some left) is none =
      let parts = neither_fault (uses_fault S.typeside file labels number 2 left.1 left.0) (right_fault S.typeside file labels number left.0 (value_in S.typeside left.0 right)) none in
      right_holds number left.0 left.1 right (value_in S.typeside left.0 right) refl (left_meant text (built_type S.typeside text) left is) (labels_have number 2 left.0 left.1 parts.0) parts.1

  pub entries_hold : (number : ℕ) (lines : List Record) → entries_fault S.typeside file labels number lines ≡ None → Every (IsEquation S P) (flat_map (entry_equations S.typeside first labels) lines)
  entries_hold number [] none = tt
  entries_hold number (fields ∷ lines) none =
      let parts = neither_fault (entry_fault S.typeside file labels number fields) (entries_fault S.typeside file labels (number + 1) lines) none in
      Every-append (IsEquation S P) (entry_equations S.typeside first labels fields) (flat_map (entry_equations S.typeside first labels) lines)
      (at_entry (is_entry fields) parts.0) (entries_hold (number + 1) lines parts.1)
    where
      at_entry : (b : Bool) → (if b then sides_fault S.typeside file labels number (built_in S.typeside (field_in fields 1)) (field_in fields 2) else None) ≡ None
          → Every (IsEquation S P) (if b then sides_equations S.typeside first labels (built_in S.typeside (field_in fields 1)) (field_in fields 2) else [])
      at_entry true h = sides_hold number (field_in fields 1) (field_in fields 2) (built_in S.typeside (field_in fields 1)) refl h
      at_entry false h = tt

module _ (S : Schema) (sheets : List Sheet) (lines : List Record) (file : List ℕ) where
  pub presented2_is : IsSchema S → length sheets ≡ length S.entities → sheets2_fault S sheets lines file ≡ None → IsPresentation S (presented2 S sheets lines)
  presented2_is schema same none =
      let labels = labels2_of S sheets lines in
      let P = presented2 S sheets lines in
      let sized = neither_fault (size2_fault S sheets lines) (contents2_fault S sheets lines file) none in
      let contents = neither_fault (nulls_fault S.typeside file [] 1 lines) (rest_fault S sheets lines labels file) sized.1 in
      let rest = neither_fault (cells_fault sheets S.typeside None labels (all_cells S sheets)) (entries_fault S.typeside file labels 1 lines) contents.1 in
      let records = few (total S sheets + length (filter is_null lines)) sized.0 in
      let count = length-map (filter is_null lines) (null_use S.typeside) in
      let cells = cells_of S schema sheets P (row_named S schema sheets same labels) (below (length S.entities)) in
      let all_named = labels_named S schema sheets same labels in
      let later = subst (AreNamed P.generators (total S sheets)) (sym (cells_given sheets S.typeside labels (all_cells S sheets) rest.0)) all_named in
      record {
        generators = generators_sorted S schema sheets same labels (given_in_range S.typeside schema.typeside file [] 1 lines contents.0);
        count = omega (arith, generators_count S schema sheets same labels, records, count);
        equations = λ n e at.
            Every-at (IsEquation S P) (rest_equations S sheets lines (total S sheets) labels) n e
            (Every-append (IsEquation S P) (equations_from sheets S.typeside (total S sheets) labels (all_cells S sheets)) (flat_map (entry_equations S.typeside (total S sheets) labels) lines)
            (equations_hold S schema sheets P (row_named S schema sheets same labels) (total S sheets) None labels (all_cells S sheets) cells rest.0 later)
            (entries_hold S schema P (total S sheets) labels all_named file 1 lines rest.1)) at;
      }

  pub if_presented2 : (result : Result Presentation CsvRefusal) → IsSchema S → length sheets ≡ length S.entities → OnOk result (sheets2_fault S sheets lines file ≡ None)
      → IfOk result (λ p. p ≡ presented2 S sheets lines) → IfOk result (IsPresentation S)
  if_presented2 (Ok p) schema same passed is = subst (IsPresentation S) (sym is) (presented2_is schema same passed)
  if_presented2 (Err r) schema same passed is = tt

  -- too many records
  pub many2_refused : (r : CsvRefusal) → 16000000 < total S sheets + length (filter is_null lines) → Tells r (Some TooLarge) → Tells r (sheets2_fault S sheets lines file)
  many2_refused r many refuses =
      refuses_first r (size2_fault S sheets lines) (contents2_fault S sheets lines file) (refuses_same r _ _ (sym (size_fails (total S sheets + length (filter is_null lines)) many)) refuses)

  module _ (first : ℕ) (is : first ≡ total S sheets) (fits : first + length (filter is_null lines) ≤ 16000000) where
    passes : size2_fault S sheets lines ≡ None
    passes = ap (λ n. size_fault (n + length (filter is_null lines))) (sym is) ∙ size_passes (first + length (filter is_null lines)) fits

    pub present2_passed : (result : Result Presentation CsvRefusal) → OnOk result (contents2_fault S sheets lines file ≡ None) → OnOk result (sheets2_fault S sheets lines file ≡ None)
    present2_passed (Ok p) none = both_none (size2_fault S sheets lines) (contents2_fault S sheets lines file) passes none
    present2_passed (Err r) none = none

    pub present2_refused : (result : Result Presentation CsvRefusal) → IfErr result (λ r. Tells r (contents2_fault S sheets lines file)) → IfErr result (λ r. Tells r (sheets2_fault S sheets lines file))
    present2_refused (Ok p) refuses = refuses
    present2_refused (Err r) refuses = refuses_after r (size2_fault S sheets lines) (contents2_fault S sheets lines file) passes refuses

    pub present2_made : (result : Result Presentation CsvRefusal) (n : ℕ) → n ≡ length S.entities
        → IfOk result (λ p. p.generators ≡ named (flat_map (entity_sorts sheets) (below n) ++ map (λ u. Plain u.1) (labels2_of S sheets lines)))
        → IfOk result (λ p. p.equations ≡ rest_equations S sheets lines first (labels2_of S sheets lines)) → IfOk result (λ p. p ≡ presented2 S sheets lines)
    present2_made (Ok p) n count generators equations = λ i. record {
      generators = (generators ∙ ap (λ m. named (flat_map (entity_sorts sheets) (below m) ++ map (λ u. Plain u.1) (labels2_of S sheets lines))) count) i;
      equations = (equations ∙ ap (λ m. rest_equations S sheets lines m (labels2_of S sheets lines)) is) i;
    }
    present2_made (Err r) n count generators equations = generators
