-- What the cells present is what the files present.
use Rattle.std.proofs.Common.{ℕ, List, [], ◌++◌, ◌-◌, ◌<◌, ◌≤◌, ◌≡◌, Bool, true, false, Option, Some, None, Result, Ok, Err, inr, length, map, refl, sym, ap, ◌∙◌, arith}
use Rattle.std.specs.Prelude.{IfOk, OnOk, IfErr, nat_lt, if◌then◌else◌}
use Rattle.std.specs.List.{flat_map}
use Rattle.std.proofs.lemmas.Bool.Decides.{nat_tests}
use Rattle.cq_theory.specs.declared.presentation.Presentation.{Presentation}
use Rattle.cq_theory.specs.declared.presentation.Sort.TheVariants.{Plain}
use Rattle.cq_theory.specs.Canonical.{below, named}
use Rattle.cq_theory.specs.SchemaData.{SchemaData as Schema}
use Rattle.cq_import.specs.declared.refusal.CsvRefusal.{CsvRefusal}
use Rattle.cq_import.specs.Cells.{Sheet, all_cells, cell_uses, cells_fault, equations_from}
use Rattle.cq_import.specs.Faults.{Fault, Tells, TooLarge, or_else}
use Rattle.cq_import.specs.Imports.{entity_sorts, presented, sheets_fault, size_fault, total}
use Rattle.cq_import.specs.Labels.{with_uses}
use Rattle.cq_import.proofs.Faulty.{both_none, refuses_after, refuses_same}

if_false : (b : Bool) → b ≡ false → (if b then Some TooLarge else None) ≡ None
if_false true e = cc e
if_false false e = refl

if_true : (b : Bool) → b ≡ true → (if b then Some TooLarge else None) ≡ Some TooLarge
if_true true e = refl
if_true false e = cc e

less : (n : ℕ) → n ≤ 16000000 → nat_lt 16000000 n ≡ false
less n h = grind (arith, nat_tests)

greater : (n : ℕ) → 16000000 < n → nat_lt 16000000 n ≡ true
greater n h = grind (arith, nat_tests)

pub size_passes : (n : ℕ) → n ≤ 16000000 → size_fault n ≡ None
size_passes n few = if_false (nat_lt 16000000 n) (less n few)

pub size_fails : (n : ℕ) → 16000000 < n → size_fault n ≡ Some TooLarge
size_fails n many = if_true (nat_lt 16000000 n) (greater n many)

module _ (S : Schema) (sheets : List Sheet) where
  abbrev cells_at : ℕ → Option Fault
  cells_at first = cells_fault sheets S.typeside (Some (16000000 - first)) [] (all_cells S sheets)

  pub many_refused : (r : CsvRefusal) → 16000000 < total S sheets → Tells r (Some TooLarge) → Tells r (sheets_fault S sheets)
  many_refused r many = refuses_same r (Some TooLarge) (sheets_fault S sheets) (sym (ap (λ o. or_else o (cells_at (total S sheets))) (size_fails (total S sheets) many)))

  module _ (first : ℕ) (is : first ≡ total S sheets) (few : first ≤ 16000000) (result : Result Presentation CsvRefusal) where
    passes : size_fault (total S sheets) ≡ None
    passes = ap size_fault (sym is) ∙ size_passes first few

    pub present_passed : OnOk result (cells_at first ≡ None) → OnOk result (sheets_fault S sheets ≡ None)
    present_passed = go result
      where
        go : (r : Result Presentation CsvRefusal) → OnOk r (cells_at first ≡ None) → OnOk r (sheets_fault S sheets ≡ None)
        go (Ok p) none = both_none _ _ passes (ap cells_at (sym is) ∙ none)
        go (Err e) none = none

    pub present_refused : IfErr result (λ r. Tells r (cells_at first)) → IfErr result (λ r. Tells r (sheets_fault S sheets))
    present_refused = go result
      where
        go : (r : Result Presentation CsvRefusal) → IfErr r (λ e. Tells e (cells_at first)) → IfErr r (λ e. Tells e (sheets_fault S sheets))
        go (Ok p) refuses = refuses
        go (Err e) refuses = refuses_after e _ _ passes (refuses_same e _ _ (ap cells_at is) refuses)

    pub present_made : (n : ℕ) → n ≡ length S.entities
        → IfOk result (λ p. p.generators ≡ named (flat_map (entity_sorts sheets) (below n) ++ map (λ u. Plain u.1) (with_uses [] (flat_map (cell_uses S.typeside) (all_cells S sheets)))))
        → IfOk result (λ p. p.equations ≡ equations_from sheets S.typeside first [] (all_cells S sheets)) → IfOk result (λ p. p ≡ presented S sheets)
    present_made n same = go result
      where
        go : (r : Result Presentation CsvRefusal)
            → IfOk r (λ p. p.generators ≡ named (flat_map (entity_sorts sheets) (below n) ++ map (λ u. Plain u.1) (with_uses [] (flat_map (cell_uses S.typeside) (all_cells S sheets)))))
            → IfOk r (λ p. p.equations ≡ equations_from sheets S.typeside first [] (all_cells S sheets)) → IfOk r (λ p. p ≡ presented S sheets)
        go (Ok p) generators equations = λ i. record {
          generators =
              (generators ∙ ap (λ m. named (flat_map (entity_sorts sheets) (below m) ++ map (λ u. Plain u.1) (with_uses [] (flat_map (cell_uses S.typeside) (all_cells S sheets))))) same) i;
          equations = (equations ∙ ap (λ m. equations_from sheets S.typeside m [] (all_cells S sheets)) is) i;
        }
        go (Err e) generators equations = generators
