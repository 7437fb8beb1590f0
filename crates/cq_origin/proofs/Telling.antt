-- The place that is told is that of the cell.
use Rattle.std.proofs.Common.{ℕ, List, [], ◌++◌, ◌+◌, ◌-◌, ◌≡◌, ◌<◌, ◌≤◌, Option, Some, None, true, false, length, refl, sym, ap, subst, ◌∙◌, arith}
use Rattle.std.specs.Prelude.{Bool, IsSomeAnd, if◌then◌else◌, nat_lt, slice_get}
use Rattle.std.specs.List.Sorted.{IsPartitionedBy, IsPartitionPoint}
use Rattle.std.proofs.lemmas.Bool.Decides.{nat_tests}
use Rattle.cq_theory.specs.declared.presentation.Equation.{Equation}
use Rattle.cq_theory.specs.declared.presentation.Presentation.{Presentation}
use Rattle.cq_theory.specs.declared.presentation.Sort.TheVariants.{Plain}
use Rattle.cq_theory.specs.SchemaData.{SchemaData as Schema}
use Rattle.cq_theory.specs.Canonical.{named}
use Rattle.cq_theory.specs.Sorts.{Generators}
use Rattle.cq_theory.proofs.Every.{Every-at}
use Rattle.cq_import.specs.Cells.{Sheet, all_cells, start_of}
use Rattle.cq_import.specs.Imports.{row_sorts}
use Rattle.cq_origin.specs.declared.cells.CellPlace.{CellPlace}
use Rattle.cq_origin.specs.declared.cells.Said.{Said}
use Rattle.cq_origin.specs.Cells.{PresentsCells, TellsCell, is_before, place_from, said_of}
use Rattle.cq_origin.proofs.Saying.{IsFrom, IsOfEntity, cell_says, cells_of, from_cells}
use Rattle.cq_origin.proofs.Starting.{partitioned, start_is}

-- Which equation: its cell, and what it names.
module _ (S : Schema) (sheets : List Sheet) (P : Presentation) (e : Equation) (presents : PresentsCells S sheets P e) where
  pub from : IsFrom sheets S.typeside presents.first (all_cells S sheets) e
  from = from_cells sheets S.typeside presents.first presents.labels (all_cells S sheets) presents.place e presents.said

  pub of : IsOfEntity S sheets from.cell
  of = Every-at (IsOfEntity S sheets) (all_cells S sheets) from.number from.cell (cells_of S sheets) from.at

  abbrev pub names : Said
  names = record { generator = from.cell.generator; entity = of.entity; column = from.cell.column }

  pub says : said_of S e ≡ Some names
  says = cell_says S sheets presents.first from.labels from.cell of.entity from.place e of.is.column from.says

  -- something is named
  pub is_named : said_of S e ≡ None → ⊥
  is_named none = cc (none, says)

  behind : (b : Bool) (first : ℕ) → nat_lt from.cell.generator first ≡ b → first ≡ start_of sheets of.entity
      → IsSomeAnd (if b then None else Some (record { entity = of.entity; record_number = from.cell.generator - first + 1; column = from.cell.column })) (TellsCell S sheets e)
  behind true first test is = absurd (omega (arith, under from.cell.generator first test, is, of.is.numbered, of.is.low))
    where
      under : (m n : ℕ) → nat_lt m n ≡ true → m < n
      under m n h = grind (arith, nat_tests)
  behind false first test is = record {
    cell = from.cell;
    number = from.number;
    stands = from.at;
    first = presents.first;
    labels = from.labels;
    place = from.place;
    says = from.says;
    file = of.is.file_is;
    row = omega (arith, is, of.is.numbered, of.is.low);
    column = refl;
  }

  -- how many generators stand before the first of an entity, where the clause of the search for it says so
  abbrev pub Found : Said → ℕ → Type 0
  Found said first =
      IsPartitionedBy (is_before said.entity) P.generators
      → IsPartitionPoint (λ g. is_before said.entity g ≡ true) (λ g. is_before said.entity g ≡ false) P.generators first

  start : (first : ℕ) → first ≤ length P.generators → Found names first → first ≡ start_of sheets of.entity
  start first bound found =
      let parted =
      subst (λ (g : Generators). IsPartitionedBy (is_before of.entity) g) (sym presents.generators)
      (partitioned S sheets presents.plain presents.are_plain presents.as_many of.entity of.within) in
      start_is S sheets presents.plain presents.are_plain presents.as_many of.entity of.within first
      (subst (λ (g : Generators). first ≤ length g) presents.generators bound) ([], Plain 0)
      (subst (λ (g : Generators). IsPartitionPoint (λ h. is_before of.entity h ≡ true) (λ h. is_before of.entity h ≡ false) g first) presents.generators (found parted))

  -- where this is named, the place is that of the cell
  pub told : (said : Said) (first : ℕ) → said_of S e ≡ Some said → first ≤ length P.generators → Found said first → IsSomeAnd (place_from said first) (TellsCell S sheets e)
  told said first is bound found =
      let same : names ≡ said = cc (is, says) in
      subst (λ (s : Said). Found s first → IsSomeAnd (place_from s first) (TellsCell S sheets e)) same
      (λ here. behind (nat_lt from.cell.generator first) first refl (start first bound here)) found
