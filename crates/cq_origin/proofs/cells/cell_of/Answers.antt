use Rattle.std.proofs.Common.{◌≤◌, ◌≡◌, Option, true, false, length, sym, subst}
use Rattle.std.specs.Prelude.{IsSomeAnd}
use Rattle.std.specs.List.Sorted.{IsPartitionedBy, IsPartitionPoint}
use Rattle.cq_theory.specs.Sorts.{Generators}
use Rattle.cq_origin.specs.Cells.{TellsCell, is_before}
use Rattle.cq_origin.specs.declared.cells.CellPlace.{CellPlace}
use Rattle.cq_origin.proofs.Telling.{is_named, told}
use Rattle.cq_origin.proofs.cells.cell_of.Goals as goal

pub returns-in_err-said : goal.returns-in_err-said
returns-in_err-said c sheets presents = absurd (is_named c.args.schema.now sheets c.args.presentation.now c.args.equation.now presents (sym c.in_err-said.ensures))

pub returns : goal.returns
returns c sheets presents =
    let entity = c.in_ok-said.said.entity in
    let first = c.first_generator-first.result in
    subst (λ (o : Option CellPlace). IsSomeAnd o (TellsCell c.args.schema.now sheets c.args.equation.now)) (sym c.place_behind.ensures)
    (told c.args.schema.now sheets c.args.presentation.now c.args.equation.now presents c.in_ok-said.said first (sym c.in_ok-said.ensures)
    (subst (λ (g : Generators). first ≤ length g) c.as_slice.ensures c.first_generator-first.ensures.bound)
    (subst (λ (g : Generators). IsPartitionedBy (is_before entity) g → IsPartitionPoint (λ h. is_before entity h ≡ true) (λ h. is_before entity h ≡ false) g first) c.as_slice.ensures
    c.first_generator-first.ensures.point))
