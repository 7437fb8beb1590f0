use Rattle.std.proofs.Common.{◌++◌, List, ap, sym}
use Rattle.cq_import.specs.Cells.{rows_cells}
use Rattle.cq_import.specs.Records.{Record}
use Rattle.cq_import.proofs.Checked.{ended, taken}
use Rattle.cq_import.proofs.Stepping.{behind, none_behind}
use Rattle.cq_cells.specs.Passes.{told_with}
use Rattle.cq_cells.proofs.tables.read_text.Goals as goal

pub returns-then-not-branch : goal.returns-then-not-branch
returns-then-not-branch c = λ generator name others.
    let none = none_behind c.args.text.now (ended _ _ _ _ c.if-not-branch.true (c.in_ok-next.ensures _ c.start-reader.ensures)) in
    ap (λ (rows : List Record). told_with c.args.over.now name c.args.pass.now (rows_cells (name c.args.table.now.file) c.args.table.now.columns.now generator 1 rows ++ others)) (sym none)

pub returns : goal.returns
returns c = λ generator.
    let takes = taken _ _ _ _ c.if-not-branch.false (c.in_ok-next.ensures _ c.start-reader.ensures) in
    c.read_rows.ensures _ generator (behind _ c.args.text.now _ takes)
