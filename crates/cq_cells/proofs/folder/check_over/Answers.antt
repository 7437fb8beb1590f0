use Rattle.std.proofs.Common.{refl, true}
use Rattle.cq_import.specs.Cells.{all_cells}
use Rattle.cq_cells.specs.declared.cells.Pass.{Pass}
use Rattle.cq_cells.specs.Passes.{sheets_over}
use Rattle.cq_cells.proofs.Passing.{passes_listed}
use Rattle.cq_cells.proofs.folder.check_over.Goals as goal

pub returns : goal.returns
returns c =
    let old : Pass = record { faults = c.args.faults; labels = c.new-labels.result; going = true } in
    passes_listed c.args.over.now old c.read_cells.new.pass (λ name. all_cells c.args.over.now.schema.now (sheets_over c.args.over.now name)) refl c.new-labels.ensures c.in_ok-read_cells.ensures
