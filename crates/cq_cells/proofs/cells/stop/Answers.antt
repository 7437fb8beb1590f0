use Rattle.std.proofs.Common.{◌∙◌, ap}
use Rattle.std.specs.Prelude.{Some, None}
use Rattle.std.proofs.lemmas.Result.{on_ok_weaker}
use Rattle.cq_cells.specs.Found.{found_in}
use Rattle.cq_cells.specs.Shown.{told}
use Rattle.cq_cells.proofs.Celling.{told_trouble}
use Rattle.cq_cells.proofs.Listing.{lists_same}
use Rattle.cq_cells.proofs.cells.stop.Goals as goal

pub returns-clause-listed : goal.returns-clause-listed
returns-clause-listed c = λ generator.
    let cell = c.args.cell.now in
    on_ok_weaker c.add_fault.result
    (lists_same _ _ _ _ (λ name. ap (λ k. found_in (Some (told k (name cell.file) cell.number cell.place)) None) c.kind_of.ensures ∙ told_trouble cell generator c.args.trouble name))
    c.add_fault.ensures.listed
