use Rattle.std.proofs.Common.{◌≡◌, map, take, subst}
use Rattle.cq_import.specs.Folders.{name_of}
use Rattle.cq_cells.specs.Readings.{folder_found}
use Rattle.cq_cells.specs.Shown.{most_faults, shown}
use Rattle.cq_cells.proofs.Whole.{first_told}
use Rattle.cq_cells.proofs.folder.examine.Goals as goal

pub returns-clause-first : goal.returns-clause-first
returns-clause-first g c =
    let dir = c.args.dir.now in
    let S = c.args.schema.now in
    let items = c.in_ok-faults.faults.items in
    first_told _ dir S c.in_ok-readings.readings.items items c.in_ok-readings.ensures.told
    (subst (λ R. map (shown (name_of dir S)) items ≡ take most_faults (folder_found (name_of dir S) S R)) c.as_slice.ensures.value (c.in_ok-faults.ensures (name_of dir S)))
