use Rattle.std.proofs.Common.{map, length, ◌∙◌}
use Rattle.std.proofs.lemmas.List.{length-map}
use Rattle.cq_import.specs.Context.{sheet_in}
use Rattle.cq_import.proofs.Presented.{present_made, present_passed, present_refused}
use Rattle.cq_import.proofs.WellFormed.{if_presented}
use Rattle.cq_import.proofs.presenting.present.Goals as goal

pub returns-clause-passed : goal.returns-clause-passed
returns-clause-passed c =
    let found = rw c.in-Some.is at c.in_ok-starts.ensures in
    present_passed c.args.schema.now (map sheet_in c.args.files.now) c.in-Some.total found.1 found.2 c.present_cells.result c.present_cells.ensures.passed

pub returns-clause-made : goal.returns-clause-made
returns-clause-made c =
    let found = rw c.in-Some.is at c.in_ok-starts.ensures in
    present_made c.args.schema.now (map sheet_in c.args.files.now) c.in-Some.total found.1 found.2 c.present_cells.result (length c.args.files.now) c.requires.files
    c.present_cells.ensures.generators c.present_cells.ensures.equations

pub returns-clause-presentation : goal.returns-clause-presentation
returns-clause-presentation c =
    let found = rw c.in-Some.is at c.in_ok-starts.ensures in
    let S = c.args.schema.now in
    let sheets = map sheet_in c.args.files.now in
    let result = c.present_cells.result in
    if_presented S c.is_well_sorted.ensures sheets (length-map c.args.files.now sheet_in ∙ c.requires.files) result
    (present_passed S sheets c.in-Some.total found.1 found.2 result c.present_cells.ensures.passed)
    (present_made S sheets c.in-Some.total found.1 found.2 result (length c.args.files.now) c.requires.files c.present_cells.ensures.generators c.present_cells.ensures.equations)

pub returns-clause-refused : goal.returns-clause-refused
returns-clause-refused c =
    let found = rw c.in-Some.is at c.in_ok-starts.ensures in
    present_refused c.args.schema.now (map sheet_in c.args.files.now) c.in-Some.total found.1 found.2 c.present_cells.result c.present_cells.ensures.refused
