use Rattle.std.proofs.Common.{◌∙◌, subst, sym}
use Rattle.cq_cells.specs.Readings.{contents_found, files_found}
use Rattle.cq_cells.specs.Shown.{Lists}
use Rattle.cq_cells.proofs.Whole.{listed_all, listed_files}
use Rattle.cq_cells.proofs.folder.find_faults.Goals as goal

pub returns-then-not-is_empty : goal.returns-then-not-is_empty
returns-then-not-is_empty c =
    let S = c.args.schema.now in
    let R = c.args.readings.now in
    let found = c.check_files.new.faults in
    listed_files found c.into_list.result.items (λ name. files_found name S R) (λ name. contents_found name S R) c.into_list.ensures.list c.into_list.ensures.few
    (subst (λ l. Lists l found (λ name. files_found name S R)) c.new-faults.ensures c.in_ok-indexed.ensures.found) (sym c.is_empty.ensures ∙ c.if-not-is_empty.true)

pub returns : goal.returns
returns c =
    let S = c.args.schema.now in
    let R = c.args.readings.now in
    let found = c.check_files.new.faults in
    listed_all found c.in_ok-all.all c.into_list-2.result.items (λ name. files_found name S R) (λ name. contents_found name S R) c.into_list-2.ensures.list c.into_list-2.ensures.few
    (subst (λ l. Lists l found (λ name. files_found name S R)) c.new-faults.ensures c.in_ok-indexed.ensures.found) (sym c.is_empty.ensures ∙ c.if-not-is_empty.false) c.in_ok-all.ensures
