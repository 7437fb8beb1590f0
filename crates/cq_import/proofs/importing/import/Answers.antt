use Rattle.std.proofs.Common.{List, map, length, sym, ap, subst, ◌∙◌}
use Rattle.cq_import.specs.declared.entity_file.EntityFile.{EntityFile}
use Rattle.cq_import.specs.Folders.{AreRead}
use Rattle.cq_import.specs.Context.{sheet_in}
use Rattle.cq_import.proofs.Answering.{answer_presents, answer_refuses, sheets_no_read}
use Rattle.cq_import.proofs.FolderReads.{keeps_itself, raises_after, raises_of, raises_other}
use Rattle.cq_import.proofs.OfFiles.{of_files}
use Rattle.cq_import.specs.declared.refusal.CsvRefusal.TheVariants.{Memory}
use Rattle.cq_import.proofs.importing.import.Goals as goal

pub returns-in_default-clause-answer : goal.returns-in_default-clause-answer
returns-in_default-clause-answer g c = of_files _ _ (λ f. tt)

pub returns-in_default-clause-keeps : goal.returns-in_default-clause-keeps
returns-in_default-clause-keeps g c = keeps_itself _

pub returns-in_default-clause-raises : goal.returns-in_default-clause-raises
returns-in_default-clause-raises g c = raises_other _ _ Memory tt

pub returns-in-Ok-read_files-clause-answer : goal.returns-in-Ok-read_files-clause-answer
returns-in-Ok-read_files-clause-answer g c =
    let made = c.as_slice-in-Ok-read_files-2.result.now in
    let same = c.as_slice-in-Ok-read_files-2.ensures.value in
    let files = (g.F.Folder.state c.args.folder.now).files in
    let read = subst (AreRead c.args.dir.now c.args.schema.now files) (sym same) c.in-Ok-read_files.ensures.read in
    let few = ap (λ (l : List EntityFile). length l) same ∙ c.in-Ok-read_files.ensures.count in
    answer_presents files c.args.dir.now c.args.schema.now c.is_well_sorted.ensures made read few c.present.result c.present.ensures.passed c.present.ensures.made c.present.ensures.refused

pub returns-in-Ok-read_files-clause-raises : goal.returns-in-Ok-read_files-clause-raises
returns-in-Ok-read_files-clause-raises g c =
    raises_of _ _ c.present.result _ c.present.ensures.refused (sheets_no_read c.args.schema.now (map sheet_in c.as_slice-in-Ok-read_files-2.result.now))

pub returns-clause-answer : goal.returns-clause-answer
returns-clause-answer g c =
    answer_refuses (g.F.Folder.state c.args.folder.now).files c.args.dir.now c.args.schema.now c.is_well_sorted.ensures c.in-Err.refusal c.in-Err.ensures.refused

pub returns-clause-raises : goal.returns-clause-raises
returns-clause-raises g c = raises_after _ _ _ c.in-Err.refusal (keeps_itself (g.F.Folder.state c.args.folder.now)) c.in-Err.ensures.raises
