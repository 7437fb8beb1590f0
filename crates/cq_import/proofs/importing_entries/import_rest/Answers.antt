use Rattle.std.proofs.Common.{map, length}
use Rattle.std.specs.Prelude.{string_bytes}
use Rattle.cq_import.specs.Context.{sheet_in}
use Rattle.cq_import.specs.Rows.{rows_of}
use Rattle.cq_import.proofs.Answering2.{answer2_presents, answer2_unread, sheets2_no_read}
use Rattle.cq_import.proofs.FolderReads.{raises_of}
use Rattle.cq_import.proofs.importing_entries.import_rest.Goals as goal

pub returns-in-Ok-clause-raises : goal.returns-in-Ok-clause-raises
returns-in-Ok-clause-raises g c =
    raises_of _ _ c.present_entries.result _ c.present_entries.ensures.refused
    (sheets2_no_read c.args.schema.now (map sheet_in c.args.files.now) (rows_of c.in-Ok.entries.text.items) (string_bytes c.in-Ok.entries.name))

pub returns-in-Ok-clause-answer : goal.returns-in-Ok-clause-answer
returns-in-Ok-clause-answer g c =
    answer2_presents c.args.dir.now c.args.schema.now c.is_well_sorted.ensures c.args.files.now c.requires.count (g.F.Folder.state c.args.folder.now).files c.requires.read c.in-Ok.entries c.in-Ok.ensures.read
    c.present_entries.result c.present_entries.ensures.passed c.present_entries.ensures.made c.present_entries.ensures.refused

pub returns-in-Err-clause-answer : goal.returns-in-Err-clause-answer
returns-in-Err-clause-answer g c =
    answer2_unread c.args.dir.now c.args.schema.now c.is_well_sorted.ensures c.args.files.now c.requires.count (g.F.Folder.state c.args.folder.now).files c.requires.read c.in-Err.refusal c.in-Err.ensures.refused
