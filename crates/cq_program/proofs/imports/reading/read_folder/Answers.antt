use Rattle.cq_io.specs.FolderData.{FolderData}
use Rattle.cq_program.proofs.Readings.{reads_folder, refuses_folder}
use Rattle.cq_program.proofs.imports.reading.read_folder.Goals as goal

pub returns-in-Ok-clause-reads : goal.returns-in-Ok-clause-reads
returns-in-Ok-clause-reads g c =
    reads_folder (g.F.Folder.state c.args.folder.now).files c.args.files.format c.args.files.name c.args.files.schema.value c.args.files.dir c.in-Ok.presentation c.in-Ok.ensures.answer

pub returns-in-Err-clause-refused : goal.returns-in-Err-clause-refused
returns-in-Err-clause-refused g c =
    let old : FolderData = g.F.Folder.state c.args.folder.now in
    let new : FolderData = g.F.Folder.state c.import_files.new.folder in
    refuses_folder old new c.args.place c.args.files.format c.args.files.name c.args.files.schema.value c.args.files.dir c.in-Err.refusal c.tell_import.result
    c.in-Err.ensures.answer c.in-Err.ensures.raises c.tell_import.ensures
