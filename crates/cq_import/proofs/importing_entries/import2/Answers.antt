use Rattle.std.proofs.Common.{inl, refl, sym, subst}
use Rattle.cq_import.specs.declared.refusal.CsvRefusal.TheVariants.{Memory}
use Rattle.cq_import.specs.Entries.{IsImport2Over, OfFiles2}
use Rattle.cq_import.specs.Folders.{AreRead}
use Rattle.cq_import.proofs.Answering2.{answer2_refuses}
use Rattle.cq_import.proofs.FolderReads.{keeps_itself, keeps_then, raises_after, raises_later, raises_other}
use Rattle.cq_import.proofs.importing_entries.import2.Goals as goal

pub returns-in_default-clause-answer : goal.returns-in_default-clause-answer
returns-in_default-clause-answer g c = answer2_refuses c.args.dir.now c.args.schema.now c.is_well_sorted.ensures (g.F.Folder.state c.args.folder.now).files Memory (inl refl)

pub returns-clause-answer : goal.returns-clause-answer
returns-clause-answer g c = answer2_refuses c.args.dir.now c.args.schema.now c.is_well_sorted.ensures (g.F.Folder.state c.args.folder.now).files c.in-Err.refusal c.in-Err.ensures.refused

pub returns-in-Ok-read_files-clause-answer : goal.returns-in-Ok-read_files-clause-answer
returns-in-Ok-read_files-clause-answer g c =
    subst (λ files. OfFiles2 files c.args.dir.now (λ told text. IsImport2Over told text c.args.dir.now c.args.schema.now c.import_rest.result)) c.in-Ok-read_files.ensures.keeps.files c.import_rest.ensures.answer

pub import_rest-requires-clause-read : goal.import_rest-requires-clause-read
import_rest-requires-clause-read g c =
    let made = c.as_slice-in-Ok-read_files-2.result.now in
    subst (λ files. AreRead c.args.dir.now c.args.schema.now files made) (sym c.in-Ok-read_files.ensures.keeps.files)
    (subst (AreRead c.args.dir.now c.args.schema.now (g.F.Folder.state c.args.folder.now).files) (sym c.as_slice-in-Ok-read_files-2.ensures.value) c.in-Ok-read_files.ensures.read)

pub returns-in_default-clause-keeps : goal.returns-in_default-clause-keeps
returns-in_default-clause-keeps g c = keeps_itself _

pub returns-in_default-clause-raises : goal.returns-in_default-clause-raises
returns-in_default-clause-raises g c = raises_other _ _ Memory tt

pub returns-in-Ok-read_files-clause-keeps : goal.returns-in-Ok-read_files-clause-keeps
returns-in-Ok-read_files-clause-keeps g c = keeps_then _ _ _ c.in-Ok-read_files.ensures.keeps c.import_rest.ensures.keeps

pub returns-in-Ok-read_files-clause-raises : goal.returns-in-Ok-read_files-clause-raises
returns-in-Ok-read_files-clause-raises g c = raises_later _ _ _ c.import_rest.result c.in-Ok-read_files.ensures.keeps c.import_rest.ensures.raises

pub returns-clause-raises : goal.returns-clause-raises
returns-clause-raises g c = raises_after _ _ _ c.in-Err.refusal (keeps_itself (g.F.Folder.state c.args.folder.now)) c.in-Err.ensures.raises
