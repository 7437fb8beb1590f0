use Rattle.std.proofs.Common.{subst, sym}
use Rattle.std.specs.Prelude.{IfOk}
use Rattle.cq_theory.specs.SchemaData.{SchemaData}
use Rattle.cq_theory.specs.Presentation.{IsPresentation}
use Rattle.cq_import.specs.Entries.{IsImport2Over, OfFiles2}
use Rattle.cq_import.specs.Imports.{IsImport, OfFiles}
use Rattle.cq_program.specs.declared.imports.stating.Format.{Format}
use Rattle.cq_program.specs.Folders.{IsImportOf, OfFolder}
use Rattle.cq_program.proofs.Readings.{answers_first, answers_second}
use Rattle.cq_program.proofs.imports.reading.import_files.Goals as goal

pub returns-in-First-clause-answer : goal.returns-in-First-clause-answer
returns-in-First-clause-answer g c =
    let told = (g.F.Folder.state c.args.folder.now).files in
    let answer = answers_first told c.args.files.now.dir c.args.files.now.schema.value c.import.result
    (subst (λ (S : SchemaData). OfFiles told (λ each. IsImport each c.args.files.now.dir S c.import.result)) c.deref.ensures c.import.ensures.answer) in
    subst (λ (format : Format). OfFolder told format c.args.files.now.dir c.args.files.now.schema.value (λ content. IsImportOf content c.import.result)) (sym c.in-First.is) answer

pub returns-in-First-clause-presentation : goal.returns-in-First-clause-presentation
returns-in-First-clause-presentation g c = subst (λ (S : SchemaData). IfOk c.import.result (IsPresentation S)) c.deref.ensures c.import.ensures.presentation

pub returns-in-First-clause-keeps : goal.returns-in-First-clause-keeps
returns-in-First-clause-keeps g c = c.import.ensures.keeps

pub returns-in-First-clause-raises : goal.returns-in-First-clause-raises
returns-in-First-clause-raises g c = c.import.ensures.raises

pub returns-in-Second-clause-answer : goal.returns-in-Second-clause-answer
returns-in-Second-clause-answer g c =
    let told = (g.F.Folder.state c.args.folder.now).files in
    let answer = answers_second told c.args.files.now.dir c.args.files.now.schema.value c.import2.result
    (subst (λ (S : SchemaData). OfFiles2 told c.args.files.now.dir (λ each text. IsImport2Over each text c.args.files.now.dir S c.import2.result)) c.deref-in-Second.ensures c.import2.ensures.answer) in
    subst (λ (format : Format). OfFolder told format c.args.files.now.dir c.args.files.now.schema.value (λ content. IsImportOf content c.import2.result)) (sym c.in-Second.is) answer

pub returns-in-Second-clause-presentation : goal.returns-in-Second-clause-presentation
returns-in-Second-clause-presentation g c = subst (λ (S : SchemaData). IfOk c.import2.result (IsPresentation S)) c.deref-in-Second.ensures c.import2.ensures.presentation

pub returns-in-Second-clause-keeps : goal.returns-in-Second-clause-keeps
returns-in-Second-clause-keeps g c = c.import2.ensures.keeps

pub returns-in-Second-clause-raises : goal.returns-in-Second-clause-raises
returns-in-Second-clause-raises g c = c.import2.ensures.raises
