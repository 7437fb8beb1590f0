use Rattle.std.specs.Prelude.{IfSome, string_bytes}
use Rattle.cq_io.specs.Content.{find_file}
use Rattle.std.proofs.Common.{List, Some, ◌≡◌, ◌∙◌, inl, sym, ap, subst}
use Rattle.cq_base.specs.declared.name.Name.{Name}
use Rattle.cq_theory.specs.SchemaData.{SchemaData}
use Rattle.cq_import.specs.Columns.{header_with}
use Rattle.cq_import.specs.Folders.{IsUnread}
use Rattle.cq_import.specs.Imports.{file_name}
use Rattle.cq_import.specs.Records.{records_of}
use Rattle.cq_import.proofs.FolderReads.{name_here, raises_of, read_passed, read_refused, sheet_no_read}
use Rattle.cq_import.proofs.folder.read_entity_file.Goals as goal

pub returns-in-Ok-clause-raises : goal.returns-in-Ok-clause-raises
returns-in-Ok-clause-raises g c = raises_of _ _ c.check_text.result _ c.check_text.ensures.refused (sheet_no_read (string_bytes c.in-Ok.name) (header_with c.args.schema.now c.args.columns.now) (records_of c.in-Ok.text.items))

pub returns-in-Ok-clause-read : goal.returns-in-Ok-clause-read
returns-in-Ok-clause-read g c =
    let S = c.args.schema.now in
    let entities = c.as_slice-entities.ensures ∙ ap (λ (s : SchemaData). s.entities) c.schema.view_is in
    let here = name_here S c.as_slice-entities.result.now c.args.entity c.index-entities-entity.result c.as_str.result.now entities c.requires.entity c.index-entities-entity.is c.as_str.ensures.text in
    let named = c.in_ok-name.ensures ∙ ap (file_name c.args.dir.now) here in
    let read = c.in-Ok.ensures.read in
    read_passed (g.F.Folder.state c.args.folder.now).files c.args.dir.now S c.args.entity _ c.in-Ok.text.items c.args.columns.now (read.named ∙ named) c.requires.columns read.short
    (subst (λ n. IfSome (g.F.Folder.state c.args.folder.now).files (λ told. find_file n told ≡ Some c.in-Ok.text.items)) (sym read.named) read.found) c.check_text.result c.check_text.ensures.named c.check_text.ensures.passed

pub returns-in-Ok-clause-refused : goal.returns-in-Ok-clause-refused
returns-in-Ok-clause-refused g c =
    let S = c.args.schema.now in
    let entities = c.as_slice-entities.ensures ∙ ap (λ (s : SchemaData). s.entities) c.schema.view_is in
    let here = name_here S c.as_slice-entities.result.now c.args.entity c.index-entities-entity.result c.as_str.result.now entities c.requires.entity c.index-entities-entity.is c.as_str.ensures.text in
    let named = c.in_ok-name.ensures ∙ ap (file_name c.args.dir.now) here in
    let read = c.in-Ok.ensures.read in
    read_refused (g.F.Folder.state c.args.folder.now).files c.args.dir.now S c.args.entity _ c.in-Ok.text.items c.args.columns.now (read.named ∙ named) c.requires.columns read.short
    (subst (λ n. IfSome (g.F.Folder.state c.args.folder.now).files (λ told. find_file n told ≡ Some c.in-Ok.text.items)) (sym read.named) read.found) c.check_text.result c.check_text.ensures.refused

pub returns-in-Err-clause-refused : goal.returns-in-Err-clause-refused
returns-in-Err-clause-refused g c =
    let S = c.args.schema.now in
    let entities = c.as_slice-entities.ensures ∙ ap (λ (s : SchemaData). s.entities) c.schema.view_is in
    let here = name_here S c.as_slice-entities.result.now c.args.entity c.index-entities-entity.result c.as_str.result.now entities c.requires.entity c.index-entities-entity.is c.as_str.ensures.text in
    let named = c.in_ok-name.ensures ∙ ap (file_name c.args.dir.now) here in
    inl (subst (λ n. IsUnread (g.F.Folder.state c.args.folder.now).files n c.in-Err.refusal) named c.in-Err.ensures.unread)
