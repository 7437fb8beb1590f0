use Rattle.std.specs.Prelude.{string_bytes}
use Rattle.cq_import.specs.Records.{records_of}
use Rattle.cq_import.proofs.Answering2.{marked_no_read}
use Rattle.cq_import.proofs.FolderReads.{raises_of}
use Rattle.cq_import.proofs.entries_file.read_entries_file.Goals as goal

pub returns-in-Ok-clause-raises : goal.returns-in-Ok-clause-raises
returns-in-Ok-clause-raises g c =
    raises_of _ _ c.check_text.result _ c.check_text.ensures.refused (marked_no_read (string_bytes c.in-Ok.name) (records_of c.in-Ok.text.items))
