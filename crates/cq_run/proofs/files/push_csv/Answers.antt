use Rattle.cq_csv.specs.Files as csv
use Rattle.cq_io.specs.Content.{file_of}
use Rattle.cq_run.specs.Files.{csv_files}
use Rattle.cq_run.proofs.Filed.{appended, through}
use Rattle.cq_run.proofs.files.push_csv.Goals as goal

pub returns : goal.returns
unfolding csv_files
returns c =
    appended file_of _ _ c.in_ok-own.own.items _ c.in_ok-append.ensures.items
    (through (csv.files_of c.args.named.now.name) _ _ _ c.in_ok-own.ensures c.deref.ensures)
