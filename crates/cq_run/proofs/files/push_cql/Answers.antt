use Rattle.cq_io.specs.Content.{file_of}
use Rattle.cq_text.specs.Literal.{literal_of}
use Rattle.cq_run.specs.Files.{cql_files}
use Rattle.cq_run.proofs.Filed.{appended, one_file, through}
use Rattle.cq_run.proofs.files.push_cql.Goals as goal

pub returns : goal.returns
unfolding cql_files
returns c =
    appended file_of _ _ _ _ c.in_ok-push.ensures.items
    (one_file _ _ _ _ c.in_ok-name.ensures (through (literal_of c.args.named.now.name c.args.named.now.schema) _ _ _ c.in_ok-text.ensures c.deref.ensures))
