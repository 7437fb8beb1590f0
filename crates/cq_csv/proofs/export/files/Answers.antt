use Rattle.cq_csv.proofs.FileLists.{one_file}
use Rattle.cq_csv.proofs.export.files.Goals as goal

pub returns : goal.returns
returns c = one_file _ c.in_ok-files.files.items c.push.new.self.items _ _ _ c.in_ok-files.ensures c.in_ok-push.ensures.items (λ j. (c.in_ok-last.ensures j, c.in_ok-text.ensures j))
