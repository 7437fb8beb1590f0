use Rattle.cq_csv.proofs.FileLists.{file_below}
use Rattle.cq_csv.proofs.export.entity_files.Goals as goal

pub loop-entity-preserved : goal.loop-entity-preserved
loop-entity-preserved c =
    file_below _ _ c.loop-entity.files.items c.push.new.self.items _ c.loop-entity.entity c.loop-entity.invariant c.in_ok-push.ensures.items (λ j. (c.in_ok-file.ensures j, c.in_ok-text.ensures j))
