use Rattle.cq_told.proofs.Claims.{broken_ok, lacking_ok}
use Rattle.cq_told.proofs.steps.fault_telling.Goals as goal

pub returns-in-Broken-clause-told : goal.returns-in-Broken-clause-told
returns-in-Broken-clause-told g c =
    broken_ok c.args.book.page.tokens.now c.args.decl.now c.args.stop.now.fault c.in-Broken.place c.in-Broken.reason c.broken_telling.result
    c.in-Broken.is c.broken_telling.ensures.place c.broken_telling.ensures.derived

pub returns-in-Unread-clause-told : goal.returns-in-Unread-clause-told
returns-in-Unread-clause-told g c =
    lacking_ok c.args.book.page.tokens.now c.args.decl.now c.args.stop.now.fault c.in-Unread.file c.in-Unread.cause c.lacking_telling.result
    c.in-Unread.is c.lacking_telling.ensures
