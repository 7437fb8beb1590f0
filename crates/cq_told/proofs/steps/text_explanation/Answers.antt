use Rattle.cq_told.proofs.Claims.{shown_ok}
use Rattle.cq_told.proofs.steps.text_explanation.Goals as goal

pub returns-in-Some-clause-told : goal.returns-in-Some-clause-told
returns-in-Some-clause-told g c =
    shown_ok c.args.depth (g.F.Folder.state c.args.folder.now).files c.args.text.now c.in_ok-found.found c.in-Some.telling c.shown.result
    c.in-Some.is c.in_ok-found.ensures.told c.shown.ensures
