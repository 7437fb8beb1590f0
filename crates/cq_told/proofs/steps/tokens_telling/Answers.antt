use Rattle.cq_told.specs.Explained.{no_tree}
use Rattle.cq_told.proofs.Claims.{program_ok}
use Rattle.cq_told.proofs.steps.tokens_telling.Goals as goal

pub program_telling-requires-clause-stops : goal.program_telling-requires-clause-stops
program_telling-requires-clause-stops g c = c.requires.stops c.in-Ok.program c.in-Ok.ensures.ok.0 c.in-Ok.ensures.ok.1

pub returns-in-Ok-clause-told : goal.returns-in-Ok-clause-told
returns-in-Ok-clause-told g c =
    program_ok c.args.depth (g.F.Folder.state c.args.folder.now).files c.args.page.tokens.now c.in-Ok.program c.program_telling.result
    c.in-Ok.ensures.ok c.program_telling.ensures.told

pub returns-in_ok-telling-in-Err-clause-told : goal.returns-in_ok-telling-in-Err-clause-told
returns-in_ok-telling-in-Err-clause-told g c = no_tree c.in-Err.refusal c.in-Err.ensures.refused c.in_ok-telling-in-Err.ensures
