use Rattle.std.proofs.Common.{arith}
use Rattle.cq_told.proofs.Claims.{read_ok, short_of, stops_read, unread_ok}
use Rattle.cq_told.proofs.steps.explanation.Goals as goal

pub text_explanation-requires-clause-length : goal.text_explanation-requires-clause-length
text_explanation-requires-clause-length g c =
    let short = short_of c.args.depth (g.F.Folder.state c.args.folder.now) c.args.file.now c.args.reading.now c.in-Ok.text c.in-Ok.is c.requires.short in
    omega (arith, short, c.as_slice.ensures.len, c.in-Ok.text.ok.0)

pub text_explanation-requires-clause-stops : goal.text_explanation-requires-clause-stops
text_explanation-requires-clause-stops g c =
    stops_read c.args.depth (g.F.Folder.state c.args.folder.now).files c.args.reading.now c.in-Ok.text c.as_slice.result.now c.args.stop.now c.in-Ok.is
    c.as_slice.ensures.value c.requires.stops

pub returns-in-Ok-clause-told : goal.returns-in-Ok-clause-told
returns-in-Ok-clause-told g c =
    read_ok c.args.depth (g.F.Folder.state c.args.folder.now) c.args.file.now c.args.reading.now c.in-Ok.text c.as_slice.result.now
    c.text_explanation.result c.in-Ok.is c.requires.read c.as_slice.ensures.value c.text_explanation.ensures.told

pub returns-in-Err-clause-told : goal.returns-in-Err-clause-told
returns-in-Err-clause-told g c =
    unread_ok c.args.depth (g.F.Folder.state c.args.folder.now) c.args.file.now c.args.reading.now c.in-Err.refusal c.unread_explanation.result
    c.in-Err.is c.requires.read c.requires.fails c.unread_explanation.ensures
