use Rattle.cq_told.proofs.Claims.{meets_at, stop_at}
use Rattle.cq_told.proofs.steps.program_telling.Goals as goal

pub stop_telling-requires-clause-settled : goal.stop_telling-requires-clause-settled
stop_telling-requires-clause-settled g c =
    let files = (g.F.Folder.state c.args.folder.now).files in
    let stops = stop_at c.args.depth files c.args.book.program.now c.args.stop.now c.in-Some.stop c.in-Some.is c.requires.stops in
    stops.settled

pub returns-in_ok-telling-in-Some-clause-told : goal.returns-in_ok-telling-in-Some-clause-told
returns-in_ok-telling-in-Some-clause-told g c =
    let files = (g.F.Folder.state c.args.folder.now).files in
    let stops = stop_at c.args.depth files c.args.book.program.now c.args.stop.now c.in-Some.stop c.in-Some.is c.requires.stops in
    record { stop = c.in-Some.stop; stops = stops; is_told = c.in_ok-telling-in-Some.ensures.told stops.declared stops.is_at }

pub returns-in-None-clause-told : goal.returns-in-None-clause-told
returns-in-None-clause-told g c =
    meets_at c.args.depth (g.F.Folder.state c.args.folder.now).files c.args.book.program.now c.args.stop.now c.in-None.is c.requires.stops
