use Rattle.std.proofs.Common.{◌∙◌, None, refl}
use Rattle.cq_why.proofs.Running.{ran_accepted, ran_refused, ran_unread, read_later, stops_refused, stops_unread}
use Rattle.cq_why.proofs.Telling.{accepted_tells, refused_tells, unread_tells}
use Rattle.cq_words.specs.Ask.{run}
use Rattle.cq_why.proofs.reply.reply_about.Goals as goal

pub returns-in-Accepted-clause-tells : goal.returns-in-Accepted-clause-tells
returns-in-Accepted-clause-tells g c =
    let old = g.F.Folder.state c.args.folder.now in
    let new = g.F.Folder.state c.answer_to_file-reading.new.folder in
    let ask = run c.args.asked.file.now c.args.asked.depth None in
    let answers = c.answer_to_file-reading.ensures.answers ask refl refl in
    accepted_tells _ _ _ _ c.accepted.result refl
    (ran_accepted c.args.asked.file.now c.args.asked.depth old new _ c.answer_to_file-reading.result.answer c.in-Accepted.is answers) c.accepted.ensures

pub explanation-requires-clause-read : goal.explanation-requires-clause-read
explanation-requires-clause-read g c =
    read_later c.args.asked.file.now c.args.asked.depth (g.F.Folder.state c.args.folder.now) (g.F.Folder.state c.answer_to_file-reading.new.folder)
    c.answer_to_file-reading.result.reading c.answer_to_file-reading.ensures.keeps.files c.answer_to_file-reading.ensures.told

pub explanation-requires-clause-fails : goal.explanation-requires-clause-fails
explanation-requires-clause-fails g c = λ failed.
    c.answer_to_file-reading.ensures.keeps.steady ∙ c.answer_to_file-reading.ensures.fails failed

pub explanation-requires-clause-stops : goal.explanation-requires-clause-stops
explanation-requires-clause-stops g c =
    stops_refused c.args.asked.file.now c.args.asked.depth (g.F.Folder.state c.args.folder.now) (g.F.Folder.state c.answer_to_file-reading.new.folder)
    c.answer_to_file-reading.result.reading c.in-Refused.line c.answer_to_file-reading.result.answer c.answer_to_file-reading.result.stop c.in-Refused.is
    c.answer_to_file-reading.ensures.keeps.files c.answer_to_file-reading.ensures.stops

pub returns-in-Refused-clause-tells : goal.returns-in-Refused-clause-tells
returns-in-Refused-clause-tells g c =
    let old = g.F.Folder.state c.args.folder.now in
    let new = g.F.Folder.state c.answer_to_file-reading.new.folder in
    let ask = run c.args.asked.file.now c.args.asked.depth None in
    let answers = c.answer_to_file-reading.ensures.answers ask refl refl in
    refused_tells _ _ _ _ c.followed.result refl
    (ran_refused c.args.asked.file.now c.args.asked.depth old new c.in-Refused.line c.answer_to_file-reading.result.answer c.in-Refused.is answers) c.followed.ensures

pub explanation-requires-in-Unread-clause-read : goal.explanation-requires-in-Unread-clause-read
explanation-requires-in-Unread-clause-read g c =
    read_later c.args.asked.file.now c.args.asked.depth (g.F.Folder.state c.args.folder.now) (g.F.Folder.state c.answer_to_file-reading.new.folder)
    c.answer_to_file-reading.result.reading c.answer_to_file-reading.ensures.keeps.files c.answer_to_file-reading.ensures.told

pub explanation-requires-in-Unread-clause-fails : goal.explanation-requires-in-Unread-clause-fails
explanation-requires-in-Unread-clause-fails g c = λ failed.
    c.answer_to_file-reading.ensures.keeps.steady ∙ c.answer_to_file-reading.ensures.fails failed

pub explanation-requires-in-Unread-clause-stops : goal.explanation-requires-in-Unread-clause-stops
explanation-requires-in-Unread-clause-stops g c =
    stops_unread c.args.asked.file.now c.args.asked.depth (g.F.Folder.state c.args.folder.now) (g.F.Folder.state c.answer_to_file-reading.new.folder)
    c.answer_to_file-reading.result.reading c.in-Unread.line c.answer_to_file-reading.result.answer c.answer_to_file-reading.result.stop c.in-Unread.is
    c.answer_to_file-reading.ensures.keeps.files c.answer_to_file-reading.ensures.stops

pub returns-in-Unread-clause-tells : goal.returns-in-Unread-clause-tells
returns-in-Unread-clause-tells g c =
    let old = g.F.Folder.state c.args.folder.now in
    let new = g.F.Folder.state c.answer_to_file-reading.new.folder in
    let ask = run c.args.asked.file.now c.args.asked.depth None in
    let answers = c.answer_to_file-reading.ensures.answers ask refl refl in
    unread_tells _ _ _ _ c.followed-in-Unread.result refl
    (ran_unread c.args.asked.file.now c.args.asked.depth old new c.in-Unread.line c.answer_to_file-reading.result.answer c.in-Unread.is answers) c.followed-in-Unread.ensures
