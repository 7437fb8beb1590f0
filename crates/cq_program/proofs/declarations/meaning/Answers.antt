use Rattle.cq_program.proofs.Walking.{refuses_halt}
use Rattle.cq_program.proofs.declarations.meaning.Goals as goal

pub returns-in-Err-clause-refused : goal.returns-in-Err-clause-refused
returns-in-Err-clause-refused g c =
    refuses_halt c.args.depth (g.F.Folder.state c.args.folder.now) (g.F.Folder.state c.meaning_or_stop.new.folder) c.args.program.now c.in-Err.halt
    c.refusal_of.result c.refusal_of.ensures c.in-Err.ensures.refused
