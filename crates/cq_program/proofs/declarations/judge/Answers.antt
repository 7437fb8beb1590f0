use Rattle.std.proofs.lemmas.Result.{err_from_is_err_and}
use Rattle.cq_io.specs.FolderData.{FolderData}
use Rattle.cq_environment.specs.Environment.{environment_of, meant}
use Rattle.cq_program.specs.Posing.{posed_as, stated_as}
use Rattle.cq_program.proofs.Following.{refuses_reading, refuses_result}
use Rattle.cq_program.proofs.Standing.{settled_result}
use Rattle.cq_program.proofs.Settled.{grounded_reading}
use Rattle.cq_program.proofs.declarations.judge.Goals as goal

pub returns-in_err-statement-clause-refused : goal.returns-in_err-statement-clause-refused
returns-in_err-statement-clause-refused g c =
    let old : FolderData = g.F.Folder.state c.args.folder.now in
    let new : FolderData = g.F.Folder.state c.read_stated.new.folder in
    let p = err_from_is_err_and c.from_residual-in_err-statement.result c.from_residual-in_err-statement.ensures.1 in
    rw (p.1, p.2)
    (refuses_reading c.args.depth old new (environment_of c.args.env.now.names.entries) c.args.decl.now (stated_as c.in_ok-stated.stated) c.in_err-statement.field-0.0
    c.in_ok-stated.ensures.stated c.in_err-statement.ensures.refused)

pub returns-clause-refused : goal.returns-clause-refused
returns-clause-refused g c =
    let old : FolderData = g.F.Folder.state c.args.folder.now in
    let new : FolderData = g.F.Folder.state c.read_stated.new.folder in
    refuses_result c.args.depth old new (environment_of c.args.env.now.names.entries) c.args.decl.now (stated_as c.in_ok-stated.stated) (posed_as c.in_ok-statement.statement)
    c.meaning_of.result c.in_ok-stated.ensures.stated c.in_ok-statement.ensures.reads c.meaning_of.ensures.refused

pub returns-clause-settled : goal.returns-clause-settled
returns-clause-settled g c =
    let env = environment_of c.args.env.now.names.entries in
    let grounded = grounded_reading env c.args.decl.now.name (g.F.Folder.state c.args.folder.now).files (stated_as c.in_ok-stated.stated) (posed_as c.in_ok-statement.statement)
    c.in_ok-stated.ensures.grounded c.in_ok-statement.ensures.reads in
    settled_result meant env c.args.decl.now.name (posed_as c.in_ok-statement.statement) c.meaning_of.result grounded c.meaning_of.ensures.stands c.meaning_of.ensures.modelled
