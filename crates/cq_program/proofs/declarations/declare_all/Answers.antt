use Rattle.std.proofs.Common.{◌<◌, length, arith, ap, ◌+◌, ℕ}
use Rattle.cq_io.specs.FolderData.{FolderData}
use Rattle.cq_environment.specs.Environment.{environment_of}
use Rattle.cq_program.proofs.Readings.{keeps_then}
use Rattle.cq_program.proofs.Following.{refuses_at, follows_more}
use Rattle.cq_program.proofs.Walking.{halts_at, refused_at}
use Rattle.cq_program.proofs.declarations.declare_all.Goals as goal

pub returns-in-Err-clause-keeps : goal.returns-in-Err-clause-keeps
returns-in-Err-clause-keeps g c = keeps_then _ _ _ c.loop-decl.invariant.2 c.in-Err.ensures.keeps

pub returns-in-Err-clause-refused : goal.returns-in-Err-clause-refused
returns-in-Err-clause-refused g c =
    let old : FolderData = g.F.Folder.state c.args.folder.now in
    let mid : FolderData = g.F.Folder.state c.loop-decl.folder in
    let new : FolderData = g.F.Folder.state c.declare.new.folder in
    let inside : c.loop-decl.decl-index < length c.as_slice-decl-items.result.now = omega arith in
    let at = refused_at old.files c.args.program.now c.as_slice-decl-items.result.now c.loop-decl.decl-index c.loop-decl.number c.decl-item.result c.loop-decl.env c.declare.new.env
    c.as_slice-decl-items.ensures inside c.decl-item.is c.loop-decl.invariant.3 c.loop-decl.invariant.0 c.loop-decl.invariant.1 c.in-Err.ensures.unchanged in
    let tells = refuses_at c.args.depth old mid new c.args.program.now c.as_slice-decl-items.result.now c.loop-decl.decl-index c.decl-item.result
    (environment_of c.loop-decl.env.names.entries) c.in-Err.refusal c.loop-decl.invariant.2 c.as_slice-decl-items.ensures inside c.decl-item.is
    c.loop-decl.invariant.0 c.in-Err.ensures.refused in
    halts_at c.args.depth old mid new c.args.program.now c.loop-decl.number c.decl-item.result c.loop-decl.env c.declare.new.env c.in-Err.refusal
    c.halt_at.result c.loop-decl.invariant.2.files at c.in-Err.ensures.refused tells c.halt_at.ensures

pub loop-decl-preserved : goal.loop-decl-preserved
loop-decl-preserved g c =
    let inside : c.loop-decl.decl-index < length c.as_slice-decl-items.result.now = omega arith in
    let more = follows_more (g.F.Folder.state c.args.folder.now).files (g.F.Folder.state c.loop-decl.folder).files c.as_slice-decl-items.result.now c.loop-decl.decl-index c.decl-item.result
    (environment_of c.loop-decl.env.names.entries) (environment_of c.declare.new.env.names.entries)
    c.loop-decl.invariant.2.files inside c.decl-item.is c.loop-decl.invariant.0 c.in-Ok.ensures.declares in
    (more, c.in-Ok.ensures.settled, keeps_then _ _ _ c.loop-decl.invariant.2 c.in-Ok.ensures.keeps, ap (λ (n : ℕ). n + 1) c.loop-decl.invariant.3)

pub returns-clause-settled : goal.returns-clause-settled
returns-clause-settled g c = c.loop-decl.invariant.1
