use Rattle.std.proofs.Common.{◌≡◌, ◌∷◌, ◌++◌, [], Option, subst, sym, ◌∙◌}
use Rattle.std.proofs.lemmas.Result.{err_from_is_err_and}
use Rattle.cq_base.specs.declared.name.Name.{Name}
use Rattle.cq_syntax.specs.declared.program.Decl.{Decl}
use Rattle.cq_environment.specs.declared.moved.Moved.{Moved}
use Rattle.cq_environment.specs.Meanings.{Environment, Meant, binding}
use Rattle.cq_environment.specs.Environment.{AreSettled, WillSettle, environment_of, meant}
use Rattle.cq_environment.specs.Moves.{moved_of}
use Rattle.cq_program.specs.Judging.{TellsDecl}
use Rattle.cq_program.specs.Program.{Declares}
use Rattle.cq_program.proofs.Poses.{fresh}
use Rattle.cq_program.proofs.Settled.{AreSettled-more}
use Rattle.cq_program.proofs.KnownDeclared.{declared_known}
use Rattle.cq_program.proofs.declarations.declare.Goals as goal

-- where each name stands for what it stood for, the new one comes behind the same names
bound_behind : (made before : Environment) (name : Name) (d : Decl) (m : Meant) (v : Option Moved) → made ≡ before → name ≡ d.name → v ≡ moved_of d.body
    → made ++ (name, m, v) ∷ [] ≡ before ++ binding d m ∷ []
bound_behind made before name d m v same named moved = λ i. same i ++ (named i, m, moved i) ∷ []

pub judge-requires-clause-settled : goal.judge-requires-clause-settled
judge-requires-clause-settled g c = subst AreSettled (sym c.in_ok-make_used.ensures) c.requires.settled

pub returns-clause-declares : goal.returns-clause-declares
returns-clause-declares g c =
    let before : Environment = environment_of c.args.env.now.names.entries in
    let told = (g.F.Folder.state c.args.folder.now).files in
    let d = c.args.decl.now in
    let m = meant c.in_ok-meaning.meaning in (
      m,
      subst (λ (env : Environment). Declares told env d m) c.in_ok-make_used.ensures c.in_ok-meaning.ensures.declares,
      c.in_ok-add.ensures.added ∙ bound_behind _ before c.in_ok-name.name d m c.in_ok-moved.moved c.in_ok-make_used.ensures c.in_ok-name.ensures.cases c.in_ok-moved.ensures,
    )

pub returns-clause-settled : goal.returns-clause-settled
returns-clause-settled g c =
    let before : Environment = environment_of c.args.env.now.names.entries in
    let told = (g.F.Folder.state c.args.folder.now).files in
    let d = c.args.decl.now in
    let m = meant c.in_ok-meaning.meaning in
    let declares : Declares told before d m = subst (λ (env : Environment). Declares told env d m) c.in_ok-make_used.ensures c.in_ok-meaning.ensures.declares in
    let settled : WillSettle before d.name m = subst (λ (env : Environment). WillSettle env d.name m) c.in_ok-make_used.ensures c.in_ok-meaning.ensures.settled in
    subst AreSettled
    (sym (c.in_ok-add.ensures.added ∙ bound_behind _ before c.in_ok-name.name d m c.in_ok-moved.moved c.in_ok-make_used.ensures c.in_ok-name.ensures.cases c.in_ok-moved.ensures))
    (AreSettled-more before d.name m (binding d m).2 c.requires.settled (fresh before d declares.stated declares.checked) settled
    (declared_known told before d m c.requires.settled declares))

pub returns-in_err-meaning-clause-refused : goal.returns-in_err-meaning-clause-refused
returns-in_err-meaning-clause-refused g c =
    let p = err_from_is_err_and c.from_residual-in_err-meaning.result c.from_residual-in_err-meaning.ensures.1 in
    rw (p.1, p.2)
    (subst (λ (env : Environment). TellsDecl c.args.depth (g.F.Folder.state c.args.folder.now) (g.F.Folder.state c.judge.new.folder) env c.args.decl.now c.in_err-meaning.field-0.0)
    c.in_ok-make_used.ensures c.in_err-meaning.ensures.refused)
