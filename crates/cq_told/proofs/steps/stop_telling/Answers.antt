use Rattle.std.proofs.Common.{IfOk, sym, subst, ◌∙◌}
use Rattle.cq_syntax.specs.declared.program.Decl.{Decl}
use Rattle.cq_told.specs.Explained.{IsToldOf}
use Rattle.cq_told.proofs.Claims.{same_at}
use Rattle.cq_told.proofs.steps.stop_telling.Goals as goal

pub returns-clause-told : goal.returns-clause-told
returns-clause-told g c = λ decl at.
    let same = same_at c.args.book.program.now.decls c.as_slice-decls.result.now c.args.stop.now.number decl c.index-decls-stop.result
    c.as_slice-decls.ensures c.if-stop-decls.false at in
    subst (λ (d : Decl). IfOk c.fault_telling.result (λ t. IsToldOf c.args.book.page.tokens.now d c.args.stop.now.fault t.place t.words.items))
    (c.index-decls-stop.is ∙ sym same) c.fault_telling.ensures.told
