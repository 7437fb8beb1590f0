use Rattle.std.proofs.Common.{◌≡◌, [], ◌∷◌, ◌++◌, sym, ap, ◌∙◌, subst}
use Rattle.std.proofs.lemmas.Result.{err_from_is_err_and}
use Rattle.cq_productions.specs.Gives.{Gives}
use Rattle.cq_productions.proofs.Links.{path_reads, path_fails}
use Rattle.cq_productions.proofs.names.path.Goals as goal

pub returns-in_err-first : goal.returns-in_err-first
returns-in_err-first c =
    let p = err_from_is_err_and c.from_residual.result c.from_residual.ensures.1 in
    rw (p.1, p.2) (path_fails c.args.at.tokens.now c.in_err-first.field-0.0 c.in_err-first.ensures)

pub returns : goal.returns
returns c =
    let names : c.push.new.self.items ≡ c.in_ok-first.first ∷ [] = c.in_ok-push.ensures.items ∙ ap (λ z. z ++ c.in_ok-first.first ∷ []) c.new-names.ensures.items in
    subst (λ o. Gives c.chain.result o) (sym (path_reads c.args.at.tokens.now c.in_ok-first.first c.in_ok-first.rest.tokens.now c.push.new.self.items c.in_ok-first.ensures names)) c.chain.ensures
