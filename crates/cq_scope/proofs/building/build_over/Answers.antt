use Rattle.std.proofs.Common.{IfOk, ◌≡◌, ◌∙◌, subst}
use Rattle.cq_terms.specs.Generators.{names_of, sorts_of}
use Rattle.cq_theory.specs.declared.term.Term.{Term}
use Rattle.cq_theory.specs.Resolved.{resolved}
use Rattle.cq_scope.specs.Renumbered.{renumbered as term_renumbered}
use Rattle.cq_scope.proofs.Over.{resolved_over}
use Rattle.cq_scope.proofs.building.build_over.Goals as goal

pub returns : goal.returns
returns c = λ G firsts.
    let S = c.args.schema.now in
    let F = c.args.firsts.now in
    let built : c.in_ok-built.built ≡ resolved S F.scope.names F.scope.sorts c.args.raw.now =
    c.in_ok-built.ensures ∙ (λ k. resolved S F.scope.names (c.as_slice-sorts.ensures k) c.args.raw.now) in
    let is : term_renumbered c.as_slice.result.now c.in_ok-built.built ≡ resolved S (names_of G) (sorts_of G) c.args.raw.now =
    (λ k. term_renumbered (c.as_slice.ensures k) (built k)) ∙ resolved_over S G F.scope.names F.scope.sorts F.numbers firsts c.args.raw.now in
    subst (λ (t : Term). IfOk c.renumbered.result (λ (made : Term). made ≡ t)) is c.renumbered.ensures
