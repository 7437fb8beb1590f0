use Rattle.std.proofs.Common.{sym, ◌∙◌, subst}
use Rattle.cq_syntax.specs.Expressions.{decl_of}
use Rattle.cq_syntax.specs.Grammar.{declaration}
use Rattle.cq_productions.specs.Gives.{Gives}
use Rattle.cq_productions.proofs.Alternatives.{here, past, with_place}
use Rattle.cq_productions.proofs.declaration.DeclarationRuleProduction.read.Goals as goal

pub returns-then-is_next : goal.returns-then-is_next
unfolding declaration
returns-then-is_next c = subst (λ o. Gives c.declaration.result o) (sym (here _ _ _ (with_place decl_of _ _) (sym c.is_next.ensures ∙ c.if-is_next.true))) c.declaration.ensures

pub returns-then-is_next-2 : goal.returns-then-is_next-2
unfolding declaration
returns-then-is_next-2 c = subst (λ o. Gives c.declaration-then-is_next-2.result o) (sym (here _ _ _ (past _ _ _ (with_place decl_of _ _) (sym c.is_next.ensures ∙ c.if-is_next.false)) (sym c.is_next-2.ensures ∙ c.if-is_next-2.true))) c.declaration-then-is_next-2.ensures

pub returns-then-is_next-3 : goal.returns-then-is_next-3
unfolding declaration
returns-then-is_next-3 c = subst (λ o. Gives c.declaration-then-is_next-3.result o) (sym (here _ _ _ (past _ _ _ (past _ _ _ (with_place decl_of _ _) (sym c.is_next.ensures ∙ c.if-is_next.false)) (sym c.is_next-2.ensures ∙ c.if-is_next-2.false)) (sym c.is_next-3.ensures ∙ c.if-is_next-3.true))) c.declaration-then-is_next-3.ensures

pub returns-then-is_next-4 : goal.returns-then-is_next-4
unfolding declaration
returns-then-is_next-4 c = subst (λ o. Gives c.declaration-then-is_next-4.result o) (sym (here _ _ _ (past _ _ _ (past _ _ _ (past _ _ _ (with_place decl_of _ _) (sym c.is_next.ensures ∙ c.if-is_next.false)) (sym c.is_next-2.ensures ∙ c.if-is_next-2.false)) (sym c.is_next-3.ensures ∙ c.if-is_next-3.false)) (sym c.is_next-4.ensures ∙ c.if-is_next-4.true))) c.declaration-then-is_next-4.ensures

pub returns-then-is_next-5 : goal.returns-then-is_next-5
unfolding declaration
returns-then-is_next-5 c = subst (λ o. Gives c.declaration-then-is_next-5.result o) (sym (here _ _ _ (past _ _ _ (past _ _ _ (past _ _ _ (past _ _ _ (with_place decl_of _ _) (sym c.is_next.ensures ∙ c.if-is_next.false)) (sym c.is_next-2.ensures ∙ c.if-is_next-2.false)) (sym c.is_next-3.ensures ∙ c.if-is_next-3.false)) (sym c.is_next-4.ensures ∙ c.if-is_next-4.false)) (sym c.is_next-5.ensures ∙ c.if-is_next-5.true))) c.declaration-then-is_next-5.ensures

pub returns-then-is_next-6 : goal.returns-then-is_next-6
unfolding declaration
returns-then-is_next-6 c = subst (λ o. Gives c.declaration-then-is_next-6.result o) (sym (here _ _ _ (past _ _ _ (past _ _ _ (past _ _ _ (past _ _ _ (past _ _ _ (with_place decl_of _ _) (sym c.is_next.ensures ∙ c.if-is_next.false)) (sym c.is_next-2.ensures ∙ c.if-is_next-2.false)) (sym c.is_next-3.ensures ∙ c.if-is_next-3.false)) (sym c.is_next-4.ensures ∙ c.if-is_next-4.false)) (sym c.is_next-5.ensures ∙ c.if-is_next-5.false)) (sym c.is_next-6.ensures ∙ c.if-is_next-6.true))) c.declaration-then-is_next-6.ensures

pub returns : goal.returns
unfolding declaration
returns c = subst (λ o. Gives c.declaration-2.result o) (sym (past _ _ _ (past _ _ _ (past _ _ _ (past _ _ _ (past _ _ _ (past _ _ _ (with_place decl_of _ _) (sym c.is_next.ensures ∙ c.if-is_next.false)) (sym c.is_next-2.ensures ∙ c.if-is_next-2.false)) (sym c.is_next-3.ensures ∙ c.if-is_next-3.false)) (sym c.is_next-4.ensures ∙ c.if-is_next-4.false)) (sym c.is_next-5.ensures ∙ c.if-is_next-5.false)) (sym c.is_next-6.ensures ∙ c.if-is_next-6.false))) c.declaration-2.ensures
