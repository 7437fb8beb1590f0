use Rattle.std.proofs.Common.{refl, sym, ◌∙◌, subst}
use Rattle.cq_syntax.specs.Grammar.{instance, instance_literal, coproduct, import}
use Rattle.cq_productions.specs.Gives.{Gives}
use Rattle.cq_productions.proofs.Alternatives.{here, past}
use Rattle.cq_productions.proofs.instance.InstanceRuleProduction.read.Goals as goal

pub returns-then-is_next : goal.returns-then-is_next
unfolding instance instance_literal coproduct import
returns-then-is_next c = subst (λ o. Gives c.instance_literal.result o) (sym (here _ _ _ refl (sym c.is_next.ensures ∙ c.if-is_next.true))) c.instance_literal.ensures

pub returns-then-is_next-2 : goal.returns-then-is_next-2
unfolding instance instance_literal coproduct import
returns-then-is_next-2 c = subst (λ o. Gives c.word_and_names.result o) (sym (here _ _ _ (past _ _ _ refl (sym c.is_next.ensures ∙ c.if-is_next.false)) (sym c.is_next-2.ensures ∙ c.if-is_next-2.true))) c.word_and_names.ensures

pub returns-then-is_next-3 : goal.returns-then-is_next-3
unfolding instance instance_literal coproduct import
returns-then-is_next-3 c = subst (λ o. Gives c.word_and_names-then-is_next-3.result o) (sym (here _ _ _ (past _ _ _ (past _ _ _ refl (sym c.is_next.ensures ∙ c.if-is_next.false)) (sym c.is_next-2.ensures ∙ c.if-is_next-2.false)) (sym c.is_next-3.ensures ∙ c.if-is_next-3.true))) c.word_and_names-then-is_next-3.ensures

pub returns-then-is_next-4 : goal.returns-then-is_next-4
unfolding instance instance_literal coproduct import
returns-then-is_next-4 c = subst (λ o. Gives c.word_and_names-then-is_next-4.result o) (sym (here _ _ _ (past _ _ _ (past _ _ _ (past _ _ _ refl (sym c.is_next.ensures ∙ c.if-is_next.false)) (sym c.is_next-2.ensures ∙ c.if-is_next-2.false)) (sym c.is_next-3.ensures ∙ c.if-is_next-3.false)) (sym c.is_next-4.ensures ∙ c.if-is_next-4.true))) c.word_and_names-then-is_next-4.ensures

pub returns-then-is_next-5 : goal.returns-then-is_next-5
unfolding instance instance_literal coproduct import
returns-then-is_next-5 c = subst (λ o. Gives c.word_and_names-then-is_next-5.result o) (sym (here _ _ _ (past _ _ _ (past _ _ _ (past _ _ _ (past _ _ _ refl (sym c.is_next.ensures ∙ c.if-is_next.false)) (sym c.is_next-2.ensures ∙ c.if-is_next-2.false)) (sym c.is_next-3.ensures ∙ c.if-is_next-3.false)) (sym c.is_next-4.ensures ∙ c.if-is_next-4.false)) (sym c.is_next-5.ensures ∙ c.if-is_next-5.true))) c.word_and_names-then-is_next-5.ensures

pub returns-then-is_next-6 : goal.returns-then-is_next-6
unfolding instance instance_literal coproduct import
returns-then-is_next-6 c = subst (λ o. Gives c.coproduct.result o) (sym (here _ _ _ (past _ _ _ (past _ _ _ (past _ _ _ (past _ _ _ (past _ _ _ refl (sym c.is_next.ensures ∙ c.if-is_next.false)) (sym c.is_next-2.ensures ∙ c.if-is_next-2.false)) (sym c.is_next-3.ensures ∙ c.if-is_next-3.false)) (sym c.is_next-4.ensures ∙ c.if-is_next-4.false)) (sym c.is_next-5.ensures ∙ c.if-is_next-5.false)) (sym c.is_next-6.ensures ∙ c.if-is_next-6.true))) c.coproduct.ensures

pub returns-then-is_next-7 : goal.returns-then-is_next-7
unfolding instance instance_literal coproduct import
returns-then-is_next-7 c = subst (λ o. Gives c.word_and_names-then-is_next-7.result o) (sym (here _ _ _ (past _ _ _ (past _ _ _ (past _ _ _ (past _ _ _ (past _ _ _ (past _ _ _ refl (sym c.is_next.ensures ∙ c.if-is_next.false)) (sym c.is_next-2.ensures ∙ c.if-is_next-2.false)) (sym c.is_next-3.ensures ∙ c.if-is_next-3.false)) (sym c.is_next-4.ensures ∙ c.if-is_next-4.false)) (sym c.is_next-5.ensures ∙ c.if-is_next-5.false)) (sym c.is_next-6.ensures ∙ c.if-is_next-6.false)) (sym c.is_next-7.ensures ∙ c.if-is_next-7.true))) c.word_and_names-then-is_next-7.ensures

pub returns-then-is_next-8 : goal.returns-then-is_next-8
unfolding instance instance_literal coproduct import
returns-then-is_next-8 c = subst (λ o. Gives c.import.result o) (sym (here _ _ _ (past _ _ _ (past _ _ _ (past _ _ _ (past _ _ _ (past _ _ _ (past _ _ _ (past _ _ _ refl (sym c.is_next.ensures ∙ c.if-is_next.false)) (sym c.is_next-2.ensures ∙ c.if-is_next-2.false)) (sym c.is_next-3.ensures ∙ c.if-is_next-3.false)) (sym c.is_next-4.ensures ∙ c.if-is_next-4.false)) (sym c.is_next-5.ensures ∙ c.if-is_next-5.false)) (sym c.is_next-6.ensures ∙ c.if-is_next-6.false)) (sym c.is_next-7.ensures ∙ c.if-is_next-7.false)) (sym c.is_next-8.ensures ∙ c.if-is_next-8.true))) c.import.ensures

pub returns : goal.returns
unfolding instance instance_literal coproduct import
returns c = subst (λ o. Gives c.import-2.result o) (sym (past _ _ _ (past _ _ _ (past _ _ _ (past _ _ _ (past _ _ _ (past _ _ _ (past _ _ _ (past _ _ _ refl (sym c.is_next.ensures ∙ c.if-is_next.false)) (sym c.is_next-2.ensures ∙ c.if-is_next-2.false)) (sym c.is_next-3.ensures ∙ c.if-is_next-3.false)) (sym c.is_next-4.ensures ∙ c.if-is_next-4.false)) (sym c.is_next-5.ensures ∙ c.if-is_next-5.false)) (sym c.is_next-6.ensures ∙ c.if-is_next-6.false)) (sym c.is_next-7.ensures ∙ c.if-is_next-7.false)) (sym c.is_next-8.ensures ∙ c.if-is_next-8.false))) c.import-2.ensures
