-- From an answer to its text.
use Rattle.std.proofs.Common.{◌≡◌, ◌∙◌, ℕ, List, ap, subst}
use Rattle.std.specs.Prelude.{IfOk, Result, Ok, Err}
use Rattle.std.specs.declared.alloc.Global.{Global}
use Rattle.std.specs.declared.vec.Vec.{Vec}
use Rattle.cq_theory.specs.declared.presentation.Equation.{Equation}
use Rattle.cq_theory.specs.declared.presentation.Presentation.{Presentation}
use Rattle.cq_theory.specs.SchemaData.{SchemaData as Schema}
use Rattle.cq_instance.specs.InstanceData.{InstanceData}
use Rattle.cq_proof.specs.Answers as answers
use Rattle.cq_proof.specs.declared.answer.Answer.{Answer}
use Rattle.cq_proof.specs.declared.answer.Answer.TheVariants.{Steps, Different}
use Rattle.cq_steps.specs.declared.step.Step.{Step}
use Rattle.cq_explain.specs.Explained.{IsExplanation, equal, different}
use Rattle.cq_explain.specs.Explanation.{different_text, equal_text}
use Rattle.cq_explain.specs.Question.{Asks}
use Rattle.cq_explain.proofs.Sided.{made_is}

-- the steps were written
pub by_steps : (i : InstanceData) (e : Equation) (answer : Answer) (steps : Vec Step Global) (S : Schema) (P : Presentation) (slice : List Step) (text : List ℕ)
    → answer ≡ Steps steps → answers.Explains i e answer → S ≡ i.schema → P ≡ i.presentation → slice ≡ steps.items → text ≡ equal_text S P slice
    → IsExplanation i e text
by_steps i e answer steps S P slice text is explains S_is P_is slice_is text_is =
    let said : answers.Explains i e (Steps steps) = subst (answers.Explains i e) is explains in
    equal said.1 steps.items said.2
    (text_is ∙ ap (λ (T : Schema). equal_text T P slice) S_is ∙ ap (λ (Q : Presentation). equal_text i.schema Q slice) P_is
    ∙ ap (equal_text i.schema i.presentation) slice_is)

-- the two rows or values were written
pub by_difference : (i : InstanceData) (e : Equation) (answer : Answer) (text : List ℕ) → answer ≡ Different → answers.Explains i e answer
    → text ≡ different_text i e → IsExplanation i e text
by_difference i e answer text is explains text_is =
    let said : answers.Explains i e Different = subst (answers.Explains i e) is explains in
    different said.1 text_is

-- an equation that is asked about is one over the presentation
pub asked_is : (S : Schema) (P : Presentation) (left right : List ℕ) (e : Equation) → Asks S P left right e → answers.IsWellSorted S P e
asked_is S P left right e asks = made_is S P asks.left_term asks.right_term e asks.makes

-- the same over the schema and the presentation that were read
pub asks_over : (S T : Schema) (P Q : Presentation) (left right : List ℕ) (e : Equation) → S ≡ T → P ≡ Q → Asks S P left right e → Asks T Q left right e
asks_over S T P Q left right e S_is P_is asks =
    subst (λ (U : Schema). Asks U Q left right e) S_is (subst (λ (R : Presentation). Asks S R left right e) P_is asks)

-- what is said of a text that was made
pub weaker : {E : Type 0} (P Q : List ℕ → Type 0) (result : Result (Vec ℕ Global) E) → ((text : List ℕ) → P text → Q text)
    → IfOk result (λ text. P text.items) → IfOk result (λ text. Q text.items)
weaker P Q (Err e) more is = tt
weaker P Q (Ok text) more is = more text.items is
