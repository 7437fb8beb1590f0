-- From the answer about one instance to the answer to the question.
use Rattle.std.proofs.Common.{◌≡◌, ℕ, List, Some, inr, sym, subst}
use Rattle.std.specs.Prelude.{IfOk, Result, Ok, Err}
use Rattle.cq_explain.specs.Question.{Asks}
use Rattle.cq_instance.specs.InstanceData.{InstanceData}
use Rattle.cq_theory.specs.declared.presentation.Equation.{Equation}
use Rattle.cq_program.specs.Folders.{Told}
use Rattle.cq_program.specs.Program.{Listing}
use Rattle.cq_run.specs.Asked.{IsReply, IsReplyAbout, instance_named}
use Rattle.cq_run.specs.Meaning.{Means}
use Rattle.cq_run.specs.Scene.{Drain}
use Rattle.cq_run.specs.Writing.{IsMeant, Replied, Tells, was_told}
use Rattle.cq_run.specs.declared.question.Reply.{Reply}
use Rattle.cq_run.specs.declared.status.Status.{Status}
use Rattle.cq_run.specs.declared.status.Status.TheVariants as status

-- the answer about the instance of the name answers the question
pub about_named : (name left right : List ℕ) (listings : List Listing) (found : Listing) (wanted : Status) (line : List ℕ)
    → instance_named name listings ≡ Some found → IsReplyAbout found left right wanted line → IsReply name left right listings wanted line
about_named name left right listings found status.Ok line named about = record { found = found; is_named = named; explains = about }
about_named name left right listings found status.Refused line named about =
    inr (record { found = found; is_named = named; none = about.0; line_is = about.1 })
about_named name left right listings found status.Usage line named about = absurd about
about_named name left right listings found status.Read line named about = absurd about
about_named name left right listings found status.Write line named about = absurd about
about_named name left right listings found status.Memory line named about = absurd about

pub replied_about : {E : Type 0} (name left right : List ℕ) (listings : List Listing) (found : Listing) (result : Result Reply E) → instance_named name listings ≡ Some found
    → IfOk result (λ reply. IsReplyAbout found left right reply.status reply.line.items)
    → IfOk result (λ reply. IsReply name left right listings reply.status reply.line.items)
replied_about name left right listings found (Err e) named about = tt
replied_about name left right listings found (Ok reply) named about = about_named name left right listings found reply.status reply.line.items named about

-- the same question, about what was read
pub asks_again : (i j : InstanceData) (left left' right right' : List ℕ) (e : Equation) → i ≡ j → left ≡ left' → right ≡ right'
    → Asks i.schema i.presentation left right e → Asks j.schema j.presentation left' right' e
asks_again i j left left' right right' e i_is left_is right_is asks =
    subst (λ (k : InstanceData). Asks k.schema k.presentation left' right' e) i_is
    (subst (λ (l : List ℕ). Asks i.schema i.presentation l right' e) left_is (subst (λ (r : List ℕ). Asks i.schema i.presentation left r e) right_is asks))

-- a line that was due was told
pub replied_with : (IsDue : Status → List ℕ → Type 0) (out new_out : Drain) (wanted result : Status) (line slice : List ℕ) → slice ≡ line → IsDue wanted line
    → Tells wanted result out new_out slice → Replied IsDue out new_out result
replied_with IsDue out new_out wanted result line slice is due tells = was_told wanted slice (subst (IsDue wanted) (sym is) due) tells

pub meant_slice : (told : Told) (text : List ℕ) (listings slice : List Listing) → slice ≡ listings → Means told text listings → IsMeant slice
meant_slice told text listings slice is means = (told, text, subst (Means told text) (sym is) means)
