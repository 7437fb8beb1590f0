-- Answers for one entity more.
use Rattle.std.proofs.Common.{ℕ, List, [], ◌∷◌, ◌++◌, ◌≡◌, ◌<◌, ◌+◌, inl, inr, length, sym, ap, subst, ◌∙◌, arith}
use Rattle.std.proofs.lemmas.Bool.{cases_lt}
use Rattle.std.proofs.lemmas.List.{get_or_append_left, length-append}
use Rattle.std.proofs.Math.Seq.{get_or-append_seam}
use Rattle.cq_theory.specs.Tables.{Tables}
use Rattle.cq_query.specs.QueryData.{QueryData}
use Rattle.cq_query.specs.Answers.{AreAnswers}
use Rattle.cq_adjoint.specs.Copies.{AreAllAnswers, answers_at}
use Rattle.cq_program.specs.MovedImages.{Answered}

-- the answers for the first entities, so many
pub record AreSoFar (Q : QueryData) (M : Tables) (answers : Answered) (entity : ℕ) : Type 0 where
  pub count : length answers ≡ entity
  pub each : (e : ℕ) → e < entity → AreAnswers Q M e (answers_at answers e)

pub so_far_more : (Q : QueryData) (M : Tables) (answers : Answered) (found : List (List ℕ)) (entity : ℕ) → AreSoFar Q M answers entity → AreAnswers Q M entity found
    → AreSoFar Q M (answers ++ found ∷ []) (entity + 1)
so_far_more Q M answers found entity so_far are = record {
  count = omega (arith, so_far.count, length-append answers (found ∷ []));
  each = λ e less. elim (cases_lt e entity) [
    | inl before ↦
        let within : e < length answers = omega (arith, before, so_far.count) in
        subst (AreAnswers Q M e) (sym (get_or_append_left answers (found ∷ []) [] e within)) (so_far.each e before)
    | inr rest ↦
        let same : entity ≡ e = omega (arith, rest, less) in
        let here : answers_at (answers ++ found ∷ []) e ≡ found =
        ap (λ (k : ℕ). answers_at (answers ++ found ∷ []) k) (sym same ∙ sym so_far.count) ∙ get_or-append_seam answers found [] [] in
        subst (AreAnswers Q M e) (sym here) (subst (λ (k : ℕ). AreAnswers Q M k found) same are)
  ];
}

pub so_far_all : (Q : QueryData) (M : Tables) (answers : Answered) (entity : ℕ) → entity ≡ length Q.target.entities → AreSoFar Q M answers entity → AreAllAnswers Q M answers
so_far_all Q M answers entity all so_far = record {
  count = so_far.count ∙ all;
  each = λ e less. so_far.each e (omega (arith, less, all));
}
