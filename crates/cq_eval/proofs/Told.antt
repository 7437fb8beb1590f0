-- What the refusals tell, and the blocks of entities.
use Rattle.std.proofs.Common.{ℕ, zero, suc, List, [], ◌∷◌, ◌++◌, Some, None, ◌≡◌, ◌<◌, ◌≤◌, ◌+◌, inl, inr, map, length, get_or, sym, ap, subst, ◌∙◌, arith}
use Rattle.std.specs.Prelude.{slice_get, All}
use Rattle.std.proofs.lemmas.Bool.{cases_order}
use Rattle.std.proofs.lemmas.List.FromFn.{get_or-map-range_with_len, length-map-range_with_len, map-range_with_len_more}
use Rattle.std.proofs.lemmas.Option.{slice_get-get_or}
use Rattle.cq_base.specs.declared.name.Name.{Name}
use Rattle.cq_theory.specs.declared.presentation.Sort.TheVariants.{Entity}
use Rattle.cq_theory.specs.SchemaData.{SchemaData as Schema}
use Rattle.cq_theory.specs.Canonical.{below}
use Rattle.cq_theory.specs.Presentation.{IsSort}
use Rattle.cq_theory.specs.Tables.{Tables, count_of, IsWellFormed, Satisfies}
use Rattle.cq_theory.proofs.OnValues.{All_at}
use Rattle.cq_instance.specs.Given.{is_oversized}
use Rattle.cq_instance.proofs.Lists.{get-map}
use Rattle.cq_query.specs.QueryData.{QueryData as Query}
use Rattle.cq_query.specs.IsQuery.{IsQuery}
use Rattle.cq_query.specs.Duties.{frozen, Sound}
use Rattle.cq_blocks.specs.declared.block.Block.{Block}
use Rattle.cq_query.specs.Translation.{variables_in, tests_in}
use Rattle.cq_query.specs.Answers.{IsTuple}
use Rattle.cq_eval.specs.Join.{IsTested}
use Rattle.cq_eval.specs.Made.{answers_of, answers_with, made_tables}
use Rattle.cq_eval.specs.Refused.{NoneHasMany, TellsMany, TellsEval, TellsOver, TellsFirst, TellsLarge}
use Rattle.cq_eval.specs.declared.refusal.EvalRefusal.{EvalRefusal}
use Rattle.cq_eval.specs.declared.refusal.EvalRefusal.TheVariants.{TooManyAnswers, TooLarge, Memory}
use Rattle.cq_eval.proofs.Answered.{has_many, not_many, made_eval}
use Rattle.cq_eval.proofs.Typed.{tests_typed}

pub present : {X : Type 0} (xs : List X) (n : ℕ) → n < length xs → None ≡ slice_get xs n → ⊥
present [] n h none = absurd (omega arith)
present (x ∷ xs) zero h none = cc
present (x ∷ xs) (suc n) h none = present xs n (omega arith) none

-- what holds below a number and there holds below the next
pub few_more : (f : ℕ → ℕ) (n : ℕ) → ((e : ℕ) → e < n → f e ≤ 1000000) → f n ≤ 1000000 → (e : ℕ) → e < n + 1 → f e ≤ 1000000
few_more f n before here e less = elim (cases_order e n) [
  | inl same ↦ subst (λ k. f k ≤ 1000000) (sym same) here
  | inr other ↦ elim other [ inl lower ↦ before e lower | inr upper ↦ absurd (omega (arith, upper, less)) ]
]

pub below_one_more : {X : Type 0} (f : ℕ → X) (n : ℕ) → map f (below (n + 1)) ≡ map f (below n) ++ f n ∷ []
below_one_more f n = map-range_with_len_more f 0 n n (omega arith)

pub few_all : (f : ℕ → List (List ℕ)) (n : ℕ) (lists : List (List (List ℕ))) → lists ≡ map f (below n) → ((e : ℕ) → e < n → length (f e) ≤ 1000000) → All (λ l. length l ≤ 1000000) lists
few_all f n lists are few k d within =
    let size : length lists ≡ n = ap length are ∙ length-map-range_with_len f 0 n in
    let less : k < n = omega (arith, within, size) in
    let here : 0 + k ≡ k = omega arith in
    let read : get_or lists k d ≡ f k = ap (λ l. get_or l k d) are ∙ get_or-map-range_with_len f 0 n k k d less here in
    subst (λ (l : List (List ℕ)). length l ≤ 1000000) (sym read) (few k less)

pub all_few : (f : ℕ → List (List ℕ)) (n : ℕ) (lists : List (List (List ℕ))) → lists ≡ map f (below n) → All (λ l. length l ≤ 1000000) lists → (e : ℕ) → e < n → length (f e) ≤ 1000000
all_few f n lists are few e less =
    let size : length lists ≡ n = ap length are ∙ length-map-range_with_len f 0 n in
    let here : 0 + e ≡ e = omega arith in
    let read : get_or lists e [] ≡ f e = ap (λ l. get_or l e []) are ∙ get_or-map-range_with_len f 0 n e e [] less here in
    subst (λ (l : List (List ℕ)). length l ≤ 1000000) read (few e [] (omega (arith, less, size)))

-- the first entity with too many answers is told
pub tells_first : (n entity : ℕ) (f : ℕ → ℕ) (refusal : EvalRefusal) → entity < n → ((e : ℕ) → e < entity → f e ≤ 1000000) → TellsOver entity (f entity) refusal → TellsFirst n f refusal
tells_first n entity f (TooManyAnswers told) within before over = record {
  within = omega (arith, over.0, within);
  over = subst (λ e. 1000000 < f e) (sym over.0) over.1;
  first = λ e less. before e (omega (arith, less, over.0));
}
tells_first n entity f TooLarge within before over = absurd over
tells_first n entity f Memory within before over = tt

module _ (Q : Query) (M : Tables) where
  pub tells_many : (entity : ℕ) (refusal : EvalRefusal) → TellsOver entity (length (answers_of Q M entity)) refusal → TellsMany Q M entity refusal
  tells_many entity (TooManyAnswers told) over = (over.0, has_many Q M entity over.1)
  tells_many entity TooLarge over = over
  tells_many entity Memory over = tt

  pub tells_eval : (refusal : EvalRefusal) → TellsFirst (length Q.target.entities) (λ entity. length (answers_of Q M entity)) refusal → TellsEval Q M refusal
  tells_eval (TooManyAnswers entity) h = record {
    within = h.within;
    many = has_many Q M entity h.over;
    first = λ e less. not_many Q M e (h.first e less);
  }
  tells_eval TooLarge h = absurd h
  tells_eval Memory h = tt

  pub none_many : (lists : List (List (List ℕ))) → lists ≡ map (answers_of Q M) (below (length Q.target.entities)) → All (λ l. length l ≤ 1000000) lists → NoneHasMany Q M
  none_many lists are few entity within = not_many Q M entity (all_few (answers_of Q M) (length Q.target.entities) lists are few entity within)

  pub tells_large : IsQuery Q → Sound Q → IsWellFormed Q.source M → Satisfies Q.source M → NoneHasMany Q M → (refusal : EvalRefusal) → TellsLarge (is_oversized (made_tables Q M)) refusal → TellsEval Q M refusal
  tells_large query sound well satisfies few (TooManyAnswers entity) h = absurd h
  tells_large query sound well satisfies few TooLarge h = record {
    none = few;
    tables = made_tables Q M;
    are_tables = made_eval Q M query sound well satisfies;
    oversized = h;
  }
  tells_large query sound well satisfies few Memory h = tt

-- the block of an entity
module _ (Q : Query) (M : Tables) (query : IsQuery Q) (S : Schema) (over : S ≡ Q.source) (entity : ℕ) (block : Block) (is : slice_get Q.blocks entity ≡ Some block) (within : entity < length Q.target.entities) where
  pub block_entities : All (λ v. v.1 < length S.entities) block.vars
  block_entities k d inside =
      let v : Name × ℕ = get_or block.vars k d in
      let at : slice_get (variables_in (slice_get Q.blocks entity)) k ≡ Some v = ap (λ o. slice_get (variables_in o) k) is ∙ slice_get-get_or block.vars k d inside in
      let known = All_at (λ g. IsSort Q.source g.1) (frozen Q entity).generators k (v.0, Entity v.1) (query.each_frozen entity within).generators
      (get-map (λ (w : Name × ℕ). (w.0, Entity w.1)) (variables_in (slice_get Q.blocks entity)) k v at) in
      subst (λ (T : Schema). v.1 < length T.entities) (sym over) known

  pub block_tested : IsTested S M block
  block_tested rows tuple n e at =
      tests_typed Q M query S over entity rows (subst (λ o. IsTuple rows (map (λ v. count_of M v.1) (variables_in o))) (sym is) tuple) within n e (ap (λ o. slice_get (tests_in o) n) is ∙ at)

  pub block_answers : answers_with M block.tests (map (λ v. count_of M v.1) block.vars) ≡ answers_of Q M entity
  block_answers = ap (λ o. answers_with M (tests_in o) (map (λ v. count_of M v.1) (variables_in o))) (sym is)
