-- What the answers of calls say of presentations that are made of others.
use Rattle.std.proofs.Common.{ℕ, Bool, true, false, List, [], ◌≡◌, refl, sym, ap, subst, ◌∙◌, inl, inr}
use Rattle.std.specs.Prelude.{Result, Ok, Err, IfOk, slice_index_or}
use Rattle.std.proofs.lemmas.Option.{get_or_from_slice_get}
use Rattle.cq_base.specs.declared.name.Name.{Name}
use Rattle.cq_base.specs.declared.place.Place.{Place}
use Rattle.cq_theory.specs.declared.constant.Con.{Con}
use Rattle.cq_theory.specs.declared.presentation.Presentation.{Presentation}
use Rattle.cq_theory.specs.declared.term.EntTerm.{EntTerm}
use Rattle.cq_theory.specs.declared.value.Value.TheVariants.{Const}
use Rattle.cq_theory.specs.Closing.{IsInconsistent, IsInconsistentAt}
use Rattle.cq_theory.specs.Listed.{IsLeastName}
use Rattle.cq_theory.specs.Presentation.{IsPresentation, is_oversized as is_too_large}
use Rattle.cq_theory.specs.Schema.{IsSchema}
use Rattle.cq_theory.specs.SchemaData.{SchemaData}
use Rattle.cq_theory.specs.TypesideData.{TypesideData}
use Rattle.cq_theory.specs.ValueText.{value_text, is_named_con}
use Rattle.cq_mapping.specs.Images.{sigma}
use Rattle.cq_mapping.specs.MappingData.{MappingData}
use Rattle.cq_mapping.specs.Mapping.{IsMapping}
use Rattle.cq_mapping.proofs.ImagedPresentations.{sigma-is_presentation}
use Rattle.cq_instance.specs.InstanceData.{InstanceData, name_at}
use Rattle.cq_instance.specs.Listed.{IsListed}
use Rattle.cq_model.specs.Moving.{IsModelOrCause, SaysSize}
use Rattle.cq_move.proofs.MovedPresentations.{moved_size}
use Rattle.cq_model.specs.declared.refusal.MoveRefusal.{MoveRefusal}
use Rattle.cq_model.specs.declared.refusal.MoveRefusal.TheVariants.{Depth, TooManyRows, TooLarge, Inconsistent as Clashing}
use Rattle.cq_query.specs.QueryData.{QueryData}
use Rattle.cq_query.specs.IsQuery.{IsQuery}
use Rattle.cq_query.specs.Coeval.{coeval_of}
use Rattle.cq_query.proofs.CopiedPresentations.{coeval_is}
use Rattle.cq_theory.specs.Tables.{Tables, IsWellFormed}
use Rattle.cq_environment.specs.declared.reason.Reason.TheVariants as reason
use Rattle.cq_environment.specs.declared.refusal.ProgramRefusal.{ProgramRefusal}
use Rattle.cq_environment.specs.declared.refusal.ProgramRefusal.TheVariants as program_refusal
use Rattle.cq_program.specs.Posed.{a_made}
use Rattle.cq_environment.specs.Environment.{IsTermModel}
use Rattle.cq_program.specs.Judging.{IsAnswerOf, TellsConstants, TellsUnmade}
use Rattle.cq_program.specs.Program.{IsModelOf}
use Rattle.cq_program.proofs.Constants.{constants_within}

-- a listed model is the term model of its presentation, and has the least names
pub is_term_model : (i : InstanceData) → IsListed i → IsTermModel i
is_term_model i listed = (
  listed.lists.initial,
  λ entity row inside.
      let at = listed.lists.named entity row inside in
      let there : name_at listed.lists.names entity row ≡ at.0 =
      get_or_from_slice_get (slice_index_or listed.lists.names entity []) row at.0 (record { generator = 0; path = [] }) at.1 in
      let here : name_at i.names entity row ≡ at.0 = ap (λ (names : List (List EntTerm)). name_at names entity row) (sym listed.least) ∙ there in
      subst (IsLeastName i.schema i.presentation i.tables i.assignment entity row) (sym here) at.2,
)

pub are_term_models : (answer : Result InstanceData MoveRefusal) → IfOk answer IsListed → IfOk answer IsTermModel
are_term_models (Ok made) listed = is_term_model made listed
are_term_models (Err refusal) listed = tt

-- the same is told of equal constants
pub told_of : (at : Place) (T : TypesideData) (c c' d d' : Con) (refusal : ProgramRefusal) → c ≡ c' → d ≡ d'
    → TellsConstants at (value_text T (Const c)) (value_text T (Const d)) refusal → TellsConstants at (value_text T (Const c')) (value_text T (Const d')) refusal
told_of at T c c' d d' refusal least greater told =
    let same : TellsConstants at (value_text T (Const c)) (value_text T (Const d)) refusal ≡ TellsConstants at (value_text T (Const c')) (value_text T (Const d')) refusal =
    λ i. TellsConstants at (value_text T (Const (least i))) (value_text T (Const (greater i))) refusal in
    subst (λ (Y : Type 0). Y) same told

module _ (S : SchemaData) (P : Presentation) (depth : ℕ) (answer : Result InstanceData MoveRefusal) where
  -- what the clauses of a call say together
  model_in : (r : Result InstanceData MoveRefusal) → IsSchema S → (is_too_large P ≡ false → IsPresentation S P) → IfOk r (λ made. made.schema ≡ S) → IfOk r (λ made. made.presentation ≡ P)
      → IfOk r IsListed → IfOk r (λ _. IsInconsistent S P → ⊥) → SaysSize r (is_too_large P) → IfOk r (IsModelOf S P)
  model_in (Ok made) schema presentation over presents listed consistent size =
      record { schema = schema; presentation = presentation size; over = over; presents = presents; listed = listed; consistent = consistent }
  model_in (Err refusal) schema presentation over presents listed consistent size = tt

  pub answer_of : IsSchema S → (is_too_large P ≡ false → IsPresentation S P) → IsModelOrCause S P depth answer → IsAnswerOf S P depth answer
  answer_of schema presentation is = record {
    model = model_in answer schema presentation is.schema is.presentation is.listed is.consistent is.size;
    size = is.size;
    deep = is.deep;
    many = is.many;
    clash = is.unequal;
  }

  module _ (of : IsAnswerOf S P depth answer) where
    -- constants that clash are constants of the typeside
    pub clash_named : (T : TypesideData) → T ≡ S.typeside → IsSchema S → (is_too_large P ≡ false → IsPresentation S P) → (c d : Con) → answer ≡ Err (Clashing c d)
        → (is_named_con T c ≡ true) × (is_named_con T d ≡ true)
    clash_named T typeside schema presentation c d is =
        let short : is_too_large P ≡ false = subst (λ (r : Result InstanceData MoveRefusal). SaysSize r (is_too_large P)) is of.size in
        let named = constants_within S P schema (presentation short) c d (of.clash c d is) in (
          subst (λ (U : TypesideData). is_named_con U c ≡ true) (sym typeside) named.0,
          subst (λ (U : TypesideData). is_named_con U d ≡ true) (sym typeside) named.1,
        )

    pub unmade_deep : (at : Place) (name : Name) → answer ≡ Err Depth → TellsUnmade depth at (a_made name S P) (program_refusal.Broken at reason.Depth)
    unmade_deep at name is = (refl, inr (subst (λ (r : Result InstanceData MoveRefusal). SaysSize r (is_too_large P)) is of.size, inl (refl, of.deep is)))

    pub unmade_wide : (at : Place) (name : Name) → answer ≡ Err TooManyRows → TellsUnmade depth at (a_made name S P) (program_refusal.Broken at reason.TooManyRows)
    unmade_wide at name is =
        let wide = of.many is in
        (refl, inr (subst (λ (r : Result InstanceData MoveRefusal). SaysSize r (is_too_large P)) is of.size, inr (refl, wide.0, wide.1, wide.2)))

    pub unmade_large : (at : Place) (name : Name) → answer ≡ Err TooLarge → TellsUnmade depth at (a_made name S P) (program_refusal.Broken at reason.Oversized)
    unmade_large at name is = (refl, inl (inl (refl, subst (λ (r : Result InstanceData MoveRefusal). SaysSize r (is_too_large P)) is of.size)))

    told_clash : (at : Place) (name : Name) (c d : Con) (refusal : ProgramRefusal) → is_too_large P ≡ false → IsInconsistentAt S P c d
        → TellsConstants at (value_text S.typeside (Const c)) (value_text S.typeside (Const d)) refusal → TellsUnmade depth at (a_made name S P) refusal
    told_clash at name c d (program_refusal.Broken place why) short clash told = (told.0, inl (inr (short, record { least = c; greater = d; equal = clash; told = told.1 })))
    told_clash at name c d (program_refusal.Read file cause) short clash told = told
    told_clash at name c d program_refusal.Memory short clash told = tt

    -- the refusal with the texts of two constants that clash tells why nothing is made
    pub unmade_clash_made : (at : Place) (name : Name) (T : TypesideData) → T ≡ S.typeside → (c d : Con) (refusal : ProgramRefusal) → answer ≡ Err (Clashing c d)
        → TellsConstants at (value_text T (Const c)) (value_text T (Const d)) refusal → TellsUnmade depth at (a_made name S P) refusal
    unmade_clash_made at name T typeside c d refusal is told =
        told_clash at name c d refusal (subst (λ (r : Result InstanceData MoveRefusal). SaysSize r (is_too_large P)) is of.size) (of.clash c d is)
        (subst (λ (U : TypesideData). TellsConstants at (value_text U (Const c)) (value_text U (Const d)) refusal) typeside told)

-- What the calls of the moves say.
pub sigma_answers : (F : MappingData) (P : Presentation) (depth : ℕ) (answer : Result InstanceData MoveRefusal) → IsMapping F → IsPresentation F.source P
    → IsModelOrCause F.target (sigma F P) depth answer → IsAnswerOf F.target (sigma F P) depth answer
sigma_answers F P depth answer mapping is of =
    answer_of F.target (sigma F P) depth answer mapping.target (λ short. sigma-is_presentation F mapping P is (moved_size F P is.count ∙ short)) of

pub sigma_named : (F : MappingData) (P : Presentation) (depth : ℕ) (answer : Result InstanceData MoveRefusal) → IsMapping F → IsPresentation F.source P
    → IsAnswerOf F.target (sigma F P) depth answer → (T : TypesideData) → T ≡ F.target.typeside → (c d : Con) → answer ≡ Err (Clashing c d)
    → (is_named_con T c ≡ true) × (is_named_con T d ≡ true)
sigma_named F P depth answer mapping is of T typeside c d clash =
    clash_named F.target (sigma F P) depth answer of T typeside mapping.target (λ short. sigma-is_presentation F mapping P is (moved_size F P is.count ∙ short)) c d clash

pub coeval_answers : (Q : QueryData) (M : Tables) (depth : ℕ) (answer : Result InstanceData MoveRefusal) → IsQuery Q → IsWellFormed Q.target M
    → IsModelOrCause Q.source (coeval_of Q M) depth answer → IsAnswerOf Q.source (coeval_of Q M) depth answer
coeval_answers Q M depth answer query formed of = answer_of Q.source (coeval_of Q M) depth answer query.source (λ short. coeval_is Q query M formed short) of

pub coeval_named : (Q : QueryData) (M : Tables) (depth : ℕ) (answer : Result InstanceData MoveRefusal) → IsQuery Q → IsWellFormed Q.target M
    → IsAnswerOf Q.source (coeval_of Q M) depth answer → (T : TypesideData) → T ≡ Q.source.typeside → (c d : Con) → answer ≡ Err (Clashing c d)
    → (is_named_con T c ≡ true) × (is_named_con T d ≡ true)
coeval_named Q M depth answer query formed of T typeside c d clash =
    clash_named Q.source (coeval_of Q M) depth answer of T typeside query.source (λ short. coeval_is Q query M formed short) c d clash
