-- What keeps the limits passes none.
use Rattle.std.proofs.Common.{ℕ, List, inl, inr}
use Rattle.std.specs.Prelude.{All}
use Rattle.std.proofs.lemmas.Bool.{cases_lt}
use Rattle.cq_theory.proofs.OnValues.{All_at}
use Rattle.cq_theory.specs.Derivation.{left_of, right_of}
use Rattle.cq_theory.specs.declared.presentation.Presentation.{Presentation}
use Rattle.cq_theory.specs.SchemaData.{SchemaData}
use Rattle.cq_theory.proofs.Derivations.{Within-monotone}
use Rattle.cq_mapping.specs.declared.duties.Duty.{Duty}
use Rattle.cq_mapping.specs.MappingData.{MappingData}
use Rattle.cq_mapping.specs.Duties.{duties_of}
use Rattle.cq_theory.specs.declared.presentation.Equation.{Equation}
use Rattle.cq_query.specs.QueryData.{QueryData}
use Rattle.cq_query.specs.Duties.{all_duties}
use Rattle.cq_check.specs.Answers.{IsTooDeep, IsTooWide, IsFirstTooDeep, IsFirstTooWide, over, equation_of, frozen_over, duty_equation}
use Rattle.cq_environment.specs.declared.reason.Reason.{Reason}
use Rattle.cq_program.specs.Posed.{Posed, a_typeside, a_schema, a_mapping, an_identity, a_colimit, an_inclusion, a_query, a_composite, a_mapping_query, a_presentation, a_made, a_delta, an_eval, a_transform, a_move}
use Rattle.cq_program.specs.Program.{IsDecided, IsDecidedOver, IsQueryDutyDecided, ClosesWithin, KeepsLimits, Exceeds, ExceedsAtDuty, ExceedsAtQueryDuty, ExceedsAtModel}

not_deep : (depth : ℕ) (S : SchemaData) (P : Presentation) (e : Equation) → IsDecidedOver depth S P e → IsTooDeep S P e depth → ⊥
not_deep depth S P e decided deep = deep.underived (Within-monotone S P decided.0 depth (left_of e) (right_of e) decided.1 decided.2)

not_wide : (depth : ℕ) (S : SchemaData) (P : Presentation) (e : Equation) → IsDecidedOver depth S P e → IsTooWide S P e depth → ⊥
not_wide depth S P e decided wide = elim (cases_lt decided.0 wide.at) [
  | inl before ↦ wide.underived decided.0 before decided.2
  | inr rest ↦ decided.3 wide.at rest wide.wide
]

-- Where each duty is decided, the first that isn't known to be derivable passes no limit.
module _ (D : Type 0) (S : SchemaData) (P : D → Presentation) (e : D → Equation) (all : List D) (depth : ℕ) where
  abbrev IsDecidedDuty : D → Type 0
  IsDecidedDuty duty = IsDecidedOver depth S (P duty) (e duty)

  none_deep : (n : ℕ) → All IsDecidedDuty all → IsFirstTooDeep D S P e all depth n → ⊥
  none_deep n decided deep = not_deep depth S (P deep.0) (e deep.0) (All_at IsDecidedDuty all deep.1.place deep.0 decided deep.1.is) deep.2

  none_wide : (n : ℕ) → All IsDecidedDuty all → IsFirstTooWide D S P e all depth n → ⊥
  none_wide n decided wide = not_wide depth S (P wide.0) (e wide.0) (All_at IsDecidedDuty all wide.1.place wide.0 decided wide.1.is) wide.2

none_at_duty : (depth : ℕ) (F : MappingData) (reason : Reason) (n : ℕ) → All (IsDecided depth F.target) (duties_of F) → ExceedsAtDuty depth F reason n → ⊥
none_at_duty depth F reason n all exceeds = elim exceeds [
  | inl deep ↦ none_deep Duty F.target (over F) (equation_of F) (duties_of F) depth n all deep.1
  | inr wide ↦ none_wide Duty F.target (over F) (equation_of F) (duties_of F) depth n all wide.1
]

none_at_query_duty : (depth : ℕ) (Q : QueryData) (reason : Reason) (n : ℕ) → All (IsQueryDutyDecided depth Q) (all_duties Q) → ExceedsAtQueryDuty depth Q reason n → ⊥
none_at_query_duty depth Q reason n all exceeds = elim exceeds [
  | inl deep ↦ none_deep (ℕ × Equation) Q.source (frozen_over Q) (duty_equation Q) (all_duties Q) depth n all deep.1
  | inr wide ↦ none_wide (ℕ × Equation) Q.source (frozen_over Q) (duty_equation Q) (all_duties Q) depth n all wide.1
]

none_at_model : (depth : ℕ) (S : SchemaData) (P : Presentation) (reason : Reason) → ClosesWithin depth S P → ExceedsAtModel depth S P reason → ⊥
none_at_model depth S P reason closes exceeds = elim exceeds [
  | inl deep ↦ deep.1 closes.0.0 closes.0.1 closes.0.2
  | inr wide ↦ closes.1 wide.1 wide.2 wide.3
]

pub none_exceeded : (depth : ℕ) (posed : Posed) (reason : Reason) → KeepsLimits depth posed → Exceeds depth posed reason → ⊥
none_exceeded depth (a_typeside T) reason keeps exceeds = exceeds
none_exceeded depth (a_schema S) reason keeps exceeds = exceeds
none_exceeded depth (a_mapping n t F) reason keeps exceeds = none_at_duty depth F reason exceeds.0 keeps exceeds.1
none_exceeded depth (an_identity n S) reason keeps exceeds = exceeds
none_exceeded depth (a_colimit c) reason keeps exceeds = exceeds
none_exceeded depth (an_inclusion source target F) reason keeps exceeds = exceeds
none_exceeded depth (a_query n t Q) reason keeps exceeds = none_at_query_duty depth Q reason exceeds.0 keeps exceeds.1
none_exceeded depth (a_composite n t Q W) reason keeps exceeds = exceeds
none_exceeded depth (a_mapping_query n t F) reason keeps exceeds = exceeds
none_exceeded depth (a_presentation n S P) reason keeps exceeds = none_at_model depth S P reason keeps exceeds
none_exceeded depth (a_made n S P) reason keeps exceeds = none_at_model depth S P reason keeps exceeds.1
none_exceeded depth (a_delta n F M) reason keeps exceeds = exceeds
none_exceeded depth (an_eval n Q M) reason keeps exceeds = exceeds
none_exceeded depth (a_transform e images) reason keeps exceeds = exceeds
none_exceeded depth (a_move v) reason keeps exceeds = exceeds
