-- Duties that aren't derivable.
use Rattle.std.proofs.Common.{ℕ, List, ◌≡◌, inl, inr, ◌<◌, ◌+◌, map, sym, ap, subst, ◌∙◌}
use Rattle.std.proofs.lemmas.Bool.{cases_order}
use Rattle.std.specs.Prelude.{length, slice_get}
use Rattle.cq_theory.specs.declared.presentation.Equation.{Equation}
use Rattle.cq_theory.specs.declared.presentation.Presentation.{Presentation}
use Rattle.cq_theory.specs.Canonical.{below}
use Rattle.cq_theory.specs.SchemaData.{SchemaData}
use Rattle.cq_instance.proofs.Lists.{IsIn, from_flat_map, from_map}
use Rattle.cq_instance.proofs.CanonicalHolds.{from_below}
use Rattle.cq_mapping.specs.MappingData.{MappingData}
use Rattle.cq_mapping.specs.Duties.{Preserves, duties_of}
use Rattle.cq_mapping.specs.declared.duties.Duty.{Duty}
use Rattle.cq_query.specs.QueryData.{QueryData}
use Rattle.cq_query.specs.Duties.{Sound, all_duties, duties, frozen}
use Rattle.cq_check.specs.Answers.{IsDerived, IsFirstUnmet, over, equation_of, frozen_over, duty_equation}
use Rattle.cq_environment.specs.declared.reason.Reason.{Reason}
use Rattle.cq_environment.specs.declared.reason.Reason.TheVariants.{NotPreserved}
use Rattle.cq_program.specs.Program.{TellsUnkept, TellsUnsound}

-- one duty is the first that isn't derivable
module _ (D : Type 0) (S : SchemaData) (P : D → Presentation) (e : D → Equation) (all : List D) where
  -- a duty before it is derivable
  not_before : (n m : ℕ) (one : IsFirstUnmet D S P e all n) (other : IsFirstUnmet D S P e all m) → one.1.place < other.1.place → ⊥
  not_before n m one other less = one.2 (other.1.earlier one.1.place one.0 less one.1.is)

  one_number : (n m : ℕ) → IsFirstUnmet D S P e all n → IsFirstUnmet D S P e all m → n ≡ m
  one_number n m one other = elim (cases_order one.1.place other.1.place) [
    | inl same ↦ one.1.number_is ∙ ap (λ k. k + 1) same ∙ sym other.1.number_is
    | inr rest ↦ elim rest [
      | inl less ↦ absurd (not_before n m one other less)
      | inr more ↦ absurd (not_before m n other one more)
    ]
  ]

-- where each duty is derivable, none is told
pub kept : (F : MappingData) (reason : Reason) → Preserves F → TellsUnkept F reason → ⊥
kept F reason preserves tells =
    let unkept = tells.2 in
    unkept.2 (preserves unkept.1.place unkept.0 unkept.1.is)

-- a mapping tells one duty
pub one_unkept : (F : MappingData) (reason other : Reason) → TellsUnkept F reason → TellsUnkept F other → reason ≡ other
one_unkept F reason other tells tells' =
    tells.1 ∙ ap NotPreserved (one_number Duty F.target (over F) (equation_of F) (duties_of F) tells.0 tells'.0 tells.2 tells'.2) ∙ sym tells'.1

-- each duty of a sound query is derivable
sound_at : (Q : QueryData) → Sound Q → (duty : ℕ × Equation) → IsIn duty (all_duties Q) → IsDerived Q.source (frozen Q duty.0) duty.1
sound_at Q sound duty is =
    let of = from_flat_map (λ (entity : ℕ). map (λ (e : Equation). (entity, e)) (duties Q entity)) (below (length Q.target.entities)) duty is in
    let at = from_map (λ (e : Equation). (of.source, e)) (duties Q of.source) duty of.in_part in
    subst (λ (d : ℕ × Equation). IsDerived Q.source (frozen Q d.0) d.1) at.image
    (sound of.source at.in_source.place at.source (from_below (length Q.target.entities) of.in_source.place of.source of.in_source.is) at.in_source.is)

-- where a query is sound, none is told
pub kept_query : (Q : QueryData) (reason : Reason) → Sound Q → TellsUnsound Q reason → ⊥
kept_query Q reason sound tells =
    let unsound = tells.2 in
    unsound.2 (sound_at Q sound unsound.0 (record { place = unsound.1.place; is = unsound.1.is }))

-- a query tells one duty
pub one_unsound : (Q : QueryData) (reason other : Reason) → TellsUnsound Q reason → TellsUnsound Q other → reason ≡ other
one_unsound Q reason other tells tells' =
    tells.1 ∙ ap NotPreserved (one_number (ℕ × Equation) Q.source (frozen_over Q) (duty_equation Q) (all_duties Q) tells.0 tells'.0 tells.2 tells'.2) ∙ sym tells'.1
