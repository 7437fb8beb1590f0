-- What is answered for a presentation that is made of others.
use Rattle.std.specs.Prelude.{ℕ, Bool, true, false, ◌≡◌, Result, Ok, Err, IfOk}
use Rattle.cq_rows.specs.Saturated.{NoneCloses, SomeWide}
use Rattle.cq_theory.specs.declared.constant.Con.{Con}
use Rattle.cq_theory.specs.declared.refusal.SizeRefusal.{SizeRefusal}
use Rattle.cq_theory.specs.declared.refusal.SizeRefusal.TheVariants as size_refusal
use Rattle.cq_theory.specs.declared.presentation.Presentation.{Presentation}
use Rattle.cq_theory.specs.SchemaData.{SchemaData as Schema}
use Rattle.cq_theory.specs.Closing.{IsInconsistent, IsInconsistentAt}
use Rattle.cq_theory.specs.Presentation.{is_oversized}
use Rattle.cq_instance.specs.InstanceData.{InstanceData}
use Rattle.cq_instance.specs.Listed.{IsListed}
use Rattle.cq_model.specs.declared.refusal.BuildRefusal.{BuildRefusal}
use Rattle.cq_model.specs.declared.refusal.BuildRefusal.TheVariants as build
use Rattle.cq_model.specs.declared.refusal.MoveRefusal.{MoveRefusal}
use Rattle.cq_model.specs.declared.refusal.MoveRefusal.TheVariants.{Depth, TooManyRows, Inconsistent, TooLarge, Memory}

-- the same refusal
abbrev pub of_building : BuildRefusal → MoveRefusal
of_building build.Depth = Depth
of_building build.TooManyRows = TooManyRows
of_building (build.Inconsistent c d) = Inconsistent c d
of_building build.Memory = Memory

-- The presentation is made within the limits on generators and terms, or refused as past them or for want of memory.
abbrev pub Presents : Presentation → Result Presentation SizeRefusal → Type 0
Presents P (Ok made) = (made ≡ P) × (is_oversized P ≡ false)
Presents P (Err size_refusal.TooLarge) = is_oversized P ≡ true
Presents P (Err size_refusal.Memory) = Unit {0}

-- What the answer says of these limits, which are tried first: only `TooLarge` comes where one is passed.
abbrev pub SaysSize : {X : Type 0} → Result X MoveRefusal → Bool → Type 0
SaysSize (Ok made) large = large ≡ false
SaysSize (Err TooLarge) large = large ≡ true
SaysSize (Err Memory) large = Unit {0}
SaysSize (Err _) large = large ≡ false

-- the listed model of the presentation, or why there is none at this depth
pub record IsModelOrCause (S : Schema) (P : Presentation) (depth : ℕ) (result : Result InstanceData MoveRefusal) : Type 0 where
  pub schema : IfOk result (λ made. made.schema ≡ S)
  pub presentation : IfOk result (λ made. made.presentation ≡ P)
  pub listed : IfOk result (λ made. IsListed made)
  pub consistent : IfOk result (λ made. IsInconsistent S P → ⊥)
  pub size : SaysSize result (is_oversized P)
  pub deep : result ≡ Err Depth → NoneCloses S P depth
  pub many : result ≡ Err TooManyRows → SomeWide S P depth
  pub unequal : (c d : Con) → result ≡ Err (Inconsistent c d) → IsInconsistentAt S P c d
