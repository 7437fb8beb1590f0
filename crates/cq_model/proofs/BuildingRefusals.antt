-- Which refusals of `build` are these of moved instances, and what is answered where `build` refuses.
use Rattle.std.proofs.Common.{ℕ, Bool, false, ◌≡◌, Result, Err, refl, sym, subst, ◌∙◌}
use Rattle.cq_rows.specs.Saturated.{NoneCloses, SomeWide}
use Rattle.cq_theory.specs.declared.constant.Con.{Con}
use Rattle.cq_theory.specs.declared.presentation.Presentation.{Presentation}
use Rattle.cq_theory.specs.SchemaData.{SchemaData as Schema}
use Rattle.cq_theory.specs.Closing.{IsInconsistentAt}
use Rattle.cq_theory.specs.Presentation.{is_oversized}
use Rattle.cq_instance.specs.InstanceData.{InstanceData}
use Rattle.cq_model.specs.declared.refusal.BuildRefusal.{BuildRefusal}
use Rattle.cq_model.specs.declared.refusal.BuildRefusal.TheVariants as build
use Rattle.cq_model.specs.declared.refusal.MoveRefusal.{MoveRefusal}
use Rattle.cq_model.specs.declared.refusal.MoveRefusal.TheVariants.{Depth, TooManyRows, Inconsistent}
use Rattle.cq_model.specs.Moving.{of_building, SaysSize, IsModelOrCause}

is_depth : (r : BuildRefusal) → of_building r ≡ Depth → r ≡ build.Depth
is_depth build.Depth h = refl
is_depth build.TooManyRows h = cc
is_depth (build.Inconsistent c d) h = cc
is_depth build.Memory h = cc

is_many : (r : BuildRefusal) → of_building r ≡ TooManyRows → r ≡ build.TooManyRows
is_many build.Depth h = cc
is_many build.TooManyRows h = refl
is_many (build.Inconsistent c d) h = cc
is_many build.Memory h = cc

is_inconsistent : (r : BuildRefusal) (c d : Con) → of_building r ≡ Inconsistent c d → r ≡ build.Inconsistent c d
is_inconsistent build.Depth c d h = cc
is_inconsistent build.TooManyRows c d h = cc
is_inconsistent (build.Inconsistent a b) c d h = cc
is_inconsistent build.Memory c d h = cc

same_refusal : (a b : MoveRefusal) → ◌≡◌ {A = Result InstanceData MoveRefusal} (Err a) (Err b) → a ≡ b
same_refusal a b h = cc

says_size : (r : BuildRefusal) (large : Bool) → large ≡ false → SaysSize {X = InstanceData} (Err (of_building r)) large
says_size build.Depth large h = h
says_size build.TooManyRows large h = h
says_size (build.Inconsistent c d) large h = h
says_size build.Memory large h = tt

-- why there is no model, said of an equal presentation
pub cause_of : (S : Schema) (P Q : Presentation) (depth : ℕ) (r : BuildRefusal) (m : MoveRefusal) → Q ≡ P → m ≡ of_building r → is_oversized P ≡ false
    → (r ≡ build.Depth → NoneCloses S Q depth) → (r ≡ build.TooManyRows → SomeWide S Q depth) → ((c d : Con) → r ≡ build.Inconsistent c d → IsInconsistentAt S Q c d)
    → IsModelOrCause S P depth (Err m)
cause_of S P Q depth r m same is fits deep wide unequal = record {
  schema = tt;
  presentation = tt;
  listed = tt;
  consistent = tt;
  size = subst (λ (x : MoveRefusal). SaysSize {X = InstanceData} (Err x) (is_oversized P)) (sym is) (says_size r (is_oversized P) fits);
  deep = λ h. subst (λ (X : Presentation). NoneCloses S X depth) same (deep (is_depth r (sym is ∙ same_refusal m Depth h)));
  many = λ h. subst (λ (X : Presentation). SomeWide S X depth) same (wide (is_many r (sym is ∙ same_refusal m TooManyRows h)));
  unequal = λ c d h. subst (λ (X : Presentation). IsInconsistentAt S X c d) same (unequal c d (is_inconsistent r c d (sym is ∙ same_refusal m (Inconsistent c d) h)));
}
