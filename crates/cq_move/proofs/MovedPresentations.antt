-- The presentation to which a mapping sends one: its limits, and what the call answers that makes it.
use Rattle.std.proofs.Common.{ℕ, Bool, true, false, ◌≡◌, ◌≤◌, ◌||◌, ◌⊎◌, inl, inr, Result, Ok, Err, IfOk, length, sym, ap, ◌∙◌, arith}
use Rattle.std.specs.Prelude.{IfErr, nat_lt}
use Rattle.std.proofs.lemmas.Bool.Decides.{nat_tests}
use Rattle.std.proofs.lemmas.List.{length-map}
use Rattle.cq_base.specs.declared.name.Name.{Name}
use Rattle.cq_theory.specs.declared.refusal.SizeRefusal.{SizeRefusal}
use Rattle.cq_theory.specs.declared.refusal.SizeRefusal.TheVariants.{TooLarge, Memory}
use Rattle.cq_theory.specs.declared.presentation.Presentation.{Presentation}
use Rattle.cq_theory.specs.declared.presentation.Sort.{Sort}
use Rattle.cq_theory.specs.Presentation.{is_oversized}
use Rattle.cq_mapping.specs.Duties.{is_too_large}
use Rattle.cq_mapping.specs.Images.{sigma, sort_image}
use Rattle.cq_mapping.specs.MappingData.{MappingData as Mapping}
use Rattle.cq_model.specs.Moving.{Presents}

few : (n : ℕ) → n ≤ 16000000 → nat_lt 16000000 n ≡ false
few n within = grind (arith, nat_tests)

-- as many generators are sent as there are, so only terms may be too large
pub moved_size : (F : Mapping) (P : Presentation) → length P.generators ≤ 16000000 → is_too_large F P ≡ is_oversized (sigma F P)
moved_size F P within =
    let count : length (sigma F P).generators ≤ 16000000 = omega (arith, within, length-map {B = Name × Sort} P.generators (λ (g : Name × Sort). (g.0, sort_image F g.1))) in
    sym (ap (λ (b : Bool). b || is_too_large F P) (few (length (sigma F P).generators) count))

-- what the call says of an equal presentation
pub moved_presents : (F : Mapping) (P Q : Presentation) (r : Result Presentation SizeRefusal) → Q ≡ P → length P.generators ≤ 16000000 → IfOk r (λ _. is_too_large F Q ≡ false)
    → IfOk r (λ made. made ≡ sigma F Q) → IfErr r (λ refusal. (refusal ≡ Memory) ⊎ ((refusal ≡ TooLarge) × (is_too_large F Q ≡ true))) → Presents (sigma F P) r
moved_presents F P Q (Ok made) same within fits is refused = (is ∙ ap (sigma F) same, sym (moved_size F P within) ∙ ap (is_too_large F) (sym same) ∙ fits)
moved_presents F P Q (Err TooLarge) same within fits is (inl h) = cc
moved_presents F P Q (Err TooLarge) same within fits is (inr h) = sym (moved_size F P within) ∙ ap (is_too_large F) (sym same) ∙ h.1
moved_presents F P Q (Err Memory) same within fits is refused = tt
