-- What is answered by calls that make a presentation of others.
use Rattle.std.proofs.Common.{true, false, ◌≡◌, ◌⊎◌, inl, inr, Result, Ok, Err, IfOk, subst}
use Rattle.std.specs.Prelude.{IfErr}
use Rattle.cq_theory.specs.declared.refusal.SizeRefusal.{SizeRefusal}
use Rattle.cq_theory.specs.declared.refusal.SizeRefusal.TheVariants.{TooLarge, Memory}
use Rattle.cq_theory.specs.declared.presentation.Presentation.{Presentation}
use Rattle.cq_theory.specs.Presentation.{is_oversized}
use Rattle.cq_model.specs.Moving.{Presents}

-- what their clauses say together
pub presents_of : (P : Presentation) (r : Result Presentation SizeRefusal) → IfOk r (λ _. is_oversized P ≡ false) → IfOk r (λ made. made ≡ P)
    → IfErr r (λ refusal. (refusal ≡ Memory) ⊎ ((refusal ≡ TooLarge) × (is_oversized P ≡ true))) → Presents P r
presents_of P (Ok made) fits is refused = (is, fits)
presents_of P (Err TooLarge) fits is (inl h) = cc
presents_of P (Err TooLarge) fits is (inr h) = h.1
presents_of P (Err Memory) fits is refused = tt

-- what is made is within the limits
abbrev pub presented_of : (P Q : Presentation) (r : Result Presentation SizeRefusal) → r ≡ Ok Q → Presents P r → (Q ≡ P) × (is_oversized P ≡ false)
presented_of P Q r is h = subst (Presents P) is h
