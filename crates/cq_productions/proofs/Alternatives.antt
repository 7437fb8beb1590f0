-- An alternative by its first token, a value that is made of it, and its place.
use Rattle.std.proofs.Common.{◌≡◌, Bool, true, false, ◌⊎◌, inl, inr, refl, ap, ◌∙◌}
use Rattle.cq_base.specs.declared.place.Place.{Place}
use Rattle.cq_rules.specs.Outcome.{Out, Took, Stop, pick, mapped, as_left, as_right, at_place}

-- the value is made of the place and of what stands there
pub with_place : {A B : Type 0} (f : Place × A → B) (place : Place) (o : Out A) → mapped f (mapped (at_place place) o) ≡ mapped (λ a. f (place, a)) o
with_place f place (Took a rest) = refl
with_place f place (Stop w at) = refl

of_left : {A B C : Type 0} (f : A ⊎ B → C) (o : Out A) → mapped f (as_left {B = B} o) ≡ mapped (λ a. f (inl a)) o
of_left f (Took a rest) = refl
of_left f (Stop w at) = refl

of_right : {A B C : Type 0} (f : A ⊎ B → C) (o : Out B) → mapped f (as_right {A = A} o) ≡ mapped (λ b. f (inr b)) o
of_right f (Took b rest) = refl
of_right f (Stop w at) = refl

module _ {A B C : Type 0} {whole : Out C} (f : A ⊎ B → C) {s : Bool} (left : Out A) (right : Out B) (same : whole ≡ mapped f (pick s (as_left left) (as_right right))) where
  -- the first of the two, or the second
  pub here : s ≡ true → whole ≡ mapped (λ a. f (inl a)) left
  here e = same ∙ ap (λ z. mapped f (pick z (as_left left) (as_right right))) e ∙ of_left f left

  pub past : s ≡ false → whole ≡ mapped (λ b. f (inr b)) right
  past e = same ∙ ap (λ z. mapped f (pick z (as_left left) (as_right right))) e ∙ of_right f right
