-- What the constructors answer is what the parts give.
use Rattle.std.proofs.Common.{List, ◌≡◌, ◌⊎◌, inl, inr, Option, Some, None, sym, ap, ◌∙◌, subst}
use Rattle.std.specs.Prelude.{option_and_then, Ok, Err}
use Rattle.cq_base.specs.declared.place.Place.{Place}
use Rattle.cq_environment.specs.declared.reason.Reason.{Reason}
use Rattle.cq_environment.specs.declared.refusal.ProgramRefusal.{ProgramRefusal}
use Rattle.cq_environment.specs.declared.refusal.ProgramRefusal.TheVariants as program_refusal
use Rattle.cq_environment.specs.Meanings.{Checked, and_then}
use Rattle.cq_program.specs.Posed.{broken_or, of_parts}
use Rattle.cq_environment.specs.Environment.{TellsChecked, Tells}

-- the parts break no rule
pub given : {A R : Type 0} (breach : R → Option (Place × Reason)) (fault : Option R) (made given_as : A) → fault ≡ None → made ≡ given_as → of_parts breach fault given_as ≡ Ok made
given breach fault made given_as none is = ap (λ o. broken_or given_as (option_and_then breach o)) none ∙ ap (λ a. Ok a) (sym is)

none_some : {X : Type 0} (x : X) → None ≡ Some x → ⊥
none_some x h = absurd (cc h)

told : {A R : Type 0} (breach : R → Option (Place × Reason)) (memory : R) → breach memory ≡ None → (at : Place) (reason : Reason) (refusal : R) (fault : Option R) (made : A)
    → breach refusal ≡ Some (at, reason) → (refusal ≡ memory) ⊎ (fault ≡ Some refusal) → of_parts breach fault made ≡ Err (at, reason)
told breach memory none at reason refusal fault made tells (inl is) =
    absurd (none_some (at, reason) (sym none ∙ ap breach (sym is) ∙ tells))
told breach memory none at reason refusal fault made tells (inr broken) =
    ap (λ o. broken_or made (option_and_then breach o)) broken ∙ ap (broken_or made) tells

-- the parts break a rule, or there was no memory
pub refused : {A R : Type 0} (breach : R → Option (Place × Reason)) (memory : R) → breach memory ≡ None → (answer : ProgramRefusal) (refusal : R) (fault : Option R) (made : A)
    → Tells answer (breach refusal) → (refusal ≡ memory) ⊎ (fault ≡ Some refusal) → TellsChecked answer (of_parts breach fault made)
refused breach memory none (program_refusal.Broken at reason) refusal fault made tells why = told breach memory none at reason refusal fault made tells why
refused breach memory none (program_refusal.Read name cause) refusal fault made tells why = absurd tells
refused breach memory none program_refusal.Memory refusal fault made tells why = tt

-- what is refused first is refused
pub refused_then : {A B : Type 0} (answer : ProgramRefusal) (check : Checked A) (f : A → Checked B) → TellsChecked answer check → TellsChecked answer (and_then check f)
refused_then (program_refusal.Broken at reason) check f refuses = ap (λ r. and_then r f) refuses
refused_then (program_refusal.Read name cause) check f refuses = absurd refuses
refused_then program_refusal.Memory check f refuses = tt

-- what is given first is handed on
pub refused_after : {A B : Type 0} (answer : ProgramRefusal) (check : Checked A) (a : A) (f : A → Checked B) → check ≡ Ok a → TellsChecked answer (f a) → TellsChecked answer (and_then check f)
refused_after (program_refusal.Broken at reason) check a f is refuses = ap (λ r. and_then r f) is ∙ refuses
refused_after (program_refusal.Read name cause) check a f is refuses = absurd refuses
refused_after program_refusal.Memory check a f is refuses = tt

pub given_after : {A B : Type 0} (check : Checked A) (a : A) (f : A → Checked B) (b : B) → check ≡ Ok a → f a ≡ Ok b → and_then check f ≡ Ok b
given_after check a f b is gives = ap (λ r. and_then r f) is ∙ gives

-- The same for parts that are those of a literal, and for places that are found.
module _ {P A R : Type 0} (fault : P → Option R) (make : P → A) (breach : List Place → R → Option (Place × Reason)) (places : List Place) (parts those : P) (are : parts ≡ those) where
  pub given_parts : (made : A) → fault parts ≡ None → made ≡ make parts → of_parts (breach places) (fault those) (make those) ≡ Ok made
  given_parts made none is = given (breach places) (fault those) made (make those) (ap fault (sym are) ∙ none) (is ∙ ap make are)

  pub refused_parts : (memory : R) → breach places memory ≡ None → (answer : ProgramRefusal) (found : List Place) (refusal : R) → found ≡ places → Tells answer (breach found refusal)
      → (refusal ≡ memory) ⊎ (fault parts ≡ Some refusal) → TellsChecked answer (of_parts (breach places) (fault those) (make those))
  refused_parts memory none answer found refusal at tells why =
      refused (breach places) memory none answer refusal (fault those) (make those) (subst (λ (l : List Place). Tells answer (breach l refusal)) at tells)
      (subst (λ (p : P). (refusal ≡ memory) ⊎ (fault p ≡ Some refusal)) are why)
