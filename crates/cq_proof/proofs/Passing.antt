-- Lists of digits that were tried.
use Rattle.std.proofs.Common.{ℕ, List, ◌≡◌, ◌<◌, ◌≤◌, ◌+◌, ◌++◌, length, take, drop, replicate, sym, ap, ◌∙◌, subst, arith, inl, inr}
use Rattle.std.specs.Prelude.{All, Option, None, IfNone}
use Rattle.std.proofs.lemmas.Bool.{cases_lt}
use Rattle.std.proofs.Math.ListN.{drop_of_length-le}
use Rattle.std.proofs.lemmas.List.{append-nil, length-replicate, take_all}
use Rattle.std.proofs.lemmas.List.Elements.{All-replicate}
use Rattle.cq_theory.specs.SchemaData.{SchemaData as Schema}
use Rattle.cq_theory.specs.declared.presentation.Equation.{Equation}
use Rattle.cq_theory.specs.declared.presentation.Presentation.{Presentation}
use Rattle.cq_proof.specs.Answers.{Proves}
use Rattle.cq_proof.specs.Counting.{AreDigits, behind}
use Rattle.cq_proof.specs.Drafts.{spelled}
use Rattle.cq_proof.proofs.Digits.{same_behind, first_behind}

module _ (S : Schema) (P : Presentation) (e : Equation) (n : ℕ) where
  -- none of the lists before these digits spells a list of steps that proves the equation
  pub record ArePassed (digits : List ℕ) : Type 0 where
    pub count : length digits ≡ n
    pub below : All (λ d. d < 18446744073709551616) digits
    pub none : (numbers : List ℕ) → AreDigits n numbers → behind digits < behind numbers → Proves S P (spelled numbers) e → ⊥

  pub first_passed : (digits : List ℕ) → digits ≡ replicate n 0 → ArePassed digits
  first_passed digits is = subst ArePassed (sym is) record {
    count = length-replicate n 0;
    below = All-replicate (λ d. d < 18446744073709551616) n 0 (omega arith);
    none = λ numbers are later. let first : behind numbers ≤ behind (replicate n 0) = first_behind n numbers are.0 in absurd (omega arith);
  }

  -- the list that these digits spell was tried
  pub failed_at : {A : Type 0} (found : Option A) (numbers digits : List ℕ) → found ≡ None → IfNone found (Proves S P (spelled numbers) e → ⊥) → numbers ≡ digits
      → Proves S P (spelled digits) e → ⊥
  failed_at found numbers digits none failed same proved =
      let plain : Proves S P (spelled numbers) e → ⊥ = subst (λ f. IfNone f (Proves S P (spelled numbers) e → ⊥)) none failed in
      plain (subst (λ xs. Proves S P (spelled xs) e) (sym same) proved)

  -- none up to these digits
  none_yet : (digits : List ℕ) → ArePassed digits → (Proves S P (spelled digits) e → ⊥)
      → (numbers : List ℕ) → AreDigits n numbers → behind digits ≤ behind numbers → Proves S P (spelled numbers) e → ⊥
  none_yet digits passed failed numbers are up_to proved =
      elim (cases_lt (behind digits) (behind numbers)) [
        | inl later ↦ passed.none numbers are later proved
        | inr others ↦
            let same : behind numbers ≡ behind digits = omega (arith, up_to, others) in
            let is : numbers ≡ digits = same_behind numbers digits (are.0 ∙ sym passed.count) are.1 passed.below same in
            failed (subst (λ xs. Proves S P (spelled xs) e) is proved)
      ]

  pub next_passed : (digits next : List ℕ) → ArePassed digits → (Proves S P (spelled digits) e → ⊥) → length next ≡ length digits
      → All (λ d. d < 18446744073709551616) next → behind digits ≡ behind next + 1 → ArePassed next
  next_passed digits next passed failed same below one = record {
    count = same ∙ passed.count;
    below = below;
    none = λ numbers are later. none_yet digits passed failed numbers are (omega arith);
  }

  pub all_passed : (digits : List ℕ) → ArePassed digits → (Proves S P (spelled digits) e → ⊥) → behind digits ≡ 0
      → (numbers : List ℕ) → AreDigits n numbers → Proves S P (spelled numbers) e → ⊥
  all_passed digits passed failed last numbers are = none_yet digits passed failed numbers are (omega arith)

-- a slice of the whole list, written back
pub written : (n : ℕ) (new items : List ℕ) → length new ≡ length items → n ≡ length items → take n (new ++ drop (length new) items) ≡ new
written n new items same whole =
    ap (λ xs. take n (new ++ xs)) (drop_of_length-le items (omega (arith, same))) ∙ ap (take n) (append-nil new) ∙ take_all n new (omega (arith, same, whole))
