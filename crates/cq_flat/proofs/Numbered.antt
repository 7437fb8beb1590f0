-- Places of the values of classes, with a number out of range for none.
use Rattle.std.proofs.Common.{◌≡◌, ℕ, ◌<◌, ◌≤◌, List, [], ◌∷◌, ◌++◌, length, get_or, sym, ◌∙◌, refl, arith, inl, inr}
use Rattle.std.proofs.Math.ListN.{set}
use Rattle.std.proofs.lemmas.Bool.{cases_eq, cases_lt, eq-eqb, ne_eqb}
use Rattle.std.proofs.lemmas.List.{get_or-set_same, get_or-set_other, length_push, get_or_past, get_or_push, get_or_append_left}
use Rattle.std.specs.Prelude.{if◌then◌else◌, ◌==◌}

-- one more class without a value
pub tail_more : (n : ℕ) (places : List ℕ) (k : ℕ) → get_or (places ++ n ∷ []) k n ≡ get_or places k n
tail_more n places k = elim (cases_lt k (length places)) as (λ _. get_or (places ++ n ∷ []) k n ≡ get_or places k n) [
  | inl l ↦ get_or_append_left places (n ∷ []) n k l
  | inr g ↦ elim (cases_eq (length places) k) as (λ _. get_or (places ++ n ∷ []) k n ≡ get_or places k n) [
    | inl e ↦ get_or_push places n n k e ∙ sym (get_or_past places k n g)
    | inr q ↦ get_or_past (places ++ n ∷ []) k n (omega (arith, g, q, length_push places n)) ∙ sym (get_or_past places k n g)
  ]
]

pub place_written : (n : ℕ) (old places : List ℕ) (class place : ℕ) → class < length places → ((k : ℕ) → get_or places k n ≡ get_or old k n)
    → (k : ℕ) → get_or (set places class place) k n ≡ (if k == class then place else get_or old k n)
place_written n old places class place l same k = elim (cases_eq k class) as (λ _. get_or (set places class place) k n ≡ (if k == class then place else get_or old k n)) [
  | inl e ↦ rw (e, eq-eqb class class refl) (get_or-set_same places class place n l)
  | inr q ↦ rw (ne_eqb k class q) (get_or-set_other places class k place n q ∙ same k)
]
