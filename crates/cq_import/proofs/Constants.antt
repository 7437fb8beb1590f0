-- Constants by their contents.
use Rattle.std.proofs.Common.{ℕ, List, Bool, true, false, ◌≡◌, ◌<◌, ◌≤◌, ◌&&◌, refl, sym, ap, ◌∙◌, inl, inr, arith}
use Rattle.std.specs.Prelude.{IsUtf8, nat_le, nat_lt, length, if◌then◌else◌}
use Rattle.std.specs.Str.{is_utf8}
use Rattle.std.proofs.lemmas.Bool.{cases_Bool}
use Rattle.std.proofs.lemmas.Bool.Decides.{nat_tests}
use Rattle.std.proofs.lemmas.Str.{is_utf8-from_IsUtf8}
use Rattle.cq_theory.specs.TypesideData.{TypesideData as Typeside}
use Rattle.cq_values.specs.Readable.{is_name}
use Rattle.cq_import.specs.declared.content.Content.{Content}
use Rattle.cq_import.specs.declared.content.Content.TheVariants.{Wrong}
use Rattle.cq_import.specs.Cells.{constant_content, constant_of_name}
use Rattle.cq_import.proofs.Texts.{is_utf8-not}

and_false : (a b : Bool) → b ≡ false → (a && b) ≡ false
and_false true b e = e
and_false false b e = refl

and_true : (a b : Bool) → a ≡ true → b ≡ true → (a && b) ≡ true
and_true true b e f = f
and_true false b e f = cc e

if_false : (c : Content) (b : Bool) → b ≡ false → Wrong ≡ (if b then c else Wrong)
if_false c true e = cc e
if_false c false e = refl

if_true : (c : Content) (b : Bool) → b ≡ true → c ≡ (if b then c else Wrong)
if_true c true e = refl
if_true c false e = cc e

pub no_text : (T : Typeside) (type : ℕ) (text : List ℕ) → ¬ (IsUtf8 text) → Wrong ≡ constant_content T type text
no_text T type text not_text = if_false _ (is_name text) (and_false _ _ (is_utf8-not text not_text))

within : (n : ℕ) → n ≤ 255 → nat_le n 255 ≡ true
within n h = grind (arith, nat_tests)

pub of_name : (T : Typeside) (type : ℕ) (text : List ℕ) (c : Content) → length text ≤ 255 → IsUtf8 text → c ≡ constant_of_name T type text → c ≡ constant_content T type text
of_name T type text c short is_text is = is ∙ if_true _ (is_name text) (and_true _ _ (within (length text) short) (is_utf8-from_IsUtf8 text is_text))

at_most : (n : ℕ) → nat_lt 255 n ≡ false → n ≤ 255
at_most n h = grind (arith, nat_tests)

more : (n : ℕ) → nat_lt 255 n ≡ true → 255 < n
more n h = grind (arith, nat_tests)

pub not_longer : (n : ℕ) → (255 < n → ⊥) → n ≤ 255
not_longer n never = elim (cases_Bool (nat_lt 255 n)) [
  | inl long ↦ absurd (never (more n long))
  | inr short ↦ at_most n short
]
