-- Labels and their digits.
use Rattle.std.proofs.Common.{ℕ, suc, zero, List, [], ◌∷◌, Some, None, ◌≡◌, ◌≤◌, ◌<◌, ◌^◌, ◌&&◌, ◌∙◌, subst, Bool, true, false, length, get_or, refl, sym, ap, arith}
use Rattle.std.specs.Prelude.{nat_le, ◌==◌, cond, not, decimal, Ok, Result}
use Rattle.std.specs.List.{list_all}
use Rattle.std.specs.Str.{IsUtf8, all_ascii_digits}
use Rattle.std.specs.Str.Parse.{digits_value, ParsesUnsigned}
use Rattle.std.specs.Char.{is_ascii_digit}
use Rattle.std.proofs.lemmas.Bool.Decides.{nat_tests}
use Rattle.std.proofs.lemmas.Str.{IsUtf8-from_ascii}
use Rattle.std.proofs.lemmas.Str.Parse.{IsNumeralModel, numerals_by_value, tells_all_ascii_digits, parse_gives, digits_value_short}
use Rattle.std.proofs.lemmas.Option.{cond_some}
use Rattle.std.proofs.lemmas.Fmt.{IsAscii-from_digits, decimal_digit, decimal-digits_value, digits_decimal, digits_value-decimal, length-decimal-le, decimal_nonempty, first_decimal}
use Rattle.cq_values.proofs.Runs.{both}
use Rattle.cq_values.specs.Reading.{has_label_form, is_label, label_of}

pub own : IsNumeralModel (λ ds. all_ascii_digits ds ≡ true) (digits_value 10)
own = numerals_by_value (λ ds. all_ascii_digits ds ≡ true) tells_all_ascii_digits

form_bounds : (n d : ℕ) → cond (n == 0) true (cond (nat_le 9 n) false (not (d == 48))) ≡ true → (suc n ≤ 9) × (d ≡ 48 → suc n ≡ 1)
form_bounds n d h = (grind (arith, nat_tests), λ e. grind (arith, nat_tests))

form_test : (n d : ℕ) → suc n ≤ 9 → (d ≡ 48 → suc n ≡ 1) → cond (n == 0) true (cond (nat_le 9 n) false (not (d == 48))) ≡ true
form_test n d h k = grind (arith, nat_tests)

-- digits that may be a label's: some, at most nine, the first of which is 0 only alone
record HasForm (ds : List ℕ) : Type 0 where
  some : 0 < length ds
  short : length ds ≤ 9
  leading : get_or ds 0 0 ≡ 48 → length ds ≡ 1

to_form : (ds : List ℕ) → has_label_form ds ≡ true → HasForm ds
to_form [] h = cc
to_form (d ∷ ds) h = let bounds = form_bounds (length ds) d h in record { some = omega arith; short = bounds.0; leading = bounds.1 }

from_form : (ds : List ℕ) → HasForm ds → has_label_form ds ≡ true
from_form [] h = absurd (omega (arith, h.some))
from_form (d ∷ ds) h = form_test (length ds) d h.short h.leading

decimal_form : (n : ℕ) → n < 10 ^ 9 → HasForm (decimal n)
decimal_form zero h = let one : length (decimal 0) ≡ 1 = ap length (decimal_digit 0 (omega arith)) in record { some = omega arith; short = omega arith; leading = λ e. one }
decimal_form (suc n) h =
    let fits : suc n < 2 ^ 64 = omega arith in
    let first : 48 < get_or (decimal (suc n)) 0 0 = first_decimal (suc n) (omega arith) fits in
    record { some = decimal_nonempty (suc n) fits; short = length-decimal-le 9 (suc n) (omega arith) h fits; leading = λ e. absurd (omega arith) }

decimal_digits : (n : ℕ) → n < 10 ^ 9 → all_ascii_digits (decimal n) ≡ true
decimal_digits n h = let fits : n < 2 ^ 64 = omega arith in digits_decimal own n fits

pub digits_run : (ds : List ℕ) → all_ascii_digits ds ≡ list_all is_ascii_digit ds
digits_run [] = refl
digits_run (d ∷ ds) = ap (λ b. is_ascii_digit d && b) (digits_run ds)

pub decimal_run : (n : ℕ) → n < 10 ^ 9 → list_all is_ascii_digit (decimal n) ≡ true
decimal_run n h = sym (digits_run (decimal n)) ∙ decimal_digits n h

-- the label that was written
pub label_written : (n : ℕ) → n < 10 ^ 9 → label_of (decimal n) ≡ Some n
label_written n h =
    let fits : n < 2 ^ 64 = omega arith in
    let digits = decimal_run n h in
    let form = from_form (decimal n) (decimal_form n h) in
    let test : is_label (decimal n) ≡ true = (λ i. digits i && form i) in
    ap (λ b. cond b (Some (digits_value 10 (decimal n))) None) test ∙ ap (λ m. Some m) (digits_value-decimal own n fits)

-- what the digits of a label say
pub record IsLabel (ds : List ℕ) : Type 0 where
  pub small : digits_value 10 ds < 10 ^ 9
  pub some : 0 < length ds
  pub digits : all_ascii_digits ds ≡ true
  pub written : decimal (digits_value 10 ds) ≡ ds

pub labelled : (ds : List ℕ) → is_label ds ≡ true → IsLabel ds
labelled ds h =
    let tests = both (list_all is_ascii_digit ds) (has_label_form ds) h in
    let digits = digits_run ds ∙ tests.0 in
    let form = to_form ds tests.1 in
    let small : digits_value 10 ds < 10 ^ 9 = digits_value_short own ds 9 digits form.short in
    let fits : digits_value 10 ds < 2 ^ 64 = omega arith in
    record { small = small; some = form.some; digits = digits; written = decimal-digits_value own ds digits form.some form.leading fits }

-- a label that is read
pub label_read : (ds : List ℕ) (n : ℕ) → label_of ds ≡ Some n → (ds ≡ decimal n) × (n < 10 ^ 9)
label_read ds n h =
    let parts = cond_some (is_label ds) (digits_value 10 ds) n h in
    let label = labelled ds parts.0 in
    (sym label.written ∙ ap decimal parts.1, subst (λ (m : ℕ). m < 10 ^ 9) parts.1 label.small)

-- what `parse` says of the digits of a label
pub parsed : {E : Type 0} (ds : List ℕ) (r : Result ℕ E) → is_label ds ≡ true → ParsesUnsigned 64 10 ds r → r ≡ Ok (digits_value 10 ds)
parsed ds r h p =
    let label = labelled ds h in
    let small = label.small in
    let fits : digits_value 10 ds < 2 ^ 64 = omega arith in
    parse_gives own 64 ds r p label.digits label.some fits

pub digits_text : (ds : List ℕ) → list_all is_ascii_digit ds ≡ true → IsUtf8 ds
digits_text ds h = IsUtf8-from_ascii ds (IsAscii-from_digits ds (own.to ds (digits_run ds ∙ h)))

-- the label of digits whose tests passed
pub is_one : (ds : List ℕ) (a b : Bool) → a ≡ list_all is_ascii_digit ds → b ≡ has_label_form ds → a ≡ true → b ≡ true → is_label ds ≡ true
is_one ds a b e f h k = let first = sym e ∙ h in let second = sym f ∙ k in (λ i. first i && second i)
