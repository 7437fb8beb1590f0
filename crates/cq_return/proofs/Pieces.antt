-- Words, texts and marks of a literal.
use Rattle.std.proofs.Common.{ℕ, Bool, true, false, List, [], ◌∷◌, ◌++◌, ◌≡◌, ◌<◌, ◌≤◌, ◌+◌, ◌&&◌, length, refl, sym, subst, arith}
use Rattle.std.specs.Prelude.{decimal, nat_eq, nat_le, ◌==◌}
use Rattle.std.specs.Char.{is_ascii_digit}
use Rattle.std.specs.List.{flat_map, list_all}
use Rattle.std.proofs.lemmas.Bool.{and_parts}
use Rattle.std.proofs.lemmas.Bool.Decides.{nat_tests}
use Rattle.std.proofs.lemmas.Fmt.{decimal_nonempty, length-decimal-le}
use Rattle.std.proofs.lemmas.Str.{IsUtf8-from_is_utf8}
use Rattle.cq_lex.specs.Bytes.{is_word_byte, mark_bytes}
use Rattle.cq_lex.specs.Tokens.{Writes, escaped, itself, nothing, token_behind}
use Rattle.cq_lex.specs.declared.token.Kind.TheVariants as kinds
use Rattle.cq_lex.specs.declared.token.Mark.{Mark}
use Rattle.cq_lex.specs.declared.token.Token.{Token}
use Rattle.cq_rules.specs.declared.class.Class.{Class}
use Rattle.cq_rules.specs.declared.class.Class.TheVariants as classes
use Rattle.cq_rules.specs.Class.{is, is_name, mark_class, same, word_class}
use Rattle.cq_rules.specs.Outcome.{nothing_kept}
use Rattle.cq_rules.specs.Relations.{One}
use Rattle.cq_rules.specs.Rule.{set}
use Rattle.cq_theory.specs.ValueText as written
use Rattle.cq_values.specs.Readable.{is_name as is_content}
use Rattle.cq_values.proofs.Numbers.{decimal_run}
use Rattle.cq_text.specs.Literal.{generator_text}
use Rattle.cq_return.specs.WrittenTerms.{IsPlainName}
use Rattle.cq_return.proofs.Prints.{Any, Prints, Stop, single}

-- a name
pub name_printed : {A : Type 0} (f : Token → A) (Q : A → Type 0) (name : List ℕ) → IsPlainName name → ((before : List ℕ) → Q (f (token_behind before (kinds.Word name) name)))
    → Prints Stop (One f (set is_name)) Q name
name_printed f Q name plain meets =
    single Stop f (set is_name) Q (kinds.Word name) name (λ after stops. (refl, plain.some, (plain.word, stops), plain.short)) (λ before. (plain.free, meets before))

-- a word of the language
pub keyword_printed : (c : Class) (word : List ℕ) → same (word_class word) c ≡ true → list_all is_word_byte word ≡ true → 0 < length word → length word ≤ 255
    → Prints Stop (One nothing_kept (set (is c))) (λ u. Unit {0}) word
keyword_printed c word is_class bytes some short =
    single Stop nothing_kept (set (is c)) (λ u. Unit {0}) (kinds.Word word) word (λ after stops. (refl, some, (bytes, stops), short)) (λ before. (is_class, tt))

pub mark_printed : (c : Class) (m : Mark) → same (mark_class m) c ≡ true → Prints Any (One nothing_kept (set (is c))) (λ u. Unit {0}) (mark_bytes m)
mark_printed c m is_class = single Any nothing_kept (set (is c)) (λ u. Unit {0}) (kinds.Mark m) (mark_bytes m) (λ after stops. refl) (λ before. (is_class, tt))

-- Contents in quotes.
byte_is : (b n : ℕ) → (b == n) ≡ true → b ≡ n
byte_is b n h = grind (arith, nat_tests)

other_byte : (b n : ℕ) → (b == n) ≡ false → b ≡ n → ⊥
other_byte b n h e = grind (arith, nat_tests)

abbrev WritesByte : ℕ → Type 0
WritesByte b = (bytes content : List ℕ) → Writes bytes content → Writes (written.escape b ++ bytes) (b ∷ content)

write_byte : (b : ℕ) → WritesByte b
write_byte b = at_quote (b == 34) refl
  where
    at_return : (r : Bool) → (b == 13) ≡ r → (b == 34) ≡ false → (b == 92) ≡ false → (b == 10) ≡ false → (b == 9) ≡ false → WritesByte b
    at_return true e q s l t = subst WritesByte (sym (byte_is b 13 e)) (λ bytes content w. escaped refl w)
    at_return false e q s l t =
        let is : written.escape b ≡ b ∷ [] = rw (q, s, l, t, e) refl in
        λ bytes content w. subst (λ l. Writes (l ++ bytes) (b ∷ content)) (sym is) (itself (other_byte b 34 q) (other_byte b 92 s) w)

    at_tab : (t : Bool) → (b == 9) ≡ t → (b == 34) ≡ false → (b == 92) ≡ false → (b == 10) ≡ false → WritesByte b
    at_tab true e q s l = subst WritesByte (sym (byte_is b 9 e)) (λ bytes content w. escaped refl w)
    at_tab false e q s l = at_return (b == 13) refl q s l e

    at_line : (l : Bool) → (b == 10) ≡ l → (b == 34) ≡ false → (b == 92) ≡ false → WritesByte b
    at_line true e q s = subst WritesByte (sym (byte_is b 10 e)) (λ bytes content w. escaped refl w)
    at_line false e q s = at_tab (b == 9) refl q s e

    at_backslash : (s : Bool) → (b == 92) ≡ s → (b == 34) ≡ false → WritesByte b
    at_backslash true e q = subst WritesByte (sym (byte_is b 92 e)) (λ bytes content w. escaped refl w)
    at_backslash false e q = at_line (b == 10) refl q e

    at_quote : (q : Bool) → (b == 34) ≡ q → WritesByte b
    at_quote true e = subst WritesByte (sym (byte_is b 34 e)) (λ bytes content w. escaped refl w)
    at_quote false e = at_backslash (b == 92) refl e

write_all : (content : List ℕ) → Writes (flat_map written.escape content) content
write_all [] = nothing
write_all (b ∷ content) = write_byte b (flat_map written.escape content) content (write_all content)

at_most : (n : ℕ) → nat_le n 255 ≡ true → n ≤ 255
at_most n h = grind (arith, nat_tests)

pub text_printed : {A : Type 0} (f : Token → A) (Q : A → Type 0) (content : List ℕ) → is_content content ≡ true → ((before bytes : List ℕ) → Q (f (token_behind before (kinds.Text content) bytes)))
    → Prints Any (One f (set (is classes.Text))) Q (written.quoted content)
text_printed f Q content fits meets =
    let parts = and_parts _ _ fits in
    single Any f (set (is classes.Text)) Q (kinds.Text content) (written.quoted content)
    (λ after stops. (flat_map written.escape content, refl, write_all content, IsUtf8-from_is_utf8 content parts.1, at_most (length content) parts.0))
    (λ before. (refl, meets before (written.quoted content)))

-- Names of generators.
digit_is_word : (b : ℕ) → is_ascii_digit b ≡ true → is_word_byte b ≡ true
digit_is_word b h = grind (arith, nat_tests)

digits_are_word : (bs : List ℕ) → list_all is_ascii_digit bs ≡ true → list_all is_word_byte bs ≡ true
digits_are_word [] h = refl
digits_are_word (b ∷ bs) h =
    let parts = and_parts (is_ascii_digit b) (list_all is_ascii_digit bs) h in
    let one = digit_is_word b parts.0 in
    let others = digits_are_word bs parts.1 in
    λ j. one j && others j

no_letter : (b n : ℕ) → is_ascii_digit b ≡ true → 57 < n → nat_eq b n ≡ false
no_letter b n h above = grind (arith, nat_tests)

digit_class : (b : ℕ) (bs : List ℕ) → nat_eq b 101 ≡ false → nat_eq b 114 ≡ false → is_name (word_class (103 ∷ b ∷ bs)) ≡ true
unfolding word_class
digit_class b bs e r = rw (e, r) refl

generator_class : (bs : List ℕ) → list_all is_ascii_digit bs ≡ true → 0 < length bs → is_name (word_class (103 ∷ bs)) ≡ true
generator_class [] h some = absurd (omega arith)
generator_class (b ∷ bs) h some =
    let parts = and_parts (is_ascii_digit b) (list_all is_ascii_digit bs) h in
    digit_class b bs (no_letter b 101 parts.0 (omega arith)) (no_letter b 114 parts.0 (omega arith))

pub generator_plain : (n : ℕ) → n < 16000000 → IsPlainName (generator_text n)
generator_plain n few =
    let digits = decimal_run (n + 1) (omega arith) in
    let some = decimal_nonempty (n + 1) (omega arith) in
    let short = length-decimal-le 9 (n + 1) (omega arith) (omega arith) (omega arith) in
    record { word = digits_are_word (decimal (n + 1)) digits; some = omega arith; short = omega (arith, short); free = generator_class (decimal (n + 1)) digits some }
