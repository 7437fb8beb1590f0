-- Texts of values are UTF-8.
use Rattle.std.proofs.Common.{◌≡◌, ℕ, zero, suc, ◌<◌, ◌≤◌, ◌^◌, Bool, true, false, cond, ◌&&◌, nat_lt, List, [], ◌∷◌, ◌++◌, length, map, get_or, IsUtf8, inl, inr, refl, sym, ap, ap₂, ◌∙◌, subst, arith, append_assoc, append-nil, ltb-true}
use Rattle.std.specs.Prelude.{slice_get, codes, decimal, ◌==◌}
use Rattle.std.specs.List.{flat_map}
use Rattle.std.proofs.lemmas.Bool.{and_parts, cases_lt, cases_eq, ne_eqb}
use Rattle.std.proofs.lemmas.Str.{IsUtf8-append, IsUtf8-nil, IsUtf8-encode, IsUtf8-from_ascii, IsUtf8-from_is_utf8, encode_ascii, inside_one}
use Rattle.std.proofs.lemmas.Fmt.{IsAscii-decimal}
use lib.Utf8.{scalar, scalars, encode, encodes, low_scalar}
use Rattle.cq_theory.specs.declared.constant.Con.{Con}
use Rattle.cq_theory.specs.declared.constant.Con.TheVariants.{Named, Open}
use Rattle.cq_theory.specs.declared.value.Value.{Value}
use Rattle.cq_theory.specs.TypesideData.{TypesideData as Typeside}
use Rattle.cq_theory.specs.ValueText.{after_commas, application_text, con_text, constant_name, escape, function_name, is_word, null_text, quoted, value_text, with_commas}
use Rattle.cq_theory.proofs.Values.{value_text-at_Const, value_text-at_Null, value_text-at_Fun}
use Rattle.cq_values.specs.Readable.{is_name, content_of, IsWithin, AreWithin, constant, null, application, none, more}

pub ascii_then : (x : ℕ) (xs : List ℕ) → x < 128 → IsUtf8 xs → IsUtf8 (x ∷ xs)
ascii_then x xs small u = IsUtf8-append (x ∷ []) xs (subst IsUtf8 (encode_ascii x small) (IsUtf8-encode x (low_scalar x (omega arith)))) u

abbrev are_ascii : List ℕ → Bool
are_ascii [] = true
are_ascii (x ∷ xs) = nat_lt x 128 && are_ascii xs

pub ascii_text : (xs : List ℕ) → are_ascii xs ≡ true → IsUtf8 xs
ascii_text [] e = IsUtf8-nil
ascii_text (x ∷ xs) e = let p = and_parts _ _ e in ascii_then x xs (ltb-true _ _ p.0) (ascii_text xs p.1)

-- the escapes of the bytes below n are ASCII
abbrev escapes_below : ℕ → Bool
escapes_below zero = true
escapes_below (suc n) = are_ascii (escape n) && escapes_below n

escape_below : (n : ℕ) → escapes_below n ≡ true → (x : ℕ) → x < n → are_ascii (escape x) ≡ true
escape_below zero e x h = absurd (omega arith)
escape_below (suc n) e x h =
    let p = and_parts _ _ e in
    elim (cases_eq x n) [ inl same ↦ rw same p.0 | inr other ↦ escape_below n p.1 x (omega arith) ]

all_ascii : escapes_below 128 ≡ true
all_ascii = refl

escape-append : (xs ys : List ℕ) → flat_map escape (xs ++ ys) ≡ flat_map escape xs ++ flat_map escape ys
escape-append [] ys = refl
escape-append (x ∷ xs) ys = ap (λ l. escape x ++ l) (escape-append xs ys) ∙ sym (append_assoc (escape x) _ _)

other : (b n : ℕ) → 128 ≤ b → n < 128 → (b == n) ≡ false
other b n high low = ne_eqb b n (λ e. omega arith)

high_alone : (b : ℕ) → 128 ≤ b → escape b ≡ b ∷ []
high_alone b high =
    let quote = other b 34 high (omega arith) in
    let backslash = other b 92 high (omega arith) in
    let line = other b 10 high (omega arith) in
    let tab = other b 9 high (omega arith) in
    let return = other b 13 high (omega arith) in
    rw (quote, backslash, line, tab, return) refl

escape_high : (xs : List ℕ) → ((k : ℕ) → k < length xs → 128 ≤ get_or xs k 0) → flat_map escape xs ≡ xs
escape_high [] h = refl
escape_high (x ∷ xs) h =
    let high : 128 ≤ x = h 0 (omega arith) in
    ap₂ (λ (a b : List ℕ). a ++ b) (high_alone x high) (escape_high xs (λ k below. h (suc k) (omega arith)))

one_char : (c : ℕ) → scalar c ≡ true → IsUtf8 (flat_map escape (encode c))
one_char c ok = elim (cases_lt c 128) [
  | inl small ↦ rw (encode_ascii c small, append-nil) (ascii_text _ (escape_below 128 all_ascii c small))
  | inr big ↦
      let high : (k : ℕ) → k < length (encode c) → 128 ≤ get_or (encode c) k 0 = λ k below. elim (cases_lt (get_or (encode c) k 0) 128) [
        | inl low ↦ absurd (omega (arith, inside_one c [] (encode c) k (sym (append-nil _)) below low))
        | inr h ↦ h
      ] in
      subst IsUtf8 (sym (escape_high (encode c) high)) (IsUtf8-encode c ok)
]

all_chars : (cs : List ℕ) → scalars cs ≡ true → IsUtf8 (flat_map escape (encodes cs))
all_chars [] e = IsUtf8-nil
all_chars (c ∷ cs) e =
    let p = and_parts _ _ e in
    subst IsUtf8 (sym (escape-append (encode c) (encodes cs))) (IsUtf8-append _ _ (one_char c p.0) (all_chars cs p.1))

quoted_text : (s : List ℕ) → IsUtf8 s → IsUtf8 (quoted s)
quoted_text s u = ascii_then 34 _ (omega arith) (IsUtf8-append _ _ (subst (λ l. IsUtf8 (flat_map escape l)) u.1.1 (all_chars u.0 u.1.0)) (ascii_text (34 ∷ []) refl))

pub name_text : (name : List ℕ) → is_name name ≡ true → IsUtf8 name
name_text name is = IsUtf8-from_is_utf8 name (and_parts _ _ is).1

pub number_text : (n : ℕ) → n < 2 ^ 64 → IsUtf8 (decimal n)
number_text n small = IsUtf8-from_ascii (decimal n) (IsAscii-decimal n small)

pub label_text : (n : ℕ) → n < 2 ^ 64 → IsUtf8 (null_text n)
label_text n small = ascii_then 63 (decimal n) (omega arith) (number_text n small)

name_or_quoted : (name : List ℕ) (word : Bool) → IsUtf8 name → IsUtf8 (cond word name (quoted name))
name_or_quoted name true u = u
name_or_quoted name false u = quoted_text name u

constant_utf8 : (T : Typeside) (c : Con) → is_name (content_of T c) ≡ true → IsUtf8 (con_text T c)
constant_utf8 T (Named c) is = name_or_quoted (constant_name (slice_get T.constants c)) (is_word (constant_name (slice_get T.constants c))) (name_text _ is)
constant_utf8 T (Open text) is = quoted_text text (name_text text is)

abbrev AreTexts : List (List ℕ) → Type 0
AreTexts [] = Unit {0}
AreTexts (text ∷ texts) = IsUtf8 text × AreTexts texts

after_utf8 : (texts : List (List ℕ)) → AreTexts texts → IsUtf8 (after_commas texts)
after_utf8 [] are = IsUtf8-nil
after_utf8 (text ∷ texts) are = IsUtf8-append (codes ", " ++ text) (after_commas texts) (IsUtf8-append (codes ", ") text (ascii_text (codes ", ") refl) are.0) (after_utf8 texts are.1)

commas_utf8 : (texts : List (List ℕ)) → AreTexts texts → IsUtf8 (with_commas texts)
commas_utf8 [] are = IsUtf8-nil
commas_utf8 (text ∷ texts) are = IsUtf8-append text (after_commas texts) are.0 (after_utf8 texts are.1)

pub application_utf8 : (name : List ℕ) (texts : List (List ℕ)) → IsUtf8 name → AreTexts texts → IsUtf8 (application_text name texts)
application_utf8 name texts is are =
    IsUtf8-append (name ++ codes "(" ++ with_commas texts) (codes ")")
    (IsUtf8-append (name ++ codes "(") (with_commas texts) (IsUtf8-append name (codes "(") is (ascii_text (codes "(") refl)) (commas_utf8 texts are))
    (ascii_text (codes ")") refl)

module _ (T : Typeside) where
  mutual
    pub value_utf8 : {levels sort : ℕ} {v : Value} → IsWithin T levels sort v → IsUtf8 (value_text T v)
    value_utf8 {v = v} (constant c is typing name) = subst IsUtf8 (sym (value_text-at_Const T v c is)) (constant_utf8 T c name)
    value_utf8 {v = v} (null label is small) = subst IsUtf8 (sym (value_text-at_Null T v label is)) (label_text label (omega arith))
    value_utf8 {v = v} (application f function args is at gives word name each) =
        subst IsUtf8 (sym (value_text-at_Fun T v f args is ∙ ap (λ o. application_text (function_name o) (map (value_text T) args)) at))
        (application_utf8 function.name (map (value_text T) args) (name_text function.name name) (values_utf8 each))

    values_utf8 : {levels : ℕ} {sorts : List ℕ} {vs : List Value} → AreWithin T levels sorts vs → AreTexts (map (value_text T) vs)
    values_utf8 none = tt
    values_utf8 (more first each) = (value_utf8 first, values_utf8 each)
