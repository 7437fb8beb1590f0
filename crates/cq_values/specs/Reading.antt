-- Reading a value text from its front.
use Rattle.std.specs.Prelude.{ℕ, zero, suc, Bool, true, false, not, List, [], ◌∷◌, ◌++◌, Option, Some, None, ◌==◌, ◌&&◌, ◌||◌}
use Rattle.std.specs.Prelude.{if◌then◌else◌, nat_le, length, take, drop, slice_get, option_map, option_and_then}
use Rattle.std.specs.List.{list_all, prefix_len}
use Rattle.std.specs.Str.Parse.{digits_value}
use Rattle.std.specs.Char.{is_ascii_digit}
use Rattle.cq_base.specs.Escapes.{unescape}
use Rattle.cq_base.specs.Names.{number_of}
use Rattle.cq_theory.specs.declared.constant.Con.{Con}
use Rattle.cq_theory.specs.declared.constant.Con.TheVariants.{Named, Open}
use Rattle.cq_theory.specs.declared.typeside.Fun.{Fun as Function}
use Rattle.cq_theory.specs.declared.value.Value.{Value}
use Rattle.cq_theory.specs.declared.value.Value.TheVariants as value
use Rattle.cq_theory.specs.TypesideData.{TypesideData as Typeside}
use Rattle.cq_theory.specs.Sorts.{is_type}
use Rattle.cq_theory.specs.Typeside.{constant_names, constant_type, function_names}
use Rattle.cq_theory.specs.Value.{symbols_of}
use Rattle.cq_theory.specs.ValueText.{is_word, is_word_byte}
use Rattle.cq_values.specs.Readable.{is_name}

-- what stands at the front of bytes, and the bytes behind it
abbrev pub Front : Type 0 → Type 0
Front A = Option (A × List ℕ)

-- the content, where it is a name
abbrev pub as_name : List ℕ → Option (List ℕ)
as_name content = if is_name content then Some content else None

-- the constant, as a value of this type
abbrev pub typed : Typeside → ℕ → Con → Option Value
typed T sort c = if is_type (constant_type T c) sort then Some (value.Const c) else None

-- a word is a declared constant
abbrev pub word_constant : Typeside → List ℕ → Option Con
word_constant T name = option_map Named (number_of (constant_names T) name)

abbrev pub quoted_or_open : Option ℕ → List ℕ → Option Con
quoted_or_open None text = Some (Open text)
quoted_or_open (Some c) text = if is_word text then None else Some (Named c)

-- a quoted text is a declared constant whose name is no word, or else an open one
abbrev pub quoted_constant : Typeside → List ℕ → Option Con
quoted_constant T text = quoted_or_open (number_of (constant_names T) text) text

-- a byte that stands in quotes without a backslash
abbrev pub stands_alone : ℕ → Bool
stands_alone b = not (b == 34 || b == 92 || b == 10 || b == 9 || b == 13)

-- with these before what was found
abbrev pub behind : {X : Type 0} → List X → Front (List X) → Front (List X)
behind front None = None
behind front (Some found) = Some (front ++ found.0, found.1)

abbrev pub behind_escape : Option ℕ → Front (List ℕ) → Front (List ℕ)
behind_escape None found = None
behind_escape (Some b) found = behind (b ∷ []) found

-- the content of a quoted text behind its opening quote; true: and a backslash
unfoldable pub unquoted : Bool → List ℕ → Front (List ℕ)
unquoted escaping [] = None
unquoted false (b ∷ bs) =
    if b == 34 then Some ([], bs)
    else (if b == 92 then unquoted true bs
    else (if stands_alone b then behind (b ∷ []) (unquoted false bs) else None))
unquoted true (b ∷ bs) = behind_escape (unescape b) (unquoted false bs)

-- at most nine digits, of which the first is 0 only alone
abbrev pub has_label_form : List ℕ → Bool
has_label_form [] = false
has_label_form (d ∷ ds) = if length ds == 0 then true else (if nat_le 9 (length ds) then false else not (d == 48))

abbrev pub is_label : List ℕ → Bool
is_label ds = list_all is_ascii_digit ds && has_label_form ds

-- the number that digits without a leading zero write
abbrev pub label_of : List ℕ → Option ℕ
label_of ds = if is_label ds then Some (digits_value 10 ds) else None

abbrev pub beside : {A : Type 0} → Option A → List ℕ → Front A
beside found rest = option_map (λ a. (a, rest)) found

abbrev pub word_value : Typeside → ℕ → List ℕ → Option Value
word_value T sort word = option_and_then (typed T sort) (option_and_then (word_constant T) (as_name word))

abbrev pub quoted_value : Typeside → ℕ → List ℕ → Option Value
quoted_value T sort content = option_and_then (typed T sort) (option_and_then (quoted_constant T) (as_name content))

abbrev pub at_content : Typeside → ℕ → Front (List ℕ) → Front Value
at_content T sort None = None
at_content T sort (Some found) = beside (quoted_value T sort found.0) found.1

-- a null behind its question mark
abbrev pub null_front : List ℕ → Front Value
null_front bytes =
    let count = prefix_len is_ascii_digit bytes in
    beside (option_map value.Null (label_of (take count bytes))) (drop count bytes)

abbrev pub behind_byte : ℕ → List ℕ → Option (List ℕ)
behind_byte byte [] = None
behind_byte byte (b ∷ rest) = if b == byte then Some rest else None

abbrev pub behind_comma : List ℕ → Option (List ℕ)
behind_comma bytes = option_and_then (behind_byte 32) (behind_byte 44 bytes)

abbrev pub if_gives : ℕ → ℕ → Option Function → Option (ℕ × List ℕ)
if_gives sort f None = None
if_gives sort f (Some function) = if function.result == sort then Some (f, function.args) else None

-- the function of this name that gives this type, and the types of its arguments
abbrev pub function_for : Typeside → ℕ → List ℕ → Option (ℕ × List ℕ)
function_for T sort name = option_and_then (λ f. if_gives sort f (slice_get T.functions f)) (number_of (function_names T) name)

abbrev pub closed : ℕ → Front (List Value) → Front Value
closed f None = None
closed f (Some found) = option_map (λ rest. (value.Fun f found.0, rest)) (behind_byte 41 found.1)

-- by a reader of a value of a type
module _ (read : ℕ → List ℕ → Front Value) where
  abbrev pub joined : Front Value → (List ℕ → Front (List Value)) → Front (List Value)
  joined None others = None
  joined (Some found) others = behind (found.0 ∷ []) (others found.1)

  -- values of these types, each behind a comma and a space
  abbrev pub others : List ℕ → List ℕ → Front (List Value)
  others [] bytes = Some ([], bytes)
  others (sort ∷ sorts) bytes = option_and_then (λ after. joined (read sort after) (others sorts)) (behind_comma bytes)

  -- values of these types with a comma and a space between them
  abbrev pub arguments : List ℕ → List ℕ → Front (List Value)
  arguments [] bytes = Some ([], bytes)
  arguments (sort ∷ sorts) bytes = joined (read sort bytes) (others sorts)

  abbrev pub applied : Option (ℕ × List ℕ) → List ℕ → Front Value
  applied None bytes = None
  applied (Some function) bytes = closed function.0 (arguments function.1 bytes)

  module _ (T : Typeside) (sort : ℕ) where
    -- a function whose name is this word, behind the opening bracket
    abbrev pub application : List ℕ → List ℕ → Front Value
    application word bytes = applied (option_and_then (function_for T sort) (as_name word)) bytes

    abbrev pub constant_or_application : List ℕ → List ℕ → Option (List ℕ) → Front Value
    constant_or_application word rest None = beside (word_value T sort word) rest
    constant_or_application word rest (Some after) = application word after

    abbrev pub word_front : List ℕ → Front Value
    word_front bytes =
        let count = prefix_len is_word_byte bytes in
        constant_or_application (take count bytes) (drop count bytes) (behind_byte 40 (drop count bytes))

    abbrev pub value_front : List ℕ → Front Value
    value_front [] = None
    value_front (b ∷ bs) =
        if b == 34 then at_content T sort (unquoted false bs)
        else (if b == 63 then null_front bs
        else (if is_word_byte b then word_front (b ∷ bs) else None))

-- a value of this type and of at most so many levels
unfoldable pub value_at : Typeside → ℕ → ℕ → List ℕ → Front Value
value_at T zero sort bytes = None
value_at T (suc levels) sort bytes = value_front (value_at T levels) T sort bytes

abbrev pub if_whole : Front Value → Option Value
if_whole None = None
if_whole (Some found) = if (length found.1 == 0) && nat_le (symbols_of found.0) 1024 then Some found.0 else None

-- the readable value of a type whose text this is
unfoldable pub value_in : Typeside → ℕ → List ℕ → Option Value
value_in T sort text = if_whole (value_at T 64 sort text)
