-- Texts of values.
use Rattle.std.specs.Prelude.{ℕ, Bool, true, List, [], ◌∷◌, ◌++◌, Option, Some, None, ◌==◌, ◌&&◌, ◌||◌, not, if◌then◌else◌, nat_le, nat_lt}
use Rattle.std.specs.Prelude.{slice_get, length, codes, decimal}
use Rattle.std.specs.List.{list_all, flat_map}
use Rattle.cq_base.specs.declared.name.Name.{Name}
use Rattle.cq_theory.specs.declared.constant.Con.{Con}
use Rattle.cq_theory.specs.declared.constant.Con.TheVariants.{Named, Open}
use Rattle.cq_theory.specs.declared.typeside.Fun.{Fun as Function}
use Rattle.cq_theory.specs.TypesideData.{TypesideData as Typeside}
use Rattle.cq_theory.specs.declared.value.Value.{Value}
use Rattle.cq_theory.specs.declared.value.Value.TheOpen.{Value-F, Const, Null, Fun}
use Rattle.cq_theory.specs.declared.value.Value.TheFolds.{fold-Value}

abbrev pub is_between : ℕ → ℕ → ℕ → Bool
is_between low n high = nat_le low n && nat_le n high

-- an ASCII letter or digit, `_` or `$`
abbrev pub is_word_byte : ℕ → Bool
is_word_byte b = is_between 48 b 57 || is_between 65 b 90 || is_between 97 b 122 || (b == 95) || (b == 36)

abbrev pub is_word : List ℕ → Bool
is_word bs = not (length bs == 0) && list_all is_word_byte bs

-- a byte in a quoted text: a backslash stands before a quotation mark and a backslash, and before n, t and r for LF, tab and CR
abbrev pub escape : ℕ → List ℕ
escape b =
    if b == 34 then 92 ∷ 34 ∷ []
    else (if b == 92 then 92 ∷ 92 ∷ []
    else (if b == 10 then 92 ∷ 110 ∷ []
    else (if b == 9 then 92 ∷ 116 ∷ []
    else (if b == 13 then 92 ∷ 114 ∷ []
    else b ∷ []))))

abbrev pub quoted : List ℕ → List ℕ
quoted bs = 34 ∷ flat_map escape bs ++ 34 ∷ []

abbrev pub constant_text : List ℕ → List ℕ
constant_text bs = if is_word bs then bs else quoted bs

abbrev pub constant_name : Option (Name × ℕ) → Name
constant_name None = []
constant_name (Some constant) = constant.0

abbrev pub function_name : Option Function → Name
function_name None = []
function_name (Some f) = f.name

-- each text after a comma and a space
abbrev pub after_commas : List (List ℕ) → List ℕ
after_commas [] = []
after_commas (text ∷ texts) = codes ", " ++ text ++ after_commas texts

abbrev pub with_commas : List (List ℕ) → List ℕ
with_commas [] = []
with_commas (text ∷ texts) = text ++ after_commas texts

abbrev pub null_text : ℕ → List ℕ
null_text label = codes "?" ++ decimal label

abbrev pub application_text : List ℕ → List (List ℕ) → List ℕ
application_text name texts = name ++ codes "(" ++ with_commas texts ++ codes ")"

-- the text of a constant: a declared one's name, quoted where it is no word, or an open one's text, always quoted
abbrev pub con_text : Typeside → Con → List ℕ
con_text T (Named c) = constant_text (constant_name (slice_get T.constants c))
con_text T (Open text) = quoted text

-- a value, with the text of each argument in its place
abbrev pub text_step : Typeside → Value-F (List ℕ) → List ℕ
text_step T (Const c) = con_text T c
text_step T (Null n) = null_text n
text_step T (Fun f texts) = application_text (function_name (slice_get T.functions f)) texts

abbrev pub value_text : Typeside → Value → List ℕ
value_text T = fold-Value (List ℕ) (text_step T)

-- a declared constant is in range
abbrev pub is_named_con : Typeside → Con → Bool
is_named_con T (Named c) = nat_lt c (length T.constants)
is_named_con T (Open text) = true

-- the constants and functions of the value are in range
abbrev pub is_named_step : Typeside → Value-F Bool → Bool
is_named_step T (Const c) = is_named_con T c
is_named_step T (Null n) = true
is_named_step T (Fun f named) = nat_lt f (length T.functions) && list_all (λ b. b) named

abbrev pub is_named : Typeside → Value → Bool
is_named T = fold-Value Bool (is_named_step T)
