-- Values whose texts are read back.
use Rattle.std.specs.Prelude.{ℕ, suc, Bool, true, List, [], ◌∷◌, Option, Some, None, ◌≡◌, ◌<◌, ◌≤◌, ◌^◌, ◌&&◌, nat_le, slice_get, length}
use Rattle.std.specs.Str.{is_utf8}
use Rattle.cq_theory.specs.declared.constant.Con.{Con}
use Rattle.cq_theory.specs.declared.constant.Con.TheVariants.{Named, Open}
use Rattle.cq_theory.specs.declared.typeside.Fun.{Fun as Function}
use Rattle.cq_theory.specs.declared.value.Value.{Value}
use Rattle.cq_theory.specs.declared.value.Value.TheVariants as value
use Rattle.cq_theory.specs.TypesideData.{TypesideData as Typeside}
use Rattle.cq_theory.specs.Typeside.{constant_type}
use Rattle.cq_theory.specs.Value.{symbols_of}
use Rattle.cq_theory.specs.ValueText.{constant_name, is_word, value_text}

-- at most 255 bytes of UTF-8, as each name has
abbrev pub is_name : List ℕ → Bool
is_name bytes = nat_le (length bytes) 255 && is_utf8 bytes

-- the name of a declared constant, or the text of an open one
abbrev pub content_of : Typeside → Con → List ℕ
content_of T (Named c) = constant_name (slice_get T.constants c)
content_of T (Open text) = text

mutual
  -- The value has this type, and at most so many levels. A null may have any type, and its label is below 10^9.
  -- A function has a word as its name.
  pub data IsWithin (T : Typeside) : ℕ → ℕ → Value → Type 0 where
    constant : {levels sort : ℕ} {v : Value} (c : Con) → v ≡ value.Const c → constant_type T c ≡ Some sort → is_name (content_of T c) ≡ true
        → IsWithin T (suc levels) sort v
    null : {levels sort : ℕ} {v : Value} (label : ℕ) → v ≡ value.Null label → label < 10 ^ 9 → IsWithin T (suc levels) sort v
    application : {levels sort : ℕ} {v : Value} (f : ℕ) (function : Function) (args : List Value) → v ≡ value.Fun f args
        → slice_get T.functions f ≡ Some function → function.result ≡ sort → is_word function.name ≡ true → is_name function.name ≡ true
        → AreWithin T levels function.args args → IsWithin T (suc levels) sort v

  -- each value has its fellow's type, and at most so many levels
  pub data AreWithin (T : Typeside) : ℕ → List ℕ → List Value → Type 0 where
    none : {levels : ℕ} → AreWithin T levels [] []
    more : {levels sort : ℕ} {sorts : List ℕ} {v : Value} {vs : List Value} → IsWithin T levels sort v → AreWithin T levels sorts vs
        → AreWithin T levels (sort ∷ sorts) (v ∷ vs)

-- the value has this type at each level, at most 64 levels and at most 1,024 symbols
pub record IsReadable (T : Typeside) (sort : ℕ) (v : Value) : Type 0 where
  pub within : IsWithin T 64 sort v
  pub symbols : symbols_of v ≤ 1024

-- the readable value of a type whose text this is, or that there is none
abbrev pub IsRead : Typeside → ℕ → List ℕ → Option Value → Type 0
IsRead T sort text (Some v) = IsReadable T sort v × (value_text T v ≡ text)
IsRead T sort text None = (v : Value) → IsReadable T sort v → value_text T v ≡ text → ⊥
