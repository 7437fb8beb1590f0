-- Nulls and built values by their texts.
use Rattle.std.specs.Prelude.{ℕ, Bool, true, false, List, Option, Some, None, if◌then◌else◌, take, slice_get, option_map, option_and_then}
use Rattle.std.specs.List.{prefix_len}
use Rattle.cq_base.specs.Names.{number_of}
use Rattle.cq_theory.specs.declared.typeside.Fun.{Fun as Function}
use Rattle.cq_theory.specs.declared.value.Value.{Value}
use Rattle.cq_theory.specs.declared.value.Value.TheOpen.{Value-F, Const, Null, Fun}
use Rattle.cq_theory.specs.declared.value.Value.TheFolds.{fold-Value}
use Rattle.cq_theory.specs.TypesideData.{TypesideData as Typeside}
use Rattle.cq_theory.specs.Typeside.{function_names}
use Rattle.cq_theory.specs.ValueText.{is_word_byte}
use Rattle.cq_values.specs.Reading.{as_name, behind_byte, label_of, value_in}

-- the label of the null whose text this is
abbrev pub label_in : List ℕ → Option ℕ
label_in text = option_and_then label_of (behind_byte 63 text)

abbrev pub is_built_step : Value-F Bool → Bool
is_built_step (Const c) = false
is_built_step (Null label) = false
is_built_step (Fun f args) = true

-- a function at its arguments
abbrev pub is_built : Value → Bool
is_built = fold-Value Bool is_built_step

abbrev pub result_of : Function → ℕ
result_of f = f.result

-- the type that the function of this name gives
abbrev pub named_result : Typeside → List ℕ → Option ℕ
named_result T name = option_and_then (λ f. option_map result_of (slice_get T.functions f)) (number_of (function_names T) name)

-- the type of a built value by its text: that which the function gives whose name is the word at the front
abbrev pub built_type : Typeside → List ℕ → Option ℕ
built_type T text = option_and_then (named_result T) (as_name (take (prefix_len is_word_byte text) text))

abbrev pub if_built : ℕ → Option Value → Option (ℕ × Value)
if_built sort None = None
if_built sort (Some v) = if is_built v then Some (sort, v) else None

abbrev pub built_at : Typeside → List ℕ → Option ℕ → Option (ℕ × Value)
built_at T text None = None
built_at T text (Some sort) = if_built sort (value_in T sort text)

-- the readable built value whose text this is, with its type
abbrev pub built_in : Typeside → List ℕ → Option (ℕ × Value)
built_in T text = built_at T text (built_type T text)
