-- The texts of built values are read back.
use Rattle.std.proofs.Common.{ℕ, Bool, true, false, List, [], ◌∷◌, ◌++◌, Some, None, ◌≡◌, cond, map, take, length, refl, sym, ap, ◌∙◌, append_assoc}
use Rattle.std.specs.Prelude.{slice_get, not, ◌==◌, codes, option_map, option_and_then}
use Rattle.std.specs.List.{list_all, prefix_len}
use Rattle.std.proofs.lemmas.Bool.{and_parts}
use Rattle.cq_theory.specs.declared.typeside.Fun.{Fun as Function}
use Rattle.cq_theory.specs.declared.value.Value.{Value}
use Rattle.cq_theory.specs.declared.value.Value.TheVariants as value
use Rattle.cq_theory.specs.TypesideData.{TypesideData as Typeside}
use Rattle.cq_theory.specs.Typeside.{IsTypeside}
use Rattle.cq_theory.specs.ValueText.{application_text, function_name, is_word, is_word_byte, value_text, with_commas}
use Rattle.cq_theory.proofs.Values.{value_text-at_Fun, fold-Const, fold-Null, fold-Fun}
use Rattle.cq_values.specs.Built.{built_at, built_in, built_type, if_built, is_built, is_built_step, named_result, result_of}
use Rattle.cq_values.specs.Readable.{IsReadable, IsWithin, constant, null, application, is_name}
use Rattle.cq_values.specs.Reading.{as_name, value_in}
use Rattle.cq_values.proofs.Naming.{named}
use Rattle.cq_values.proofs.Runs.{run_len, take_front}
use Rattle.cq_values.proofs.Tabled.{number_of-part}
use Rattle.cq_return.proofs.Reading.{text_read}

module _ (T : Typeside) (made : IsTypeside T) where
  -- the type of a built value by its text
  type_found : (f : ℕ) (function : Function) (texts : List (List ℕ)) → slice_get T.functions f ≡ Some function → is_word function.name ≡ true → is_name function.name ≡ true
      → built_type T (application_text function.name texts) ≡ Some function.result
  type_found f function texts at word name =
      let text : application_text function.name texts ≡ function.name ++ (40 ∷ (with_commas texts ++ codes ")")) = regrouped function.name (with_commas texts) in
      let rest = 40 ∷ (with_commas texts ++ codes ")") in
      let all : list_all is_word_byte function.name ≡ true = (and_parts (not (length function.name == 0)) (list_all is_word_byte function.name) word).1 in
      let run : prefix_len is_word_byte (function.name ++ rest) ≡ length function.name = run_len is_word_byte function.name rest all refl in
      ap (built_type T) text
      ∙ ap (λ n. option_and_then (named_result T) (as_name (take n (function.name ++ rest)))) run
      ∙ ap (λ word. option_and_then (named_result T) (as_name word)) (take_front function.name rest)
      ∙ ap (option_and_then (named_result T)) (named function.name name)
      ∙ ap (option_and_then (λ n. option_map result_of (slice_get T.functions n))) (number_of-part (λ g. g.name) T.functions f function made.distinct_functions at)
      ∙ ap (option_map result_of) at
    where
      regrouped : (name inner : List ℕ) → ((name ++ (40 ∷ [])) ++ inner) ++ (41 ∷ []) ≡ name ++ (40 ∷ (inner ++ (41 ∷ [])))
      regrouped name inner = simp append_assoc

  no_built : {A : Type 0} (v w : Value) (b : Bool) → v ≡ w → is_built w ≡ b → b ≡ false → is_built v ≡ true → A
  no_built v w b is at isnt is_one = let other : is_built v ≡ false = ap is_built is ∙ at ∙ isnt in cc (sym is_one ∙ other)

  within_built : {levels sort : ℕ} {v : Value} → IsWithin T levels sort v → is_built v ≡ true → value_in T sort (value_text T v) ≡ Some v → built_in T (value_text T v) ≡ Some (sort, v)
  within_built {sort = sort} {v = v} (constant c is typing name) built read = no_built v (value.Const c) false is (fold-Const Bool is_built_step c) refl built
  within_built {sort = sort} {v = v} (null label is small) built read = no_built v (value.Null label) false is (fold-Null Bool is_built_step label) refl built
  within_built {sort = sort} {v = v} (application f function args is at gives word name each) built read =
      let text : value_text T v ≡ application_text function.name (map (value_text T) args) =
      value_text-at_Fun T v f args is ∙ ap (λ o. application_text (function_name o) (map (value_text T) args)) at in
      let type : built_type T (value_text T v) ≡ Some sort = ap (built_type T) text ∙ type_found f function (map (value_text T) args) at word name ∙ ap (λ n. Some n) gives in
      ap (built_at T (value_text T v)) type ∙ ap (if_built sort) read ∙ ap (λ b. cond b (Some (sort, v)) None) built

  pub built_read : (sort : ℕ) (v : Value) → IsReadable T sort v → is_built v ≡ true → built_in T (value_text T v) ≡ Some (sort, v)
  built_read sort v h built = within_built h.within built (text_read T made sort v h)

pub application_built : (f : ℕ) (vs : List Value) → is_built (value.Fun f vs) ≡ true
application_built f vs = fold-Fun Bool is_built_step f vs
