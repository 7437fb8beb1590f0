-- Values are read back from their texts.
use Rattle.std.proofs.Common.{ℕ, suc, List, [], ◌∷◌, ◌++◌, ◌≡◌, ◌<◌, ◌^◌, ◌||◌, Option, Some, None, Bool, true, false, map, length, take, drop, refl, sym, ap, ◌∙◌, append_assoc, arith}
use Rattle.std.specs.Prelude.{cond, not, ◌==◌, is_some, option_map, option_and_then, slice_get, decimal}
use Rattle.std.specs.List.{list_all, prefix_len, flat_map}
use Rattle.std.specs.Char.{is_ascii_digit}
use Rattle.std.proofs.lemmas.Bool.Decides.{nat_tests}
use Rattle.cq_base.specs.Names.{number_of}
use Rattle.cq_theory.specs.declared.constant.Con.{Con}
use Rattle.cq_theory.specs.declared.constant.Con.TheVariants.{Named, Open}
use Rattle.cq_theory.specs.declared.typeside.Fun.{Fun as Function}
use Rattle.cq_theory.specs.declared.value.Value.{Value}
use Rattle.cq_theory.specs.declared.value.Value.TheVariants as value
use Rattle.cq_theory.specs.TypesideData.{TypesideData as Typeside}
use Rattle.cq_theory.specs.Sorts.{is_type}
use Rattle.cq_theory.specs.Typeside.{IsTypeside, constant_names, constant_type, is_reserved}
use Rattle.cq_theory.specs.ValueText.{is_word, is_word_byte, escape, quoted, constant_name, con_text, null_text, application_text, after_commas, with_commas, function_name, value_text}
use Rattle.cq_theory.proofs.Values.{value_text-at_Const, value_text-at_Null, value_text-at_Fun}
use Rattle.cq_values.specs.Readable.{is_name, content_of, IsWithin, AreWithin, constant, null, application, none, more}
use Rattle.cq_values.specs.Reading.{Front, as_name, typed, word_constant, quoted_or_open, quoted_constant, unquoted, label_of, beside, quoted_value, at_content, null_front, behind_byte, if_gives, function_for, closed, joined, others, arguments, applied, constant_or_application, word_front, value_front, value_at}
use Rattle.cq_values.proofs.Naming.{named}
use Rattle.cq_values.proofs.Numbers.{label_written, decimal_run}
use Rattle.cq_values.proofs.Tabled.{number_of-part}
use Rattle.cq_values.proofs.Runs.{StopsAt, run_len, take_front, drop_front, both}
use Rattle.cq_values.proofs.Quoting.{unquoted_quoted}
use Rattle.cq_values.proofs.Steps.{byte_is, joined_on}

-- what may stand behind a value text
abbrev pub Ends : List ℕ → Type 0
Ends [] = Unit {0}
Ends (b ∷ bs) = (is_word_byte b ≡ false) × (is_ascii_digit b ≡ false) × ((b == 40) ≡ false)

ends_word : (rest : List ℕ) → Ends rest → StopsAt is_word_byte rest
ends_word [] e = tt
ends_word (b ∷ bs) e = e.0

ends_digits : (rest : List ℕ) → Ends rest → StopsAt is_ascii_digit rest
ends_digits [] e = tt
ends_digits (b ∷ bs) e = e.1

unopened : (rest : List ℕ) → Ends rest → behind_byte 40 rest ≡ None
unopened [] e = refl
unopened (b ∷ bs) e = ap (λ t. cond t (Some bs) None) e.2

same_itself : (n : ℕ) → (n == n) ≡ true
same_itself n = grind (arith, nat_tests)

-- a word byte is neither a quote nor a question mark
plain_byte : (b n : ℕ) → is_word_byte n ≡ false → is_word_byte b ≡ true → (b == n) ≡ false
plain_byte b n other h = at_test (b == n) refl
  where
    at_test : (t : Bool) → (b == n) ≡ t → (b == n) ≡ false
    at_test true e = let same : b ≡ n = byte_is b n e in cc (ap is_word_byte same)
    at_test false e = e

module _ (T : Typeside) where
  module _ (read : ℕ → List ℕ → Front Value) (sort : ℕ) where
    -- forwards: a word
    word_at_front : (b : ℕ) (bs : List ℕ) → is_word_byte b ≡ true → value_front read T sort (b ∷ bs) ≡ word_front read T sort (b ∷ bs)
    word_at_front b bs h =
        let q : (b == 34) ≡ false = plain_byte b 34 refl h in
        let n : (b == 63) ≡ false = plain_byte b 63 refl h in
        ap (λ t. cond t (at_content T sort (unquoted false bs)) (cond (b == 63) (null_front bs) (cond (is_word_byte b) (word_front read T sort (b ∷ bs)) None))) q
        ∙ ap (λ t. cond t (null_front bs) (cond (is_word_byte b) (word_front read T sort (b ∷ bs)) None)) n
        ∙ ap (λ t. cond t (word_front read T sort (b ∷ bs)) None) h

    word_first : (name rest : List ℕ) → is_word name ≡ true → value_front read T sort (name ++ rest) ≡ word_front read T sort (name ++ rest)
    word_first [] rest h = cc
    word_first (b ∷ bs) rest h = word_at_front b (bs ++ rest) (both (is_word_byte b) (list_all is_word_byte bs) (both (not (length (b ∷ bs) == 0)) (list_all is_word_byte (b ∷ bs)) h).1).0

    word_read : (name rest : List ℕ) → is_word name ≡ true → StopsAt is_word_byte rest
        → value_front read T sort (name ++ rest) ≡ constant_or_application read T sort name rest (behind_byte 40 rest)
    word_read name rest h stops =
        let run : prefix_len is_word_byte (name ++ rest) ≡ length name = run_len is_word_byte name rest (both (not (length name == 0)) (list_all is_word_byte name) h).1 stops in
        let at : ℕ → Front Value = λ k. constant_or_application read T sort (take k (name ++ rest)) (drop k (name ++ rest)) (behind_byte 40 (drop k (name ++ rest))) in
        word_first name rest h ∙ ap at run
        ∙ (λ i. constant_or_application read T sort (take_front name rest i) (drop_front name rest i) (behind_byte 40 (drop_front name rest i)))

    quoted_read : (content rest : List ℕ) → value_front read T sort (quoted content ++ rest) ≡ beside (quoted_value T sort content) rest
    quoted_read content rest =
        ap (λ bs. at_content T sort (unquoted false bs)) (append_assoc (flat_map escape content) (34 ∷ []) rest)
        ∙ ap (at_content T sort) (unquoted_quoted content rest)

    null_read : (n : ℕ) (rest : List ℕ) → n < 10 ^ 9 → Ends rest → value_front read T sort (null_text n ++ rest) ≡ Some (value.Null n, rest)
    null_read n rest h ends =
        let bytes : List ℕ = decimal n ++ rest in
        let run : prefix_len is_ascii_digit (decimal n ++ rest) ≡ length (decimal n) = run_len is_ascii_digit (decimal n) rest (decimal_run n h) (ends_digits rest ends) in
        let at : ℕ → Front Value = λ k. beside (option_map value.Null (label_of (take k (decimal n ++ rest)))) (drop k (decimal n ++ rest)) in
        ap at run
        ∙ (λ i. beside (option_map value.Null (label_of (take_front (decimal n) rest i))) (drop_front (decimal n) rest i))
        ∙ ap (λ o. beside (option_map value.Null o) rest) (label_written n h)

  typed_at : (sort : ℕ) (c : Con) → constant_type T c ≡ Some sort → typed T sort c ≡ Some (value.Const c)
  typed_at sort c h = ap (λ o. cond (is_type o sort) (Some (value.Const c)) None) h ∙ ap (λ t. cond t (Some (value.Const c)) None) (same_itself sort)

  declared : (c sort : ℕ) → constant_type T (Named c) ≡ Some sort → (x : _) × (slice_get T.constants c ≡ Some x)
  declared c sort h = at_constant (slice_get T.constants c) refl h
    where
      at_constant : (o : Option _) → slice_get T.constants c ≡ o → option_map (λ x. x.1) o ≡ Some sort → (x : _) × (slice_get T.constants c ≡ Some x)
      at_constant None e h' = cc
      at_constant (Some x) e h' = (x, e)

  named_value : (sort : ℕ) (name : List ℕ) (c : Con) (found : List ℕ → Option Con) → is_name name ≡ true → found name ≡ Some c → constant_type T c ≡ Some sort
      → option_and_then (typed T sort) (option_and_then found (as_name name)) ≡ Some (value.Const c)
  named_value sort name c found is at typing =
      ap (λ o. option_and_then (typed T sort) (option_and_then found o)) (named name is)
      ∙ ap (option_and_then (typed T sort)) at ∙ typed_at sort c typing

  undeclared : (text : List ℕ) (sort : ℕ) → constant_type T (Open text) ≡ Some sort → number_of (constant_names T) text ≡ None
  undeclared text sort h = at_number (is_reserved text) (number_of (constant_names T) text) refl h
    where
      at_number : (r : Bool) (o : Option ℕ) → number_of (constant_names T) text ≡ o → cond (r || is_some o) None T.open_type ≡ Some sort → number_of (constant_names T) text ≡ None
      at_number r None e h' = e
      at_number true (Some n) e h' = cc
      at_number false (Some n) e h' = cc

  module _ (made : IsTypeside T) where
    number_of_constant : (c : ℕ) (x : _) → slice_get T.constants c ≡ Some x → number_of (constant_names T) (constant_name (slice_get T.constants c)) ≡ Some c
    number_of_constant c x at =
        ap (λ o. number_of (constant_names T) (constant_name o)) at ∙ number_of-part (λ x. x.0) T.constants c x made.distinct_constants at

    module _ (read : ℕ → List ℕ → Front Value) (sort : ℕ) (rest : List ℕ) (ends : Ends rest) where
      declared_read : (c : ℕ) → constant_type T (Named c) ≡ Some sort → is_name (content_of T (Named c)) ≡ true
          → value_front read T sort (con_text T (Named c) ++ rest) ≡ Some (value.Const (Named c), rest)
      declared_read c typing is = at_test (is_word name) refl
        where
          name : List ℕ
          name = constant_name (slice_get T.constants c)

          number : number_of (constant_names T) (constant_name (slice_get T.constants c)) ≡ Some c
          number = let at = declared c sort typing in number_of_constant c at.0 at.1

          at_test : (w : Bool) → is_word (constant_name (slice_get T.constants c)) ≡ w
              → value_front read T sort (con_text T (Named c) ++ rest) ≡ Some (value.Const (Named c), rest)
          at_test true w =
              let found : word_constant T (constant_name (slice_get T.constants c)) ≡ Some (Named c) = ap (option_map Named) number in
              ap (λ t. value_front read T sort (cond t (constant_name (slice_get T.constants c)) (quoted (constant_name (slice_get T.constants c))) ++ rest)) w
              ∙ word_read read sort (constant_name (slice_get T.constants c)) rest w (ends_word rest ends)
              ∙ ap (constant_or_application read T sort (constant_name (slice_get T.constants c)) rest) (unopened rest ends)
              ∙ ap (λ o. beside o rest) (named_value sort (constant_name (slice_get T.constants c)) (Named c) (word_constant T) is found typing)
          at_test false w =
              let found : quoted_constant T (constant_name (slice_get T.constants c)) ≡ Some (Named c)
              = ap (λ o. quoted_or_open o (constant_name (slice_get T.constants c))) number ∙ ap (λ t. cond t None (Some (Named c))) w in
              ap (λ t. value_front read T sort (cond t (constant_name (slice_get T.constants c)) (quoted (constant_name (slice_get T.constants c))) ++ rest)) w
              ∙ quoted_read read sort (constant_name (slice_get T.constants c)) rest
              ∙ ap (λ o. beside o rest) (named_value sort (constant_name (slice_get T.constants c)) (Named c) (quoted_constant T) is found typing)

      con_read : (c : Con) → constant_type T c ≡ Some sort → is_name (content_of T c) ≡ true → value_front read T sort (con_text T c ++ rest) ≡ Some (value.Const c, rest)
      con_read (Named c) typing is = declared_read c typing is
      con_read (Open text) typing is =
          let found : quoted_constant T text ≡ Some (Open text) = ap (λ o. quoted_or_open o text) (undeclared text sort typing) in
          quoted_read read sort text rest ∙ ap (λ o. beside o rest) (named_value sort text (Open text) (quoted_constant T) is found typing)

    function_found : (f sort : ℕ) (function : Function) → slice_get T.functions f ≡ Some function → function.result ≡ sort → is_name function.name ≡ true
        → option_and_then (function_for T sort) (as_name function.name) ≡ Some (f, function.args)
    function_found f sort function at gives is =
        ap (option_and_then (function_for T sort)) (named function.name is)
        ∙ ap (option_and_then (λ n. if_gives sort n (slice_get T.functions n))) (number_of-part (λ g. g.name) T.functions f function made.distinct_functions at)
        ∙ ap (if_gives sort f) at
        ∙ ap (λ r. cond (r == sort) (Some (f, function.args)) None) gives
        ∙ ap (λ t. cond t (Some (f, function.args)) None) (same_itself sort)

    module _ (read : ℕ → List ℕ → Front Value) (sort : ℕ) (rest : List ℕ) where
      application_read : (f : ℕ) (function : Function) (texts : List (List ℕ)) (args : List Value) → slice_get T.functions f ≡ Some function → function.result ≡ sort
          → is_word function.name ≡ true → is_name function.name ≡ true → arguments read function.args (with_commas texts ++ (41 ∷ rest)) ≡ Some (args, 41 ∷ rest)
          → value_front read T sort (application_text (function_name (slice_get T.functions f)) texts ++ rest) ≡ Some (value.Fun f args, rest)
      application_read f function texts args at gives word is each =
          ap (λ o. value_front read T sort (application_text (function_name o) texts ++ rest)) at
          ∙ ap (value_front read T sort) (regrouped function.name (with_commas texts))
          ∙ word_read read sort function.name (40 ∷ (with_commas texts ++ (41 ∷ rest))) word refl
          ∙ ap (λ o. applied read o (with_commas texts ++ (41 ∷ rest))) (function_found f sort function at gives is)
          ∙ ap (closed f) each
        where
          regrouped : (name inner : List ℕ) → (((name ++ (40 ∷ [])) ++ inner) ++ (41 ∷ [])) ++ rest ≡ name ++ (40 ∷ (inner ++ (41 ∷ rest)))
          regrouped name inner = simp append_assoc

    -- each value behind a text is read from it, with what stands behind
    abbrev pub IsReadBack : ℕ → ℕ → Value → Type 0
    IsReadBack levels sort v = (rest : List ℕ) → Ends rest → value_at T levels sort (value_text T v ++ rest) ≡ Some (v, rest)

    args_end : (texts : List (List ℕ)) (rest : List ℕ) → Ends (after_commas texts ++ (41 ∷ rest))
    args_end [] rest = (refl, refl, refl)
    args_end (text ∷ texts) rest = (refl, refl, refl)

    args_follow : (levels sort : ℕ) (sorts : List ℕ) (v : Value) (vs : List Value) (rest : List ℕ) → IsReadBack levels sort v
        → others (value_at T levels) sorts (after_commas (map (value_text T) vs) ++ (41 ∷ rest)) ≡ Some (vs, 41 ∷ rest)
        → joined (value_at T levels) (value_at T levels sort ((value_text T v ++ after_commas (map (value_text T) vs)) ++ (41 ∷ rest))) (others (value_at T levels) sorts)
        ≡ Some (v ∷ vs, 41 ∷ rest)
    args_follow levels sort sorts v vs rest first each =
        let after : List ℕ = after_commas (map (value_text T) vs) ++ (41 ∷ rest) in
        joined_on (value_at T levels) (value_at T levels sort ((value_text T v ++ after_commas (map (value_text T) vs)) ++ (41 ∷ rest))) (others (value_at T levels) sorts)
        v vs (after_commas (map (value_text T) vs) ++ (41 ∷ rest)) (41 ∷ rest)
        (ap (value_at T levels sort) (append_assoc (value_text T v) (after_commas (map (value_text T) vs)) (41 ∷ rest))
        ∙ first (after_commas (map (value_text T) vs) ++ (41 ∷ rest)) (args_end (map (value_text T) vs) rest))
        each

    constant_back : (levels sort : ℕ) (v : Value) (c : Con) → v ≡ value.Const c → constant_type T c ≡ Some sort → is_name (content_of T c) ≡ true → IsReadBack (suc levels) sort v
    unfolding value_at
    constant_back levels sort v c is typing name rest ends =
        ap (λ text. value_front (value_at T levels) T sort (text ++ rest)) (value_text-at_Const T v c is)
        ∙ con_read (value_at T levels) sort rest ends c typing name ∙ ap (λ w. Some (w, rest)) (sym is)

    null_back : (levels sort : ℕ) (v : Value) (label : ℕ) → v ≡ value.Null label → label < 10 ^ 9 → IsReadBack (suc levels) sort v
    unfolding value_at
    null_back levels sort v label is small rest ends =
        ap (λ text. value_front (value_at T levels) T sort (text ++ rest)) (value_text-at_Null T v label is)
        ∙ null_read (value_at T levels) sort label rest small ends ∙ ap (λ w. Some (w, rest)) (sym is)

    application_back : (levels sort : ℕ) (v : Value) (f : ℕ) (function : Function) (args : List Value) → v ≡ value.Fun f args → slice_get T.functions f ≡ Some function
        → function.result ≡ sort → is_word function.name ≡ true → is_name function.name ≡ true
        → ((rest : List ℕ) → arguments (value_at T levels) function.args (with_commas (map (value_text T) args) ++ (41 ∷ rest)) ≡ Some (args, 41 ∷ rest))
        → IsReadBack (suc levels) sort v
    unfolding value_at
    application_back levels sort v f function args is at gives word name each rest ends =
        ap (λ text. value_front (value_at T levels) T sort (text ++ rest)) (value_text-at_Fun T v f args is)
        ∙ application_read (value_at T levels) sort rest f function (map (value_text T) args) args at gives word name (each rest) ∙ ap (λ w. Some (w, rest)) (sym is)

    mutual
      pub read_back : {levels sort : ℕ} {v : Value} → IsWithin T levels sort v → (rest : List ℕ) → Ends rest → value_at T levels sort (value_text T v ++ rest) ≡ Some (v, rest)
      read_back {sort = sort} {v = v} (constant {levels = levels} c is typing name) rest ends = constant_back levels sort v c is typing name rest ends
      read_back {sort = sort} {v = v} (null {levels = levels} label is small) rest ends = null_back levels sort v label is small rest ends
      read_back {sort = sort} {v = v} (application {levels = levels} f function args is at gives word name each) rest ends =
          application_back levels sort v f function args is at gives word name (λ after. arguments_back each after) rest ends

      arguments_back : {levels : ℕ} {sorts : List ℕ} {vs : List Value} → AreWithin T levels sorts vs
          → (rest : List ℕ) → arguments (value_at T levels) sorts (with_commas (map (value_text T) vs) ++ (41 ∷ rest)) ≡ Some (vs, 41 ∷ rest)
      arguments_back none rest = refl
      arguments_back {levels = levels} (more {sort = sort} {sorts = sorts} {v = v} {vs = vs} first each) rest =
          args_follow levels sort sorts v vs rest (λ after ends. read_back first after ends) (others_back each rest)

      others_back : {levels : ℕ} {sorts : List ℕ} {vs : List Value} → AreWithin T levels sorts vs
          → (rest : List ℕ) → others (value_at T levels) sorts (after_commas (map (value_text T) vs) ++ (41 ∷ rest)) ≡ Some (vs, 41 ∷ rest)
      others_back none rest = refl
      others_back {levels = levels} (more {sort = sort} {sorts = sorts} {v = v} {vs = vs} first each) rest =
          args_follow levels sort sorts v vs rest (λ after ends. read_back first after ends) (others_back each rest)
