-- What is read is a value of the type, and its text stands at the front.
use Rattle.std.proofs.Common.{ℕ, zero, suc, List, [], ◌∷◌, ◌++◌, ◌≡◌, ◌+◌, ◌&&◌, Option, Some, None, Bool, true, false, map, length, take, drop, refl, sym, ap, subst, ◌∙◌, append_assoc, arith}
use Rattle.std.specs.Prelude.{cond, not, ◌==◌, option_map, option_and_then, slice_get}
use Rattle.std.specs.List.{prefix_len, flat_map}
use Rattle.std.specs.Char.{is_ascii_digit}
use Rattle.std.proofs.lemmas.Bool.Decides.{nat_tests}
use Rattle.std.proofs.lemmas.Option.{cond_some, some_pair_parts}
use Rattle.cq_base.specs.Names.{number_of}
use Rattle.cq_theory.specs.declared.constant.Con.{Con}
use Rattle.cq_theory.specs.declared.constant.Con.TheVariants.{Named, Open}
use Rattle.cq_theory.specs.declared.typeside.Fun.{Fun as Function}
use Rattle.cq_theory.specs.declared.value.Value.{Value}
use Rattle.cq_theory.specs.declared.value.Value.TheVariants as value
use Rattle.cq_theory.specs.TypesideData.{TypesideData as Typeside}
use Rattle.cq_theory.specs.Sorts.{is_type}
use Rattle.cq_theory.specs.Typeside.{constant_names, constant_type, function_names}
use Rattle.cq_theory.specs.ValueText.{is_word, is_word_byte, escape, quoted, constant_text, constant_name, con_text, null_text, application_text, after_commas, with_commas, function_name, value_text}
use Rattle.cq_theory.proofs.Values.{value_text-at_Const, value_text-at_Null, value_text-at_Fun}
use Rattle.cq_values.specs.Readable.{is_name, content_of, IsWithin, AreWithin, constant, null, application, none, more}
use Rattle.cq_values.specs.Reading.{Front, as_name, typed, word_constant, quoted_or_open, quoted_constant, unquoted, label_of, word_value, quoted_value, at_content, null_front, behind_byte, behind_comma, if_gives, function_for, joined, others, arguments, applied, constant_or_application, word_front, value_front, value_at}
use Rattle.cq_values.proofs.Numbers.{label_read}
use Rattle.cq_values.proofs.Tabled.{found_part}
use Rattle.cq_values.proofs.Runs.{run_passes, parted}
use Rattle.cq_values.proofs.Quoting.{quoted_unquoted}
use Rattle.cq_values.proofs.Steps.{byte_is, at_byte, at_comma, beside_back, joined_back, closed_back}

module _ (T : Typeside) where
  -- the value has this type and this text
  pub record IsTold (levels sort : ℕ) (v : Value) (text : List ℕ) : Type 0 where
    pub within : IsWithin T levels sort v
    pub text_is : value_text T v ≡ text

  abbrev pub IsAtFront : ℕ → ℕ → List ℕ → Value → List ℕ → Type 0
  IsAtFront levels sort bytes v rest = IsWithin T levels sort v × (bytes ≡ value_text T v ++ rest)

  -- constants
  is_of_type : (o : Option ℕ) (sort : ℕ) → is_type o sort ≡ true → o ≡ Some sort
  is_of_type None sort h = cc
  is_of_type (Some t) sort h = ap (λ (n : ℕ). Some n) (byte_is t sort h)

  pub record IsNamed (found : List ℕ → Option Con) (sort : ℕ) (name : List ℕ) (v : Value) : Type 0 where
    pub con : Con
    pub name_is : is_name name ≡ true
    pub found_is : found name ≡ Some con
    pub typing : constant_type T con ≡ Some sort
    pub value_is : v ≡ value.Const con

  named_back : (found : List ℕ → Option Con) (sort : ℕ) (name : List ℕ) (v : Value)
      → option_and_then (typed T sort) (option_and_then found (as_name name)) ≡ Some v → IsNamed found sort name v
  named_back found sort name v h = at_name (is_name name) refl h
    where
      at_con : (o : Option Con) → is_name name ≡ true → found name ≡ o → option_and_then (typed T sort) o ≡ Some v → IsNamed found sort name v
      at_con None n e h' = cc
      at_con (Some c) n e h' =
          let parts = cond_some (is_type (constant_type T c) sort) (value.Const c) v h' in
          record { con = c; name_is = n; found_is = e; typing = is_of_type (constant_type T c) sort parts.0; value_is = sym parts.1 }

      at_name : (t : Bool) → is_name name ≡ t → option_and_then (typed T sort) (option_and_then found (cond t (Some name) None)) ≡ Some v → IsNamed found sort name v
      at_name true n h' = at_con (found name) n refl h'
      at_name false n h' = cc

  -- a constant that stands for a name, and its text
  pub record HasContent (c : Con) (name text : List ℕ) : Type 0 where
    pub content : content_of T c ≡ name
    pub text_is : con_text T c ≡ text

  told : (levels : ℕ) (found : List ℕ → Option Con) (sort : ℕ) (name text : List ℕ) (v : Value) → (n : IsNamed found sort name v) → HasContent n.con name text → IsTold (suc levels) sort v text
  told levels found sort name text v n c = record {
    within = constant n.con n.value_is n.typing (ap is_name c.content ∙ n.name_is);
    text_is = value_text-at_Const T v n.con n.value_is ∙ c.text_is;
  }

  number_content : (name : List ℕ) (n : ℕ) → number_of (constant_names T) name ≡ Some n → constant_name (slice_get T.constants n) ≡ name
  number_content name n h =
      let found = found_part (λ x. x.0) T.constants name n h in
      ap constant_name found.1 ∙ found.2

  word_content : (name : List ℕ) (c : Con) → is_word name ≡ true → word_constant T name ≡ Some c → HasContent c name name
  word_content name c word h = at_number (number_of (constant_names T) name) refl h
    where
      at_number : (o : Option ℕ) → number_of (constant_names T) name ≡ o → option_map Named o ≡ Some c → HasContent c name name
      at_number None e h' = cc
      at_number (Some n) e h' =
          let is : Named n ≡ c = cc in
          let here = number_content name n e in
          subst (λ d. HasContent d name name) is (record { content = here; text_is = ap constant_text here ∙ ap (λ t. cond t name (quoted name)) word })

  quoted_content : (name : List ℕ) (c : Con) → quoted_constant T name ≡ Some c → HasContent c name (quoted name)
  quoted_content name c h = at_number (number_of (constant_names T) name) refl h
    where
      at_word : (n : ℕ) (t : Bool) → number_of (constant_names T) name ≡ Some n → is_word name ≡ t → cond t None (Some (Named n)) ≡ Some c → HasContent c name (quoted name)
      at_word n true e w h' = cc
      at_word n false e w h' =
          let is : Named n ≡ c = cc in
          let here = number_content name n e in
          subst (λ d. HasContent d name (quoted name)) is (record { content = here; text_is = ap constant_text here ∙ ap (λ t. cond t name (quoted name)) w })

      at_number : (o : Option ℕ) → number_of (constant_names T) name ≡ o → quoted_or_open o name ≡ Some c → HasContent c name (quoted name)
      at_number None e h' =
          let is : Open name ≡ c = cc in
          subst (λ d. HasContent d name (quoted name)) is (record { content = refl; text_is = refl })
      at_number (Some n) e h' = at_word n (is_word name) e refl h'

  module _ (levels sort : ℕ) where
    word_told : (name : List ℕ) (v : Value) → is_word name ≡ true → word_value T sort name ≡ Some v → IsTold (suc levels) sort v name
    word_told name v word h =
        let n = named_back (word_constant T) sort name v h in
        told levels (word_constant T) sort name name v n (word_content name n.con word n.found_is)

    quoted_told : (content : List ℕ) (v : Value) → quoted_value T sort content ≡ Some v → IsTold (suc levels) sort v (quoted content)
    quoted_told content v h =
        let n = named_back (quoted_constant T) sort content v h in
        told levels (quoted_constant T) sort content (quoted content) v n (quoted_content content n.con n.found_is)

    at_front : (bytes text rest : List ℕ) (v : Value) → IsTold (suc levels) sort v text → bytes ≡ text ++ rest → IsAtFront (suc levels) sort bytes v rest
    at_front bytes text rest v t h = (t.within, h ∙ ap (λ z. z ++ rest) (sym t.text_is))

    -- a quoted text behind its opening quote
    quoted_front : (bytes : List ℕ) (v : Value) (rest : List ℕ) → at_content T sort (unquoted false bytes) ≡ Some (v, rest) → IsAtFront (suc levels) sort (34 ∷ bytes) v rest
    quoted_front bytes v rest h = at_found (unquoted false bytes) refl h
      where
        at_found : (o : Front (List ℕ)) → unquoted false bytes ≡ o → at_content T sort o ≡ Some (v, rest) → IsAtFront (suc levels) sort (34 ∷ bytes) v rest
        at_found None e h' = cc
        at_found (Some x) e h' =
            let parts = beside_back (quoted_value T sort x.0) x.1 v rest h' in
            let is = quoted_unquoted bytes x.0 x.1 e in
            at_front (34 ∷ bytes) (quoted x.0) rest v (quoted_told x.0 v parts.0)
            (ap (λ z. 34 ∷ z) (is ∙ ap (λ r. flat_map escape x.0 ++ (34 ∷ r)) parts.1 ∙ sym (append_assoc (flat_map escape x.0) (34 ∷ []) rest)))

    -- a null behind its question mark
    null_told : (bytes : List ℕ) (v : Value) (rest : List ℕ) → null_front bytes ≡ Some (v, rest) → IsAtFront (suc levels) sort (63 ∷ bytes) v rest
    null_told bytes v rest h =
        let count : ℕ = prefix_len is_ascii_digit bytes in
        let parts = beside_back (option_map value.Null (label_of (take (prefix_len is_ascii_digit bytes) bytes))) (drop (prefix_len is_ascii_digit bytes) bytes) v rest h in
        at_label (take (prefix_len is_ascii_digit bytes) bytes) (label_of (take (prefix_len is_ascii_digit bytes) bytes)) refl parts.0
        (parted (prefix_len is_ascii_digit bytes) bytes ∙ ap (λ r. take (prefix_len is_ascii_digit bytes) bytes ++ r) parts.1)
      where
        at_label : (ds : List ℕ) (o : Option ℕ) → label_of ds ≡ o → option_map value.Null o ≡ Some v → bytes ≡ ds ++ rest → IsAtFront (suc levels) sort (63 ∷ bytes) v rest
        at_label ds None e h' is = cc
        at_label ds (Some n) e h' is =
            let v_is : v ≡ value.Null n = cc in
            let label = label_read ds n e in
            at_front (63 ∷ bytes) (null_text n) rest v (record { within = null n v_is label.1; text_is = value_text-at_Null T v n v_is })
            (ap (λ z. 63 ∷ z) (is ∙ ap (λ d. d ++ rest) label.0))

  -- functions by their names
  pub record IsFunction (sort : ℕ) (name : List ℕ) (f : ℕ) (sorts : List ℕ) : Type 0 where
    pub function : Function
    pub name_is : is_name name ≡ true
    pub there : slice_get T.functions f ≡ Some function
    pub named : function.name ≡ name
    pub gives : function.result ≡ sort
    pub args_are : function.args ≡ sorts

  function_back : (sort : ℕ) (name : List ℕ) (f : ℕ) (sorts : List ℕ) → option_and_then (function_for T sort) (as_name name) ≡ Some (f, sorts) → IsFunction sort name f sorts
  function_back sort name f sorts h = at_name (is_name name) refl h
    where
      at_result : (n : ℕ) (function : Function) (t : Bool) → is_name name ≡ true → number_of (function_names T) name ≡ Some n → slice_get T.functions n ≡ Some function
          → (function.result == sort) ≡ t → cond {A = Option (ℕ × List ℕ)} t (Some (n, function.args)) None ≡ Some (f, sorts) → IsFunction sort name f sorts
      at_result n function true is e there r h' =
          let parts = some_pair_parts n f function.args sorts h' in
          let found = found_part (λ g. g.name) T.functions name n e in
          let same : function ≡ found.0 = cc (there, found.1) in
          record {
            function = function;
            name_is = is;
            there = ap (slice_get T.functions) (sym parts.0) ∙ there;
            named = ap (λ g. g.name) same ∙ found.2;
            gives = byte_is function.result sort r;
            args_are = parts.1;
          }
      at_result n function false is e there r h' = cc

      at_function : (n : ℕ) (o : Option Function) → is_name name ≡ true → number_of (function_names T) name ≡ Some n → slice_get T.functions n ≡ o
          → if_gives sort n o ≡ Some (f, sorts) → IsFunction sort name f sorts
      at_function n None is e there h' = cc
      at_function n (Some function) is e there h' = at_result n function (function.result == sort) is e there refl h'

      at_number : (o : Option ℕ) → is_name name ≡ true → number_of (function_names T) name ≡ o
          → option_and_then (λ n. if_gives sort n (slice_get T.functions n)) o ≡ Some (f, sorts) → IsFunction sort name f sorts
      at_number None is e h' = cc
      at_number (Some n) is e h' = at_function n (slice_get T.functions n) is e refl h'

      at_name : (t : Bool) → is_name name ≡ t → option_and_then (function_for T sort) (cond t (Some name) None) ≡ Some (f, sorts) → IsFunction sort name f sorts
      at_name true is h' = at_number (number_of (function_names T) name) is refl h'
      at_name false is h' = cc

  abbrev pub IsSound : ℕ → Type 0
  IsSound levels = (sort : ℕ) (bytes : List ℕ) (v : Value) (rest : List ℕ) → value_at T levels sort bytes ≡ Some (v, rest) → IsAtFront levels sort bytes v rest

  module _ (levels : ℕ) (sound : IsSound levels) where
    -- a first value and others, from their front on
    pub record IsRow (sort : ℕ) (sorts bytes : List ℕ) (vs : List Value) (rest : List ℕ) : Type 0 where
      pub head : Value
      pub tail : List Value
      pub are : vs ≡ head ∷ tail
      pub within : AreWithin T levels (sort ∷ sorts) vs
      pub text_is : bytes ≡ (value_text T head ++ after_commas (map (value_text T) tail)) ++ rest

    abbrev AreOthers : List ℕ → Type 0
    AreOthers sorts = (bytes : List ℕ) (vs : List Value) (rest : List ℕ) → others (value_at T levels) sorts bytes ≡ Some (vs, rest)
        → AreWithin T levels sorts vs × (bytes ≡ after_commas (map (value_text T) vs) ++ rest)

    row : (sort : ℕ) (sorts : List ℕ) → AreOthers sorts → (bytes : List ℕ) (vs : List Value) (rest : List ℕ)
        → joined (value_at T levels) (value_at T levels sort bytes) (others (value_at T levels) sorts) ≡ Some (vs, rest) → IsRow sort sorts bytes vs rest
    row sort sorts each bytes vs rest h =
        let j = joined_back (value_at T levels) (value_at T levels sort bytes) (others (value_at T levels) sorts) vs rest h in
        let first = sound sort bytes j.head j.between j.head_is in
        let next = each j.between j.tail rest j.tail_is in
        record {
          head = j.head;
          tail = j.tail;
          are = j.are;
          within = subst (AreWithin T levels (sort ∷ sorts)) (sym j.are) (more first.0 next.0);
          text_is = first.1 ∙ ap (λ z. value_text T j.head ++ z) next.1 ∙ sym (append_assoc (value_text T j.head) (after_commas (map (value_text T) j.tail)) rest);
        }

    no_others : (bytes : List ℕ) (vs : List Value) (rest : List ℕ) → ◌≡◌ {A = Front (List Value)} (Some ([], bytes)) (Some (vs, rest)) → AreWithin T levels [] vs × (vs ≡ []) × (bytes ≡ rest)
    no_others bytes vs rest h =
        let parts = some_pair_parts [] vs bytes rest h in
        (subst (AreWithin T levels []) parts.0 none, sym parts.0, parts.1)

    one_other : (sort : ℕ) (sorts : List ℕ) → AreOthers sorts → AreOthers (sort ∷ sorts)
    one_other sort sorts each bytes vs rest h = at_sign (behind_comma bytes) refl h
      where
        at_sign : (o : Option (List ℕ)) → behind_comma bytes ≡ o
            → option_and_then (λ after. joined (value_at T levels) (value_at T levels sort after) (others (value_at T levels) sorts)) o ≡ Some (vs, rest)
            → AreWithin T levels (sort ∷ sorts) vs × (bytes ≡ after_commas (map (value_text T) vs) ++ rest)
        at_sign None e h' = cc
        at_sign (Some after) e h' =
            let r = row sort sorts each after vs rest h' in
            (r.within, at_comma bytes after e ∙ ap (λ z. 44 ∷ 32 ∷ z) r.text_is ∙ ap (λ us. after_commas (map (value_text T) us) ++ rest) (sym r.are))

    others_sound : (sorts : List ℕ) → AreOthers sorts
    others_sound [] bytes vs rest h =
        let parts = no_others bytes vs rest h in
        (parts.0, parts.2 ∙ ap (λ us. after_commas (map (value_text T) us) ++ rest) (sym parts.1))
    others_sound (sort ∷ sorts) bytes vs rest h = one_other sort sorts (others_sound sorts) bytes vs rest h

    arguments_sound : (sorts bytes : List ℕ) (vs : List Value) (rest : List ℕ) → arguments (value_at T levels) sorts bytes ≡ Some (vs, rest)
        → AreWithin T levels sorts vs × (bytes ≡ with_commas (map (value_text T) vs) ++ rest)
    arguments_sound [] bytes vs rest h =
        let parts = no_others bytes vs rest h in
        (parts.0, parts.2 ∙ ap (λ us. with_commas (map (value_text T) us) ++ rest) (sym parts.1))
    arguments_sound (sort ∷ sorts) bytes vs rest h =
        let r = row sort sorts (others_sound sorts) bytes vs rest h in
        (r.within, r.text_is ∙ ap (λ us. with_commas (map (value_text T) us) ++ rest) (sym r.are))

    module _ (sort : ℕ) where
      applied_front : (name inner : List ℕ) (v : Value) (rest : List ℕ) → is_word name ≡ true
          → applied (value_at T levels) (option_and_then (function_for T sort) (as_name name)) inner ≡ Some (v, rest)
          → IsAtFront (suc levels) sort (name ++ (40 ∷ inner)) v rest
      applied_front name inner v rest word h = at_function (option_and_then (function_for T sort) (as_name name)) refl h
        where
          regrouped : (inside : List ℕ) → name ++ (40 ∷ (inside ++ (41 ∷ rest))) ≡ (((name ++ (40 ∷ [])) ++ inside) ++ (41 ∷ [])) ++ rest
          regrouped inside = simp append_assoc

          at_function : (o : Option (ℕ × List ℕ)) → option_and_then (function_for T sort) (as_name name) ≡ o → applied (value_at T levels) o inner ≡ Some (v, rest)
              → IsAtFront (suc levels) sort (name ++ (40 ∷ inner)) v rest
          at_function None e h' = cc
          at_function (Some g) e h' =
              let f = function_back sort name g.0 g.1 e in
              let c = closed_back g.0 (arguments (value_at T levels) g.1 inner) v rest h' in
              let each = arguments_sound g.1 inner c.args (41 ∷ rest) c.found_is in
              let texts : List (List ℕ) = map (value_text T) c.args in
              at_front levels sort (name ++ (40 ∷ inner)) (application_text name (map (value_text T) c.args)) rest v
              (record {
                within = application g.0 f.function c.args c.is f.there f.gives (ap is_word f.named ∙ word) (ap is_name f.named ∙ f.name_is)
                    (subst (λ sorts. AreWithin T levels sorts c.args) (sym f.args_are) each.0);
                text_is = value_text-at_Fun T v g.0 c.args c.is ∙ ap (λ o. application_text (function_name o) (map (value_text T) c.args)) f.there
                    ∙ ap (λ n. application_text n (map (value_text T) c.args)) f.named;
              })
              (ap (λ z. name ++ (40 ∷ z)) each.1 ∙ regrouped (with_commas (map (value_text T) c.args)))

      word_or_application : (name after : List ℕ) (v : Value) (rest : List ℕ) → is_word name ≡ true
          → constant_or_application (value_at T levels) T sort name after (behind_byte 40 after) ≡ Some (v, rest) → IsAtFront (suc levels) sort (name ++ after) v rest
      word_or_application name after v rest word h = at_bracket (behind_byte 40 after) refl h
        where
          at_bracket : (o : Option (List ℕ)) → behind_byte 40 after ≡ o → constant_or_application (value_at T levels) T sort name after o ≡ Some (v, rest)
              → IsAtFront (suc levels) sort (name ++ after) v rest
          at_bracket None e h' =
              let parts = beside_back (word_value T sort name) after v rest h' in
              at_front levels sort (name ++ after) name rest v (word_told levels sort name v word parts.0) (ap (λ r. name ++ r) parts.1)
          at_bracket (Some inner) e h' =
              let found = applied_front name inner v rest word h' in
              (found.0, ap (λ z. name ++ z) (at_byte 40 after inner e) ∙ found.1)

      word_is : (b : ℕ) (bs : List ℕ) → is_word_byte b ≡ true → is_word (take (prefix_len is_word_byte (b ∷ bs)) (b ∷ bs)) ≡ true
      word_is b bs h =
          let first : prefix_len is_word_byte (b ∷ bs) ≡ suc (prefix_len is_word_byte bs)
          = ap (λ t. cond t (1 + prefix_len is_word_byte bs) 0) h ∙ one_more (prefix_len is_word_byte bs) in
          let some : not (length (take (prefix_len is_word_byte (b ∷ bs)) (b ∷ bs)) == 0) ≡ true
          = ap (λ n. not (length (take n (b ∷ bs)) == 0)) first ∙ some_length (length (take (prefix_len is_word_byte bs) bs)) in
          (λ i. some i && run_passes is_word_byte (b ∷ bs) i)
        where
          one_more : (n : ℕ) → 1 + n ≡ suc n
          one_more n = omega arith

          some_length : (n : ℕ) → not (suc n == 0) ≡ true
          some_length n = grind (arith, nat_tests)

      word_sound : (b : ℕ) (bs : List ℕ) (v : Value) (rest : List ℕ) → is_word_byte b ≡ true → word_front (value_at T levels) T sort (b ∷ bs) ≡ Some (v, rest)
          → IsAtFront (suc levels) sort (b ∷ bs) v rest
      word_sound b bs v rest h found =
          let count : ℕ = prefix_len is_word_byte (b ∷ bs) in
          let at = word_or_application (take (prefix_len is_word_byte (b ∷ bs)) (b ∷ bs)) (drop (prefix_len is_word_byte (b ∷ bs)) (b ∷ bs)) v rest (word_is b bs h) found in
          (at.0, parted (prefix_len is_word_byte (b ∷ bs)) (b ∷ bs) ∙ at.1)

      front_sound : (bytes : List ℕ) (v : Value) (rest : List ℕ) → value_front (value_at T levels) T sort bytes ≡ Some (v, rest) → IsAtFront (suc levels) sort bytes v rest
      front_sound [] v rest h = cc
      front_sound (b ∷ bs) v rest h = at_tests (b == 34) refl (b == 63) refl (is_word_byte b) refl h
        where
          at_tests : (q : Bool) → (b == 34) ≡ q → (n : Bool) → (b == 63) ≡ n → (w : Bool) → is_word_byte b ≡ w
              → cond q (at_content T sort (unquoted false bs)) (cond n (null_front bs) (cond w (word_front (value_at T levels) T sort (b ∷ bs)) None)) ≡ Some (v, rest)
              → IsAtFront (suc levels) sort (b ∷ bs) v rest
          at_tests true i n j w k h' =
              let found = quoted_front levels sort bs v rest h' in (found.0, ap (λ z. z ∷ bs) (byte_is b 34 i) ∙ found.1)
          at_tests false i true j w k h' =
              let found = null_told levels sort bs v rest h' in (found.0, ap (λ z. z ∷ bs) (byte_is b 63 j) ∙ found.1)
          at_tests false i false j true k h' = word_sound b bs v rest k h'
          at_tests false i false j false k h' = cc

  -- what is read at the front
  pub sound : (levels : ℕ) → IsSound levels
  unfolding value_at
  sound zero sort bytes v rest h = cc
  sound (suc levels) sort bytes v rest h = front_sound levels (sound levels) sort bytes v rest h
