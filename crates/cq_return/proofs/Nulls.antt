-- The records of nulls.
use Rattle.std.proofs.Common.{ℕ, zero, suc, true, List, [], ◌∷◌, ◌++◌, Some, None, ◌≡◌, ◌<◌, ◌≤◌, ◌+◌, ◌&&◌, cond, filter, map, length, refl, sym, ap, ◌∙◌, arith}
use Rattle.std.specs.Prelude.{codes, slice_get, slice_index, is_some, option_and_then, All}
use Rattle.std.specs.List.{flat_map, range_with_len}
use Rattle.std.specs.Str.{is_utf8}
use Rattle.std.proofs.lemmas.List.FromFn.{map-range_with_len_more}
use Rattle.std.proofs.lemmas.Option.{slice_get-get_or}
use Rattle.std.proofs.lemmas.Str.{is_utf8-from_IsUtf8}
use Rattle.cq_base.specs.declared.name.Name.{Name}
use Rattle.cq_base.specs.Names.{number_of}
use Rattle.cq_theory.specs.TypesideData.{TypesideData as Typeside}
use Rattle.cq_theory.specs.Typeside.{IsTypeside}
use Rattle.cq_theory.specs.ValueText.{null_text}
use Rattle.cq_theory.specs.Canonical.{below}
use Rattle.cq_theory.proofs.OnValues.{All_at}
use Rattle.cq_values.specs.Built.{label_in}
use Rattle.cq_values.specs.Readable.{is_name}
use Rattle.cq_values.proofs.Naming.{named}
use Rattle.cq_values.proofs.Numbers.{label_written}
use Rattle.cq_values.proofs.Tabled.{number_of-at}
use Rattle.cq_text.specs.Transcript.{name_or_empty}
use Rattle.cq_import.specs.Entries.{entries_fault, entry_equations, is_new, is_null, kind_fault, lines_fault, null_use, nulls_fault, type_named, with_null}
use Rattle.cq_import.specs.Faults.{NotCsv, or_else}
use Rattle.cq_import.specs.Labels.{Labels, type_of_label}
use Rattle.cq_import.specs.Records.{Record, field_in}
use Rattle.cq_import.specs.Rows.{is_row}
use Rattle.cq_import.proofs.NullLines.{null_is, null_passes}
use Rattle.cq_csv.specs.Files.{null_record}
use Rattle.cq_return.proofs.Given.{not_yet, use_of}
use Rattle.cq_return.proofs.Utf8.{ascii_text, label_text, name_text}

module _ (T : Typeside) (made : IsTypeside T) (names : All (λ name. is_name name ≡ true) T.types)
    (nulls : List ℕ) (types : All (λ type. type < length T.types) nulls) (few : length nulls ≤ 16000000) where
  -- the record of a null
  abbrev pub line_of : ℕ → Record
  line_of label = null_record T label (slice_index nulls label)

  record IsTypeOf (label : ℕ) : Type 0 where
    name : Name
    there : slice_get T.types (slice_index nulls label) ≡ Some name
    is : is_name name ≡ true

  type_of : (label : ℕ) → label < length nulls → IsTypeOf label
  type_of label within =
      let inside : slice_index nulls label < length T.types = types label 0 within in
      let there = slice_get-get_or T.types (slice_index nulls label) [] inside in
      record { name = _; there = there; is = All_at (λ name. is_name name ≡ true) T.types (slice_index nulls label) _ names there }

  label_read : (label : ℕ) → label < length nulls → label_in (null_text label) ≡ Some label
  label_read label within = label_written label (omega arith)

  type_read : (label : ℕ) → label < length nulls → type_named T (field_in (line_of label) 2) ≡ Some (slice_index nulls label)
  type_read label within =
      let type = type_of label within in
      ap (λ o. type_named T (name_or_empty o)) type.there ∙ ap (option_and_then (number_of T.types)) (named type.name type.is)
      ∙ number_of-at T.types (slice_index nulls label) type.name made.distinct_types type.there

  use_is : (label : ℕ) → label < length nulls → null_use T (line_of label) ≡ use_of (slice_index nulls) label
  use_is label within = null_is T [] [] 0 (line_of label) label (slice_index nulls label) (label_read label within) (type_read label within)

  -- three fields of UTF-8
  line_whole : (label : ℕ) → label < length nulls → is_row 3 (line_of label) ≡ true
  line_whole label within =
      let type = type_of label within in
      let second : is_utf8 (null_text label) ≡ true = is_utf8-from_IsUtf8 (null_text label) (label_text label (omega arith)) in
      let third : is_utf8 (name_or_empty (slice_get T.types (slice_index nulls label))) ≡ true =
      ap (λ o. is_utf8 (name_or_empty o)) type.there ∙ is_utf8-from_IsUtf8 type.name (name_text type.name type.is) in
      let first : is_utf8 (codes "null") ≡ true = is_utf8-from_IsUtf8 (codes "null") (ascii_text (codes "null") refl) in
      (λ j. first j && (second j && (third j && true)))

  module _ (file : List ℕ) (rest : List Record) where
    pub lines_pass : ((number : ℕ) → lines_fault file number rest ≡ None) → (s n number : ℕ) → s + n ≤ length nulls
        → lines_fault file number (map line_of (range_with_len s n) ++ rest) ≡ None
    lines_pass others s zero number within = others number
    lines_pass others s (suc n) number within =
        ap (λ b. or_else (cond b None (Some (NotCsv file number))) (lines_fault file (number + 1) (map line_of (range_with_len (s + 1) n) ++ rest))) (line_whole s (omega arith))
        ∙ lines_pass others (s + 1) n (number + 1) (omega arith)

    one_passes : (label number : ℕ) (labels : Labels) → label < length nulls → labels ≡ map (use_of (slice_index nulls)) (below label) → kind_fault T file labels number (line_of label) ≡ None
    one_passes label number labels within are =
        let new : is_new labels (label_in (null_text label)) ≡ Some label =
        ap (is_new labels) (label_read label within)
        ∙ ap (λ o. cond (is_some o) None (Some label)) (ap (λ l. type_of_label l label) are ∙ not_yet (slice_index nulls) 0 label label (omega arith)) in
        null_passes T file labels number (line_of label) label new (slice_index nulls label) (type_read label within)

    pub nulls_pass : ((labels : Labels) (number : ℕ) → nulls_fault T file labels number rest ≡ None) → (s n number : ℕ) (labels : Labels) → s + n ≤ length nulls
        → labels ≡ map (use_of (slice_index nulls)) (below s) → nulls_fault T file labels number (map line_of (range_with_len s n) ++ rest) ≡ None
    nulls_pass others s zero number labels within are = others labels number
    nulls_pass others s (suc n) number labels within are =
        let one = use_is s (omega arith) in
        let longer : labels ++ null_use T (line_of s) ∷ [] ≡ map (use_of (slice_index nulls)) (below (s + 1)) =
        (λ j. are j ++ one j ∷ []) ∙ sym (map-range_with_len_more (use_of (slice_index nulls)) 0 s s (omega arith)) in
        ap (λ f. or_else f (nulls_fault T file (with_null T labels (line_of s)) (number + 1) (map line_of (range_with_len (s + 1) n) ++ rest))) (one_passes s number labels (omega arith) are)
        ∙ nulls_pass others (s + 1) n (number + 1) (labels ++ null_use T (line_of s) ∷ []) (omega arith) longer

    pub entries_after : (labels : Labels) → ((number : ℕ) → entries_fault T file labels number rest ≡ None) → (s n number : ℕ)
        → entries_fault T file labels number (map line_of (range_with_len s n) ++ rest) ≡ None
    entries_after labels others s zero number = others number
    entries_after labels others s (suc n) number = entries_after labels others (s + 1) n (number + 1)

  pub uses_are : (rest : List Record) (s n : ℕ) → s + n ≤ length nulls
      → map (null_use T) (filter is_null (map line_of (range_with_len s n) ++ rest)) ≡ map (use_of (slice_index nulls)) (range_with_len s n) ++ map (null_use T) (filter is_null rest)
  uses_are rest s zero within = refl
  uses_are rest s (suc n) within = let one = use_is s (omega arith) in let others = uses_are rest (s + 1) n (omega arith) in λ j. one j ∷ others j

  pub no_equations : (first : ℕ) (labels : Labels) (rest : List Record) (s n : ℕ)
      → flat_map (entry_equations T first labels) (map line_of (range_with_len s n) ++ rest) ≡ flat_map (entry_equations T first labels) rest
  no_equations first labels rest s zero = refl
  no_equations first labels rest s (suc n) = no_equations first labels rest (s + 1) n
