-- The records of entries.
use Rattle.std.proofs.Common.{ℕ, true, List, [], ◌∷◌, ◌++◌, Some, None, ◌≡◌, ◌+◌, ◌&&◌, cond, filter, map, sum, refl, sym, ap, ◌∙◌}
use Rattle.std.specs.Prelude.{codes, All}
use Rattle.std.specs.List.{flat_map}
use Rattle.std.specs.Str.{is_utf8}
use Rattle.std.proofs.lemmas.List.Elements.{All-head, All-tail}
use Rattle.std.proofs.lemmas.Str.{is_utf8-from_IsUtf8}
use Rattle.cq_theory.specs.declared.presentation.Equation.TheVariants.{Typ}
use Rattle.cq_theory.specs.declared.term.TypeTerm.{TypeTerm}
use Rattle.cq_theory.specs.declared.value.Entry.{Entry}
use Rattle.cq_theory.specs.declared.value.Value.{Value}
use Rattle.cq_theory.specs.declared.value.Value.TheVariants.{Fun}
use Rattle.cq_theory.specs.SchemaData.{SchemaData as Schema}
use Rattle.cq_theory.specs.TypesideData.{TypesideData as Typeside}
use Rattle.cq_theory.specs.Typeside.{IsTypeside}
use Rattle.cq_theory.specs.Canonical as canonical
use Rattle.cq_theory.specs.Tables.{IsSoundEntry, Tables, value_type}
use Rattle.cq_theory.specs.ValueText.{value_text}
use Rattle.cq_theory.proofs.Values.{fold-Fun, value_text-at_Fun}
use Rattle.cq_values.specs.Built.{built_in}
use Rattle.cq_values.specs.Readable.{IsReadable}
use Rattle.cq_values.specs.Reading.{value_in}
use Rattle.cq_import.specs.Entries.{entries_fault, entry_equations, entry_fault, is_null, lines_fault, null_use, nulls_fault, right_equations, right_fault, sides_equations, sides_fault, trouble_in, uses_fault}
use Rattle.cq_import.specs.Faults.{BadCell, NotCsv, or_else}
use Rattle.cq_import.specs.Labels.{Labels, uses_in, value_term}
use Rattle.cq_import.specs.Records.{field_in}
use Rattle.cq_import.specs.Rows.{is_row}
use Rattle.cq_csv.specs.Files.{entry_record}
use Rattle.cq_return.proofs.AllReadable.{IsReadableEntry}
use Rattle.cq_return.proofs.Built.{application_built, built_read}
use Rattle.cq_return.proofs.Given.{AreGiven}
use Rattle.cq_return.proofs.Reading.{text_read}
use Rattle.cq_return.proofs.Utf8.{ascii_text, value_utf8}
use Rattle.cq_return.proofs.Values.{has_term, has_uses, no_troubles}

module _ (S : Schema) (M : Tables) (made : IsTypeside S.typeside) (labels : Labels) (given : AreGiven M.algebra.nulls labels) where
  abbrev T : Typeside
  T = S.typeside

  abbrev first : ℕ
  first = sum M.sheet.counts

  module _ (e : Entry) (sound : IsSoundEntry S M e) (readable : IsReadableEntry S.typeside e) where
    abbrev left : Value
    left = Fun e.function e.args

    abbrev type : ℕ
    type = sound.function.result

    left_readable : IsReadable S.typeside sound.function.result (Fun e.function e.args)
    left_readable = (readable sound.function sound.known).0

    right_readable : IsReadable S.typeside sound.function.result e.value
    right_readable = (readable sound.function sound.known).1

    text_is : field_in (entry_record T e) 1 ≡ value_text T (Fun e.function e.args)
    text_is = sym (value_text-at_Fun T (Fun e.function e.args) e.function e.args refl)

    left_read : built_in S.typeside (field_in (entry_record S.typeside e) 1) ≡ Some (sound.function.result, Fun e.function e.args)
    left_read = ap (built_in T) text_is ∙ built_read T made type left left_readable (application_built e.function e.args)

    right_read : value_in S.typeside sound.function.result (value_text S.typeside e.value) ≡ Some e.value
    right_read = text_read T made type e.value right_readable

    no_uses : (file : List ℕ) (number column : ℕ) (v : Value) → value_type S M.algebra.nulls v ≡ Some sound.function.result → uses_fault S.typeside file labels number column v sound.function.result ≡ None
    no_uses file number column v typed =
        ap (λ t. trouble_in t (BadCell file number column)) (no_troubles labels (uses_in T v type) (has_uses S M.algebra.nulls labels given v type typed))

    pub entry_passes : (file : List ℕ) (number : ℕ) → entry_fault S.typeside file labels number (entry_record S.typeside e) ≡ None
    entry_passes file number =
        ap (λ o. sides_fault T file labels number o (value_text T e.value)) left_read
        ∙ ap (λ f. or_else f (right_fault T file labels number type (value_in T type (value_text T e.value)))) (no_uses file number 2 left sound.typed)
        ∙ ap (right_fault T file labels number type) right_read ∙ no_uses file number 3 e.value sound.same_type

    pub entry_says : entry_equations S.typeside (sum M.sheet.counts) labels (entry_record S.typeside e) ≡ canonical.entry_equation S M e ∷ []
    entry_says =
        let left_term : value_term first labels left ≡ canonical.value_term S M left = has_term S M labels given first refl left type sound.typed in
        let left_is : canonical.value_term S M left ≡ _ = fold-Fun TypeTerm (canonical.value_term_step S M) e.function e.args in
        let right_term : value_term first labels e.value ≡ canonical.value_term S M e.value = has_term S M labels given first refl e.value type sound.same_type in
        let left_side = left_term ∙ left_is in
        ap (λ o. sides_equations T first labels o (value_text T e.value)) left_read ∙ ap (right_equations T first labels left) right_read
        ∙ (λ j. Typ (left_side j) (right_term j) ∷ [])

    -- three fields of UTF-8
    pub entry_whole : is_row 3 (entry_record S.typeside e) ≡ true
    entry_whole =
        let one : is_utf8 (codes "entry") ≡ true = is_utf8-from_IsUtf8 (codes "entry") (ascii_text (codes "entry") refl) in
        let two : is_utf8 (field_in (entry_record T e) 1) ≡ true = ap is_utf8 text_is ∙ is_utf8-from_IsUtf8 (value_text T left) (value_utf8 T left_readable.within) in
        let three : is_utf8 (value_text T e.value) ≡ true = is_utf8-from_IsUtf8 (value_text T e.value) (value_utf8 T right_readable.within) in
        (λ j. one j && (two j && (three j && true)))

  pub entry_lines_pass : (file : List ℕ) (es : List Entry) → All (IsSoundEntry S M) es → All (IsReadableEntry S.typeside) es → (number : ℕ)
      → lines_fault file number (map (entry_record S.typeside) es) ≡ None
  entry_lines_pass file [] sound readable number = refl
  entry_lines_pass file (e ∷ es) sound readable number =
      ap (λ b. or_else (cond b None (Some (NotCsv file number))) (lines_fault file (number + 1) (map (entry_record T) es)))
      (entry_whole e (All-head (IsSoundEntry S M) e es sound) (All-head (IsReadableEntry T) e es readable))
      ∙ entry_lines_pass file es (All-tail (IsSoundEntry S M) e es sound) (All-tail (IsReadableEntry T) e es readable) (number + 1)

  pub entries_pass : (file : List ℕ) (es : List Entry) → All (IsSoundEntry S M) es → All (IsReadableEntry S.typeside) es → (number : ℕ)
      → entries_fault S.typeside file labels number (map (entry_record S.typeside) es) ≡ None
  entries_pass file [] sound readable number = refl
  entries_pass file (e ∷ es) sound readable number =
      ap (λ f. or_else f (entries_fault T file labels (number + 1) (map (entry_record T) es)))
      (entry_passes e (All-head (IsSoundEntry S M) e es sound) (All-head (IsReadableEntry T) e es readable) file number)
      ∙ entries_pass file es (All-tail (IsSoundEntry S M) e es sound) (All-tail (IsReadableEntry T) e es readable) (number + 1)

  pub entries_say : (es : List Entry) → All (IsSoundEntry S M) es → All (IsReadableEntry S.typeside) es
      → flat_map (entry_equations S.typeside (sum M.sheet.counts) labels) (map (entry_record S.typeside) es) ≡ map (canonical.entry_equation S M) es
  entries_say [] sound readable = refl
  entries_say (e ∷ es) sound readable =
      let one = entry_says e (All-head (IsSoundEntry S M) e es sound) (All-head (IsReadableEntry T) e es readable) in
      let others = entries_say es (All-tail (IsSoundEntry S M) e es sound) (All-tail (IsReadableEntry T) e es readable) in
      λ j. one j ++ others j

-- no record of an entry is one of a null
pub no_nulls : (T : Typeside) (es : List Entry) → map (null_use T) (filter is_null (map (entry_record T) es)) ≡ []
no_nulls T [] = refl
no_nulls T (e ∷ es) = no_nulls T es

pub no_null_fault : (T : Typeside) (file : List ℕ) (es : List Entry) (labels : Labels) (number : ℕ) → nulls_fault T file labels number (map (entry_record T) es) ≡ None
no_null_fault T file [] labels number = refl
no_null_fault T file (e ∷ es) labels number = no_null_fault T file es labels (number + 1)
