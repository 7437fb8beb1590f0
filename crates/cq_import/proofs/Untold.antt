-- The files of a folder that tells none: those that were read.
use Rattle.std.proofs.Common.{ℕ, zero, suc, Bool, true, false, List, [], ◌∷◌, ◌++◌, ◌+◌, ◌<◌, ◌≤◌, ◌≡◌, ◌≢◌, ◌⊎◌, Option, Some, None, inl, inr, length, map, get_or, refl, sym, ap, subst, ◌∙◌, append_assoc, arith}
use Rattle.std.specs.Prelude.{IfSome, replicate, string_bytes, slice_get, codes, if◌then◌else◌}
use Rattle.std.specs.Cmp.Lexicographic.{bytes_decides}
use Rattle.std.specs.List.{IsDistinct, AllByRecursion}
use Rattle.std.specs.Str.{bytes_eq}
use Rattle.std.proofs.lemmas.Bool.{cases_Bool}
use Rattle.std.proofs.lemmas.List.{append_cancel_left, append_cancel_right, get_or-map, length-map, length-replicate}
use Rattle.std.proofs.lemmas.Option.{slice_get-get_or}
use Rattle.cq_base.specs.declared.name.Name.{Name}
use Rattle.cq_base.specs.Names.{AreDistinct, same_name}
use Rattle.cq_io.specs.Content.{File, find_file}
use Rattle.cq_theory.specs.SchemaData.{SchemaData as Schema}
use Rattle.cq_theory.specs.Schema.{IsSchema}
use Rattle.cq_import.specs.declared.entity_file.EntityFile.{EntityFile}
use Rattle.cq_import.specs.declared.refusal.CsvRefusal.{CsvRefusal}
use Rattle.cq_import.specs.declared.refusal.CsvRefusal.TheVariants as refusal
use Rattle.cq_import.specs.Folders.{AreRead, IsRead, IsRefused, IsUnread, IsWrong, name_of}
use Rattle.cq_import.specs.Imports.{file_name, most_bytes, name_at}
use Rattle.cq_import.proofs.Imported.{item_at}

-- no two names of a list in which none stands twice are one
behind_types : (types entities : List Name) → IsDistinct same_name (types ++ entities) → IsDistinct same_name entities
unfolding IsDistinct
behind_types [] entities distinct = distinct
behind_types (t ∷ types) entities distinct = behind_types types entities distinct.1

all_at : (P : Name → Type 0) (xs : List Name) (k : ℕ) (d : Name) → AllByRecursion P xs → k < length xs → P (get_or xs k d)
all_at P [] k d all within = absurd (omega arith)
all_at P (x ∷ xs) zero d all within = all.0
all_at P (x ∷ xs) (suc k) d all within = all_at P xs k d all.1 (omega arith)

apart : (xs : List Name) (i j : ℕ) (d : Name) → IsDistinct same_name xs → i < j → j < length xs → same_name (get_or xs i d) (get_or xs j d) ≡ false
unfolding IsDistinct
apart [] i j d distinct less within = absurd (omega arith)
apart (x ∷ xs) i zero d distinct less within = absurd (omega arith)
apart (x ∷ xs) zero (suc j) d distinct less within = all_at (λ y. same_name x y ≡ false) xs j d distinct.0 (omega arith)
apart (x ∷ xs) (suc i) (suc j) d distinct less within = apart xs i j d distinct.1 (omega arith) (omega arith)

-- files found by their names
finds : (name : List ℕ) (pairs extra : List File) (e : ℕ) (d : File) → e < length pairs → ((k : ℕ) → k < e → bytes_eq (get_or pairs k d).0 name ≡ false) → bytes_eq (get_or pairs e d).0 name ≡ true
    → find_file name (pairs ++ extra) ≡ Some (get_or pairs e d).1
finds name [] extra e d within before here = absurd (omega arith)
finds name (p ∷ pairs) extra zero d within before here = ap (λ b. if b then Some p.1 else find_file name (pairs ++ extra)) here
finds name (p ∷ pairs) extra (suc e) d within before here =
    ap (λ b. if b then Some p.1 else find_file name (pairs ++ extra)) (before zero (omega arith)) ∙ finds name pairs extra e d (omega arith) (λ k less. before (suc k) (omega arith)) here

misses : (name : List ℕ) (pairs extra : List File) (d : File) → ((k : ℕ) → k < length pairs → bytes_eq (get_or pairs k d).0 name ≡ false) → find_file name (pairs ++ extra) ≡ find_file name extra
misses name [] extra d none = refl
misses name (p ∷ pairs) extra d none =
    ap (λ b. if b then Some p.1 else find_file name (pairs ++ extra)) (none zero (omega arith)) ∙ misses name pairs extra d (λ k less. none (suc k) (omega arith))

-- a text that is longer
pub a_longer : (n : ℕ) → (text : List ℕ) × (n < length text)
a_longer n = (replicate (n + 1) 0, omega (arith, length-replicate {A = ℕ} (n + 1) 0))

same_itself : (a : List ℕ) → bytes_eq a a ≡ true
same_itself a = (bytes_decides a a).1 refl

unlike : (a b : List ℕ) → (a ≡ b → ⊥) → bytes_eq a b ≡ false
unlike a b never = elim (cases_Bool (bytes_eq a b)) [
  | inl same ↦ absurd (never ((bytes_decides a b).0 same))
  | inr other ↦ other
]

module _ (dir : Name) (S : Schema) (schema : IsSchema S) where
  -- a file's name tells its entity's name
  one_name : (a b : Name) → file_name dir a ≡ file_name dir b → a ≡ b
  one_name a b same = append_cancel_left (dir ++ codes "/") a b (append_cancel_right (dir ++ codes "/" ++ a) (dir ++ codes "/" ++ b) (codes ".csv") same)

  name_is : (e : ℕ) (d : Name) → e < length S.entities → name_at (slice_get S.entities e) ≡ get_or S.entities e d
  name_is e d within = ap name_at (slice_get-get_or S.entities e d within)

  differ : (i j : ℕ) → i < j → j < length S.entities → name_of dir S i ≡ name_of dir S j → ⊥
  differ i j less within same =
      let d : Name = [] in
      let names = sym (name_is i d (omega arith)) ∙ one_name _ _ same ∙ name_is j d within in
      let other = apart S.entities i j d (behind_types S.typeside.types S.entities schema.distinct_sorts) less within in
      cc (sym other ∙ ap (λ n. same_name n (get_or S.entities j d)) names ∙ same_itself (get_or S.entities j d))

  abbrev pub pair_of : EntityFile → File
  pair_of file = (string_bytes file.name, file.text.items)

  pub files_in : List EntityFile → List File
  files_in made = map pair_of made

  abbrev no_file : File
  no_file = ([], [])

  module _ (made : List EntityFile) (read : AreRead dir S None made) (few : length made ≤ length S.entities) where
    named : (k : ℕ) → k < length made → (get_or (map pair_of made) k no_file).0 ≡ name_of dir S k
    named k within =
        let d = item_at made k within in
        ap (λ (p : File). p.0) (get_or-map pair_of made k d no_file within) ∙ (read k d within).named

    -- what was read is found, whatever comes behind
    pub settled : (extra : List File) → AreRead dir S (Some (map pair_of made ++ extra)) made
    settled extra e d2 within =
        let one = read e d2 within in
        let pairs = map pair_of made in
        let inside : e < length pairs = omega (arith, length-map made pair_of) in
        let before : (k : ℕ) → k < e → bytes_eq (get_or pairs k no_file).0 (name_of dir S e) ≡ false = λ k less.
        let there : k < length made = omega arith in
        let fits : e < length S.entities = omega arith in
        ap (λ n. bytes_eq n (name_of dir S e)) (named k there) ∙ unlike _ _ (differ k e less fits) in
        let here : bytes_eq (get_or pairs e no_file).0 (name_of dir S e) ≡ true = ap (λ n. bytes_eq n (name_of dir S e)) (named e within) ∙ same_itself (name_of dir S e) in
        let text : (get_or pairs e no_file).1 ≡ (get_or made e d2).text.items =
        ap (λ (p : File). p.1) (get_or-map pair_of made e d2 no_file within) in
        record {
          named = one.named;
          short = one.short;
          found = finds (name_of dir S e) pairs extra e no_file inside before here ∙ ap Some text;
          passed = one.passed;
        }

    -- nothing that was read has the next entity's name
    pub not_read : (extra : List File) → length made < length S.entities → find_file (name_of dir S (length made)) (map pair_of made ++ extra) ≡ find_file (name_of dir S (length made)) extra
    not_read extra less =
        misses (name_of dir S (length made)) (map pair_of made) extra no_file
        (λ k within.
        let there : k < length made = omega (arith, length-map made pair_of) in
        ap (λ n. bytes_eq n (name_of dir S (length made))) (named k there) ∙ unlike _ _ (differ k (length made) there less))

    found_next : (text : List ℕ) → length made < length S.entities → find_file (name_of dir S (length made)) (map pair_of made ++ (name_of dir S (length made), text) ∷ []) ≡ Some text
    found_next text less =
        not_read ((name_of dir S (length made), text) ∷ []) less ∙ ap (λ b. if b then Some text else None) (same_itself (name_of dir S (length made)))

    -- some files over which reading stops so
    pub settled_refused : (r : CsvRefusal) → length made < length S.entities → IsRefused dir S None (length made) r
        → (extra : List File) × IsRefused dir S (Some (map pair_of made ++ extra)) (length made) r
    settled_refused r less (inr wrong) =
        ((name_of dir S (length made), wrong.text) ∷ [], inr (record { text = wrong.text; short = wrong.short; found = found_next wrong.text less; refuses = wrong.refuses }))
    settled_refused (refusal.Absent file) less (inl unread) = ([], inl (unread.0, not_read [] less))
    settled_refused (refusal.TooLong file) less (inl unread) =
        let long = a_longer most_bytes in
        ((name_of dir S (length made), long.0) ∷ [], inl (unread.0, record { content = long.0; found = found_next long.0 less; longer = long.1 }))
    settled_refused (refusal.ReadFault file) less (inl unread) = ([], inl unread)
    settled_refused refusal.Memory less (inl unread) = ([], inl tt)
    settled_refused (refusal.NotCsv file n) less (inl unread) = absurd unread
    settled_refused (refusal.BadHeader file) less (inl unread) = absurd unread
    settled_refused (refusal.BadCell file n c) less (inl unread) = absurd unread
    settled_refused (refusal.DoubleId file n) less (inl unread) = absurd unread
    settled_refused (refusal.NoSuchId file n c) less (inl unread) = absurd unread
    settled_refused refusal.TooLarge less (inl unread) = absurd unread
