-- The files of an instance are a folder that holds them, where the names of the files are distinct.
use Rattle.std.proofs.Common.{ℕ, zero, suc, Bool, true, false, List, [], ◌∷◌, ◌++◌, Some, ◌≡◌, ◌<◌, ◌≤◌, ◌+◌, cond, map, length, inl, inr, refl, sym, ap, subst, ◌∙◌, arith}
use Rattle.std.specs.Prelude.{All, codes, get_or, slice_get}
use Rattle.std.specs.List.{IsDistinct, range_with_len}
use Rattle.std.specs.Str.{bytes_eq}
use Rattle.std.specs.Cmp.Lexicographic.{nat_list_eq_equiv, same_text}
use Rattle.std.proofs.lemmas.Bool.{cases_eq}
use Rattle.std.proofs.lemmas.List.{append_cancel_left, append_cancel_right}
use Rattle.std.proofs.lemmas.Option.{slice_get-get_or}
use Rattle.cq_base.specs.declared.name.Name.{Name}
use Rattle.cq_base.specs.Names.{AreDistinct, same_name}
use Rattle.cq_io.specs.Content.{File, find_file}
use Rattle.cq_theory.specs.Schema.{IsSchema}
use Rattle.cq_theory.specs.Canonical.{below}
use Rattle.cq_theory.proofs.Every.{Every, Every-append, Every-at, Every-map}
use Rattle.cq_theory.proofs.OnValues.{All_at}
use Rattle.cq_values.proofs.Tabled.{number_of-at}
use Rattle.cq_instance.specs.InstanceData.{InstanceData}
use Rattle.cq_instance.proofs.CanonicalHolds.{from_below}
use Rattle.cq_text.specs.Transcript.{name_or_empty}
use Rattle.cq_csv.specs.Files.{algebra_records, entity_file, file_name, files_of}
use Rattle.cq_csv.specs.Records.{file_text}
use Rattle.cq_return.specs.Return.{HoldsFiles}

same_file : (dir a b : List ℕ) → file_name dir a ≡ file_name dir b → a ≡ b
same_file dir a b e =
    append_cancel_left (dir ++ codes "/") a b (append_cancel_right ((dir ++ codes "/") ++ a) ((dir ++ codes "/") ++ b) (codes ".csv") e)

unlike : (xs ys : List ℕ) → (xs ≡ ys → ⊥) → bytes_eq xs ys ≡ false
unlike xs ys other = at_test (bytes_eq xs ys) refl
  where
    at_test : (b : Bool) → bytes_eq xs ys ≡ b → bytes_eq xs ys ≡ false
    at_test true e = absurd (other (same_text xs ys (sym e)))
    at_test false e = e

passed_over : (name : List ℕ) (file : File) (files : List File) → bytes_eq file.0 name ≡ false → find_file name (file ∷ files) ≡ find_file name files
passed_over name file files other = ap (λ b. cond b (Some file.1) (find_file name files)) other

found_first : (file : File) (files : List File) → find_file file.0 (file ∷ files) ≡ Some file.1
found_first file files = ap (λ b. cond b (Some file.1) (find_file file.0 files)) (nat_list_eq_equiv.refl file.0)

behind : (xs ys : List Name) → AreDistinct (xs ++ ys) → AreDistinct ys
unfolding IsDistinct
behind [] ys distinct = distinct
behind (x ∷ xs) ys distinct = behind xs ys distinct.1

module _ (i : InstanceData) (name : Name) (schema : IsSchema i.schema) (apart : All (λ entity. same_name entity (codes "entries-2") ≡ false) i.schema.entities) where
  abbrev count : ℕ
  count = length i.schema.entities

  abbrev last : File
  last = (file_name name (codes "entries-2"), file_text (algebra_records i))

  abbrev entity_name : ℕ → Name
  entity_name entity = name_or_empty (slice_get i.schema.entities entity)

  name_there : (entity : ℕ) → entity < length i.schema.entities → slice_get i.schema.entities entity ≡ Some (name_or_empty (slice_get i.schema.entities entity))
  name_there entity within = let at = slice_get-get_or i.schema.entities entity [] within in at ∙ ap (λ o. Some (name_or_empty o)) (sym at)

  distinct : AreDistinct i.schema.entities
  distinct = behind i.schema.typeside.types i.schema.entities schema.distinct_sorts

  one_number : (j k : ℕ) → j < length i.schema.entities → k < length i.schema.entities
      → name_or_empty (slice_get i.schema.entities j) ≡ name_or_empty (slice_get i.schema.entities k) → j ≡ k
  one_number j k first second same =
      let here = number_of-at i.schema.entities j (entity_name j) distinct (name_there j first) in
      let there = number_of-at i.schema.entities k (entity_name j) distinct (name_there k second ∙ ap (λ n. Some n) (sym same)) in
      let both : Some j ≡ Some k = sym here ∙ there in
      cc

  other_entity : (j k : ℕ) → j < length i.schema.entities → k < length i.schema.entities → (j ≡ k → ⊥) → bytes_eq (entity_file name i j).0 (entity_file name i k).0 ≡ false
  other_entity j k first second other =
      unlike (entity_file name i j).0 (entity_file name i k).0 (λ e. other (one_number j k first second (same_file name (entity_name j) (entity_name k) e)))

  not_last : (j : ℕ) → j < length i.schema.entities → bytes_eq (entity_file name i j).0 (file_name name (codes "entries-2")) ≡ false
  not_last j within = unlike (entity_file name i j).0 last.0 (λ e.
      let same : entity_name j ≡ codes "entries-2" = same_file name (entity_name j) (codes "entries-2") e in
      let other = All_at (λ entity. same_name entity (codes "entries-2") ≡ false) i.schema.entities j (entity_name j) apart (name_there j within) in
      let is : same_name (entity_name j) (codes "entries-2") ≡ true = ap (λ n. same_name n (codes "entries-2")) same ∙ nat_list_eq_equiv.refl (codes "entries-2") in
      cc (sym other ∙ is))

  entity_found : (s n k : ℕ) → s + n ≤ length i.schema.entities → s ≤ k → k < s + n
      → find_file (entity_file name i k).0 (map (entity_file name i) (range_with_len s n) ++ last ∷ []) ≡ Some (entity_file name i k).1
  entity_found s zero k all low high = absurd (omega arith)
  entity_found s (suc n) k all low high = elim (cases_eq s k) [
    | inl here ↦
        subst (λ m. find_file (entity_file name i m).0 (map (entity_file name i) (range_with_len s (suc n)) ++ last ∷ []) ≡ Some (entity_file name i m).1) here
        (found_first (entity_file name i s) (map (entity_file name i) (range_with_len (s + 1) n) ++ last ∷ []))
    | inr other ↦
        passed_over (entity_file name i k).0 (entity_file name i s) (map (entity_file name i) (range_with_len (s + 1) n) ++ last ∷ []) (other_entity s k (omega arith) (omega arith) other)
        ∙ entity_found (s + 1) n k (omega arith) (omega arith) (omega arith)
  ]

  last_found : (s n : ℕ) → s + n ≤ length i.schema.entities → find_file (file_name name (codes "entries-2")) (map (entity_file name i) (range_with_len s n) ++ last ∷ []) ≡ Some last.1
  last_found s zero all = found_first last []
  last_found s (suc n) all =
      passed_over last.0 (entity_file name i s) (map (entity_file name i) (range_with_len (s + 1) n) ++ last ∷ []) (not_last s (omega arith)) ∙ last_found (s + 1) n (omega arith)

  abbrev Found : File → Type 0
  Found file = find_file file.0 (files_of name i) ≡ Some file.1

  each_found : Every Found (files_of name i)
  each_found =
      let whole : 0 + length i.schema.entities ≤ length i.schema.entities = omega arith in
      Every-append Found (map (entity_file name i) (below count)) (last ∷ [])
      (Every-map Found (entity_file name i) (below count)
      (λ n k at. let within = from_below count n k at in entity_found 0 count k whole (omega arith) (omega arith)))
      (last_found 0 count whole, tt)

  pub own_files : HoldsFiles (files_of name i) [] name i
  own_files k d within = Every-at Found (files_of name i) k (get_or (files_of name i) k d) each_found (slice_get-get_or (files_of name i) k d within)
