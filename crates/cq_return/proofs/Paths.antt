-- The files of an instance below a path, and the files themselves as a folder.
use Rattle.std.proofs.Common.{ℕ, zero, suc, List, [], ◌∷◌, ◌++◌, Some, ◌≡◌, ◌+◌, append_assoc, map, length, refl, ap, subst, ◌∙◌}
use Rattle.std.specs.Prelude.{codes, slice_get}
use Rattle.std.proofs.lemmas.List.{map-append}
use Rattle.std.specs.List.{range_with_len}
use Rattle.cq_base.specs.declared.name.Name.{Name}
use Rattle.cq_io.specs.Content.{File, find_file, path_of}
use Rattle.cq_theory.specs.Canonical.{below}
use Rattle.cq_theory.proofs.Every.{Every, Every-from_All, Every-map}
use Rattle.cq_theory.proofs.Every as every
use Rattle.cq_instance.specs.InstanceData.{InstanceData}
use Rattle.cq_text.specs.Transcript.{name_or_empty}
use Rattle.cq_csv.specs.Files.{algebra_records, entity_file, entity_records, file_name, files_of}
use Rattle.cq_csv.specs.Records.{file_text}
use Rattle.cq_return.specs.Return.{HoldsFiles}
use Rattle.cq_return.proofs.Files.{HoldsAt}

-- the file below a path
abbrev pub placed : List ℕ → File → File
placed path file = (path_of path file.0, file.1)

regrouped : (bs slash name file end : List ℕ) → (bs ++ slash) ++ (((name ++ slash) ++ file) ++ end) ≡ ((((bs ++ slash) ++ name) ++ slash) ++ file) ++ end
regrouped bs slash name file end = simp append_assoc

name_below : (path name file : List ℕ) → path_of path (file_name name file) ≡ file_name (path_of path name) file
name_below [] name file = refl
name_below (b ∷ bs) name file = ap (λ l. b ∷ l) (regrouped bs (codes "/") name file (codes ".csv"))

module _ (path : List ℕ) (name : Name) (i : InstanceData) where
  entities_below : (s n : ℕ) → map (placed path) (map (entity_file name i) (range_with_len s n)) ≡ map (entity_file (path_of path name) i) (range_with_len s n)
  entities_below s zero = refl
  entities_below s (suc n) =
      let one = name_below path name (name_or_empty (slice_get i.schema.entities s)) in
      let others = entities_below (s + 1) n in
      λ j. (one j, file_text (entity_records i s)) ∷ others j

  -- the files below the path are those of the folder below it
  files_below : map (placed path) (files_of name i) ≡ files_of (path_of path name) i
  files_below =
      let last = name_below path name (codes "entries-2") in
      let entities = entities_below 0 (length i.schema.entities) in
      map-append (placed path) (map (entity_file name i) (below (length i.schema.entities))) ((file_name name (codes "entries-2"), file_text (algebra_records i)) ∷ [])
      ∙ (λ j. entities j ++ (last j, file_text (algebra_records i)) ∷ [])

  pub holds_at : (files : List File) → HoldsFiles files path name i → HoldsAt files (path_of path name) i
  holds_at files holds =
      subst (Every (λ file. find_file file.0 files ≡ Some file.1)) files_below
      (Every-map (λ file. find_file file.0 files ≡ Some file.1) (placed path) (files_of name i)
      (λ n file at. every.Every-at (λ f. find_file (path_of path f.0) files ≡ Some f.1) (files_of name i) n file
      (Every-from_All (λ f. find_file (path_of path f.0) files ≡ Some f.1) (files_of name i) holds) at))
