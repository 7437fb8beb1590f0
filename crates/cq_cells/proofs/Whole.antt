-- The faults of the files and those of the cells, listed whole.
use Rattle.std.proofs.Common.{ℕ, suc, true, false, List, [], ◌∷◌, ◌-◌, ◌<◌, ◌≤◌, ◌≡◌, ◌==◌, Option, Some, None, length, map, take, refl, sym, ap, ◌∙◌, arith}
use Rattle.std.specs.Prelude.{IfSome, nat_lt, sum, if◌then◌else◌}
use Rattle.std.proofs.lemmas.Bool.Decides.{nat_tests}
use Rattle.std.proofs.lemmas.List.{length-map, take_all}
use Rattle.cq_base.specs.declared.name.Name.{Name}
use Rattle.cq_io.specs.Content.{File}
use Rattle.cq_theory.specs.SchemaData.{SchemaData as Schema}
use Rattle.cq_import.specs.Cells.{all_cells}
use Rattle.cq_import.specs.Faults.{TooLarge}
use Rattle.cq_import.specs.Folders.{name_of}
use Rattle.cq_import.specs.Imports.{fault_of, most_generators, total}
use Rattle.cq_cells.specs.declared.faults.Fault.{Fault}
use Rattle.cq_cells.specs.declared.index.Indexed.{Indexed}
use Rattle.cq_cells.specs.declared.readings.Reading.{Reading}
use Rattle.cq_cells.specs.Found.{Found, cells_found, found_in}
use Rattle.cq_cells.specs.Index.{AreIndexed}
use Rattle.cq_cells.specs.Readings.{AreReadings, contents_found, first_of, folder_found, or_else_found, sheets_read}
use Rattle.cq_cells.specs.Shown.{Lists, most_faults, shown}
use Rattle.cq_cells.proofs.Firsts.{first_folder, first_of_front}
use Rattle.cq_cells.proofs.Sheeting.{counts_are}

-- whether there are too many records
module _ (name : ℕ → List ℕ) (S : Schema) (readings : List Reading) (made : List Indexed) (many : length readings ≡ length S.entities) (indexed : AreIndexed readings made) where
  total_is : total S (sheets_read name S readings) ≡ sum (map (λ (i : Indexed). i.count) made)
  total_is = ap sum (sym (counts_are name S readings made many indexed))

  pub contents_large : most_generators < sum (map (λ (i : Indexed). i.count) made) → found_in (Some TooLarge) None ≡ contents_found name S readings
  contents_large large =
      let over : nat_lt most_generators (total S (sheets_read name S readings)) ≡ true = let same = total_is in grind (arith, nat_tests) in
      sym (ap (λ b. if b then found_in (Some TooLarge) None
      else cells_found (sheets_read name S readings) S.typeside (Some (most_generators - total S (sheets_read name S readings))) [] (all_cells S (sheets_read name S readings))) over)

  pub contents_few : (most : ℕ) → sum (map (λ (i : Indexed). i.count) made) ≤ most_generators → most ≡ most_generators - sum (map (λ (i : Indexed). i.count) made)
      → cells_found (sheets_read name S readings) S.typeside (Some most) [] (all_cells S (sheets_read name S readings)) ≡ contents_found name S readings
  contents_few most few is =
      let under : nat_lt most_generators (total S (sheets_read name S readings)) ≡ false = let same = total_is in grind (arith, nat_tests) in
      ap (λ n. cells_found (sheets_read name S readings) S.typeside (Some n) [] (all_cells S (sheets_read name S readings))) (is ∙ ap (λ n. most_generators - n) (sym total_is))
      ∙ sym (ap (λ b. if b then found_in (Some TooLarge) None
      else cells_found (sheets_read name S readings) S.typeside (Some (most_generators - total S (sheets_read name S readings))) [] (all_cells S (sheets_read name S readings))) under)

-- some faults are the front of all
whole : (items : List Fault) (name : ℕ → List ℕ) → length items ≤ most_faults → take most_faults (map (shown name) items) ≡ map (shown name) items
whole items name few = take_all most_faults (map (shown name) items) (omega (arith, length-map items (shown name)))

zero_is : (n : ℕ) → (n == 0) ≡ true → n ≡ 0
zero_is n is = grind (arith, nat_tests)

some_left : (k : ℕ) (x : Found) (xs : List Found) → [] ≡ take (suc k) (x ∷ xs) → ⊥
some_left k x xs none = cc none

some_fault : (x : Fault) (xs : List Fault) (name : ℕ → List ℕ) (k : ℕ) → take (suc k) (map (shown name) (x ∷ xs)) ≡ [] → ⊥
some_fault x xs name k none = cc none

pub listed_files : (faults items : List Fault) (files contents : (ℕ → List ℕ) → List Found) → items ≡ faults → length items ≤ most_faults → Lists [] faults files → (length faults == 0) ≡ false
    → (name : ℕ → List ℕ) → map (shown name) items ≡ take most_faults (or_else_found (files name) (contents name))
listed_files [] items files contents is few lists some name = cc some
listed_files (x ∷ xs) items files contents is few lists some name =
    sym (whole items name few) ∙ ap (λ l. take most_faults (map (shown name) l)) is ∙ lists name ∙ by (files name) (lists name)
  where
    by : (found : List Found) → take most_faults (map (shown name) (x ∷ xs)) ≡ take most_faults found → take most_faults found ≡ take most_faults (or_else_found found (contents name))
    by [] same = absurd (some_fault x xs name 99 same)
    by (f ∷ fs) same = refl

pub listed_all : (none faults items : List Fault) (files contents : (ℕ → List ℕ) → List Found) → items ≡ faults → length items ≤ most_faults → Lists [] none files → (length none == 0) ≡ true
    → Lists none faults contents → (name : ℕ → List ℕ) → map (shown name) items ≡ take most_faults (or_else_found (files name) (contents name))
listed_all (x ∷ xs) faults items files contents is few before empty lists name = absurd (let none = zero_is (length (x ∷ xs)) empty in omega arith)
listed_all [] faults items files contents is few before empty lists name =
    sym (whole items name few) ∙ ap (λ l. take most_faults (map (shown name) l)) is ∙ lists name ∙ by (files name) (before name)
  where
    by : (found : List Found) → [] ≡ take most_faults found → take most_faults (contents name) ≡ take most_faults (or_else_found found (contents name))
    by [] same = refl
    by (f ∷ fs) same = absurd (some_left 99 f fs same)

-- the first is that of an import
pub first_told : (files : Option (List File)) (dir : Name) (S : Schema) (readings : List Reading) (items : List Fault) → IfSome files (λ told. AreReadings told dir S readings)
    → map (shown (name_of dir S)) items ≡ take most_faults (folder_found (name_of dir S) S readings)
    → IfSome files (λ told. first_of (map (shown (name_of dir S)) items) ≡ fault_of told dir S)
first_told None dir S readings items are is = tt
first_told (Some told) dir S readings items are is =
    ap first_of is ∙ first_of_front 99 (folder_found (name_of dir S) S readings) ∙ first_folder told dir S readings are
