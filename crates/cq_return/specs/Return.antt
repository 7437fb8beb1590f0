-- Folders that hold the files of an instance, and instances that are read back from their files.
use Rattle.std.specs.Prelude.{ℕ, Bool, true, List, ◌+◌, Some, ◌≡◌, ◌<◌, ◌≤◌, All, length}
use Rattle.std.specs.List.{list_all}
use Rattle.cq_base.specs.declared.name.Name.{Name}
use Rattle.cq_io.specs.Content.{File, find_file, path_of}
use Rattle.cq_theory.specs.declared.constant.Con.{Con}
use Rattle.cq_theory.specs.declared.constant.Con.TheVariants.{Named, Open}
use Rattle.cq_theory.specs.declared.value.Entry.{Entry}
use Rattle.cq_theory.specs.declared.value.Value.{Value}
use Rattle.cq_theory.specs.declared.value.Value.TheOpen.{Value-F, Const, Null, Fun}
use Rattle.cq_theory.specs.declared.value.Value.TheFolds.{fold-Value}
use Rattle.cq_theory.specs.TypesideData.{TypesideData as Typeside}
use Rattle.cq_theory.specs.Schema.{IsSchema}
use Rattle.cq_theory.specs.Term.{greatest}
use Rattle.cq_theory.specs.Value.{symbols_of}
use Rattle.cq_theory.specs.ValueText.{is_word}
use Rattle.cq_values.specs.Readable.{is_name}
use Rattle.cq_instance.specs.InstanceData.{InstanceData}
use Rattle.cq_instance.specs.Given.{size_of}
use Rattle.cq_import.specs.declared.refusal.CsvRefusal.{CsvRefusal}
use Rattle.cq_import.specs.declared.refusal.CsvRefusal.TheVariants as refusal
use Rattle.cq_import.specs.Imports.{most_bytes, most_generators}
use Rattle.cq_csv.specs.Files.{algebra_records, entity_records, files_of}
use Rattle.cq_csv.specs.Records.{file_text}

-- below this path each file of the instance under this name is found with its bytes
abbrev pub HoldsFiles : List File → List ℕ → Name → InstanceData → Type 0
HoldsFiles files path name i = All (λ file. find_file (path_of path file.0) files ≡ Some file.1) (files_of name i)

-- the names of types, constants and functions have at most 255 bytes of UTF-8, and those of functions are words
pub record HasNames (T : Typeside) : Type 0 where
  pub types : All (λ name. is_name name ≡ true) T.types
  pub constants : All (λ constant. is_name constant.0 ≡ true) T.constants
  pub functions : All (λ f. (is_word f.name ≡ true) × (is_name f.name ≡ true)) T.functions

-- an open constant has at most 255 bytes of UTF-8
abbrev pub has_name : Con → Bool
has_name (Named c) = true
has_name (Open text) = is_name text

abbrev pub has_names_step : Value-F Bool → Bool
has_names_step (Const c) = has_name c
has_names_step (Null label) = true
has_names_step (Fun f named) = list_all (λ b. b) named

-- so has each open constant in the value
abbrev pub has_names : Value → Bool
has_names = fold-Value Bool has_names_step

-- the levels of a value: one for a constant and for a null, and one more than its arguments have for a function
abbrev pub levels_step : Value-F ℕ → ℕ
levels_step (Const c) = 1
levels_step (Null label) = 1
levels_step (Fun f levels) = greatest levels + 1

abbrev pub levels_of : Value → ℕ
levels_of = fold-Value ℕ levels_step

pub record IsReturnableValue (v : Value) : Type 0 where
  pub names : has_names v ≡ true
  pub levels : levels_of v ≤ 64
  pub symbols : symbols_of v ≤ 1024

abbrev pub IsReturnableEntry : Entry → Type 0
IsReturnableEntry entry = All (λ v. has_names v ≡ true) entry.args × (has_names entry.value ≡ true)

-- What the import asks for beyond what each instance has: a well-sorted schema; names of at most 255 bytes of UTF-8, those of functions
-- words; at most 16,000,000 rows and nulls together; at most 64 levels and 1,024 symbols in a value; and files of at most 64 MiB.
pub record IsReturnable (i : InstanceData) : Type 0 where
  pub schema : IsSchema i.schema
  pub names : HasNames i.schema.typeside
  pub few : size_of i.tables ≤ most_generators
  pub cells : All (All IsReturnableValue) i.tables.sheet.cells
  pub entries : All IsReturnableEntry i.tables.algebra.entries
  pub short_entities : (entity : ℕ) → entity < length i.schema.entities → length (file_text (entity_records i entity)) ≤ most_bytes
  pub short_algebra : length (file_text (algebra_records i)) ≤ most_bytes

-- want of memory, or a read that failed
abbrev pub IsNoFault : CsvRefusal → Type 0
IsNoFault refusal.Memory = Unit {0}
IsNoFault (refusal.ReadFault file) = Unit {0}
IsNoFault _ = ⊥
