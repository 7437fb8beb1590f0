-- How declarations are judged: the name that one adds, what a refusal tells, and what the making of models answers.
use Rattle.std.specs.Prelude.{◌≡◌, ◌⊎◌, ℕ, List, [], ◌∷◌, ◌++◌, Result, Err, Ok, IfOk, string_bytes}
use Rattle.cq_base.specs.declared.place.Place.{Place}
use Rattle.cq_syntax.specs.declared.program.Decl.{Decl}
use Rattle.cq_syntax.specs.declared.program.Program.{Program}
use Rattle.cq_theory.specs.declared.constant.Con.{Con}
use Rattle.cq_theory.specs.declared.presentation.Presentation.{Presentation}
use Rattle.cq_theory.specs.SchemaData.{SchemaData}
use Rattle.cq_theory.specs.Closing.{IsInconsistentAt}
use Rattle.cq_theory.specs.Presentation.{is_oversized as is_too_large}
use Rattle.cq_rows.specs.Saturated.{NoneCloses, SomeWide}
use Rattle.cq_instance.specs.InstanceData.{InstanceData}
use Rattle.cq_model.specs.Moving.{SaysSize}
use Rattle.cq_model.specs.declared.refusal.MoveRefusal.{MoveRefusal}
use Rattle.cq_model.specs.declared.refusal.MoveRefusal.TheVariants.{Depth, TooManyRows, Inconsistent as Clashing}
use Rattle.cq_environment.specs.declared.reason.Reason.TheVariants.{Inconsistent}
use Rattle.cq_environment.specs.declared.refusal.ProgramRefusal.{ProgramRefusal}
use Rattle.cq_environment.specs.declared.refusal.ReadCause.{ReadCause}
use Rattle.cq_environment.specs.declared.refusal.ProgramRefusal.TheVariants as program_refusal
use Rattle.cq_io.specs.FolderData.{FolderData}
use Rattle.cq_program.specs.Folders.{Told, LacksFile, Raised}
use Rattle.cq_environment.specs.Meanings.{Environment, Meant, binding}
use Rattle.cq_program.specs.Posed.{Posed}
use Rattle.cq_program.specs.Checks.{Stated, stated_by}
use Rattle.cq_program.specs.Program.{Breach, Breaks, Lacks, Fails, Declares, Exceeds, IsModelOf}

-- the refusal tells why nothing is made of what is posed, at the declaration's place, or want of memory
abbrev pub TellsUnmade : ℕ → Place → Posed → ProgramRefusal → Type 0
TellsUnmade depth at posed (program_refusal.Broken place reason) = (place ≡ at) × (Fails posed reason ⊎ Exceeds depth posed reason)
TellsUnmade depth at posed (program_refusal.Read name cause) = ⊥
TellsUnmade depth at posed program_refusal.Memory = Unit {0}

-- the refusal tells two texts of constants, or want of memory
abbrev pub TellsConstants : Place → List ℕ → List ℕ → ProgramRefusal → Type 0
TellsConstants at first second (program_refusal.Broken place reason) = (place ≡ at) × (reason ≡ Inconsistent first second)
TellsConstants at first second (program_refusal.Read name cause) = ⊥
TellsConstants at first second program_refusal.Memory = Unit {0}

-- the declaration meets its rules, and its name is put behind the others
abbrev pub AddsDecl : Told → Environment → Decl → Environment → Type 0
AddsDecl told env d after = (m : Meant) × Declares told env d m × (after ≡ env ++ binding d m ∷ [])

-- a file that the declaration reads was not read
pub record IsUnread (old new : FolderData) (env : Environment) (d : Decl) (file : List ℕ) (cause : ReadCause) : Type 0 where
  pub stated : Stated
  pub checked : stated_by env d ≡ Ok stated
  pub lacks : LacksFile old.files stated file cause
  pub raised : Raised cause old new

-- the refusal tells the first rule that the declaration breaks, or a file that was not read, or want of memory
abbrev pub TellsDecl : ℕ → FolderData → FolderData → Environment → Decl → ProgramRefusal → Type 0
TellsDecl depth old new env d (program_refusal.Broken place reason) = Breach depth old.files env d place reason
TellsDecl depth old new env d (program_refusal.Read file cause) = IsUnread old new env d (string_bytes file) cause
TellsDecl depth old new env d program_refusal.Memory = Unit {0}

-- the refusal tells the first rule that the program breaks, or a file that was not read, or want of memory
abbrev pub TellsProgram : ℕ → FolderData → FolderData → Program → ProgramRefusal → Type 0
TellsProgram depth old new program (program_refusal.Broken place reason) = Breaks depth old.files program place reason
TellsProgram depth old new program (program_refusal.Read file cause) = Lacks old.files program (string_bytes file) cause
    × Raised cause old new
TellsProgram depth old new program program_refusal.Memory = Unit {0}

-- What the answer of a call says that makes the listed model of a presentation over a schema, of rows up to a depth. The limit is tried
-- first.
pub record IsAnswerOf (S : SchemaData) (P : Presentation) (depth : ℕ) (answer : Result InstanceData MoveRefusal) : Type 0 where
  pub model : IfOk answer (IsModelOf S P)
  pub size : SaysSize answer (is_too_large P)
  pub deep : answer ≡ Err Depth → NoneCloses S P depth
  pub many : answer ≡ Err TooManyRows → SomeWide S P depth
  pub clash : (c d : Con) → answer ≡ Err (Clashing c d) → IsInconsistentAt S P c d
