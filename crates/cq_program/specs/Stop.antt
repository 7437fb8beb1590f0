-- Where the declarations of a program stop to meet their rules.
use Rattle.std.specs.Prelude.{◌≡◌, ℕ, List, [], Some, Ok, slice_get, string_bytes, take}
use Rattle.cq_io.specs.FolderData.{FolderData}
use Rattle.cq_syntax.specs.declared.program.Decl.{Decl}
use Rattle.cq_syntax.specs.declared.program.Program.{Program}
use Rattle.cq_program.specs.Checks.{Stated, stated_by}
use Rattle.cq_environment.specs.Environment.{AreSettled, environment_of}
use Rattle.cq_program.specs.Folders.{LacksFile, Told}
use Rattle.cq_environment.specs.Meanings.{Environment}
use Rattle.cq_environment.specs.declared.environment.Environment.{Environment as TheEnvironment}
use Rattle.cq_environment.specs.declared.refusal.ProgramRefusal.{ProgramRefusal}
use Rattle.cq_environment.specs.declared.refusal.ProgramRefusal.TheVariants as program_refusal
use Rattle.cq_program.specs.Judging.{TellsProgram}
use Rattle.cq_program.specs.Program.{Breach, Follow}
use Rattle.cq_program.specs.declared.stops.Fault.{Fault}
use Rattle.cq_program.specs.declared.stops.Fault.TheVariants.{Broken, Unread}
use Rattle.cq_program.specs.declared.stops.Halt.{Halt}
use Rattle.cq_program.specs.declared.stops.Halt.TheVariants as halt
use Rattle.cq_program.specs.declared.stops.Stop.{Stop}

-- a file that the declaration reads was not read
pub record LacksSome (told : Told) (env : Environment) (d : Decl) (lacks : Stated → Type 0) : Type 0 where
  pub stated : Stated
  pub checked : stated_by env d ≡ Ok stated
  pub lacking : lacks stated

-- this is wrong with the declaration, over the names declared before it: the first rule that it breaks, or a file that was not read
abbrev pub IsFaultOf : ℕ → Told → Environment → Decl → Fault → Type 0
IsFaultOf depth told env d (Broken place reason) = Breach depth told env d place reason
IsFaultOf depth told env d (Unread file cause) = LacksSome told env d (λ stated. LacksFile told stated (string_bytes file) cause)

-- The declarations before that of this number, from 0, meet their rules, and lead to these names; and this is wrong with it.
pub record StopsAt (depth : ℕ) (told : Told) (program : Program) (stop : Stop) : Type 0 where
  pub declared : Decl
  pub is_at : slice_get program.decls stop.number ≡ Some declared
  pub follow : Follow told [] (take stop.number program.decls) (environment_of stop.env.names.entries)
  pub settled : AreSettled (environment_of stop.env.names.entries)
  pub fault : IsFaultOf depth told (environment_of stop.env.names.entries) declared stop.fault

-- all declarations meet their rules
abbrev pub MeetRules : Told → Program → Type 0
MeetRules told program = (env : Environment) × Follow told [] program.decls env

-- the refusal that tells what is wrong
abbrev pub refusal_at : Fault → ProgramRefusal
refusal_at (Broken place reason) = program_refusal.Broken place reason
refusal_at (Unread file cause) = program_refusal.Read file cause

abbrev pub refusal_of : Halt → ProgramRefusal
refusal_of (halt.Stopped stop) = refusal_at stop.fault
refusal_of halt.Memory = program_refusal.Memory

-- what a halt tells: where the program stops, and the first rule that it breaks or a file that was not read; or want of memory
abbrev pub TellsHalt : ℕ → FolderData → FolderData → Program → Halt → Type 0
TellsHalt depth old new program (halt.Stopped stop) = StopsAt depth old.files program stop
    × TellsProgram depth old new program (refusal_at stop.fault)
TellsHalt depth old new program halt.Memory = Unit {0}

-- the halt is a stop with these names and this number, where it is one
abbrev pub IsAt : TheEnvironment → ℕ → Halt → Type 0
IsAt env number (halt.Stopped stop) = (stop.env ≡ env) × (stop.number ≡ number)
IsAt env number halt.Memory = Unit {0}

-- the halt at which the declaration of a number is refused, after these names: the refusal that comes of it is this one
pub record IsHalt (env : TheEnvironment) (number : ℕ) (refusal : ProgramRefusal) (made : Halt) : Type 0 where
  pub refusal_is : refusal_of made ≡ refusal
  pub is_at : IsAt env number made
