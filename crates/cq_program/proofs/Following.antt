-- One declaration more.
use Rattle.std.proofs.Common.{inl, inr, ℕ, suc, List, [], ◌∷◌, ◌++◌, ◌+◌, ◌≡◌, ◌<◌, ◌≤◌, length, take, drop, get_or, sym, ap, ◌∙◌, subst, arith, drop-cons}
use Rattle.std.proofs.lemmas.List.{take-append-drop, take_more, length_push, length-map}
use Rattle.std.specs.Prelude.{Result, Ok, Err, IfErr, string_bytes}
use Rattle.cq_base.specs.declared.name.Name.{Name}
use Rattle.cq_io.specs.Counts.{Rose}
use Rattle.cq_syntax.specs.declared.program.Decl.{Decl}
use Rattle.cq_syntax.specs.declared.program.Program.{Program}
use Rattle.cq_io.specs.FolderData.{FolderData}
use Rattle.cq_import.specs.Folders.{Keeps}
use Rattle.cq_environment.specs.declared.refusal.ProgramRefusal.{ProgramRefusal}
use Rattle.cq_environment.specs.declared.refusal.ProgramRefusal.TheVariants as program_refusal
use Rattle.cq_environment.specs.declared.refusal.ReadCause.{ReadCause}
use Rattle.cq_environment.specs.declared.refusal.ReadCause.TheVariants.{Absent, TooLong, Failed}
use Rattle.cq_environment.specs.Meanings.{Environment, Meant, binding}
use Rattle.cq_program.specs.Posed.{Posed}
use Rattle.cq_program.specs.Checks.{Stated, stated_by}
use Rattle.cq_program.specs.Folders.{Told, Reads, LacksFile, Raised}
use Rattle.cq_environment.specs.Environment.{TellsChecked}
use Rattle.cq_program.specs.Program.{Breach, by_rule, by_fault, by_failure, by_limit, Follow}
use Rattle.cq_program.specs.Posing.{TellsReading}
use Rattle.cq_program.specs.Judging.{AddsDecl, TellsDecl, TellsProgram, TellsUnmade}

pub Follow-more : (told : Told) (env : Environment) (ds : List Decl) (d : Decl) (mid after : Environment)
    → Follow told env ds mid → AddsDecl told mid d after → Follow told env (ds ++ d ∷ []) after
Follow-more told env [] d mid after is adds = subst (λ (e : Environment). AddsDecl told e d after) is adds
Follow-more told env (x ∷ ds) d mid after follow adds = (follow.0, follow.1, Follow-more told (env ++ binding x follow.0 ∷ []) ds d mid after follow.2 adds)

rose_before : (a b c : ℕ) → a ≤ b → Rose b c → Rose a c
rose_before a b c le rose = omega (arith, le, rose)

-- a count that rose after other reads rose
raised_before : (old mid new : FolderData) (cause : ReadCause) → Keeps old mid → Raised cause mid new → Raised cause old new
raised_before old mid new Absent keeps raised = rose_before old.absences mid.absences new.absences keeps.absences raised
raised_before old mid new TooLong keeps raised = rose_before old.overruns mid.overruns new.overruns keeps.overruns raised
raised_before old mid new Failed keeps raised = (rose_before old.faults mid.faults new.faults keeps.faults raised.0, sym keeps.steady ∙ raised.1)

-- the first rule that a declaration breaks is that which the program breaks, and a file that it lacks is one that the program lacks
pub refuses_program : (depth : ℕ) (old mid new : FolderData) (program : Program) (before after : List Decl) (d : Decl) (env : Environment) (answer : ProgramRefusal)
    → Keeps old mid → program.decls ≡ before ++ d ∷ after → Follow old.files [] before env → TellsDecl depth mid new env d answer → TellsProgram depth old new program answer
refuses_program depth old mid new program before after d env (program_refusal.Broken place reason) keeps split follow refuses =
    record {
      before = before;
      broken = d;
      after = after;
      split = split;
      env = env;
      follow = follow;
      breach = subst (λ (told : Told). Breach depth told env d place reason) keeps.files refuses;
    }
refuses_program depth old mid new program before after d env (program_refusal.Read file cause) keeps split follow refuses = (
  record {
    before = before;
    reading = d;
    after = after;
    split = split;
    env = env;
    follow = follow;
    stated = refuses.stated;
    checked = refuses.checked;
    lacks = subst (λ (told : Told). LacksFile told refuses.stated (string_bytes file) cause) keeps.files refuses.lacks;
  },
  raised_before old mid new cause keeps refuses.raised,
)
refuses_program depth old mid new program before after d env program_refusal.Memory keeps split follow refuses = tt

-- what isn't stated is refused
pub refuses_stating : (depth : ℕ) (old new : FolderData) (env : Environment) (d : Decl) (answer : ProgramRefusal)
    → TellsChecked answer (stated_by env d) → TellsDecl depth old new env d answer
refuses_stating depth old new env d (program_refusal.Broken place reason) refuses = by_rule refuses
refuses_stating depth old new env d (program_refusal.Read file cause) refuses = absurd refuses
refuses_stating depth old new env d program_refusal.Memory refuses = tt

-- what is stated and isn't read is refused
pub refuses_reading : (depth : ℕ) (old new : FolderData) (env : Environment) (d : Decl) (stated : Stated) (answer : ProgramRefusal)
    → stated_by env d ≡ Ok stated → TellsReading d.place old new stated answer → TellsDecl depth old new env d answer
refuses_reading depth old new env d stated (program_refusal.Broken place reason) is refuses = by_fault stated is refuses.0 refuses.1
refuses_reading depth old new env d stated (program_refusal.Read file cause) is refuses =
    record { stated = stated; checked = is; lacks = refuses.0; raised = refuses.1 }
refuses_reading depth old new env d stated program_refusal.Memory is refuses = tt

-- what is posed and gets no model is refused
pub refuses_model : (depth : ℕ) (old new : FolderData) (env : Environment) (d : Decl) (stated : Stated) (posed : Posed) (answer : ProgramRefusal)
    → stated_by env d ≡ Ok stated → Reads old.files stated posed → TellsUnmade depth d.place posed answer → TellsDecl depth old new env d answer
refuses_model depth old new env d stated posed (program_refusal.Broken place reason) is reads withholds = elim withholds.1 [
  | inl fails ↦ by_failure stated posed is reads withholds.0 fails
  | inr exceeds ↦ by_limit stated posed is reads withholds.0 exceeds
]
refuses_model depth old new env d stated posed (program_refusal.Read file cause) is reads withholds = absurd withholds
refuses_model depth old new env d stated posed program_refusal.Memory is reads withholds = tt

pub refuses_result : {X : Type 0} (depth : ℕ) (old new : FolderData) (env : Environment) (d : Decl) (stated : Stated) (posed : Posed) (r : Result X ProgramRefusal)
    → stated_by env d ≡ Ok stated → Reads old.files stated posed → IfErr r (TellsUnmade depth d.place posed) → IfErr r (TellsDecl depth old new env d)
refuses_result depth old new env d stated posed (Ok x) is reads withholds = tt
refuses_result depth old new env d stated posed (Err answer) is reads withholds = refuses_model depth old new env d stated posed answer is reads withholds

split_at : (decls : List Decl) (i : ℕ) (d : Decl) → i < length decls → d ≡ get_or decls i d → decls ≡ take i decls ++ d ∷ drop (suc i) decls
split_at decls i d inside is =
    sym (take-append-drop i decls) ∙ ap (λ (l : List Decl). take i decls ++ l) (drop-cons decls i d inside ∙ ap (λ (x : Decl). x ∷ drop (suc i) decls) (sym is))

-- the first rule that the declaration at place i breaks is that which the program breaks
pub refuses_at : (depth : ℕ) (old mid new : FolderData) (program : Program) (decls : List Decl) (i : ℕ) (d : Decl) (env : Environment) (answer : ProgramRefusal)
    → Keeps old mid → decls ≡ program.decls → i < length decls → d ≡ get_or decls i d → Follow old.files [] (take i decls) env
    → TellsDecl depth mid new env d answer → TellsProgram depth old new program answer
refuses_at depth old mid new program decls i d env answer keeps are inside is follow refuses =
    refuses_program depth old mid new program (take i decls) (drop (suc i) decls) d env answer keeps (sym are ∙ split_at decls i d inside is) follow refuses

-- one declaration more is followed
pub follows_more : (told here : Told) (decls : List Decl) (i : ℕ) (d : Decl) (env after : Environment) → here ≡ told → i < length decls → d ≡ get_or decls i d
    → Follow told [] (take i decls) env → AddsDecl here env d after → Follow told [] (take (i + 1) decls) after
follows_more told here decls i d env after same inside is follow adds =
    let added : AddsDecl told env d after = subst (λ (t : Told). AddsDecl t env d after) same adds in
    let one : take (i + 1) decls ≡ take i decls ++ d ∷ [] = take_more decls i d inside ∙ ap (λ (x : Decl). take i decls ++ x ∷ []) (sym is) in
    subst (λ (ds : List Decl). Follow told [] ds after) (sym one) (Follow-more told [] (take i decls) d env after follow added)
