-- The declaration at which a walk stops.
use Rattle.std.proofs.Common.{ℕ, List, [], ◌≡◌, ◌<◌, length, take, get_or, sym, ap, ◌∙◌, subst, Some, slice_get, string_bytes}
use Rattle.std.proofs.lemmas.Option.{slice_get-get_or}
use Rattle.cq_io.specs.FolderData.{FolderData}
use Rattle.cq_syntax.specs.declared.program.Decl.{Decl}
use Rattle.cq_syntax.specs.declared.program.Program.{Program}
use Rattle.cq_environment.specs.declared.environment.Environment.{Environment as TheEnvironment}
use Rattle.cq_environment.specs.declared.refusal.ProgramRefusal.{ProgramRefusal}
use Rattle.cq_environment.specs.declared.refusal.ProgramRefusal.TheVariants as program_refusal
use Rattle.cq_environment.specs.Environment.{AreSettled, environment_of}
use Rattle.cq_program.specs.Folders.{LacksFile, Told}
use Rattle.cq_environment.specs.Meanings.{Environment}
use Rattle.cq_program.specs.Judging.{TellsDecl, TellsProgram}
use Rattle.cq_program.specs.Program.{Breach, Follow}
use Rattle.cq_program.specs.declared.stops.Fault.{Fault}
use Rattle.cq_program.specs.declared.stops.Fault.TheVariants.{Broken, Unread}
use Rattle.cq_program.specs.declared.stops.Halt.{Halt}
use Rattle.cq_program.specs.declared.stops.Halt.TheVariants as halt
use Rattle.cq_program.specs.declared.stops.Stop.{Stop}
use Rattle.cq_program.specs.Stop.{TellsHalt, IsFaultOf, IsHalt, StopsAt, refusal_at, refusal_of}

-- what is known when a declaration is refused: those before it are walked over, and the names stand for what they stood for
pub record IsRefusedAt (told : Told) (program : Program) (n : ℕ) (d : Decl) (before after : TheEnvironment) : Type 0 where
  pub there : slice_get program.decls n ≡ Some d
  pub follow : Follow told [] (take n program.decls) (environment_of before.names.entries)
  pub settled : AreSettled (environment_of before.names.entries)
  pub same : environment_of after.names.entries ≡ environment_of before.names.entries

stops : (depth : ℕ) (told : Told) (program : Program) (n : ℕ) (d : Decl) (before after : TheEnvironment) (stop : Stop)
    → IsRefusedAt told program n d before after → IsFaultOf depth told (environment_of before.names.entries) d stop.fault
    → stop.env ≡ after → stop.number ≡ n → StopsAt depth told program stop
stops depth told program n d before after stop at is names number =
    let same : environment_of stop.env.names.entries ≡ environment_of before.names.entries =
    ap (λ (env : TheEnvironment). environment_of env.names.entries) names ∙ at.same in
    let walked : Follow told [] (take stop.number program.decls) (environment_of before.names.entries) =
    subst (λ (k : ℕ). Follow told [] (take k program.decls) (environment_of before.names.entries)) (sym number) at.follow in
    record {
      declared = d;
      is_at = ap (slice_get program.decls) number ∙ at.there;
      follow = subst (λ (env : Environment). Follow told [] (take stop.number program.decls) env) (sym same) walked;
      settled = subst (λ (env : Environment). AreSettled env) (sym same) at.settled;
      fault = subst (λ (env : Environment). IsFaultOf depth told env d stop.fault) (sym same) is;
    }

-- the declaration in turn is refused
pub refused_at : (told : Told) (program : Program) (slice : List Decl) (i n : ℕ) (d : Decl) (before after : TheEnvironment)
    → slice ≡ program.decls → i < length slice → d ≡ get_or slice i d → n ≡ i
    → Follow told [] (take i slice) (environment_of before.names.entries) → AreSettled (environment_of before.names.entries)
    → environment_of after.names.entries ≡ environment_of before.names.entries → IsRefusedAt told program n d before after
refused_at told program slice i n d before after are inside is at follow settled same =
    let found : slice_get slice i ≡ Some d = slice_get-get_or slice i d inside ∙ ap (λ (x : Decl). Some x) (sym is) in
    let walked : take i slice ≡ take n program.decls = ap (take i) are ∙ ap (λ (k : ℕ). take k program.decls) (sym at) in
    record {
      there = ap (slice_get program.decls) at ∙ ap (λ (ds : List Decl). slice_get ds i) (sym are) ∙ found;
      follow = subst (λ (ds : List Decl). Follow told [] ds (environment_of before.names.entries)) walked follow;
      settled = settled;
      same = same;
    }

-- what is wrong with a declaration that is refused
fault_of : (depth : ℕ) (mid new : FolderData) (told : Told) (env : Environment) (d : Decl) (fault : Fault) → mid.files ≡ told
    → TellsDecl depth mid new env d (refusal_at fault) → IsFaultOf depth told env d fault
fault_of depth mid new told env d (Broken place reason) files refuses = subst (λ (t : Told). Breach depth t env d place reason) files refuses
fault_of depth mid new told env d (Unread file cause) files refuses = record {
  stated = refuses.stated;
  checked = refuses.checked;
  lacking = subst (λ (t : Told). LacksFile t refuses.stated (string_bytes file) cause) files refuses.lacks;
}

-- the halt at a declaration that is refused
pub halts_at : (depth : ℕ) (old mid new : FolderData) (program : Program) (n : ℕ) (d : Decl) (before after : TheEnvironment)
    (refusal : ProgramRefusal) (made : Halt) → mid.files ≡ old.files → IsRefusedAt old.files program n d before after
    → TellsDecl depth mid new (environment_of before.names.entries) d refusal → TellsProgram depth old new program refusal
    → IsHalt after n refusal made → TellsHalt depth old new program made
halts_at depth old mid new program n d before after refusal (halt.Stopped stop) files at refuses tells is =
    let env : Environment = environment_of before.names.entries in
    let here : TellsDecl depth mid new env d (refusal_at stop.fault) = subst (TellsDecl depth mid new env d) (sym is.refusal_is) refuses in (
      stops depth old.files program n d before after stop at (fault_of depth mid new old.files env d stop.fault files here) is.is_at.0 is.is_at.1,
      subst (TellsProgram depth old new program) (sym is.refusal_is) tells,
    )
halts_at depth old mid new program n d before after refusal halt.Memory files at refuses tells is = tt

-- what is refused where the walk ends
pub refuses_halt : (depth : ℕ) (old new : FolderData) (program : Program) (h : Halt) (refusal : ProgramRefusal)
    → refusal ≡ refusal_of h → TellsHalt depth old new program h → TellsProgram depth old new program refusal
refuses_halt depth old new program (halt.Stopped stop) refusal is halts = subst (TellsProgram depth old new program) (sym is) halts.1
refuses_halt depth old new program halt.Memory refusal is halts = subst (TellsProgram depth old new program) (sym is) tt
