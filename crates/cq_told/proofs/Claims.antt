-- What is told of a fault, put together from what its parts tell.
use Rattle.std.proofs.Common.{ℕ, List, [], ◌++◌, ◌≡◌, ◌⊎◌, ◌<◌, ◌≤◌, inl, inr, Bool, true, false, String, Option, Some, None, Result, Ok, Err, IfOk, length, refl, sym, ap, subst, ◌∙◌}
use Rattle.std.specs.Prelude.{IfSome, IsErr, MatchOption, Vec, get_or, slice_get, vec_len}
use Rattle.std.specs.declared.alloc.AllocError.{AllocError}
use Rattle.std.specs.declared.alloc.Global.{Global}
use Rattle.std.proofs.lemmas.Option.{slice_get-get_or}
use Rattle.cq_base.specs.declared.place.Place.{Place}
use Rattle.cq_clash.specs.Clash.{Tells, TellsClash}
use Rattle.cq_io.specs.Content.{File, find_file}
use Rattle.cq_io.specs.FolderData.{FolderData}
use Rattle.cq_io.specs.Reads.{IsReadOf}
use Rattle.cq_io.specs.declared.refusal.ReadRefusal.{ReadRefusal}
use Rattle.cq_io.specs.declared.refusal.ReadRefusal.TheVariants as refused
use Rattle.cq_known.specs.Spelled.{IsSpelledFrom}
use Rattle.cq_known.specs.declared.unknown.Unknown.{Unknown as Found}
use Rattle.cq_lex.specs.Tokens as lexed
use Rattle.cq_lex.specs.declared.token.Token.{Token}
use Rattle.cq_place.specs.Shown.{shown_at}
use Rattle.cq_program.specs.Folders.{Told}
use Rattle.cq_environment.specs.declared.refusal.ReadCause.{ReadCause}
use Rattle.cq_environment.specs.declared.reason.Reason.{Reason}
use Rattle.cq_environment.specs.declared.reason.Reason.TheVariants.{Inconsistent, Unknown}
use Rattle.cq_program.specs.Stop.{MeetRules, StopsAt}
use Rattle.cq_program.specs.declared.stops.Fault.{Fault}
use Rattle.cq_program.specs.declared.stops.Fault.TheVariants.{Broken, Unread}
use Rattle.cq_program.specs.declared.stops.Stop.{Stop}
use Rattle.cq_syntax.specs.Program.{IsProgram, FitsLimits}
use Rattle.cq_syntax.specs.declared.program.Decl.{Decl}
use Rattle.cq_syntax.specs.declared.program.Program.{Program}
use Rattle.cq_told.specs.Explained.{AreMet, Explains, ExplainsText, HasDerived, IsDerived, IsMet, IsProgramFault, IsShownOf, IsTextFault, IsTokenFault, IsToldOf, StopsIn, StopsOrMeets}
use Rattle.cq_told.specs.Explained.{absent, at_name, failed, faulty, file_limit, met, no_meaning, no_program, read, there, too_long}
use Rattle.cq_told.specs.declared.telling.Telling.{Telling}

-- a call that gives bytes, or what is told
abbrev Bytes : Type 0
Bytes = Result (Vec ℕ Global) AllocError

abbrev Telled : Type 0
Telled = Result Telling AllocError

abbrev MaybeTelled : Type 0
MaybeTelled = Result (Option Telling) AllocError

-- lines of a conflict
pub conflict_told : (least greater old new : List ℕ) (found : Bool) → old ≡ [] → Tells least greater old new found → TellsClash least greater [] new ⊎ (new ≡ [])
conflict_told least greater old new true empty told = inl (subst (λ (o : List ℕ). TellsClash least greater o new) empty told)
conflict_told least greater old new false empty told = inr (told ∙ empty)

derived_by : (reason : Reason) (least greater lines : List ℕ) → reason ≡ Inconsistent least greater → TellsClash least greater [] lines ⊎ (lines ≡ []) → IsDerived reason lines
derived_by reason least greater lines is told = λ other another also.
    let same : Inconsistent least greater ≡ Inconsistent other another = sym is ∙ also in
    let first : least ≡ other = cc in
    let second : greater ≡ another = cc in
    subst (λ (x : List ℕ × List ℕ). TellsClash x.0 x.1 [] lines ⊎ (lines ≡ [])) (λ i. (first i, second i)) told

pub derived_ok : (reason : Reason) (least greater : List ℕ) (r : Bytes) → reason ≡ Inconsistent least greater
    → IfOk r (λ lines. TellsClash least greater [] lines.items ⊎ (lines.items ≡ [])) → IfOk r (λ lines. IsDerived reason lines.items)
derived_ok reason least greater (Ok lines) is told = derived_by reason least greater lines.items is told
derived_ok reason least greater (Err e) is told = tt

pub other_ok : (reason : Reason) (r : Bytes) → ((least greater : List ℕ) → reason ≡ Inconsistent least greater → ⊥) → IfOk r (λ lines. IsDerived reason lines.items)
other_ok reason (Ok lines) none = λ least greater is. absurd (none least greater is)
other_ok reason (Err e) none = tt

-- the words with these lines among them
pub has_derived : (reason : Reason) (words before middle after lines : List ℕ) → words ≡ before ++ middle ++ after → middle ≡ lines → IsDerived reason lines → HasDerived reason words
has_derived reason words before middle after lines are same derived = record {
  before = before;
  lines = lines;
  after = after;
  words_are = are ∙ (λ i. before ++ same i ++ after);
  derived = derived;
}

-- the place that is shown
pub placed : (tokens : List Token) (reason : Reason) (at place : Place) (found : Option Found) → IfSome found (λ u. reason ≡ Unknown)
    → IfSome found (λ u. IsSpelledFrom tokens at u.place u.name) → MatchOption found (place ≡ at) (λ u. place ≡ u.place) → IsShownOf tokens reason at place
placed tokens reason at place None is spelled same = there same
placed tokens reason at place (Some u) is spelled same = at_name u.name is (subst (λ (p : Place). IsSpelledFrom tokens at p u.name) (sym same) spelled)

-- what is told of a declaration
pub broken_ok : (tokens : List Token) (decl : Decl) (fault : Fault) (at : Place) (reason : Reason) (r : Telled) → fault ≡ Broken at reason
    → IfOk r (λ t. IsShownOf tokens reason at t.place) → IfOk r (λ t. HasDerived reason t.words.items) → IfOk r (λ t. IsToldOf tokens decl fault t.place t.words.items)
broken_ok tokens decl fault at reason (Ok t) is place derived = subst (λ (f : Fault). IsToldOf tokens decl f t.place t.words.items) (sym is) (place, derived)
broken_ok tokens decl fault at reason (Err e) is place derived = tt

pub lacking_ok : (tokens : List Token) (decl : Decl) (fault : Fault) (file : String Global) (cause : ReadCause) (r : Telled) → fault ≡ Unread file cause
    → IfOk r (λ t. t.place ≡ decl.place) → IfOk r (λ t. IsToldOf tokens decl fault t.place t.words.items)
lacking_ok tokens decl fault file cause (Ok t) is place = subst (λ (f : Fault). IsToldOf tokens decl f t.place t.words.items) (sym is) place
lacking_ok tokens decl fault file cause (Err e) is place = tt

-- the declaration of a number is the one that stands there
pub same_at : (decls slice : List Decl) (n : ℕ) (d e : Decl) → slice ≡ decls → n < length slice → slice_get decls n ≡ Some d → d ≡ get_or slice n e
same_at decls slice n d e are inside at =
    let both : Some d ≡ Some (get_or slice n e) = sym at ∙ ap (λ (l : List Decl). slice_get l n) (sym are) ∙ slice_get-get_or slice n e inside in
    cc

module _ (depth : ℕ) (files : Told) where
  -- a stop, or none
  pub stop_at : (tree : Program) (found : Option Stop) (stop : Stop) → found ≡ Some stop → StopsOrMeets depth files tree found → StopsAt depth files tree stop
  stop_at tree found stop is stops = subst (StopsOrMeets depth files tree) is stops

  pub meets_at : (tree : Program) (found : Option Stop) → found ≡ None → StopsOrMeets depth files tree found → MeetRules files tree
  meets_at tree found is stops = subst (StopsOrMeets depth files tree) is stops

  -- the stop of a text that was read
  pub stops_read : (r : Result (Vec ℕ Global) ReadRefusal) (text : Vec ℕ Global) (slice : List ℕ) (stop : Option Stop) → r ≡ Ok text → slice ≡ text.items
      → IfOk r (λ t. StopsIn depth files t.items stop) → StopsIn depth files slice stop
  stops_read r text slice stop is same stops =
      let read : StopsIn depth files text.items stop = subst (λ (x : Result (Vec ℕ Global) ReadRefusal). IfOk x (λ t. StopsIn depth files t.items stop)) is stops in
      subst (λ (t : List ℕ). StopsIn depth files t stop) (sym same) read

  pub program_ok : (tokens : List Token) (tree : Program) (r : MaybeTelled) → IsProgram tokens tree × FitsLimits tree
      → IfOk r (λ found. MatchOption found (MeetRules files tree) (λ t. IsProgramFault depth files tokens tree t.place t.words.items))
      → IfOk r (λ found. MatchOption found (AreMet depth files tokens) (λ t. IsTokenFault depth files tokens t.place t.words.items))
  program_ok tokens tree (Ok None) is told = record { tree = tree; spelled = is.0; fits = is.1; meets = told }
  program_ok tokens tree (Ok (Some t)) is told = no_meaning tree is.0 is.1 told
  program_ok tokens tree (Err e) is told = tt

  pub tokens_ok : (text : List ℕ) (tokens slice : List Token) (r : MaybeTelled) → lexed.Tokens text tokens → slice ≡ tokens
      → IfOk r (λ found. MatchOption found (AreMet depth files slice) (λ t. IsTokenFault depth files slice t.place t.words.items))
      → IfOk r (λ found. MatchOption found (IsMet depth files text) (λ t. IsTextFault depth files text t.place t.words.items))
  tokens_ok text tokens slice (Ok None) are same told = (slice, subst (lexed.Tokens text) (sym same) are, told)
  tokens_ok text tokens slice (Ok (Some t)) are same told = no_program slice (subst (lexed.Tokens text) (sym same) are) told
  tokens_ok text tokens slice (Err e) are same told = tt

  pub shown_ok : (text : List ℕ) (found : Option Telling) (t : Telling) (r : Bytes) → found ≡ Some t
      → MatchOption found (IsMet depth files text) (λ x. IsTextFault depth files text x.place x.words.items)
      → IfOk r (λ out. out.items ≡ shown_at text t.place ++ t.words.items) → IfOk r (λ out. ExplainsText depth files text out.items)
  shown_ok text found t (Ok out) is told shown =
      faulty t.place t.words.items
      (subst (λ (o : Option Telling). MatchOption o (IsMet depth files text) (λ x. IsTextFault depth files text x.place x.words.items)) is told) shown
  shown_ok text found t (Err e) is told shown = tt

  pub none_shown : (text : List ℕ) (found : Option Telling) → found ≡ None
      → MatchOption found (IsMet depth files text) (λ x. IsTextFault depth files text x.place x.words.items) → ExplainsText depth files text []
  none_shown text found is told =
      met (subst (λ (o : Option Telling). MatchOption o (IsMet depth files text) (λ x. IsTextFault depth files text x.place x.words.items)) is told) refl

-- the folder that a file was read from
module _ (depth : ℕ) (folder : FolderData) (file : List ℕ) where
  -- what a read answers
  abbrev IsAnswer : Result (Vec ℕ Global) ReadRefusal → Type 0
  IsAnswer r = IfSome folder.files (IsReadOf file file_limit r)

  pub short_of : (r : Result (Vec ℕ Global) ReadRefusal) (text : Vec ℕ Global) → r ≡ Ok text → IfOk r (λ t. vec_len t ≤ file_limit) → vec_len text ≤ file_limit
  short_of r text is short = subst (λ (x : Result (Vec ℕ Global) ReadRefusal). IfOk x (λ t. vec_len t ≤ file_limit)) is short

  pub read_ok : (reading : Result (Vec ℕ Global) ReadRefusal) (text : Vec ℕ Global) (slice : List ℕ) (r : Bytes) → reading ≡ Ok text → IsAnswer reading → slice ≡ text.items
      → IfOk r (λ out. ExplainsText depth folder.files slice out.items) → IfOk r (λ out. Explains depth folder file out.items)
  read_ok reading text slice (Ok out) is known same told =
      read text.items (subst IsAnswer is known) (subst (λ (t : List ℕ). ExplainsText depth folder.files t out.items) same told)
  read_ok reading text slice (Err e) is known same told = tt

  unread_by : (refusal : ReadRefusal) (out : Vec ℕ Global) → IfSome folder.files (IsReadOf file file_limit (Err refusal)) → (refusal ≡ refused.Failed → folder.steady ≡ false)
      → (refusal ≡ refused.Memory → ⊥) → Explains depth folder file out.items
  unread_by refused.Absent out known fails none = absent known
  unread_by refused.TooLong out known fails none = too_long known
  unread_by refused.Failed out known fails none = failed (fails refl)
  unread_by refused.Memory out known fails none = absurd (none refl)

  pub unread_ok : (reading : Result (Vec ℕ Global) ReadRefusal) (refusal : ReadRefusal) (r : Bytes) → reading ≡ Err refusal → IsAnswer reading
      → (reading ≡ Err refused.Failed → folder.steady ≡ false) → (refusal ≡ refused.Memory → IsErr r) → IfOk r (λ out. Explains depth folder file out.items)
  unread_ok reading refusal (Ok out) is known fails none =
      unread_by refusal out (subst IsAnswer is known) (λ at. fails (is ∙ ap (λ (e : ReadRefusal). Err e) at)) (λ at. let wrong : false ≡ true = none at in cc)
  unread_ok reading refusal (Err e) is known fails none = tt
