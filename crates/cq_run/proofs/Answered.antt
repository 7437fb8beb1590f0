-- From what became of the file to the answer.
use Rattle.std.proofs.Common.{◌≡◌, ◌∙◌, ◌≤◌, ℕ, List, Some, Err, IfSome, inl, inr, map, refl, sym, subst, arith}
use Rattle.cq_io.specs.FolderData.{FolderData}
use Rattle.cq_import.specs.Folders.{Keeps}
use Rattle.cq_io.specs.Counts.{Rose}
use Rattle.cq_io.specs.Reads.{IsReadOf}
use Rattle.cq_io.specs.declared.refusal.ReadRefusal.{ReadRefusal}
use Rattle.cq_io.specs.declared.refusal.ReadRefusal.TheVariants as refused
use Rattle.cq_program.specs.Folders.{Raised, Told}
use Rattle.cq_program.specs.Named.{listed_as}
use Rattle.cq_program.specs.Program.{Lacks}
use Rattle.cq_environment.specs.declared.refusal.ReadCause.{ReadCause}
use Rattle.cq_environment.specs.declared.refusal.ReadCause.TheVariants.{Absent, TooLong, Failed}
use Rattle.cq_run.specs.Ask.{depth_asked, file_asked}
use Rattle.cq_run.specs.Answer.{Answers, IsRefusalOf, Judges, SaysRead, SaysUnread}
use Rattle.cq_run.specs.Clause.{IsCauseOf, IsTextIn, IsTextOf, IsUnread, LacksText, file_limit}
use Rattle.cq_run.specs.Meaning.{Means, MissesFile}
use Rattle.cq_run.specs.declared.answer.Answer.{Answer}
use Rattle.cq_run.specs.declared.answer.Answer.TheVariants as answer
use Rattle.cq_syntax.specs.declared.program.Program.{Program}
use Rattle.cq_words.specs.Ask.{Ask, run, example, explain}

-- what a refused read says of the files
abbrev pub IsTold : List ℕ → Told → ReadRefusal → Type 0
IsTold file told refusal = IfSome told (IsReadOf file file_limit (Err refusal))

rose_before : (a b c : ℕ) → a ≤ b → Rose b c → Rose a c
rose_before a b c le rose = omega (arith, le, rose)

-- a count that rose after another read rose since before that
raised_before : (a b c : FolderData) (cause : ReadCause) → Keeps a b → Raised cause b c → Raised cause a c
raised_before a b c Absent keeps rose = rose_before a.absences b.absences c.absences keeps.absences rose
raised_before a b c TooLong keeps rose = rose_before a.overruns b.overruns c.overruns keeps.overruns rose
raised_before a b c Failed keeps raised = (rose_before a.faults b.faults c.faults keeps.faults raised.0, sym keeps.steady ∙ raised.1)

misses_before : (a b c : FolderData) (tree : Program) (line : List ℕ) → Keeps a b → MissesFile b c tree line → MissesFile a c tree line
misses_before a b c tree line keeps misses = record {
  file = misses.file;
  cause = misses.cause;
  lacks = subst (λ (told : Told). Lacks told tree misses.file misses.cause) keeps.files misses.lacks;
  raised = raised_before a b c misses.cause keeps misses.raised;
  line_is = misses.line_is;
}

-- its text was judged, after it was read
judged_as : (ask : Ask) (before read after : FolderData) (text : List ℕ) (a : Answer) → IsTextOf ask before.files text → Keeps before read
    → Judges (depth_asked ask) read after text a → Answers ask before after a
judged_as ask before read after text (answer.Accepted instances) is keeps judged =
    record { text = text; is_text = is; judges = subst (λ (told : Told). Means told text (map listed_as instances.items)) keeps.files judged }
judged_as ask before read after text (answer.Refused line) is keeps judged =
    record { text = text; is_text = is; judges = subst (λ (told : Told). IsRefusalOf (depth_asked ask) told text line.items) keeps.files judged }
judged_as ask before read after text (answer.Unread line) is keeps judged = inr (record {
  text = text;
  is_text = is;
  tree = judged.0;
  is_tree = judged.1;
  misses = misses_before before read after judged.0 line.items keeps judged.2;
})
judged_as ask before read after text answer.Memory is keeps judged = tt

-- the same of a slice of the text
pub answered : (ask : Ask) (before read after : FolderData) (text slice : List ℕ) (a : Answer) → IsTextOf ask before.files text → Keeps before read
    → slice ≡ text → Judges (depth_asked ask) read after slice a → Answers ask before after a
answered ask before read after text slice a is_text keeps is judged =
    judged_as ask before read after text a is_text keeps (subst (λ (t : List ℕ). Judges (depth_asked ask) read after t a) is judged)

-- nothing was read before
pub untouched : (at : FolderData) → Keeps at at
untouched at = record {
  files = refl;
  absences = omega arith;
  faults = omega arith;
  overruns = omega arith;
  steady = refl;
  calm = λ steady. refl;
}

-- the text of the file that is named is that of the run
pub text_asked : (ask : Ask) (file : List ℕ) (told : Told) (text : List ℕ) → file_asked ask ≡ Some file → IsTextIn file told text → IsTextOf ask told text
text_asked (run name depth only) file told text is text_is =
    let same : name ≡ file = cc in
    subst (λ (f : List ℕ). IsTextIn f told text) (sym same) text_is
text_asked (example size) file told text is text_is = absurd (cc is)
text_asked (explain name instance left right depth) file told text is text_is =
    let same : name ≡ file = cc in
    subst (λ (f : List ℕ). IsTextIn f told text) (sym same) text_is

lacks_asked : (ask : Ask) (file : List ℕ) (before after : FolderData) (line : List ℕ) → file_asked ask ≡ Some file → IsUnread file before after line
    → LacksText ask before after line
lacks_asked (run name depth only) file before after line is unread =
    let same : name ≡ file = cc in
    subst (λ (f : List ℕ). IsUnread f before after line) (sym same) unread
lacks_asked (example size) file before after line is unread = absurd (cc is)
lacks_asked (explain name instance left right depth) file before after line is unread =
    let same : name ≡ file = cc in
    subst (λ (f : List ℕ). IsUnread f before after line) (sym same) unread

-- the text of the file was judged to the depth that is asked for
pub answered_file : (ask : Ask) (file : List ℕ) (depth : ℕ) (before read after : FolderData) (text slice : List ℕ) (a : Answer) → file_asked ask ≡ Some file
    → depth_asked ask ≡ depth → IsTextIn file before.files text → Keeps before read → slice ≡ text → Judges depth read after slice a → Answers ask before after a
answered_file ask file depth before read after text slice a is depth_is is_text keeps same judged =
    answered ask before read after text slice a (text_asked ask file before.files text is is_text) keeps same
    (subst (λ (k : ℕ). Judges k read after slice a) (sym depth_is) judged)

-- it was not read
unread : (ask : Ask) (file : List ℕ) (before after : FolderData) (cause : ReadCause) (a : Answer) → file_asked ask ≡ Some file
    → IsCauseOf cause file before.files → Raised cause before after → SaysUnread file cause a → Answers ask before after a
unread ask file before after cause (answer.Accepted instances) is holds raised bad = absurd bad
unread ask file before after cause (answer.Refused line) is holds raised bad = absurd bad
unread ask file before after cause (answer.Unread line) is holds raised says =
    inl (lacks_asked ask file before after line.items is (record { cause = cause; holds = holds; raised = raised; line_is = says }))
unread ask file before after cause answer.Memory is holds raised says = tt

-- the same by the refusal of the read
pub not_read_by : (ask : Ask) (file : List ℕ) (before after : FolderData) (refusal : ReadRefusal) (a : Answer) → file_asked ask ≡ Some file
    → IsTold file before.files refusal → (refusal ≡ refused.Absent → Raised Absent before after) → (refusal ≡ refused.TooLong → Raised TooLong before after)
    → (refusal ≡ refused.Failed → Raised Failed before after) → SaysRead file refusal a → Answers ask before after a
not_read_by ask file before after refused.Absent a is told absent long failed says = unread ask file before after Absent a is told (absent refl) says
not_read_by ask file before after refused.TooLong a is told absent long failed says = unread ask file before after TooLong a is told (long refl) says
not_read_by ask file before after refused.Failed a is told absent long failed says = unread ask file before after Failed a is tt (failed refl) says
not_read_by ask file before after refused.Memory a is told absent long failed says = subst (Answers ask before after) (sym says) tt
