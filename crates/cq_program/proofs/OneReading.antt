-- What is read of some files is one, and has no fault.
use Rattle.std.proofs.Common.{◌≡◌, ℕ, List, Option, Some, None, sym, ap, ◌∙◌, refl}
use Rattle.std.specs.Prelude.{option_and_then}
use Rattle.cq_io.specs.Content.{File}
use Rattle.cq_import.specs.Entries.{entries_text, fault2_of}
use Rattle.cq_import.specs.Imports.{fault_of}
use Rattle.cq_program.specs.declared.imports.stating.Format.TheVariants.{First, Second}
use Rattle.cq_environment.specs.declared.reason.Reason.{Reason}
use Rattle.cq_environment.specs.declared.refusal.ReadCause.{ReadCause}
use Rattle.cq_environment.specs.declared.refusal.ReadCause.TheVariants.{Absent, TooLong, Failed}
use Rattle.cq_program.specs.Posed.{Posed}
use Rattle.cq_program.specs.Checks.{Stated, at_once, a_folder}
use Rattle.cq_program.specs.Folders.{Content, content_1, content_2, Reads, TellsFault, LacksFile, IsUnreadIn, rule_of}

none_some : {X : Type 0} (x : X) → None ≡ Some x → ⊥
none_some x h = absurd (cc h)

same_some : {X : Type 0} (o : Option X) (x y : X) → o ≡ Some x → o ≡ Some y → x ≡ y
same_some o x y is is' = cc

-- what a folder poses is one
pub reads_one : (files : List File) (stated : Stated) (p q : Posed) → Reads (Some files) stated p → Reads (Some files) stated q → p ≡ q
reads_one files (at_once posed) p q h g = h ∙ sym g
reads_one files (a_folder First n S dir) p q h g = h.1 ∙ sym g.1
reads_one files (a_folder Second n S dir) p q h g = h.1 ∙ sym g.1

-- its fault too
pub tells_one : (files : List File) (stated : Stated) (reason other : Reason) → TellsFault (Some files) stated reason → TellsFault (Some files) stated other → reason ≡ other
tells_one files (at_once posed) reason other h g = absurd h
tells_one files (a_folder First n S dir) reason other h g = same_some (option_and_then rule_of (fault_of files dir S)) reason other h g
tells_one files (a_folder Second n S dir) reason other h g = same_some (option_and_then rule_of (fault2_of files dir S)) reason other h g

-- a folder that poses something has no fault
pub reads_unfaulted : (files : List File) (stated : Stated) (p : Posed) (reason : Reason) → Reads (Some files) stated p → TellsFault (Some files) stated reason → ⊥
reads_unfaulted files (at_once posed) p reason reads tells = tells
reads_unfaulted files (a_folder First n S dir) p reason reads tells = none_some reason (sym (ap (option_and_then rule_of) reads.0) ∙ tells)
reads_unfaulted files (a_folder Second n S dir) p reason reads tells = none_some reason (sym (ap (option_and_then rule_of) reads.0) ∙ tells)

there : (c : Content) (file : List ℕ) (cause : ReadCause) → c.first ≡ None → IsUnreadIn c file cause → cause ≡ Failed
there c file Absent none unread = absurd (none_some _ (sym none ∙ unread))
there c file TooLong none unread = absurd (none_some _ (sym none ∙ unread))
there c file Failed none unread = refl

-- and each file of it is there, and isn't too long
pub reads_there : (files : List File) (stated : Stated) (p : Posed) (file : List ℕ) (cause : ReadCause)
    → Reads (Some files) stated p → LacksFile (Some files) stated file cause → cause ≡ Failed
reads_there files (at_once posed) p file cause reads lacks = absurd lacks
reads_there files (a_folder First n S dir) p file cause reads lacks = there (content_1 files dir S) file cause reads.0 lacks
reads_there files (a_folder Second n S dir) p file cause reads lacks = there (content_2 files (entries_text files dir) dir S) file cause reads.0 lacks
