-- What an import answers over a folder without fault.
use Rattle.std.proofs.Common.{ℕ, List, Some, None, ◌≡◌, sym, ◌∙◌}
use Rattle.std.specs.Prelude.{Result, Ok, Err, IfOk, IfErr}
use Rattle.cq_io.specs.Content.{File, path_of}
use Rattle.cq_theory.specs.declared.presentation.Presentation.{Presentation}
use Rattle.cq_theory.specs.Canonical.{canonical}
use Rattle.cq_instance.specs.InstanceData.{InstanceData, IsInstance}
use Rattle.cq_import.specs.declared.refusal.CsvRefusal.{CsvRefusal}
use Rattle.cq_import.specs.declared.refusal.CsvRefusal.TheVariants as refusal
use Rattle.cq_import.specs.Entries.{IsImport2, fault2_of, imported2}
use Rattle.cq_return.specs.Return.{HoldsFiles, IsNoFault, IsReturnable}
use Rattle.cq_return.proofs.AllReadable.{are_readable}
use Rattle.cq_return.proofs.Paths.{holds_at}
use Rattle.cq_return.proofs.Returned.{no_fault_in, returned}

module _ (i : InstanceData) (path name : List ℕ) (files : List File) (is : IsInstance i) (returnable : IsReturnable i) (holds : HoldsFiles files path name i) where
  pub reads : (fault2_of files (path_of path name) i.schema ≡ None) × (imported2 files (path_of path name) i.schema ≡ canonical i.schema i.tables)
  reads = (
    no_fault_in (path_of path name) i is (are_readable i is returnable) files (holds_at path name i files holds),
    returned (path_of path name) i is (are_readable i is returnable) files (holds_at path name i files holds),
  )

  no_such : {A : Type 0} (r : CsvRefusal) (f : _) → fault2_of files (path_of path name) i.schema ≡ Some f → A
  no_such r f some = let none = reads.0 in cc (sym none ∙ some)

  pub answers : (result : Result Presentation CsvRefusal) → IsImport2 files (path_of path name) i.schema result
      → IfOk result (λ made. made ≡ canonical i.schema i.tables) × IfErr result IsNoFault
  answers (Ok made) (none, same) = (same ∙ reads.1, tt)
  answers (Err refusal.Memory) h = (tt, tt)
  answers (Err (refusal.ReadFault file)) h = (tt, tt)
  answers (Err (refusal.Absent file)) h = no_such (refusal.Absent file) _ h
  answers (Err (refusal.TooLong file)) h = no_such (refusal.TooLong file) _ h
  answers (Err (refusal.NotCsv file number)) h = no_such (refusal.NotCsv file number) _ h
  answers (Err (refusal.BadHeader file)) h = no_such (refusal.BadHeader file) _ h
  answers (Err (refusal.BadCell file number column)) h = no_such (refusal.BadCell file number column) _ h
  answers (Err (refusal.DoubleId file number)) h = no_such (refusal.DoubleId file number) _ h
  answers (Err (refusal.NoSuchId file number column)) h = no_such (refusal.NoSuchId file number column) _ h
  answers (Err refusal.TooLarge) h = no_such refusal.TooLarge _ h
