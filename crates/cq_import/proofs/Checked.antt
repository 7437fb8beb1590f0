-- The records of a file that are tested one after the other.
use Rattle.std.proofs.Common.{ℕ, Bool, true, false, List, [], ◌∷◌, ◌++◌, ◌+◌, ◌≡◌, Some, None, Option, length, drop, refl, sym, ap, ◌∙◌, append_assoc}
use Rattle.std.specs.Borrow.{Bor}
use Rattle.std.proofs.lemmas.List.{append-nil}
use Rattle.csv.specs.declared.reader.Reader.{Reader}
use Rattle.cq_import.specs.declared.refusal.CsvRefusal.{CsvRefusal}
use Rattle.cq_import.specs.Faults.{Fault, BadHeader, Tells, or_else}
use Rattle.cq_import.specs.Records.{Record, Remains, Takes, Steps}
use Rattle.cq_import.specs.Rows.{id_of, ids_of, row_fault, rows_fault, same_record, sheet_fault}
use Rattle.cq_import.proofs.Faulty.{after_none, refuses_first, refuses_same}

pub ended : (reader : Reader (Bor (List ℕ))) (rows : List Record) (fields : Record) (found : Bool) → found ≡ false → Steps reader rows fields found → rows ≡ []
ended reader rows fields true is steps = cc is
ended reader rows fields false is steps = steps

pub taken : (reader : Reader (Bor (List ℕ))) (rows : List Record) (fields : Record) (found : Bool) → found ≡ true → Steps reader rows fields found → Takes reader rows fields
taken reader rows fields true is steps = steps
taken reader rows fields false is steps = cc is

-- the records so far are tested and have these ids, and the reader has the others left
pub record AreChecked (file : List ℕ) (count number : ℕ) (ids : List (List ℕ)) (reader : Reader (Bor (List ℕ))) (rows : List Record) : Type 0 where
  pub others : List Record
  pub remains : Remains reader others
  pub fault : rows_fault file count [] 1 rows ≡ rows_fault file count ids number others
  pub all_ids : ids_of rows ≡ ids ++ ids_of others

module _ (file : List ℕ) (count number : ℕ) (ids : List (List ℕ)) (reader : Reader (Bor (List ℕ))) (rows : List Record) (checked : AreChecked file count number ids reader rows) where
  pub all_passed : checked.others ≡ [] → rows_fault file count [] 1 rows ≡ None
  all_passed none = checked.fault ∙ ap (rows_fault file count ids number) none

  pub all_added : checked.others ≡ [] → ids ≡ ids_of rows
  all_added none = sym (checked.all_ids ∙ ap (λ rest. ids ++ ids_of rest) none ∙ append-nil ids)

  module _ (next : Reader (Bor (List ℕ))) (fields : Record) (takes : Takes next checked.others fields) where
    fault_here : rows_fault file count [] 1 rows ≡ or_else (row_fault file count ids number fields) (rows_fault file count (ids ++ id_of fields ∷ []) (number + 1) takes.others)
    fault_here = checked.fault ∙ ap (rows_fault file count ids number) takes.first

    pub one_refused : (r : CsvRefusal) → Tells r (row_fault file count ids number fields) → Tells r (rows_fault file count [] 1 rows)
    one_refused r refuses = refuses_same r _ _ (sym fault_here) (refuses_first r (row_fault file count ids number fields) _ refuses)

    pub one_checked : (more : List (List ℕ)) → row_fault file count ids number fields ≡ None → more ≡ ids ++ id_of fields ∷ [] → AreChecked file count (number + 1) more next rows
    one_checked more passed added = record {
      others = takes.others;
      remains = takes.remains;
      fault = fault_here ∙ after_none _ _ passed ∙ ap (λ known. rows_fault file count known (number + 1) takes.others) (sym added);
      all_ids = checked.all_ids ∙ ap (λ rest. ids ++ ids_of rest) takes.first ∙ sym (append_assoc ids (id_of fields ∷ []) (ids_of takes.others)) ∙ ap (λ known. known ++ ids_of takes.others) (sym added);
    }

pub other_header : (file : List ℕ) (wanted first : Record) (rows : List Record) → same_record first wanted ≡ false → sheet_fault file wanted (first ∷ rows) ≡ Some (BadHeader file)
other_header file wanted first rows differs = rw differs refl

pub right_header : (file : List ℕ) (wanted first : Record) (rows : List Record) → same_record first wanted ≡ true → sheet_fault file wanted (first ∷ rows) ≡ rows_fault file (length wanted) [] 1 rows
right_header file wanted first rows same = rw same refl
