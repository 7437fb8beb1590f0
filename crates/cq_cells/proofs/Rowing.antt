-- Records of a file that are tested, or whose ids are noted, one after the other.
use Rattle.std.proofs.Common.{ℕ, List, [], ◌∷◌, ◌++◌, ◌+◌, ◌≡◌, Some, None, true, false, length, refl, sym, ap, subst, ◌∙◌, append_assoc, arith}
use Rattle.std.specs.Prelude.{IfOk, Result, Ok, Err, drop, if◌then◌else◌}
use Rattle.std.specs.Borrow.{Bor}
use Rattle.std.proofs.lemmas.List.{append-nil, length_push}
use Rattle.csv.specs.declared.reader.Reader.{Reader}
use Rattle.cq_base.specs.Names.{number_of}
use Rattle.cq_import.specs.Faults.{BadHeader}
use Rattle.cq_import.specs.Records.{Record, Remains, Takes}
use Rattle.cq_import.specs.Rows.{id_of, ids_of, row_fault, same_record}
use Rattle.cq_cells.specs.declared.faults.Fault.{Fault}
use Rattle.cq_cells.specs.Found.{Found, found_in, rows_found, sheet_found}
use Rattle.cq_cells.specs.Index.{AreRowsNoted, IsIndexOf}
use Rattle.cq_cells.specs.Shown.{Lists}
use Rattle.cq_cells.proofs.Indexing.{index_empty}
use Rattle.cq_cells.proofs.Listing.{lists_none, lists_same, lists_then}

-- the records before this number are tested, and the reader has the others left
pub record AreFound (file width number : ℕ) (old now : List Fault) (places : List (List ℕ × ℕ)) (reader : Reader (Bor (List ℕ))) (rows : List Record) : Type 0 where
  pub others : List Record
  pub remains : Remains reader others
  pub ids : List (List ℕ)
  pub many : length ids + 1 ≡ number
  pub index : IsIndexOf ids places
  pub done : (ℕ → List ℕ) → List Found
  pub lists : Lists old now done
  pub split : (name : ℕ → List ℕ) → rows_found (name file) width [] 1 rows ≡ done name ++ rows_found (name file) width ids number others

pub found_start : (file width : ℕ) (old : List Fault) (places : List (List ℕ × ℕ)) (reader : Reader (Bor (List ℕ))) (rows : List Record) → places ≡ [] → Remains reader rows
    → AreFound file width 1 old old places reader rows
found_start file width old places reader rows none remains = record {
  others = rows;
  remains = remains;
  ids = [];
  many = refl;
  index = index_empty places none;
  done = λ name. [];
  lists = lists_none old;
  split = λ name. refl;
}

module _ (file width number : ℕ) (old now : List Fault) (places : List (List ℕ × ℕ)) (reader : Reader (Bor (List ℕ))) (rows : List Record)
    (on : AreFound file width number old now places reader rows) where
  pub found_all : on.others ≡ [] → Lists old now (λ name. rows_found (name file) width [] 1 rows)
  found_all none =
      lists_same old now on.done (λ name. rows_found (name file) width [] 1 rows)
      (λ name. sym (on.split name ∙ ap (λ l. on.done name ++ rows_found (name file) width on.ids number l) none ∙ append-nil (on.done name))) on.lists

  pub found_more : (next : Reader (Bor (List ℕ))) (fields : Record) (takes : Takes next on.others fields) (new : List Fault) (more : List (List ℕ × ℕ))
      → IsIndexOf (on.ids ++ id_of fields ∷ []) more
      → Lists now new (λ name. found_in (row_fault (name file) width on.ids number fields) (number_of on.ids (id_of fields)))
      → AreFound file width (number + 1) old new more next rows
  found_more next fields takes new more index lists =
      let here : (ℕ → List ℕ) → List Found = λ name. found_in (row_fault (name file) width on.ids number fields) (number_of on.ids (id_of fields)) in
      record {
        others = takes.others;
        remains = takes.remains;
        ids = on.ids ++ id_of fields ∷ [];
        many = omega (arith, on.many, length_push on.ids (id_of fields));
        index = index;
        done = λ name. on.done name ++ here name;
        lists = lists_then old now new on.done here on.lists lists;
        split = λ name.
            on.split name ∙ ap (λ l. on.done name ++ rows_found (name file) width on.ids number l) takes.first
            ∙ sym (append_assoc (on.done name) (here name) (rows_found (name file) width (on.ids ++ id_of fields ∷ []) (number + 1) takes.others));
      }

-- the ids of the records before this number are noted
pub record AreNoted (number : ℕ) (places : List (List ℕ × ℕ)) (reader : Reader (Bor (List ℕ))) (rows : List Record) : Type 0 where
  pub others : List Record
  pub remains : Remains reader others
  pub ids : List (List ℕ)
  pub many : length ids ≡ number
  pub index : IsIndexOf ids places
  pub all : ids_of rows ≡ ids ++ ids_of others
  pub count : length rows ≡ number + length others

pub noted_start : (places : List (List ℕ × ℕ)) (reader : Reader (Bor (List ℕ))) (rows : List Record) → places ≡ [] → Remains reader rows → AreNoted 0 places reader rows
noted_start places reader rows none remains =
    record { others = rows; remains = remains; ids = []; many = refl; index = index_empty places none; all = refl; count = omega arith }

module _ (number : ℕ) (places : List (List ℕ × ℕ)) (reader : Reader (Bor (List ℕ))) (rows : List Record) (on : AreNoted number places reader rows) where
  pub noted_all : on.others ≡ [] → IsIndexOf (ids_of rows) places
  noted_all none = subst (λ ids. IsIndexOf ids places) (sym (on.all ∙ ap (λ l. on.ids ++ ids_of l) none ∙ append-nil on.ids)) on.index

  pub noted_count : on.others ≡ [] → number ≡ length rows
  noted_count none = omega (arith, on.count, ap length none)

  pub noted_more : (next : Reader (Bor (List ℕ))) (fields : Record) (takes : Takes next on.others fields) (more : List (List ℕ × ℕ)) → IsIndexOf (on.ids ++ id_of fields ∷ []) more
      → AreNoted (number + 1) more next rows
  noted_more next fields takes more index = record {
    others = takes.others;
    remains = takes.remains;
    ids = on.ids ++ id_of fields ∷ [];
    many = omega (arith, on.many, length_push on.ids (id_of fields));
    index = index;
    all = on.all ∙ ap (λ l. on.ids ++ ids_of l) takes.first ∙ sym (append_assoc on.ids (id_of fields ∷ []) (ids_of takes.others));
    count = omega (arith, on.count, ap length takes.first);
  }

-- the header
pub right_header : (file : List ℕ) (wanted first : Record) (rows : List Record) → same_record first wanted ≡ true → sheet_found file wanted (first ∷ rows) ≡ rows_found file (length wanted) [] 1 rows
right_header file wanted first rows same = ap (λ b. if b then rows_found file (length wanted) [] 1 rows else found_in (Some (BadHeader file)) None) same

pub other_header : (file : List ℕ) (wanted first : Record) (rows : List Record) → same_record first wanted ≡ false → sheet_found file wanted (first ∷ rows) ≡ found_in (Some (BadHeader file)) None
other_header file wanted first rows differs = ap (λ b. if b then rows_found file (length wanted) [] 1 rows else found_in (Some (BadHeader file)) None) differs

-- what is noted of the records behind the first one
pub noted_behind : {E : Type 0} (result : Result ℕ E) (rows : List Record) (first : Record) (others : List Record) (places : List (List ℕ × ℕ)) (faults : List Fault) → rows ≡ first ∷ others
    → IfOk result (AreRowsNoted others places) → IfOk result (λ count. faults ≡ [] → AreRowsNoted (drop 1 rows) places count)
noted_behind (Ok count) rows first others places faults is noted = λ none. subst (λ (l : List Record). AreRowsNoted (drop 1 l) places count) (sym is) noted
noted_behind (Err e) rows first others places faults is noted = tt
