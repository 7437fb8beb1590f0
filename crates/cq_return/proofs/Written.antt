-- What is read of a file of records is these records.
use Rattle.std.specs.Prelude.{map, None}
use Rattle.std.proofs.Common.{◌≡◌, ◌∷◌, ◌∙◌, [], ℕ, List, Some, refl, sym, ap, codes}
use Rattle.csv.specs.Machine.{Read, next_record}
use Rattle.csv.specs.Reading.{AreRecords, Reached, default_config, records, strip_bom}
use Rattle.csv.specs.Writing.{fields_text, is_blank, read_back}
use Rattle.csv.specs.declared.parser.Config.{Config}
use Rattle.csv.specs.declared.parser.State.{State}
use Rattle.csv.specs.declared.parser.State.TheVariants as st
use Rattle.csv.proofs.RoundTrip.{read-write}
use Rattle.cq_import.proofs.AllRecords as all
use Rattle.cq_import.specs.Records.{Record, records_of}
use Rattle.cq_csv.specs.Records.{file_text}

-- written records are reached, in order
written_reached : (rows : List Record) → Reached default_config st.StartRecord (file_text rows) (map read_back rows) st.StartRecord []
unfolding Reached
written_reached [] = (refl, refl)
written_reached (row ∷ rows) = ((read_back row, st.StartRecord, file_text rows), read-write row (file_text rows), refl, written_reached rows)

written_records : (rows : List Record) → AreRecords default_config st.StartRecord (file_text rows) (map read_back rows)
unfolding next_record
written_records rows = (st.StartRecord, [], written_reached rows, refl)

-- a text has one list of records
clash : (cfg : Config) (s s2 : State) (xs ys : List ℕ) (p : Read) → s ≡ s2 → xs ≡ ys → next_record cfg s [] [] xs ≡ Some p → next_record cfg s2 [] [] ys ≡ None → ⊥
clash cfg s s2 xs ys p e f n none =
    let both : next_record cfg s [] [] xs ≡ None = rw (e, f) none in
    cc (sym n ∙ both)

same_read : (cfg : Config) (s : State) (xs : List ℕ) (p q : Read) → next_record cfg s [] [] xs ≡ Some p → next_record cfg s [] [] xs ≡ Some q → p ≡ q
same_read cfg s xs p q n m = cc (sym n ∙ m)

one_list : (cfg : Config) (s : State) (xs : List ℕ) (a b : List Record) → AreRecords cfg s xs a → AreRecords cfg s xs b → a ≡ b
unfolding Reached
one_list cfg s xs [] [] p q = refl
one_list cfg s xs [] (r ∷ rs) (s2, ys, is, none) (s3, zs, more, end) = absurd (clash cfg s s2 xs ys more.0 is.0 is.1 more.1 none)
one_list cfg s xs (r ∷ rs) [] (s3, zs, more, end) (s2, ys, is, none) = absurd (clash cfg s s2 xs ys more.0 is.0 is.1 more.1 none)
one_list cfg s xs (r ∷ rs) (t ∷ ts) (s2, ys, a, end) (s3, zs, b, stop) =
    let e = same_read cfg s xs a.0 b.0 a.1 b.1 in
    let rest = one_list cfg b.0.1 b.0.2 rs ts (s2, ys, rw e at a.3, end) (s3, zs, b.3, stop) in
    rw (a.2, b.2, e, rest) refl

-- a file whose first field is one of these has no mark of byte order
id_first : (fields : Record) (rows : List Record) → strip_bom (file_text ((codes "id" ∷ fields) ∷ rows)) ≡ file_text ((codes "id" ∷ fields) ∷ rows)
unfolding strip_bom fields_text is_blank
id_first [] rows = refl
id_first (field ∷ fields) rows = refl

mark_first : (fields : Record) (rows : List Record) → strip_bom (file_text ((codes "format-2" ∷ fields) ∷ rows)) ≡ file_text ((codes "format-2" ∷ fields) ∷ rows)
unfolding strip_bom fields_text is_blank
mark_first [] rows = refl
mark_first (field ∷ fields) rows = refl

-- each record has a field
abbrev pub HaveFields : List Record → Type 0
HaveFields [] = Unit {0}
HaveFields ([] ∷ rows) = ⊥
HaveFields ((field ∷ fields) ∷ rows) = HaveFields rows

as_written : (rows : List Record) → HaveFields rows → map read_back rows ≡ rows
as_written [] have = refl
as_written ([] ∷ rows) have = absurd have
as_written ((field ∷ fields) ∷ rows) have = ap (λ l. (field ∷ fields) ∷ l) (as_written rows have)

back : (rows : List Record) → HaveFields rows → strip_bom (file_text rows) ≡ file_text rows → records_of (file_text rows) ≡ rows
back rows have plain =
    ap (records default_config) plain
    ∙ one_list default_config st.StartRecord (file_text rows) (records default_config (file_text rows)) (map read_back rows)
    (all.records-are default_config (file_text rows)) (written_records rows)
    ∙ as_written rows have

-- the records of an entity's file, and of the file with the nulls and the entries
pub id_back : (fields : Record) (rows : List Record) → HaveFields rows → records_of (file_text ((codes "id" ∷ fields) ∷ rows)) ≡ (codes "id" ∷ fields) ∷ rows
id_back fields rows have = back ((codes "id" ∷ fields) ∷ rows) have (id_first fields rows)

pub mark_back : (fields : Record) (rows : List Record) → HaveFields rows
    → records_of (file_text ((codes "format-2" ∷ fields) ∷ rows)) ≡ (codes "format-2" ∷ fields) ∷ rows
mark_back fields rows have = back ((codes "format-2" ∷ fields) ∷ rows) have (mark_first fields rows)
