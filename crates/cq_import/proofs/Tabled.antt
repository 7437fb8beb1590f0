-- The records of a file whose cells are read one after the other.
use Rattle.std.proofs.Common.{ℕ, List, [], ◌∷◌, ◌++◌, ◌+◌, ◌-◌, ◌<◌, ◌≤◌, ◌≡◌, ◌^◌, ◌∙◌, min, length, sym, ap, subst, arith}
use Rattle.std.specs.Borrow.{Bor}
use Rattle.csv.specs.declared.reader.Reader.{Reader}
use Rattle.cq_import.specs.declared.cells.Context.{Context}
use Rattle.cq_import.specs.declared.cells.Made.{Made}
use Rattle.cq_import.specs.declared.columns.Column.{Column}
use Rattle.cq_import.specs.declared.refusal.CsvRefusal.{CsvRefusal}
use Rattle.cq_import.specs.Cells.{row_cells, rows_cells}
use Rattle.cq_import.specs.Context.{Reads, faults_in}
use Rattle.cq_import.specs.Faults.{Tells}
use Rattle.cq_import.specs.Records.{Record, Remains, Takes}
use Rattle.cq_import.proofs.CellLists.{AreReading, reading_start, reading_refused, reading_more, reading_all}

-- the records before this number are read, and the reader has the others left
pub record AreTabled (context : Context) (file : List ℕ) (columns : List Column) (start number : ℕ) (old now : Made) (reader : Reader (Bor (List ℕ))) (rows : List Record) : Type 0 where
  pub others : List Record
  pub remains : Remains reader others
  pub reading : AreReading context old now (rows_cells file columns start 1 rows) (rows_cells file columns (start + (number - 1)) number others)
  pub few : start + (number - 1) + length others ≤ 16000000

pub tabled_start : (context : Context) (file : List ℕ) (columns : List Column) (start : ℕ) (old : Made) (reader : Reader (Bor (List ℕ))) (rows : List Record) → Remains reader rows
    → start + length rows ≤ 16000000 → AreTabled context file columns start 1 old old reader rows
tabled_start context file columns start old reader rows remains few =
    let same : start + (1 - 1) ≡ start = omega arith in
    record {
      others = rows;
      remains = remains;
      reading = subst (λ n. AreReading context old old (rows_cells file columns start 1 rows) (rows_cells file columns n 1 rows)) (sym same) (reading_start context old (rows_cells file columns start 1 rows));
      few = omega arith;
    }

module _ (context : Context) (file : List ℕ) (columns : List Column) (start number : ℕ) (old now : Made) (reader : Reader (Bor (List ℕ))) (rows : List Record)
    (tabled : AreTabled context file columns start number old now reader rows) where
  pub tabled_all : tabled.others ≡ [] → Reads context old now (rows_cells file columns start 1 rows)
  tabled_all none = reading_all context old now _ _ tabled.reading (ap (rows_cells file columns (start + (number - 1)) number) none)

  module _ (next : Reader (Bor (List ℕ))) (fields : Record) (takes : Takes next tabled.others fields) (generator : ℕ) (sum_is : generator ≡ min (start + (number - 1)) (2 ^ 32 - 1)) where
    generator_is : generator ≡ start + (number - 1)
    generator_is =
        let some : length tabled.others ≡ length takes.others + 1 = ap length takes.first ∙ omega arith in
        omega (arith, tabled.few)

    rest_is : rows_cells file columns (start + (number - 1)) number tabled.others ≡ row_cells file columns generator number fields ++ rows_cells file columns (start + (number - 1) + 1) (number + 1) takes.others
    rest_is =
        ap (rows_cells file columns (start + (number - 1)) number) takes.first
        ∙ ap (λ n. row_cells file columns n number fields ++ rows_cells file columns (start + (number - 1) + 1) (number + 1) takes.others) (sym generator_is)

    pub tabled_refused : (r : CsvRefusal) → Tells r (faults_in context now (row_cells file columns generator number fields)) → Tells r (faults_in context old (rows_cells file columns start 1 rows))
    tabled_refused r refuses = reading_refused context old now _ _ tabled.reading (row_cells file columns generator number fields) (rows_cells file columns (start + (number - 1) + 1) (number + 1) takes.others) r rest_is refuses

    pub tabled_more : 1 ≤ number → (new : Made) → Reads context now new (row_cells file columns generator number fields) → AreTabled context file columns start (number + 1) old new next rows
    tabled_more some new reads =
        let next_start : start + (number - 1) + 1 ≡ start + (number + 1 - 1) = omega arith in
        let count : length tabled.others ≡ length takes.others + 1 = ap length takes.first ∙ omega arith in
        record {
          others = takes.others;
          remains = takes.remains;
          reading =
              subst (λ n. AreReading context old new (rows_cells file columns start 1 rows) (rows_cells file columns n (number + 1) takes.others)) next_start
              (reading_more context old now _ _ tabled.reading new (row_cells file columns generator number fields) (rows_cells file columns (start + (number - 1) + 1) (number + 1) takes.others) rest_is reads);
          few = omega (arith, tabled.few);
        }
