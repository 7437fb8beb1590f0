-- Records of a file that are read one after the other, each with a fault or with what it adds to a list.
use Rattle.std.proofs.Common.{ℕ, Bool, true, false, List, [], ◌∷◌, ◌++◌, ◌+◌, ◌≡◌, Option, Some, None, cond, map, filter, length, drop, refl, sym, ap, subst, ◌∙◌, append_assoc, arith}
use Rattle.std.specs.Prelude.{if◌then◌else◌}
use Rattle.std.specs.Borrow.{Bor}
use Rattle.std.specs.List.{flat_map}
use Rattle.std.proofs.lemmas.List.{append-nil, length-append}
use Rattle.csv.specs.declared.reader.Reader.{Reader}
use Rattle.cq_theory.specs.declared.presentation.Equation.{Equation}
use Rattle.cq_theory.specs.TypesideData.{TypesideData as Typeside}
use Rattle.cq_import.specs.declared.refusal.CsvRefusal.{CsvRefusal}
use Rattle.cq_import.specs.Entries.{entries_fault, entry_equations, entry_fault, given, is_null, kind_fault, line_fault, lines_fault, mark, marked_fault, null_use, nulls_fault, with_null}
use Rattle.cq_import.specs.Faults.{BadHeader, Fault, NotCsv, Tells, or_else}
use Rattle.cq_import.specs.Labels.{Labels, Use}
use Rattle.cq_import.specs.Records.{Record, Remains, Takes, records_of}
use Rattle.cq_import.specs.Rows.{is_row, rows_of, same_record}
use Rattle.cq_import.proofs.Faulty.{after_none, refuses_first, refuses_same}

-- some records are read, and the others are left: the fault of all is that of the others, and all make what is done with what the others make
pub record AreOn {Y : Type 0} (whole : Option Fault) (list : List Y) (reader : Reader (Bor (List ℕ))) (f : List Record → Option Fault) (done : List Y) (g : List Record → List Y) : Type 0 where
  pub others : List Record
  pub remains : Remains reader others
  pub fault : whole ≡ f others
  pub made : list ≡ done ++ g others

pub on_start : {Y : Type 0} (reader : Reader (Bor (List ℕ))) (f : List Record → Option Fault) (old : List Y) (g : List Record → List Y) (rows : List Record) → Remains reader rows
    → AreOn (f rows) (old ++ g rows) reader f old g
on_start reader f old g rows remains = record { others = rows; remains = remains; fault = refl; made = refl }

module _ {Y : Type 0} (whole : Option Fault) (list : List Y) (reader : Reader (Bor (List ℕ))) (f : List Record → Option Fault) (done : List Y) (g : List Record → List Y)
    (on : AreOn whole list reader f done g) where
  pub on_passed : on.others ≡ [] → f [] ≡ None → whole ≡ None
  on_passed none nothing = on.fault ∙ ap f none ∙ nothing

  pub on_made : on.others ≡ [] → g [] ≡ [] → done ≡ list
  on_made none nothing = sym (on.made ∙ ap (λ l. done ++ g l) none ∙ ap (λ l. done ++ l) nothing ∙ append-nil done)

  module _ (next : Reader (Bor (List ℕ))) (fields : Record) (takes : Takes next on.others fields) (here later : Option Fault) (first : f (fields ∷ takes.others) ≡ or_else here later) where
    pub on_refused : (r : CsvRefusal) → Tells r here → Tells r whole
    on_refused r refuses = refuses_same r (or_else here later) whole (sym (on.fault ∙ ap f takes.first ∙ first)) (refuses_first r here later refuses)

    pub on_more : (f' : List Record → Option Fault) (done' some : List Y) → here ≡ None → later ≡ f' takes.others → g (fields ∷ takes.others) ≡ some ++ g takes.others → done' ≡ done ++ some
        → AreOn whole list next f' done' g
    on_more f' done' some passed rest adds is = record {
      others = takes.others;
      remains = takes.remains;
      fault = on.fault ∙ ap f takes.first ∙ first ∙ after_none here later passed ∙ rest;
      made =
          on.made ∙ ap (λ l. done ++ g l) takes.first ∙ ap (λ l. done ++ l) adds ∙ sym (append_assoc done some (g takes.others))
          ∙ ap (λ l. l ++ g takes.others) (sym is);
    }

-- the records behind the first one
pub behind : (reader : Reader (Bor (List ℕ))) (text : List ℕ) (fields : Record) → Takes reader (records_of text) fields → Remains reader (rows_of text)
behind reader text fields takes = subst (λ (l : List Record). Remains reader (drop 1 l)) (sym takes.first) takes.remains

pub none_behind : (text : List ℕ) → records_of text ≡ [] → rows_of text ≡ []
none_behind text none = ap (drop 1) none

pub other_mark : (file : List ℕ) (first : Record) (rows : List Record) → same_record first mark ≡ false → marked_fault file (first ∷ rows) ≡ Some (BadHeader file)
other_mark file first rows differs = ap (λ (b : Bool). if b then lines_fault file 1 rows else Some (BadHeader file)) differs

pub right_mark : (file : List ℕ) (first : Record) (rows : List Record) → same_record first mark ≡ true → marked_fault file (first ∷ rows) ≡ lines_fault file 1 rows
right_mark file first rows same = ap (λ (b : Bool). if b then lines_fault file 1 rows else Some (BadHeader file)) same

-- Lines, of which those of nulls are counted.
abbrev one_of : {X : Type 0} → Bool → X → List X
one_of b x = cond b (x ∷ []) []

kept : {X : Type 0} (b : Bool) (x : X) (xs : List X) → cond b (x ∷ xs) xs ≡ one_of b x ++ xs
kept true x xs = refl
kept false x xs = refl

one_more : (b : Bool) (x : Record) (n : ℕ) → n + length (one_of b x) ≡ n + (if b then 1 else 0)
one_more true x n = refl
one_more false x n = refl

pub line_passes : (file : List ℕ) (number : ℕ) (fields : Record) → is_row 3 fields ≡ true → line_fault file number fields ≡ None
line_passes file number fields is = ap (λ (b : Bool). if b then None else Some (NotCsv file number)) is

pub line_fails : (file : List ℕ) (number : ℕ) (fields : Record) → is_row 3 fields ≡ false → line_fault file number fields ≡ Some (NotCsv file number)
line_fails file number fields is = ap (λ (b : Bool). if b then None else Some (NotCsv file number)) is

pub record AreCounted (file : List ℕ) (rows : List Record) (number nulls : ℕ) (reader : Reader (Bor (List ℕ))) : Type 0 where
  pub done : List Record
  pub many : length done ≡ nulls
  pub on : AreOn (lines_fault file 1 rows) (filter is_null rows) reader (lines_fault file number) done (filter is_null)

pub counted_start : (file : List ℕ) (rows : List Record) (reader : Reader (Bor (List ℕ))) → Remains reader rows → AreCounted file rows 1 0 reader
counted_start file rows reader remains = record { done = []; many = refl; on = on_start reader (lines_fault file 1) [] (filter is_null) rows remains }

module _ (file : List ℕ) (rows : List Record) (number nulls : ℕ) (reader : Reader (Bor (List ℕ))) (counted : AreCounted file rows number nulls reader) where
  pub counted_passed : counted.on.others ≡ [] → lines_fault file 1 rows ≡ None
  counted_passed none = on_passed _ _ reader (lines_fault file number) counted.done (filter is_null) counted.on none refl

  pub counted_all : counted.on.others ≡ [] → nulls ≡ length (filter is_null rows)
  counted_all none = sym counted.many ∙ ap length (on_made _ _ reader (lines_fault file number) counted.done (filter is_null) counted.on none refl)

  module _ (next : Reader (Bor (List ℕ))) (fields : Record) (takes : Takes next counted.on.others fields) where
    pub counted_refused : (r : CsvRefusal) → Tells r (line_fault file number fields) → Tells r (lines_fault file 1 rows)
    counted_refused r refuses =
        on_refused _ _ reader (lines_fault file number) counted.done (filter is_null) counted.on next fields takes (line_fault file number fields) (lines_fault file (number + 1) takes.others) refl r refuses

    pub counted_more : (more : ℕ) → line_fault file number fields ≡ None → more ≡ nulls + (if is_null fields then 1 else 0) → AreCounted file rows (number + 1) more next
    counted_more more passed is =
        let some = one_of (is_null fields) fields in
        record {
          done = counted.done ++ some;
          many = length-append counted.done some ∙ ap (λ n. n + length some) counted.many ∙ one_more (is_null fields) fields nulls ∙ sym is;
          on =
              on_more _ _ reader (lines_fault file number) counted.done (filter is_null) counted.on next fields takes (line_fault file number fields) (lines_fault file (number + 1) takes.others) refl
              (lines_fault file (number + 1)) (counted.done ++ some) some passed refl (kept (is_null fields) fields (filter is_null takes.others)) refl;
        }

-- Nulls, whose labels are added.
module _ (T : Typeside) (file : List ℕ) where
  abbrev pub AreGiven : Labels → List Record → ℕ → Labels → Reader (Bor (List ℕ)) → Type 0
  AreGiven old rows number labels reader = AreOn (nulls_fault T file old 1 rows) (old ++ given T rows) reader (nulls_fault T file labels number) labels (given T)

  given_first : (b : Bool) (fields : Record) (rest : List Record) → map (null_use T) (cond b (fields ∷ rest) rest) ≡ map (null_use T) (one_of b fields) ++ map (null_use T) rest
  given_first true fields rest = refl
  given_first false fields rest = refl

  given_done : (b : Bool) (labels : Labels) (fields : Record) → (if b then labels ++ null_use T fields ∷ [] else labels) ≡ labels ++ map (null_use T) (one_of b fields)
  given_done true labels fields = refl
  given_done false labels fields = sym (append-nil labels)

  module _ (old : Labels) (rows : List Record) (number : ℕ) (labels : Labels) (reader : Reader (Bor (List ℕ))) (on : AreGiven old rows number labels reader)
      (next : Reader (Bor (List ℕ))) (fields : Record) (takes : Takes next on.others fields) where
    pub given_refused : (r : CsvRefusal) → Tells r (kind_fault T file labels number fields) → Tells r (nulls_fault T file old 1 rows)
    given_refused r refuses =
        on_refused _ _ reader (nulls_fault T file labels number) labels (given T) on next fields takes (kind_fault T file labels number fields)
        (nulls_fault T file (with_null T labels fields) (number + 1) takes.others) refl r refuses

    pub given_more : (new : Labels) → kind_fault T file labels number fields ≡ None → new ≡ with_null T labels fields → AreGiven old rows (number + 1) new next
    given_more new passed is =
        on_more _ _ reader (nulls_fault T file labels number) labels (given T) on next fields takes (kind_fault T file labels number fields)
        (nulls_fault T file (with_null T labels fields) (number + 1) takes.others) refl
        (nulls_fault T file new (number + 1)) new (map (null_use T) (one_of (is_null fields) fields)) passed (ap (λ l. nulls_fault T file l (number + 1) takes.others) (sym is))
        (given_first (is_null fields) fields (filter is_null takes.others)) (is ∙ given_done (is_null fields) labels fields)

-- Entries, whose equations are added.
module _ (T : Typeside) (file : List ℕ) (first : ℕ) (labels : Labels) where
  abbrev pub AreEntered : List Equation → List Record → ℕ → List Equation → Reader (Bor (List ℕ)) → Type 0
  AreEntered old rows number equations reader =
      AreOn (entries_fault T file labels 1 rows) (old ++ flat_map (entry_equations T first labels) rows) reader (entries_fault T file labels number) equations (flat_map (entry_equations T first labels))

  module _ (old : List Equation) (rows : List Record) (number : ℕ) (equations : List Equation) (reader : Reader (Bor (List ℕ))) (on : AreEntered old rows number equations reader)
      (next : Reader (Bor (List ℕ))) (fields : Record) (takes : Takes next on.others fields) where
    pub entered_refused : (r : CsvRefusal) (same : Labels) → same ≡ labels → Tells r (entry_fault T file same number fields) → Tells r (entries_fault T file labels 1 rows)
    entered_refused r same is refuses =
        on_refused _ _ reader (entries_fault T file labels number) equations (flat_map (entry_equations T first labels)) on next fields takes (entry_fault T file labels number fields)
        (entries_fault T file labels (number + 1) takes.others) refl r (refuses_same r _ _ (ap (λ l. entry_fault T file l number fields) is) refuses)

    pub entered_more : (new : List Equation) (same : Labels) → same ≡ labels → entry_fault T file same number fields ≡ None → new ≡ equations ++ entry_equations T first same fields
        → AreEntered old rows (number + 1) new next
    entered_more new same is passed adds =
        on_more _ _ reader (entries_fault T file labels number) equations (flat_map (entry_equations T first labels)) on next fields takes (entry_fault T file labels number fields)
        (entries_fault T file labels (number + 1) takes.others) refl
        (entries_fault T file labels (number + 1)) new (entry_equations T first labels fields) (ap (λ l. entry_fault T file l number fields) (sym is) ∙ passed) refl refl
        (adds ∙ ap (λ l. equations ++ entry_equations T first l fields) is)
