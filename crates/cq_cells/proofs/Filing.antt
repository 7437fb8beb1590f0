-- Files that are read, tested or indexed one after the other.
use Rattle.std.proofs.Common.{ℕ, suc, List, [], ◌∷◌, ◌++◌, ◌+◌, ◌<◌, ◌≤◌, ◌≡◌, ◌⊎◌, inl, inr, Option, Some, None, length, map, take, get_or, sym, ap, subst, ◌∙◌, arith}
use Rattle.std.specs.Prelude.{IfSome, sum, unwrap_or}
use Rattle.std.specs.List.{flat_map}
use Rattle.std.proofs.Math.Seq.{take-length}
use Rattle.std.proofs.lemmas.Grind.{flat_map-append}
use Rattle.std.proofs.lemmas.List.{append-nil, get_or_append_left, get_or_push, get_or-map, length-map, length_push}
use Rattle.std.proofs.lemmas.List.Sums.{sum_by_more}
use Rattle.std.proofs.lemmas.Option.{slice_get-get_or}
use Rattle.cq_base.specs.declared.name.Name.{Name}
use Rattle.cq_io.specs.Content.{File}
use Rattle.cq_theory.specs.SchemaData.{SchemaData as Schema}
use Rattle.cq_theory.specs.Canonical.{below}
use Rattle.cq_import.specs.Folders.{name_of}
use Rattle.cq_import.proofs.Named.{range_more}
use Rattle.cq_import.proofs.Starts.{sum_take}
use Rattle.cq_cells.specs.declared.index.Indexed.{Indexed}
use Rattle.cq_cells.specs.declared.readings.Reading.{Reading}
use Rattle.cq_cells.specs.declared.readings.Reading.TheVariants.{Absent}
use Rattle.cq_cells.specs.Found.{Found}
use Rattle.cq_cells.specs.Index.{AreIndexed, IsIndexed}
use Rattle.cq_cells.specs.Readings.{AreReadings, IsReading, reading_at, text_in}

-- one file more
pub files_more : (f : ℕ → List Found) (n : ℕ) → flat_map f (below n) ++ f n ≡ flat_map f (below (n + 1))
files_more f n =
    let one : n + 1 ≡ suc n = omega arith in
    let here : 0 + n ≡ n = omega arith in
    let longer : below (n + 1) ≡ below n ++ n ∷ [] = ap below one ∙ range_more 0 n ∙ ap (λ m. below n ++ m ∷ []) here in
    sym (ap (flat_map f) longer ∙ flat_map-append f (below n) (n ∷ []) ∙ ap (λ l. flat_map f (below n) ++ l) (append-nil (f n)))

-- readings to which one is added
reading_get : (readings : List Reading) (entity : ℕ) → entity < length readings → reading_at readings entity ≡ get_or readings entity Absent
reading_get readings entity within = ap (λ o. unwrap_or o Absent) (slice_get-get_or readings entity Absent within)

pub reading_before : (readings : List Reading) (reading : Reading) (entity : ℕ) → entity < length readings → reading_at (readings ++ reading ∷ []) entity ≡ reading_at readings entity
reading_before readings reading entity within =
    let inside : entity < length (readings ++ reading ∷ []) = omega (arith, length_push readings reading) in
    reading_get (readings ++ reading ∷ []) entity inside ∙ get_or_append_left readings (reading ∷ []) Absent entity within ∙ sym (reading_get readings entity within)

pub reading_last : (readings : List Reading) (reading : Reading) (entity : ℕ) → length readings ≡ entity → reading_at (readings ++ reading ∷ []) entity ≡ reading
reading_last readings reading entity many =
    let inside : entity < length (readings ++ reading ∷ []) = omega (arith, length_push readings reading) in
    reading_get (readings ++ reading ∷ []) entity inside ∙ get_or_push readings reading Absent entity many

before_or_last : (k n : ℕ) → k < n + 1 → (k < n) ⊎ (k ≡ n)
before_or_last k n less = grind arith

-- the files of the entities before this one were read
pub record AreRead (files : Option (List File)) (dir : Name) (S : Schema) (count : ℕ) (readings : List Reading) : Type 0 where
  pub many : length readings ≡ count
  pub each : (entity : ℕ) → entity < count → IfSome files (λ told. IsReading told (name_of dir S entity) (reading_at readings entity))

pub none_read : (files : Option (List File)) (dir : Name) (S : Schema) (readings : List Reading) → readings ≡ [] → AreRead files dir S 0 readings
none_read files dir S readings none = record { many = ap length none; each = λ entity within. absurd (omega arith) }

pub one_read : (files : Option (List File)) (dir : Name) (S : Schema) (count : ℕ) (old new : List Reading) (reading : Reading) → AreRead files dir S count old → new ≡ old ++ reading ∷ []
    → IfSome files (λ told. IsReading told (name_of dir S count) reading) → AreRead files dir S (count + 1) new
one_read files dir S count old new reading read is here = record {
  many = omega (arith, read.many, ap length is, length_push old reading);
  each = λ entity within. elim (before_or_last entity count within) [
    | inl less ↦
        let there : entity < length old = omega (arith, read.many) in
        subst (λ r. IfSome files (λ told. IsReading told (name_of dir S entity) r)) (sym (ap (λ l. reading_at l entity) is ∙ reading_before old reading entity there)) (read.each entity less)
    | inr same ↦
        let last : length old ≡ entity = read.many ∙ sym same in
        subst (λ r. IfSome files (λ told. IsReading told (name_of dir S entity) r)) (sym (ap (λ l. reading_at l entity) is ∙ reading_last old reading entity last))
        (subst (λ n. IfSome files (λ told. IsReading told (name_of dir S n) reading)) (sym same) here)
  ];
}

pub all_read : (files : Option (List File)) (dir : Name) (S : Schema) (count : ℕ) (readings : List Reading) → AreRead files dir S count readings → count ≡ length S.entities
    → IfSome files (λ told. AreReadings told dir S readings)
all_read None dir S count readings read all = tt
all_read (Some told) dir S count readings read all = record { count = read.many ∙ all; each = λ entity within. read.each entity (omega arith) }

-- the tables of the files before this one
pub record AreIndexedTo (readings : List Reading) (count : ℕ) (made : List Indexed) : Type 0 where
  pub many : length made ≡ count
  pub each : (entity : ℕ) (d : Indexed) → entity < count → IsIndexed (text_in (reading_at readings entity)) (get_or made entity d)

pub none_indexed : (readings : List Reading) (made : List Indexed) → made ≡ [] → AreIndexedTo readings 0 made
none_indexed readings made none = record { many = ap length none; each = λ entity d within. absurd (omega arith) }

pub one_indexed : (readings : List Reading) (count : ℕ) (old new : List Indexed) (one : Indexed) → AreIndexedTo readings count old → new ≡ old ++ one ∷ []
    → IsIndexed (text_in (reading_at readings count)) one → AreIndexedTo readings (count + 1) new
one_indexed readings count old new one indexed is here = record {
  many = omega (arith, indexed.many, ap length is, length_push old one);
  each = λ entity d within. elim (before_or_last entity count within) [
    | inl less ↦
        let there : entity < length old = omega (arith, indexed.many) in
        subst (IsIndexed (text_in (reading_at readings entity))) (sym (ap (λ l. get_or l entity d) is ∙ get_or_append_left old (one ∷ []) d entity there)) (indexed.each entity d less)
    | inr same ↦
        let last : length old ≡ entity = indexed.many ∙ sym same in
        subst (IsIndexed (text_in (reading_at readings entity))) (sym (ap (λ l. get_or l entity d) is ∙ get_or_push old one d entity last))
        (subst (λ n. IsIndexed (text_in (reading_at readings n)) one) (sym same) here)
  ];
}

pub all_indexed : (readings : List Reading) (count : ℕ) (made : List Indexed) → AreIndexedTo readings count made → count ≡ length readings → AreIndexed readings made
all_indexed readings count made indexed all = record { many = indexed.many ∙ all; each = λ entity d within. indexed.each entity d (omega arith) }

-- how many records the files have
module _ (made : List Indexed) (k : ℕ) (one : Indexed) (within : k < length made) (is : one ≡ get_or made k one) where
  count_here : get_or (map (λ (i : Indexed). i.count) made) k 0 ≡ one.count
  count_here = get_or-map (λ (i : Indexed). i.count) made k one 0 within ∙ ap (λ (i : Indexed). i.count) (sym is)

  inside_counts : k < length (map (λ (i : Indexed). i.count) made)
  inside_counts = omega (arith, length-map made (λ (i : Indexed). i.count))

  pub count_more : sum (take (k + 1) (map (λ (i : Indexed). i.count) made)) ≡ sum (take k (map (λ (i : Indexed). i.count) made)) + one.count
  count_more = sum_by_more (λ (x : ℕ). x) (map (λ (i : Indexed). i.count) made) k 0 inside_counts ∙ ap (λ n. sum (take k (map (λ (i : Indexed). i.count) made)) + n) count_here

  pub count_fits : sum (take k (map (λ (i : Indexed). i.count) made)) + one.count ≤ sum (map (λ (i : Indexed). i.count) made)
  count_fits = omega (arith, sum_take (map (λ (i : Indexed). i.count) made) k inside_counts, count_here)

pub count_all : (made : List Indexed) (k : ℕ) → k ≡ length made → sum (take k (map (λ (i : Indexed). i.count) made)) ≡ sum (map (λ (i : Indexed). i.count) made)
count_all made k all =
    ap (λ n. sum (take n (map (λ (i : Indexed). i.count) made))) (all ∙ sym (length-map made (λ (i : Indexed). i.count))) ∙ ap sum (take-length (map (λ (i : Indexed). i.count) made))
