-- What one step adds to the values that have been found.
use Rattle.std.proofs.Common.{ℕ, zero, suc, Bool, true, false, List, [], Option, Some, None, ◌∷◌, ◌≡◌, ◌<◌, ◌≤◌, ◌+◌, ◌||◌, inl, inr, get_or, length, map, replicate, refl, sym, ap, subst, ◌∙◌, arith}
use Rattle.std.specs.Prelude.{slice_get, slice_index, slice_index_or, option_map}
use Rattle.std.proofs.lemmas.Option.{slice_get-get_or, slice_get_within, get_or_from_slice_get}
use Rattle.std.proofs.lemmas.Bool.{cases_order}
use Rattle.std.proofs.lemmas.List.FromFn.{get_or-map-range_with_len, length-map-range_with_len}
use Rattle.cq_theory.specs.declared.constant.Con.TheVariants.{Named}
use Rattle.cq_theory.specs.declared.schema.Edge.{Edge}
use Rattle.cq_theory.specs.declared.value.Value.{Value}
use Rattle.cq_theory.specs.declared.value.Value.TheVariants.{Const}
use Rattle.cq_theory.specs.declared.value.Entry.{Entry}
use Rattle.cq_theory.specs.declared.presentation.Sort.{Sort}
use Rattle.cq_theory.specs.declared.presentation.Sort.TheVariants.{Plain, Entity}
use Rattle.cq_theory.specs.declared.term.Term.TheVariants.{Typ}
use Rattle.cq_theory.specs.declared.term.TypeTerm.TheVariants as term
use Rattle.cq_theory.specs.Sorts.{type_at, type_of, type_step, IsGround}
use Rattle.cq_theory.specs.Tables.{Assignment, count_of, cell_at, value_of, IsWellFormed}
use Rattle.cq_theory.proofs.ResolvedSorts.{map_some}
use Rattle.cq_theory.proofs.TypeTerms.{fold-Gen}
use Rattle.cq_theory.specs.Canonical.{below}
use Rattle.cq_instance.specs.InstanceData.{InstanceData}
use Rattle.cq_transform.specs.Rows.{row_there, rows_there, rows_made}
use Rattle.cq_transform.specs.Nulls.{Found, Keeps, IsClosed, AreClosed, IsEntryClosed, IsEntryOf, IsAttributeClosed, AreAttributesClosed, IsGenerator, IsStandingOf, IsPlainClosed, AreGeneratorsClosed, IsCellOf, IsColumnOf, AreSpelled, count_open}
use Rattle.cq_transform.proofs.Loops.{more_below, member_at, member_read, read_at}
use Rattle.cq_transform.proofs.Spelled.{closed-kept}

-- the values of a column up to one more place
pub column_more : (column : List Value) (k : ℕ) (x : Value) (before after : Found) → k < length column → x ≡ get_or column k x → Keeps before after → IsClosed after x
    → ((n : ℕ) → n < k → (v : Value) → slice_get column n ≡ Some v → IsClosed before v) → (n : ℕ) → n < k + 1 → (v : Value) → slice_get column n ≡ Some v → IsClosed after v
column_more column k x before after within is keeps here closed =
    more_below (λ n. (v : Value) → slice_get column n ≡ Some v → IsClosed before v) (λ n. (v : Value) → slice_get column n ≡ Some v → IsClosed after v) k
    (λ n old v at. closed-kept before after keeps v (old v at)) closed (λ v at. subst (IsClosed after) (member_read column k x v within is at) here)

-- a member of a column is a cell
pub cell_of_column : (i j : InstanceData) (B : Assignment) (a : ℕ) (images : List ℕ) (column : List Value) (k image : ℕ) (x : Value) → k < length column → x ≡ get_or column k x
    → image ≡ slice_index images k → IsColumnOf i j B a images column → IsCellOf i j B a k image x
cell_of_column i j B a images column k image x within is reads h =
    let inside : k < count_of i.tables h.edge.from = subst (λ n. k < n) h.count within in
    record {
      edge = h.edge;
      attribute = h.attribute;
      within = inside;
      cell = is ∙ sym (get_or_from_slice_get column k (get_or column k x) (Const (Named 0)) (slice_get-get_or column k x within))
          ∙ ap (λ (l : List Value). slice_index_or l k (Const (Named 0))) h.column_is;
      goes = reads ∙ ap (λ (l : List ℕ). slice_index l k) h.go ∙ get_or-map-range_with_len (row_there i j B h.edge.from) 0 (count_of i.tables h.edge.from) k k 0 inside (omega arith);
    }

past : {X : Type 0} (xs : List X) (n : ℕ) (d : X) → length xs ≤ n → slice_index_or xs n d ≡ d
past [] n d h = refl
past (x ∷ xs) zero d h = absurd (omega arith)
past (x ∷ xs) (suc n) d h = past xs n d (omega arith)

-- the rows of an entity, also where there is none
list_there : (i j : InstanceData) (B : Assignment) (e : ℕ) → IsWellFormed i.schema i.tables → slice_index_or (rows_made i j B) e [] ≡ rows_there i j B e
list_there i j B e well = elim (cases_order e (length i.schema.entities)) [
  | inl same ↦ beyond (omega (arith, same))
  | inr other ↦ elim other [
    | inl less ↦ get_or-map-range_with_len (rows_there i j B) 0 (length i.schema.entities) e e [] less (omega arith)
    | inr more ↦ beyond (omega (arith, more))
  ]
]
  where
    beyond : length i.schema.entities ≤ e → slice_index_or (rows_made i j B) e [] ≡ rows_there i j B e
    beyond h =
        let none : count_of i.tables e ≡ 0 = past i.tables.sheet.counts e 0 (omega (arith, well.entities, h)) in
        past (rows_made i j B) e [] (omega (arith, length-map-range_with_len (rows_there i j B) 0 (length i.schema.entities), h))
        ∙ ap (λ n. map (row_there i j B e) (below n)) (sym none)

-- the column of an attribute, and the rows of its entity
pub column_of : (i j : InstanceData) (B : Assignment) (a entity : ℕ) (rows : List (List ℕ)) (images : List ℕ) (column : List Value) → IsWellFormed i.schema i.tables
    → a < length i.schema.attributes → ((edge : Edge) → slice_get i.schema.attributes a ≡ Some edge → entity ≡ edge.from)
    → column ≡ slice_index_or i.tables.sheet.cells a [] → images ≡ slice_index_or rows entity [] → rows ≡ rows_made i j B → IsColumnOf i j B a images column
column_of i j B a entity rows images column well within from cells reads made =
    let at = member_at i.schema.attributes a within in
    record {
      edge = at.0;
      attribute = at.1;
      count = ap length cells ∙ (well.cell_columns a at.0 at.1).0;
      column_is = cells;
      go = reads ∙ ap (λ (l : List (List ℕ)). slice_index_or l entity []) made ∙ list_there i j B entity well ∙ ap (rows_there i j B) (from at.0 at.1);
    }

pub attribute_closed : (i : InstanceData) (found : Found) (a : ℕ) (column : List Value) → IsWellFormed i.schema i.tables → column ≡ slice_index_or i.tables.sheet.cells a [] → AreClosed found column
    → IsAttributeClosed i found a
attribute_closed i found a column well same closed edge at row within =
    closed row (cell_at i.tables a row)
    (ap (λ (l : List Value). slice_get l row) same
    ∙ slice_get-get_or (slice_index_or i.tables.sheet.cells a []) row (Const (Named 0)) (subst (λ n. row < n) (sym (well.cell_columns a edge at).0) within))

pub attributes_kept : (i : InstanceData) (before after : Found) (count : ℕ) → Keeps before after → AreAttributesClosed i before count → AreAttributesClosed i after count
attributes_kept i before after count keeps closed a less edge at row within = closed-kept before after keeps (cell_at i.tables a row) (closed a less edge at row within)

pub attributes_more : (i : InstanceData) (before after : Found) (k : ℕ) → Keeps before after → IsAttributeClosed i after k → AreAttributesClosed i before k → AreAttributesClosed i after (k + 1)
attributes_more i before after k keeps here closed =
    more_below (IsAttributeClosed i before) (IsAttributeClosed i after) k
    (λ a old edge at row within. closed-kept before after keeps (cell_at i.tables a row) (old edge at row within)) closed here

-- the entries up to one more
pub entries_more : (here : List Entry) (k : ℕ) (entry : Entry) (found : Found) → k < length here → entry ≡ get_or here k entry → IsEntryClosed found entry
    → ((n : ℕ) → n < k → (e : Entry) → slice_get here n ≡ Some e → IsEntryClosed found e) → (n : ℕ) → n < k + 1 → (e : Entry) → slice_get here n ≡ Some e → IsEntryClosed found e
entries_more here k entry found within is closed before =
    more_below (λ n. (e : Entry) → slice_get here n ≡ Some e → IsEntryClosed found e) (λ n. (e : Entry) → slice_get here n ≡ Some e → IsEntryClosed found e) k
    (λ n old. old) before (λ e at. subst (IsEntryClosed found) (member_read here k entry e within is at) closed)

pub entry_of : (i : InstanceData) (here : List Entry) (k : ℕ) (entry : Entry) → i.tables.algebra.entries ≡ here → k < length here → entry ≡ get_or here k entry → IsEntryOf i entry
entry_of i here k entry same within is = (k, ap (λ (l : List Entry). slice_get l k) same ∙ read_at here k entry within is)

-- where a pass has found a value, fewer are open than at first
pub once_more : (changed told : Bool) (initial before after : Found) (X Y : Type 0) → (changed ≡ true → count_open before < count_open initial) → (changed ≡ false → (before ≡ initial) × X)
    → (told ≡ true → count_open after < count_open before) → (told ≡ false → (after ≡ before) × Y) → (changed || told) ≡ true → count_open after < count_open initial
once_more true true initial before after X Y fewer same less still e =
    let first : count_open before < count_open initial = fewer refl in
    let second : count_open after < count_open before = less refl in
    omega arith
once_more true false initial before after X Y fewer same less still e = subst (λ (found : Found). count_open found < count_open initial) (sym (still refl).0) (fewer refl)
once_more false true initial before after X Y fewer same less still e = subst (λ (found : Found). count_open after < count_open found) (same refl).0 (less refl)
once_more false false initial before after X Y fewer same less still e = cc

-- and where it has found none, the entries so far tell none
pub once_closed : (here : List Entry) (k : ℕ) (entry : Entry) (changed told : Bool) (initial before after : Found) → k < length here → entry ≡ get_or here k entry
    → (changed ≡ false → (before ≡ initial) × ((n : ℕ) → n < k → (e : Entry) → slice_get here n ≡ Some e → IsEntryClosed initial e))
    → (told ≡ false → (after ≡ before) × IsEntryClosed before entry) → (changed || told) ≡ false
    → (after ≡ initial) × ((n : ℕ) → n < k + 1 → (e : Entry) → slice_get here n ≡ Some e → IsEntryClosed initial e)
once_closed here k entry true told initial before after within is same still e = cc
once_closed here k entry false true initial before after within is same still e = cc
once_closed here k entry false false initial before after within is same still e =
    let first = same refl in
    let second = still refl in
    (second.0 ∙ first.0, entries_more here k entry initial within is (subst (λ (found : Found). IsEntryClosed found entry) first.0 second.1) first.1)

-- a test that is answered both ways
pub known_not : (r b : Bool) → r ≡ true → r ≡ b → b ≡ false → ⊥
known_not r b t e f = let clash : true ≡ false = sym t ∙ e ∙ f in cc

-- what a generator of a type stands for
pub standing_of : (i : InstanceData) (n : ℕ) (v : Value) → IsGround i.schema i.presentation (Typ (term.Gen n)) → v ≡ value_of i.tables i.assignment (term.Gen n) → IsStandingOf i n v
standing_of i n v ground is =
    let typed = map_some Plain (type_of i.schema i.presentation.generators (term.Gen n)) ground.0 ground.1 in
    (typed.0, typed.1, is)

pub plain_ground : (i : InstanceData) (n type : ℕ) (sort : Sort) → IsGenerator i n sort → sort ≡ Plain type → IsGround i.schema i.presentation (Typ (term.Gen n))
plain_ground i n type sort h is = (
  Plain type,
  ap (option_map Plain) (fold-Gen (Option ℕ) (type_step i.schema i.presentation.generators) n ∙ ap type_at h.1 ∙ ap (λ (s : Sort). type_at (Some (h.0, s))) is),
)

-- a generator of an entity has no type
pub entity_closed : (i : InstanceData) (found : Found) (n entity : ℕ) (sort : Sort) → IsGenerator i n sort → sort ≡ Entity entity → IsPlainClosed i found n
entity_closed i found n entity sort h is type typed =
    absurd (let clash : None ≡ Some type = sym (fold-Gen (Option ℕ) (type_step i.schema i.presentation.generators) n ∙ ap type_at h.1 ∙ ap (λ (s : Sort). type_at (Some (h.0, s))) is) ∙ typed in cc)

pub generators_kept : (i : InstanceData) (before after : Found) (count : ℕ) → Keeps before after → AreGeneratorsClosed i before count → AreGeneratorsClosed i after count
generators_kept i before after count keeps closed n less type typed = closed-kept before after keeps (value_of i.tables i.assignment (term.Gen n)) (closed n less type typed)

pub generators_more : (i : InstanceData) (before after : Found) (k : ℕ) → Keeps before after → IsPlainClosed i after k → AreGeneratorsClosed i before k → AreGeneratorsClosed i after (k + 1)
generators_more i before after k keeps here closed =
    more_below (IsPlainClosed i before) (IsPlainClosed i after) k
    (λ n old type typed. closed-kept before after keeps (value_of i.tables i.assignment (term.Gen n)) (old type typed)) closed here

-- no value has been found at first
none_at : (n label : ℕ) (v : Value) → slice_get (replicate n None) label ≡ Some (Some v) → ⊥
none_at zero label v h = cc
none_at (suc n) zero v h = cc
none_at (suc n) (suc label) v h = none_at n label v h

pub nothing_spelled : (i j : InstanceData) (B : Assignment) (found : Found) (n : ℕ) → found ≡ replicate n None → AreSpelled i j B found
nothing_spelled i j B found n same label v at = absurd (none_at n label v (ap (λ (l : Found). slice_get l label) (sym same) ∙ at))

abbrev nothing : ℕ → Found
nothing n = replicate n None

none_size : (n : ℕ) → length (nothing n) ≡ n
none_size zero = refl
none_size (suc n) = ap suc (none_size n)

pub nothing_count : (n : ℕ) (found : Found) → found ≡ replicate n None → length found ≡ n
nothing_count n found same = ap length same ∙ none_size n
