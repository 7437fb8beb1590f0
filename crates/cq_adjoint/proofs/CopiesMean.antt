-- Where the presentation of coeval holds, the copies of a row name an answer, and keys and cells are those of answers.
use Rattle.std.proofs.Common.{ℕ, zero, suc, true, List, [], ◌∷◌, Option, Some, ◌≡◌, ◌<◌, ◌+◌, ◌*◌, map, length, refl, sym, ap, subst, ◌∙◌, arith}
use Rattle.std.specs.Prelude.{slice_get, slice_index, slice_index_or, All}
use Rattle.std.specs.List.{range_with_len}
use Rattle.std.proofs.lemmas.List.{length-map}
use Rattle.std.proofs.lemmas.Option.{slice_get_within, get_or_from_slice_get}
use Rattle.cq_base.specs.declared.name.Name.{Name}
use Rattle.cq_theory.specs.declared.presentation.Equation.{Equation}
use Rattle.cq_theory.specs.declared.presentation.Equation.TheVariants.{Ent as EntEquation}
use Rattle.cq_theory.specs.declared.presentation.Sort.{Sort}
use Rattle.cq_theory.specs.declared.presentation.Sort.TheVariants.{Plain, Entity}
use Rattle.cq_theory.specs.declared.schema.Edge.{Edge}
use Rattle.cq_theory.specs.declared.term.EntTerm.{EntTerm}
use Rattle.cq_theory.specs.declared.term.TypeTerm.{TypeTerm}
use Rattle.cq_theory.specs.declared.constant.Con.TheVariants.{Named}
use Rattle.cq_theory.specs.declared.value.Value.{Value}
use Rattle.cq_theory.specs.declared.value.Value.TheVariants.{Const, Null}
use Rattle.cq_theory.specs.declared.value.Entry.{Entry}
use Rattle.cq_theory.specs.Derivation.{left_of, right_of}
use Rattle.cq_theory.specs.Sorts.{entity_of, type_of}
use Rattle.cq_theory.specs.Tables.{Tables, Meaning, AtRow, AtValue, Assignment, row_in, value_in, count_of, key_at, cell_at, row_of, value_of, value_step, meaning_of, applied, value_type, normal_of, HasSort, IsWellFormed, Holds}
use Rattle.cq_theory.proofs.Faults.{made_of}
use Rattle.cq_theory.proofs.OnValues.{All_at}
use Rattle.cq_theory.proofs.Sound.{row_of-within}
use Rattle.cq_theory.proofs.TypeTerms.{fold-Gen, fold-Fun}
use Rattle.cq_theory.proofs.Values as values
use Rattle.cq_instance.proofs.Lists.{get-map, get-range}
use Rattle.cq_terms.specs.ValueTerms.{value_term_step, entry_equation}
use Rattle.cq_query.specs.QueryData.{QueryData as Query}
use Rattle.cq_query.specs.Puts.{put, put_type, put_equation}
use Rattle.cq_query.specs.Translation.{variables_at, tests_at, assigned, attribute_term, term_or_constant}
use Rattle.cq_query.specs.IsQuery.{IsQuery}
use Rattle.cq_query.specs.Answers.{stands, variable_counts}
use Rattle.cq_query.specs.Leading.{IsAnswer, led}
use Rattle.cq_query.specs.Coeval.{row_terms, null_start, cell_equation, coeval_of}
use Rattle.cq_query.proofs.Answering.{IsIn}
use Rattle.cq_query.proofs.Holding.{tuple_from}
use Rattle.cq_query.proofs.Meaning.{put_row, put_value, put_holds}
use Rattle.cq_query.proofs.Standing.{Stand, generators_at, assigned_stand, within_length}
use Rattle.cq_adjoint.specs.Copies.{copied_value}
use Rattle.cq_adjoint.proofs.Copied.{stand, null_at, test_in, key_in, cell_in, entry_in}

module _ (Q : Query) (query : IsQuery Q) (M : Tables) (tables : IsWellFormed Q.target M) (N : Tables) (B : Assignment) (holds : Holds Q.source (coeval_of Q M) N B) where
  abbrev n : ℕ
  n = length Q.target.entities

  abbrev terms_at : ℕ → ℕ → List EntTerm
  terms_at e row = row_terms Q M.sheet.counts e row

  -- the rows that the copies of a row name
  abbrev pub rows_at : ℕ → ℕ → List ℕ
  rows_at e row = map (row_of N B) (terms_at e row)

  -- what a value of the tables means
  abbrev pub value_at : Value → Value
  value_at v = value_of N B (copied_value Q M v)

  holds_in : (x : Equation) → IsIn x (coeval_of Q M).equations → meaning_of N B (left_of x) ≡ meaning_of N B (right_of x)
  holds_in x h = holds.equations h.0 x h.1

  pub rows_count : (e row : ℕ) → e < n → row < count_of M e → length (rows_at e row) ≡ length (variables_at Q e)
  rows_count e row within inside = length-map (terms_at e row) (row_of N B) ∙ (stand Q M e row within inside).count

  row_inside : (e row : ℕ) → e < n → row < count_of M e → (k r count : ℕ) → slice_get (rows_at e row) k ≡ Some r → slice_get (variable_counts Q N e) k ≡ Some count → r < count
  row_inside e row within inside k r count at counted =
      let t = made_of (row_of N B) (terms_at e row) k r at in
      let v = made_of (λ (v : Name × ℕ). count_of N v.1) (variables_at Q e) k count counted in
      let sorted : entity_of Q.source (coeval_of Q M).generators t.0 ≡ Some v.0.1 = (stand Q M e row within inside).each k t.0 v.0 t.1 v.1 in
      let less : row_of N B t.0 < count_of N v.0.1 = row_of-within Q.source (coeval_of Q M) N B holds t.0 v.0.1 sorted in
      subst (λ m. m < count) (sym t.2) (subst (λ m. row_of N B t.0 < m) (sym v.2) less)

  -- the rows that the copies of a row name are an answer
  pub are_answer : (e row : ℕ) → e < n → row < count_of M e → IsAnswer Q N e (rows_at e row)
  are_answer e row within inside = (
    tuple_from (rows_at e row) (variable_counts Q N e) (rows_count e row within inside ∙ sym (length-map (variables_at Q e) (λ (v : Name × ℕ). count_of N v.1)))
        (row_inside e row within inside),
    λ k x at.
        let presented = (query.each_frozen e within).equations k x at in
        put_holds Q N B (terms_at e row) e (stand Q M e row within inside).count x (presented.sort, presented.left, presented.right)
        (holds_in (put_equation (terms_at e row) x) (test_in Q M e row within inside k x at)),
  )

  key_ends : (k : ℕ) (edge : Edge) → slice_get Q.target.keys k ≡ Some edge → (edge.from < n) × (edge.to < n)
  key_ends k edge is = subst (λ (e : Edge). (e.from < n) × (e.to < n)) (get_or_from_slice_get Q.target.keys k edge edge is) (query.target.keys k edge (slice_get_within Q.target.keys k edge is))

  pub attribute_from : (a : ℕ) (edge : Edge) → slice_get Q.target.attributes a ≡ Some edge → edge.from < n
  attribute_from a edge is =
      (subst (λ (e : Edge). (e.from < n) × (e.to < length Q.target.typeside.types)) (get_or_from_slice_get Q.target.attributes a edge edge is)
      (query.target.attributes a edge (slice_get_within Q.target.attributes a edge is))).0

  -- terms beside one another that name the same rows
  same_rows : (ts us : List EntTerm) → length ts ≡ length us → ((m : ℕ) (t u : EntTerm) → slice_get ts m ≡ Some t → slice_get us m ≡ Some u → row_of N B t ≡ row_of N B u)
      → map (row_of N B) ts ≡ map (row_of N B) us
  same_rows [] [] same h = refl
  same_rows [] (u ∷ us) same h = absurd (omega arith)
  same_rows (t ∷ ts) [] same h = absurd (omega arith)
  same_rows (t ∷ ts) (u ∷ us) same h =
      let first : row_of N B t ≡ row_of N B u = h zero t u refl refl in
      let rest : map (row_of N B) ts ≡ map (row_of N B) us = same_rows ts us (omega arith) (λ m v w left right. h (suc m) v w left right) in
      λ i. first i ∷ rest i

  -- the terms of a key on the copies of a row name the rows to which the key leads from the rows of the copies
  led_terms : (k : ℕ) (edge : Edge) → slice_get Q.target.keys k ≡ Some edge → (ts : List EntTerm) → length ts ≡ length (variables_at Q edge.from)
      → map (row_of N B) (map (put ts) (assigned Q k)) ≡ led Q N k (map (row_of N B) ts)
  led_terms k edge is ts count = go (assigned Q k) (λ m t at.
      let v = within_length (variables_at Q edge.to) (assigned Q k) m t at (sym key.count) in
      put_row Q N B ts edge.from count t v.0.1 (key.each m t v.0 at v.1))
    where
      key : Stand Q (generators_at Q edge.from) (assigned Q k) edge.to
      key = assigned_stand Q query k edge is

      go : (us : List EntTerm) → ((m : ℕ) (t : EntTerm) → slice_get us m ≡ Some t → row_of N B (put ts t) ≡ row_of N (stands Q N (map (row_of N B) ts)) t)
          → map (row_of N B) (map (put ts) us) ≡ map (row_of N (stands Q N (map (row_of N B) ts))) us
      go [] h = refl
      go (t ∷ us) h =
          let first : row_of N B (put ts t) ≡ row_of N (stands Q N (map (row_of N B) ts)) t = h zero t refl in
          let rest = go us (λ m u at. h (suc m) u at) in
          λ i. first i ∷ rest i

  module _ (k : ℕ) (edge : Edge) (is : slice_get Q.target.keys k ≡ Some edge) (row : ℕ) (inside : row < count_of M edge.from) where
    pub key_inside : key_at M k row < count_of M edge.to
    key_inside =
        let column = tables.key_columns k edge is in
        column.1 row 0 (subst (λ m. row < m) (sym column.0) inside)

    -- the copies of the row to which a key leads name the answer to which the key leads
    pub key_led : rows_at edge.to (key_at M k row) ≡ led Q N k (rows_at edge.from row)
    key_led =
        let ends = key_ends k edge is in
        let key = assigned_stand Q query k edge is in
        let count : length (terms_at edge.to (key_at M k row)) ≡ length (map (put (terms_at edge.from row)) (assigned Q k)) =
        (stand Q M edge.to (key_at M k row) ends.1 key_inside).count ∙ sym (length-map (assigned Q k) (put (terms_at edge.from row)) ∙ key.count) in
        same_rows (terms_at edge.to (key_at M k row)) (map (put (terms_at edge.from row)) (assigned Q k)) count (λ m t u left right.
        ap row_in (holds_in (EntEquation t u) (key_in Q M edge.from row ends.0 inside k edge is refl m t u left right)))
        ∙ led_terms k edge is (terms_at edge.from row) (stand Q M edge.from row ends.0 inside).count

  module _ (a : ℕ) (edge : Edge) (is : slice_get Q.target.attributes a ≡ Some edge) (row : ℕ) (inside : row < count_of M edge.from) where
    attribute_is : type_of Q.source (generators_at Q edge.from) (attribute_term Q a) ≡ Some edge.to
    attribute_is = let one = query.attributes a edge is in ap (λ o. type_of Q.source (generators_at Q edge.from) (term_or_constant o)) one.found ∙ one.typed

    -- the query's term has at the answer what the value in the cell means
    pub cell_means : value_of N (stands Q N (rows_at edge.from row)) (attribute_term Q a) ≡ value_at (cell_at M a row)
    cell_means =
        let from = attribute_from a edge is in
        sym (put_value Q N B (terms_at edge.from row) edge.from (stand Q M edge.from row from inside).count (attribute_term Q a) edge.to attribute_is)
        ∙ ap value_in (holds_in (cell_equation Q M.sheet (length M.algebra.nulls) edge.from row a) (cell_in Q M edge.from row from inside a edge is refl))

    pub cell_typed : value_type Q.target M.algebra.nulls (cell_at M a row) ≡ Some edge.to
    cell_typed =
        let column = tables.cell_columns a edge is in
        (column.1 row (Const (Named 0)) (subst (λ m. row < m) (sym column.0) inside)).0

  -- the value of a null
  pub null_is : (label : ℕ) → label < length M.algebra.nulls → value_at (Null label) ≡ value_in (slice_index_or B (null_start Q M.sheet.counts + label) (AtRow 0))
  null_is label within =
      let number : slice_index (range_with_len (null_start Q M.sheet.counts) (length M.algebra.nulls)) label ≡ null_start Q M.sheet.counts + label =
      get_or_from_slice_get (range_with_len (null_start Q M.sheet.counts) (length M.algebra.nulls)) label (null_start Q M.sheet.counts + label) 0
      (get-range (null_start Q M.sheet.counts) (length M.algebra.nulls) label within) in
      ap (value_of N B) (values.fold-Null TypeTerm (value_term_step (null_start Q M.sheet.counts) (length M.algebra.nulls)) label)
      ∙ fold-Gen Value (value_step N B) (slice_index (range_with_len (null_start Q M.sheet.counts) (length M.algebra.nulls)) label)
      ∙ ap (λ (m : ℕ). value_in (slice_index_or B m (AtRow 0))) number

  sorted_value : (m : Meaning) (type : ℕ) → HasSort Q.source N (Plain type) m → (value_type Q.source N.algebra.nulls (value_in m) ≡ Some type) × (normal_of N (value_in m) ≡ value_in m)
  sorted_value (AtRow r) type h = absurd h
  sorted_value (AtValue v) type h = h

  pub null_sorted : (label type : ℕ) → slice_get M.algebra.nulls label ≡ Some type
      → (value_type Q.source N.algebra.nulls (value_at (Null label)) ≡ Some type) × (normal_of N (value_at (Null label)) ≡ value_at (Null label))
  null_sorted label type h =
      let g = null_at Q M label type h in
      let place : ℕ = null_start Q M.sheet.counts + label in
      let sorted : HasSort Q.source N (Plain type) (slice_index_or B place (AtRow 0)) =
      subst (λ (s : Sort). HasSort Q.source N s (slice_index_or B place (AtRow 0))) g.2 (holds.sorts place g.0 g.1) in
      subst (λ (v : Value). (value_type Q.source N.algebra.nulls v ≡ Some type) × (normal_of N v ≡ v)) (sym (null_is label (slice_get_within M.algebra.nulls label type h)))
      (sorted_value (slice_index_or B place (AtRow 0)) type sorted)

  -- an entry holds among the values
  pub entry_means : (k : ℕ) (entry : Entry) → slice_get M.algebra.entries k ≡ Some entry
      → applied N entry.function (map (value_of N B) (map (copied_value Q M) entry.args)) ≡ value_at entry.value
  entry_means k entry at =
      sym (fold-Fun Value (value_step N B) entry.function (map (copied_value Q M) entry.args))
      ∙ ap value_in (holds_in (entry_equation (null_start Q M.sheet.counts) (length M.algebra.nulls) entry) (entry_in Q M k entry at))
