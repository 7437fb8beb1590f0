-- The lists of an index have all rows at which the where equations can hold.
use Rattle.std.proofs.Common.{ℕ, zero, suc, Bool, true, false, not, cond, List, [], ◌∷◌, ◌++◌, Option, Some, IfSome, Bor, ◌≡◌, ◌<◌, ◌≤◌, ◌+◌, ◌==◌, ◌||◌, map, filter, take, drop, length, inl, inr, refl, sym, ap, subst, ◌∙◌, arith}
use Rattle.std.specs.Prelude.{slice_get, slice_index, slice_index_or, All}
use Rattle.std.specs.List.{range_with_len}
use Rattle.std.proofs.lemmas.Bool.{eq-eqb, eqb-true}
use Rattle.std.proofs.lemmas.List.{length-append, length-take-le, take-append-drop}
use Rattle.std.proofs.lemmas.List.FromFn.{length-map-range_with_len, length-range_with_len}
use Rattle.std.proofs.lemmas.Option.{get_or_from_slice_get, slice_get_within}
use Rattle.cq_theory.specs.declared.constant.Con.TheVariants.{Named}
use Rattle.cq_theory.specs.declared.presentation.Equation.{Equation}
use Rattle.cq_theory.specs.declared.term.TypeTerm.TheVariants.{Att}
use Rattle.cq_theory.specs.declared.value.Value.{Value}
use Rattle.cq_theory.specs.declared.value.Value.TheVariants.{Const}
use Rattle.cq_theory.specs.Canonical.{below}
use Rattle.cq_theory.specs.Tables.{Tables, AtRow, Assignment, row_in, row_from, row_of, cell_at, value_of, value_step}
use Rattle.cq_theory.proofs.Faults.{made_of}
use Rattle.cq_theory.proofs.TypeTerms.{fold-Att}
use Rattle.cq_theory.specs.Groups.{positions_from, positions}
use Rattle.cq_instance.proofs.Lists.{All_from, get-range}
use Rattle.cq_query.specs.Answers.{IsTuple}
use Rattle.cq_query.proofs.Holding.{tuple_length}
use Rattle.cq_eval.specs.Testing.{holds_at, reach_step, reach_of_entity, reach_of, stage}
use Rattle.cq_eval.specs.Join.{passes}
use Rattle.cq_instance.specs.CellRows.{rows_from, rows_with}
use Rattle.cq_instance.specs.SameValue.{same_value}
use Rattle.cq_eval.specs.Index.{IsCellIndex, IsPathIndex, IsIndex, IsCover, sides, entity_sides, other_side, other_entity, rows_of_value, rows_of_row, listed_rows}
use Rattle.cq_eval.specs.declared.index.TestIndex.{TestIndex}
use Rattle.cq_eval.proofs.Answered.{all_at}
use Rattle.cq_instance.proofs.SameValues.{same_from_value, value_from_same}
use Rattle.cq_eval.proofs.Tested.{row_front, value_front}

pub some_listed : (M : Tables) (choice : List ℕ) (index : TestIndex) (o : Option (Bor (List ℕ))) (r : Bor (List ℕ)) (x e : Equation) → o ≡ Some r → x ≡ e
    → IfSome o (λ rows. rows.now ≡ listed_rows M choice x index) → r.now ≡ listed_rows M choice e index
some_listed M choice index o r x e is same h =
    subst (λ (y : Equation). r.now ≡ listed_rows M choice y index) same
    (subst (λ (p : Option (Bor (List ℕ))). IfSome p (λ rows. rows.now ≡ listed_rows M choice x index)) is h)

-- the places of a number, or of a value, have all members that pass, if only members that are it pass
module _ (P : List ℕ → Bool) (f : ℕ → List ℕ) where
  step : (s : ℕ) (some all : List ℕ) (b : Bool) → (P (f s) ≡ true → b ≡ true) → filter P (map f some) ≡ filter P (map f all)
      → filter P (map f (cond b (s ∷ some) some)) ≡ cond (P (f s)) (f s ∷ filter P (map f all)) (filter P (map f all))
  step s some all true only same = ap (λ l. cond (P (f s)) (f s ∷ l) l) same
  step s some all false only same = same ∙ by (P (f s)) refl
    where
      by : (c : Bool) → P (f s) ≡ c → filter P (map f all) ≡ cond c (f s ∷ filter P (map f all)) (filter P (map f all))
      by false h = refl
      by true h = let both : false ≡ true = only h in cc

  pub positions_cover : (s : ℕ) (xs : List ℕ) (e : ℕ) → ((n x : ℕ) → slice_get xs n ≡ Some x → P (f (s + n)) ≡ true → x ≡ e)
      → filter P (map f (positions_from s xs e)) ≡ filter P (map f (range_with_len s (length xs)))
  positions_cover s [] e h = refl
  positions_cover s (x ∷ xs) e h =
      let here : s + 0 ≡ s = omega arith in
      step s (positions_from (s + 1) xs e) (range_with_len (s + 1) (length xs)) (x == e) (λ p. eq-eqb x e (h 0 x refl (ap (λ n. P (f n)) here ∙ p)))
      (positions_cover (s + 1) xs e (λ n y at p. let there : s + suc n ≡ s + 1 + n = omega arith in h (suc n) y at (ap (λ m. P (f m)) there ∙ p)))

  pub cells_cover : (s : ℕ) (cells : List Value) (v : Value) → ((n : ℕ) (cell : Value) → slice_get cells n ≡ Some cell → P (f (s + n)) ≡ true → cell ≡ v)
      → filter P (map f (rows_from s cells v)) ≡ filter P (map f (range_with_len s (length cells)))
  cells_cover s [] v h = refl
  cells_cover s (x ∷ cells) v h =
      let here : s + 0 ≡ s = omega arith in
      step s (rows_from (s + 1) cells v) (range_with_len (s + 1) (length cells)) (same_value x v) (λ p. value_from_same x v (h 0 x refl (ap (λ n. P (f n)) here ∙ p)))
      (cells_cover (s + 1) cells v (λ n y at p. let there : s + suc n ≡ s + 1 + n = omega arith in h (suc n) y at (ap (λ m. P (f m)) there ∙ p)))

one_within : (s : ℕ) (some : List ℕ) (r n : ℕ) (b : Bool) (k : ℕ) → s < n → ((k : ℕ) → slice_get some k ≡ Some r → r < n) → slice_get (cond b (s ∷ some) some) k ≡ Some r → r < n
one_within s some r n true zero less rest at = let same : s ≡ r = cc in omega arith
one_within s some r n true (suc k) less rest at = rest k at
one_within s some r n false k less rest at = rest k at

pub position_within : (s : ℕ) (xs : List ℕ) (e k r : ℕ) → slice_get (positions_from s xs e) k ≡ Some r → r < s + length xs
position_within s [] e k r at = cc
position_within s (x ∷ xs) e k r at =
    one_within s (positions_from (s + 1) xs e) r (s + length (x ∷ xs)) (x == e) k (omega arith) (λ j there. let inside : r < s + 1 + length xs = position_within (s + 1) xs e j r there in omega arith) at

row_within : (s : ℕ) (cells : List Value) (v : Value) (k r : ℕ) → slice_get (rows_from s cells v) k ≡ Some r → r < s + length cells
row_within s [] v k r at = cc
row_within s (x ∷ cells) v k r at =
    one_within s (rows_from (s + 1) cells v) r (s + length (x ∷ cells)) (same_value x v) k (omega arith) (λ j there. let inside : r < s + 1 + length cells = row_within (s + 1) cells v j r there in omega (arith, inside)) at

at_end : (bound : List ℕ) (row : ℕ) → slice_index_or (map AtRow (bound ++ row ∷ [])) (length bound) (AtRow 0) ≡ AtRow row
at_end [] row = refl
at_end (r ∷ bound) row = at_end bound row

module _ (M : Tables) (tests : List Equation) (counts : List ℕ) (choice : List ℕ) (tuple : IsTuple choice counts) (e : Equation) (index : TestIndex) (is : IsCellIndex M counts e index)
    (n : ℕ) (at : slice_get tests n ≡ Some e) where
  abbrev m : ℕ
  m = index.variable

  abbrev bound : List ℕ
  bound = take m choice

  abbrev count : ℕ
  count = slice_index counts m

  abbrev column : List Value
  column = slice_index_or M.sheet.cells is.attribute []

  abbrev value : Value
  value = value_of M (map AtRow choice) is.other

  abbrev P : List ℕ → Bool
  P = passes (stage (length counts)) (holds_at M) tests

  size : length bound ≡ m
  size = length-take-le m choice (omega (arith, tuple_length choice counts tuple, is.within))

  -- the value of the other side at any row is that at the choice
  other_same : (row : ℕ) → value_of M (map AtRow (bound ++ row ∷ [])) is.other ≡ value
  other_same row =
      let before : reach_of is.other ≤ length bound = omega (arith, is.before, size) in
      value_front M bound (row ∷ []) is.other before
      ∙ sym (ap (λ (r : List ℕ). value_of M (map AtRow r) is.other) (sym (take-append-drop m choice)) ∙ value_front M bound (drop m choice) is.other before)

  cell_read : (row : ℕ) → value_of M (map AtRow (bound ++ row ∷ [])) (Att is.attribute is.term) ≡ cell_at M is.attribute row
  cell_read row =
      let A : Assignment = map AtRow (bound ++ row ∷ []) in
      let start : row_in (slice_index_or A is.term.generator (AtRow 0)) ≡ row = ap (λ g. row_in (slice_index_or A g (AtRow 0))) (is.variable ∙ sym size) ∙ ap row_in (at_end bound row) in
      fold-Att Value (value_step M A) is.attribute is.term ∙ ap (cell_at M is.attribute) ((λ j. row_from M (start j) (is.alone j)))

  staged : stage (length counts) e ≡ m + 1
  staged = ap (stage (length counts)) is.equation ∙ by index.turned
    where
      reached : reach_of (Att is.attribute is.term) ≡ m + 1
      reached = fold-Att ℕ reach_step is.attribute is.term ∙ ap (λ g. g + 1) is.variable

      by : (b : Bool) → stage (length counts) (sides b (Att is.attribute is.term) is.other) ≡ m + 1
      by false = omega (arith, reached, is.before, is.within)
      by true = omega (arith, reached, is.before, is.within)

  equal_sides : (rows : List ℕ) (b : Bool) → holds_at M rows (sides b (Att is.attribute is.term) is.other) ≡ true → value_of M (map AtRow rows) (Att is.attribute is.term) ≡ value_of M (map AtRow rows) is.other
  equal_sides rows false h = same_from_value (value_of M (map AtRow rows) (Att is.attribute is.term)) (value_of M (map AtRow rows) is.other) h
  equal_sides rows true h = sym (same_from_value (value_of M (map AtRow rows) is.other) (value_of M (map AtRow rows) (Att is.attribute is.term)) h)

  second : (b c : Bool) → b ≡ true → (not b || c) ≡ true → c ≡ true
  second true c e h = h
  second false c e h = cc

  -- a row that passes has the other side's value
  passing_cell : (row : ℕ) → P (bound ++ row ∷ []) ≡ true → cell_at M is.attribute row ≡ value
  passing_cell row h =
      let rows : List ℕ = bound ++ row ∷ [] in
      let long : length rows ≡ m + 1 = simp length-append (omega (arith, size)) in
      let test = all_at (λ x. not (stage (length counts) x == length rows) || holds_at M rows x) tests h n e at in
      let holds : holds_at M rows e ≡ true = second (stage (length counts) e == length rows) (holds_at M rows e) (eq-eqb (stage (length counts) e) (length rows) (staged ∙ sym long)) test in
      sym (cell_read row) ∙ equal_sides rows index.turned (ap (holds_at M rows) (sym is.equation) ∙ holds) ∙ other_same row

  passing_value : (row : ℕ) (cell : Value) → slice_get column row ≡ Some cell → P (bound ++ (0 + row) ∷ []) ≡ true → cell ≡ value
  passing_value row cell there h =
      let here : 0 + row ≡ row = omega arith in
      sym (get_or_from_slice_get column row cell (Const (Named 0)) there) ∙ passing_cell row (ap (λ r. P (bound ++ r ∷ [])) (sym here) ∙ h)

  index_covers : (rows : List ℕ) → rows ≡ rows_with column value → IsCover M tests counts bound count rows
  index_covers rows are = record {
    same = ap (λ l. filter P (map (λ row. bound ++ row ∷ []) l)) are ∙ cells_cover P (λ row. bound ++ row ∷ []) 0 column value passing_value
        ∙ ap (λ k. filter P (map (λ row. bound ++ row ∷ []) (below k))) is.column;
    within = subst (λ (l : List ℕ). All (λ row. row < count) l) (sym are)
        (All_from (λ row. row < count) (rows_with column value) (λ k r there. let less : r < 0 + length column = row_within 0 column value k r there in omega (arith, less, is.column)));
  }

  turned_back : (b : Bool) → other_side b (sides b (Att is.attribute is.term) is.other) ≡ is.other
  turned_back false = refl
  turned_back true = refl

  -- the rows that are read of an index
  pub cell_rows_cover : (next : ℕ) (rows : List ℕ) → m ≡ next → rows ≡ listed_rows M choice e index → IsCover M tests counts (take next choice) (slice_index counts next) rows
  cell_rows_cover next rows same are =
      let read : rows ≡ rows_with column value = are ∙ ap (λ (x : Equation). listed_rows M choice x index) is.equation ∙ by index.turned refl ∙ is.lists value in
      subst (λ k. IsCover M tests counts (take k choice) (slice_index counts k) rows) same (index_covers rows read)
    where
      typed : (b : Bool) → listed_rows M choice (sides b (Att is.attribute is.term) is.other) index ≡ rows_of_value index.lists (value_of M (map AtRow choice) (other_side index.turned (sides b (Att is.attribute is.term) is.other)))
      typed false = refl
      typed true = refl

      by : (b : Bool) → index.turned ≡ b → listed_rows M choice (sides b (Att is.attribute is.term) is.other) index ≡ rows_of_value index.lists value
      by b turned = typed b ∙ ap (λ t. rows_of_value index.lists (value_of M (map AtRow choice) t)) (ap (λ c. other_side c (sides b (Att is.attribute is.term) is.other)) turned ∙ turned_back b)

-- the same for a path from the variable
module _ (M : Tables) (tests : List Equation) (counts : List ℕ) (choice : List ℕ) (tuple : IsTuple choice counts) (e : Equation) (index : TestIndex) (is : IsPathIndex M counts e index)
    (n : ℕ) (at : slice_get tests n ≡ Some e) where
  abbrev v : ℕ
  v = index.variable

  abbrev front : List ℕ
  front = take v choice

  abbrev amount : ℕ
  amount = slice_index counts v

  abbrev reached : ℕ
  reached = row_of M (map AtRow choice) is.other

  abbrev ends : List ℕ
  ends = map (λ row. row_from M row is.term.path) (below amount)

  abbrev P' : List ℕ → Bool
  P' = passes (stage (length counts)) (holds_at M) tests

  front_size : length front ≡ v
  front_size = length-take-le v choice (omega (arith, tuple_length choice counts tuple, is.within))

  other_row : (row : ℕ) → row_of M (map AtRow (front ++ row ∷ [])) is.other ≡ reached
  other_row row =
      let before : reach_of_entity is.other ≤ length front = omega (arith, is.before, front_size) in
      row_front M front (row ∷ []) is.other before
      ∙ sym (ap (λ (r : List ℕ). row_of M (map AtRow r) is.other) (sym (take-append-drop v choice)) ∙ row_front M front (drop v choice) is.other before)

  end_read : (row : ℕ) → row_of M (map AtRow (front ++ row ∷ [])) is.term ≡ row_from M row is.term.path
  end_read row =
      let A : Assignment = map AtRow (front ++ row ∷ []) in
      ap (λ r. row_from M r is.term.path) (ap (λ g. row_in (slice_index_or A g (AtRow 0))) (is.variable ∙ sym front_size) ∙ ap row_in (at_end front row))

  path_staged : stage (length counts) e ≡ v + 1
  path_staged = ap (stage (length counts)) is.equation ∙ by index.turned
    where
      by : (b : Bool) → stage (length counts) (entity_sides b is.term is.other) ≡ v + 1
      by false = omega (arith, is.variable, is.before, is.within)
      by true = omega (arith, is.variable, is.before, is.within)

  equal_rows : (rows : List ℕ) (b : Bool) → holds_at M rows (entity_sides b is.term is.other) ≡ true → row_of M (map AtRow rows) is.term ≡ row_of M (map AtRow rows) is.other
  equal_rows rows false h = eqb-true (row_of M (map AtRow rows) is.term) (row_of M (map AtRow rows) is.other) h
  equal_rows rows true h = sym (eqb-true (row_of M (map AtRow rows) is.other) (row_of M (map AtRow rows) is.term) h)

  met : (b c : Bool) → b ≡ true → (not b || c) ≡ true → c ≡ true
  met true c e h = h
  met false c e h = cc

  passing_end : (row : ℕ) → P' (front ++ row ∷ []) ≡ true → row_from M row is.term.path ≡ reached
  passing_end row h =
      let rows : List ℕ = front ++ row ∷ [] in
      let long : length rows ≡ v + 1 = simp length-append (omega (arith, front_size)) in
      let test = all_at (λ x. not (stage (length counts) x == length rows) || holds_at M rows x) tests h n e at in
      let holds : holds_at M rows e ≡ true = met (stage (length counts) e == length rows) (holds_at M rows e) (eq-eqb (stage (length counts) e) (length rows) (path_staged ∙ sym long)) test in
      sym (end_read row) ∙ equal_rows rows index.turned (ap (holds_at M rows) (sym is.equation) ∙ holds) ∙ other_row row

  passing_place : (row x : ℕ) → slice_get ends row ≡ Some x → P' (front ++ (0 + row) ∷ []) ≡ true → x ≡ reached
  passing_place row x there h =
      let end = made_of (λ r. row_from M r is.term.path) (below amount) row x there in
      let inside : row < amount = subst (λ k. row < k) (length-range_with_len 0 amount) (slice_get_within (below amount) row end.0 end.1) in
      let both : Some (0 + row) ≡ Some end.0 = sym (get-range 0 amount row inside) ∙ end.1 in
      let same : 0 + row ≡ end.0 = cc in
      end.2 ∙ ap (λ r. row_from M r is.term.path) (sym same) ∙ passing_end (0 + row) h

  turned_other : (b : Bool) → other_entity b (entity_sides b is.term is.other) ≡ is.other
  turned_other false = refl
  turned_other true = refl

  pub path_rows_cover : (next : ℕ) (rows : List ℕ) → v ≡ next → rows ≡ listed_rows M choice e index → IsCover M tests counts (take next choice) (slice_index counts next) rows
  path_rows_cover next rows same are =
      let found : rows ≡ positions ends reached = are ∙ ap (λ (x : Equation). listed_rows M choice x index) is.equation ∙ by index.turned refl ∙ is.lists reached in
      let many : length ends ≡ amount = length-map-range_with_len (λ row. row_from M row is.term.path) 0 amount in
      subst (λ k. IsCover M tests counts (take k choice) (slice_index counts k) rows) same (record {
        same = ap (λ l. filter P' (map (λ row. front ++ row ∷ []) l)) found ∙ positions_cover P' (λ row. front ++ row ∷ []) 0 ends reached passing_place ∙ ap (λ k. filter P' (map (λ row. front ++ row ∷ []) (below k))) many;
        within = subst (λ (l : List ℕ). All (λ row. row < amount) l) (sym found)
            (All_from (λ row. row < amount) (positions ends reached) (λ k r there. let less : r < 0 + length ends = position_within 0 ends reached k r there in omega (arith, less, many)));
      })
    where
      typed : (b : Bool) → listed_rows M choice (entity_sides b is.term is.other) index ≡ rows_of_row index.lists (row_of M (map AtRow choice) (other_entity index.turned (entity_sides b is.term is.other)))
      typed false = refl
      typed true = refl

      by : (b : Bool) → index.turned ≡ b → listed_rows M choice (entity_sides b is.term is.other) index ≡ rows_of_row index.lists reached
      by b turned = typed b ∙ ap (λ t. rows_of_row index.lists (row_of M (map AtRow choice) t)) (ap (λ c. other_entity c (entity_sides b is.term is.other)) turned ∙ turned_other b)

pub rows_cover : (M : Tables) (tests : List Equation) (counts choice : List ℕ) → IsTuple choice counts → (e : Equation) (index : TestIndex) → IsIndex M counts e index → (n : ℕ) → slice_get tests n ≡ Some e
    → (next : ℕ) (rows : List ℕ) → index.variable ≡ next → rows ≡ listed_rows M choice e index → IsCover M tests counts (take next choice) (slice_index counts next) rows
rows_cover M tests counts choice tuple e index (inl is) n at next rows same are = cell_rows_cover M tests counts choice tuple e index is n at next rows same are
rows_cover M tests counts choice tuple e index (inr is) n at next rows same are = path_rows_cover M tests counts choice tuple e index is n at next rows same are
