-- Rows that go to answers as keys and cells ask for make a homomorphism to eval.
use Rattle.std.proofs.Common.{ℕ, zero, suc, Bool, true, List, [], ◌∷◌, Option, Some, ◌≡◌, ◌<◌, ◌+◌, map, length, get_or, refl, sym, ap, subst, ◌∙◌, arith}
use Rattle.std.specs.Prelude.{slice_get, slice_index, slice_index_or, All, find}
use Rattle.std.proofs.lemmas.List.{length-map}
use Rattle.std.proofs.lemmas.List.FromFn.{get_or-map-range_with_len, length-map-range_with_len}
use Rattle.std.proofs.lemmas.Option.{slice_get_within, get_or_from_slice_get}
use Rattle.cq_theory.specs.declared.constant.Con.TheVariants.{Named}
use Rattle.cq_theory.specs.declared.schema.Edge.{Edge}
use Rattle.cq_theory.specs.declared.value.Algebra.{Algebra}
use Rattle.cq_theory.specs.declared.value.Entry.{Entry}
use Rattle.cq_theory.specs.declared.value.Value.{Value}
use Rattle.cq_theory.specs.declared.value.Value.TheVariants.{Const, Null, Fun}
use Rattle.cq_theory.specs.SchemaData.{SchemaData as Schema}
use Rattle.cq_theory.specs.TypesideData.{TypesideData as Typeside}
use Rattle.cq_theory.specs.Canonical.{below}
use Rattle.cq_theory.specs.Sorts.{is_type, have_types}
use Rattle.cq_theory.specs.Homomorphism.{row_image, value_image, value_image_step, IsHomomorphism}
use Rattle.cq_theory.specs.declared.constant.Con.{Con}
use Rattle.cq_theory.specs.Tables.{Tables, count_of, key_at, cell_at, value_of, is_for, entry_or_built, applied, value_type, value_type_step, normal_of, IsSoundEntry, IsWellFormed}
use Rattle.cq_theory.proofs.Faults.{made_of}
use Rattle.cq_theory.proofs.OnValues.{Each, on_values, All_at}
use Rattle.cq_theory.proofs.Sound.{both, is_type_some, applied_type_some}
use Rattle.cq_theory.proofs.Values as values
use Rattle.cq_instance.proofs.CanonicalHolds as canonical
use Rattle.cq_instance.proofs.Lists.{All_from}
use Rattle.cq_query.specs.QueryData.{QueryData as Query}
use Rattle.cq_query.specs.Translation.{attribute_term}
use Rattle.cq_query.specs.IsQuery.{IsQuery}
use Rattle.cq_query.specs.Answers.{IsEval, stands}
use Rattle.cq_query.specs.Leading.{IsAnswer, led}
use Rattle.cq_query.proofs.Answering.{among_answers}
use Rattle.cq_query.proofs.Once.{one_place, one_answers, answers_once}
use Rattle.cq_adjoint.specs.Copies.{answers_at, place_of, AreAllAnswers}
use Rattle.cq_adjoint.proofs.AnswerPlaces.{place_found}

-- lists with the same members at the same places
pub same_list : {X : Type 0} (xs ys : List X) → length xs ≡ length ys → ((k : ℕ) (x y : X) → slice_get xs k ≡ Some x → slice_get ys k ≡ Some y → x ≡ y) → xs ≡ ys
same_list [] [] same h = refl
same_list [] (y ∷ ys) same h = absurd (omega arith)
same_list (x ∷ xs) [] same h = absurd (omega arith)
same_list (x ∷ xs) (y ∷ ys) same h =
    let first : x ≡ y = h zero x y refl refl in
    let rest : xs ≡ ys = same_list xs ys (omega arith) (λ k v w left right. h (suc k) v w left right) in
    λ i. first i ∷ rest i

-- Each row of tables over the target has an answer in N and each value a value there, as the query's terms for keys and attributes ask for.
pub record AreSent (Q : Query) (M N : Tables) (rows_at : ℕ → ℕ → List ℕ) (value_at : Value → Value) : Type 0 where
  pub answer : (e row : ℕ) → row < count_of M e → IsAnswer Q N e (rows_at e row)
  pub key : (k : ℕ) (edge : Edge) → slice_get Q.target.keys k ≡ Some edge → (row : ℕ) → row < count_of M edge.from → rows_at edge.to (key_at M k row) ≡ led Q N k (rows_at edge.from row)
  pub cell : (a : ℕ) (edge : Edge) → slice_get Q.target.attributes a ≡ Some edge → (row : ℕ) → row < count_of M edge.from
      → value_of N (stands Q N (rows_at edge.from row)) (attribute_term Q a) ≡ value_at (cell_at M a row)
  pub constant : (c : Con) → value_at (Const c) ≡ Const c
  pub function : (f : ℕ) (vs : List Value) → value_at (Fun f vs) ≡ applied N f (map value_at vs)
  pub null : (label type : ℕ) → slice_get M.algebra.nulls label ≡ Some type
      → (value_type Q.source N.algebra.nulls (value_at (Null label)) ≡ Some type) × (normal_of N (value_at (Null label)) ≡ value_at (Null label))
  pub entry : (k : ℕ) (e : Entry) → slice_get M.algebra.entries k ≡ Some e → applied N e.function (map value_at e.args) ≡ value_at e.value

module _ (Q : Query) (query : IsQuery Q) (M : Tables) (tables : IsWellFormed Q.target M) (N : Tables) (rows_at : ℕ → ℕ → List ℕ) (value_at : Value → Value) (are : AreSent Q M N rows_at value_at)
    (D : Tables) (eval : IsEval Q N D) (answers : List (List (List ℕ))) (all : AreAllAnswers Q N answers) where
  abbrev T : Schema
  T = Q.target

  abbrev n : ℕ
  n = length T.entities

  -- where rows and nulls go
  abbrev pub place : ℕ → ℕ → ℕ
  place e row = place_of (answers_at answers e) (rows_at e row)

  abbrev places : ℕ → List ℕ
  places e = map (place e) (below (count_of M e))

  abbrev pub rows_to : List (List ℕ)
  rows_to = map places (below n)

  abbrev to_null : ℕ → Value
  to_null label = value_at (Null label)

  abbrev pub nulls_to : List Value
  nulls_to = map to_null (below (length M.algebra.nulls))

  abbrev image : Value → Value
  image = value_image T M D rows_to nulls_to

  pub known : (e row : ℕ) → row < count_of M e → e < n
  known e row inside = within_counts M.sheet.counts e row inside (tables.entities)
    where
      within_counts : (xs : List ℕ) (k m : ℕ) → m < slice_index xs k → length xs ≡ n → k < n
      within_counts xs k m h same = omega (arith, here xs k h, same)
        where
          here : (xs : List ℕ) (k : ℕ) → m < slice_index xs k → k < length xs
          here [] k h = absurd (omega arith)
          here (x ∷ xs) zero h = omega arith
          here (x ∷ xs) (suc k) h = let rest : k < length xs = here xs k h in omega arith

  -- the answer of a row stands at its place
  pub placed : (e row : ℕ) → row < count_of M e → slice_get (answers_at answers e) (place e row) ≡ Some (rows_at e row)
  placed e row inside =
      let within = known e row inside in
      let found = (among_answers Q N e (answers_at answers e) (all.each e within) (rows_at e row)).1 (are.answer e row inside) in
      place_found (answers_at answers e) found.0 (rows_at e row) found.1

  same_answers : (e : ℕ) → e < n → slice_index_or eval.answers e [] ≡ answers_at answers e
  same_answers e within = one_answers Q N e (slice_index_or eval.answers e []) (answers_at answers e) (eval.each e within) (all.each e within)

  pub count_is : (e : ℕ) → e < n → count_of D e ≡ length (answers_at answers e)
  count_is e within =
      let here : 0 + e ≡ e = omega arith in
      ap (λ (counts : List ℕ). slice_index counts e) eval.counts ∙ get_or-map-range_with_len (λ m. length (slice_index_or eval.answers m [])) 0 n e e 0 within here ∙ ap length (same_answers e within)

  pub place_inside : (e row : ℕ) → row < count_of M e → place e row < count_of D e
  place_inside e row inside =
      subst (λ m. place e row < m) (sym (count_is e (known e row inside))) (slice_get_within (answers_at answers e) (place e row) (rows_at e row) (placed e row inside))

  list_is : (e : ℕ) → e < n → slice_index_or rows_to e [] ≡ places e
  list_is e within = let here : 0 + e ≡ e = omega arith in get_or-map-range_with_len places 0 n e e [] within here

  pub row_is : (e row : ℕ) → row < count_of M e → row_image T M D rows_to nulls_to e row ≡ place e row
  row_is e row inside =
      let here : 0 + row ≡ row = omega arith in
      ap (λ (l : List ℕ). slice_index l row) (list_is e (known e row inside)) ∙ get_or-map-range_with_len (place e) 0 (count_of M e) row row 0 inside here

  null_is : (label : ℕ) → label < length M.algebra.nulls → slice_index_or nulls_to label (Const (Named 0)) ≡ value_at (Null label)
  null_is label within = let here : 0 + label ≡ label = omega arith in get_or-map-range_with_len to_null 0 (length M.algebra.nulls) label label (Const (Named 0)) within here

  abbrev type_in : Value → Option ℕ
  type_in = value_type T M.algebra.nulls

  applied_same : (f : ℕ) (vs : List Value) → applied D f vs ≡ applied N f vs
  applied_same f vs = ap (λ (g : Algebra). entry_or_built (find (is_for f vs) g.entries) f vs) eval.algebra

  -- a value whose nulls are there goes where it is sent
  abbrev Goes : Value → Type 0
  Goes v = (type : ℕ) → type_in v ≡ Some type → image v ≡ value_at v

  all_go : (vs : List Value) (types : List ℕ) → have_types (map type_in vs) types ≡ true → Each Goes vs → map image vs ≡ map value_at vs
  all_go [] types h each = refl
  all_go (v ∷ vs) [] h each = cc
  all_go (v ∷ vs) (type ∷ types) h each =
      let parts = both (is_type (type_in v) type) (have_types (map type_in vs) types) h in
      let first : image v ≡ value_at v = each.0 type (is_type_some (type_in v) type parts.0) in
      let rest : map image vs ≡ map value_at vs = all_go vs types parts.1 each.1 in
      λ i. first i ∷ rest i

  args_go : (f type : ℕ) (vs : List Value) → Each Goes vs → type_in (Fun f vs) ≡ Some type → map image vs ≡ map value_at vs
  args_go f type vs each h =
      let parts = applied_type_some (slice_get T.typeside.functions f) (map type_in vs) type (sym (values.fold-Fun (Option ℕ) (value_type_step T M.algebra.nulls) f vs) ∙ h) in
      all_go vs parts.0.args parts.2 each

  pub value_goes : (v : Value) → Goes v
  value_goes = on_values Goes
      (λ c type h. values.fold-Const Value (value_image_step T M D rows_to nulls_to) c ∙ sym (are.constant c))
      (λ label type h.
      let typed : slice_get M.algebra.nulls label ≡ Some type = sym (values.fold-Null (Option ℕ) (value_type_step T M.algebra.nulls) label) ∙ h in
      values.fold-Null Value (value_image_step T M D rows_to nulls_to) label ∙ null_is label (slice_get_within M.algebra.nulls label type typed))
      (λ f vs each type h.
      values.fold-Fun Value (value_image_step T M D rows_to nulls_to) f vs ∙ applied_same f (map image vs) ∙ ap (applied N f) (args_go f type vs each h) ∙ sym (are.function f vs))

  each_goes : (vs : List Value) → Each Goes vs
  each_goes [] = tt
  each_goes (v ∷ vs) = (value_goes v, each_goes vs)

  -- types and normal values are those of j's tables
  pub type_same : (v : Value) → value_type T D.algebra.nulls v ≡ value_type Q.source N.algebra.nulls v
  type_same v =
      ap (λ (y : Typeside). value_type (record { typeside = y; entities = []; keys = []; attributes = []; path_eqs = []; obs_eqs = [] }) D.algebra.nulls v) (sym query.typeside)
      ∙ ap (λ (g : Algebra). value_type Q.source g.nulls v) eval.algebra

  pub normal_same : (v : Value) → normal_of D v ≡ normal_of N v
  normal_same v = ap (λ (g : Algebra). let X : Tables = record { sheet = D.sheet; algebra = g } in normal_of X v) eval.algebra

  null_typed : (label type : ℕ) → slice_get M.algebra.nulls label ≡ Some type → (value_type T D.algebra.nulls (image (Null label)) ≡ Some type) × (normal_of D (image (Null label)) ≡ image (Null label))
  null_typed label type h =
      let is : image (Null label) ≡ value_at (Null label) = values.fold-Null Value (value_image_step T M D rows_to nulls_to) label ∙ null_is label (slice_get_within M.algebra.nulls label type h) in
      let sorted = are.null label type h in
      subst (λ (v : Value). (value_type T D.algebra.nulls v ≡ Some type) × (normal_of D v ≡ v)) (sym is) (type_same (value_at (Null label)) ∙ sorted.0, normal_same (value_at (Null label)) ∙ sorted.1)

  key_inside : (k : ℕ) (edge : Edge) → slice_get T.keys k ≡ Some edge → (row : ℕ) → row < count_of M edge.from → key_at M k row < count_of M edge.to
  key_inside k edge is row inside =
      let column = tables.key_columns k edge is in
      column.1 row 0 (subst (λ m. row < m) (sym column.0) inside)

  cell_typed : (a : ℕ) (edge : Edge) → slice_get T.attributes a ≡ Some edge → (row : ℕ) → row < count_of M edge.from → type_in (cell_at M a row) ≡ Some edge.to
  cell_typed a edge is row inside =
      let column = tables.cell_columns a edge is in
      (column.1 row (Const (Named 0)) (subst (λ m. row < m) (sym column.0) inside)).0

  key_goes : (k : ℕ) (edge : Edge) → slice_get T.keys k ≡ Some edge → (row : ℕ) → row < count_of M edge.from
      → row_image T M D rows_to nulls_to edge.to (key_at M k row) ≡ key_at D k (row_image T M D rows_to nulls_to edge.from row)
  key_goes k edge is row inside =
      let there = key_inside k edge is row inside in
      let from = known edge.from row inside in
      let to = known edge.to (key_at M k row) there in
      let p : ℕ = place edge.from row in
      let at : slice_get (slice_index_or eval.answers edge.from []) p ≡ Some (rows_at edge.from row) = ap (λ (l : List (List ℕ)). slice_get l p) (same_answers edge.from from) ∙ placed edge.from row inside in
      let lands : slice_get (answers_at answers edge.to) (key_at D k p) ≡ Some (led Q N k (rows_at edge.from row)) =
      ap (λ (l : List (List ℕ)). slice_get l (key_at D k p)) (sym (same_answers edge.to to)) ∙ eval.keys k p edge (rows_at edge.from row) is at in
      let stands_there : slice_get (answers_at answers edge.to) (place edge.to (key_at M k row)) ≡ Some (led Q N k (rows_at edge.from row)) =
      placed edge.to (key_at M k row) there ∙ ap (λ (l : List ℕ). Some l) (are.key k edge is row inside) in
      row_is edge.to (key_at M k row) there
      ∙ one_place (answers_at answers edge.to) (answers_once Q N edge.to (answers_at answers edge.to) (all.each edge.to to)) (place edge.to (key_at M k row)) (key_at D k p) (led Q N k (rows_at edge.from row)) stands_there lands
      ∙ ap (key_at D k) (sym (row_is edge.from row inside))

  cell_goes : (a : ℕ) (edge : Edge) → slice_get T.attributes a ≡ Some edge → (row : ℕ) → row < count_of M edge.from
      → image (cell_at M a row) ≡ cell_at D a (row_image T M D rows_to nulls_to edge.from row)
  cell_goes a edge is row inside =
      let from = known edge.from row inside in
      let p : ℕ = place edge.from row in
      let at : slice_get (slice_index_or eval.answers edge.from []) p ≡ Some (rows_at edge.from row) = ap (λ (l : List (List ℕ)). slice_get l p) (same_answers edge.from from) ∙ placed edge.from row inside in
      value_goes (cell_at M a row) edge.to (cell_typed a edge is row inside)
      ∙ sym (are.cell a edge is row inside)
      ∙ sym (eval.cells a p edge (rows_at edge.from row) is at) ∙ ap (cell_at D a) (sym (row_is edge.from row inside))

  entry_goes : (k : ℕ) (entry : Entry) → slice_get M.algebra.entries k ≡ Some entry → applied D entry.function (map image entry.args) ≡ image entry.value
  entry_goes k entry at =
      let sound : IsSoundEntry T M entry = All_at (IsSoundEntry T M) M.algebra.entries k entry tables.entries at in
      applied_same entry.function (map image entry.args)
      ∙ ap (applied N entry.function) (args_go entry.function sound.function.result entry.args (each_goes entry.args) sound.typed)
      ∙ are.entry k entry at ∙ sym (value_goes entry.value sound.function.result sound.same_type)

  rows_counted : (e : ℕ) (list : List ℕ) → slice_get rows_to e ≡ Some list → (length list ≡ count_of M e) × All (λ row. row < count_of D e) list
  rows_counted e list at =
      let within : e < n = omega (arith, slice_get_within rows_to e list at, length-map-range_with_len places 0 n) in
      let is : places e ≡ list = sym (list_is e within) ∙ get_or_from_slice_get rows_to e list [] at in
      subst (λ (l : List ℕ). (length l ≡ count_of M e) × All (λ row. row < count_of D e) l) is (
        length-map-range_with_len (place e) 0 (count_of M e),
        All_from (λ row. row < count_of D e) (places e) (λ k p there.
            let row = made_of (place e) (below (count_of M e)) k p there in
            subst (λ m. m < count_of D e) (sym row.2) (place_inside e row.0 (from_below (count_of M e) k row.0 row.1))),
      )
    where
      from_below : (m k x : ℕ) → slice_get (below m) k ≡ Some x → x < m
      from_below m k x h = canonical.from_below m k x h

  pub homomorphism : IsHomomorphism T M D rows_to nulls_to
  homomorphism = record {
    entities = length-map-range_with_len places 0 n;
    each_row = rows_counted;
    each_null = length-map-range_with_len to_null 0 (length M.algebra.nulls);
    typed = null_typed;
    keys = key_goes;
    cells = cell_goes;
    entries = All_from (λ (e : Entry). applied D e.function (map image e.args) ≡ image e.value) M.algebra.entries entry_goes;
  }

  -- no other homomorphism sends rows to the answers of their copies, and nulls where they mean
  module _ (rows : List (List ℕ)) (nulls : List Value) (is : IsHomomorphism T M D rows nulls)
      (each_row : (e row : ℕ) → row < count_of M e → slice_get (answers_at answers e) (row_image T M D rows nulls e row) ≡ Some (rows_at e row))
      (each_null : (label : ℕ) → label < length M.algebra.nulls → value_image T M D rows nulls (Null label) ≡ value_at (Null label)) where
    row_same : (e row : ℕ) → row < count_of M e → row_image T M D rows nulls e row ≡ place e row
    row_same e row inside =
        one_place (answers_at answers e) (answers_once Q N e (answers_at answers e) (all.each e (known e row inside))) (row_image T M D rows nulls e row) (place e row) (rows_at e row)
        (each_row e row inside) (placed e row inside)

    list_same : (e : ℕ) (xs ys : List ℕ) → slice_get rows e ≡ Some xs → slice_get rows_to e ≡ Some ys → xs ≡ ys
    list_same e xs ys left right =
        let one = is.each_row e xs left in
        let other = rows_counted e ys right in
        same_list xs ys (one.0 ∙ sym other.0) (λ k x y at at'.
        let inside : k < count_of M e = omega (arith, slice_get_within xs k x at, one.0) in
        let x_is : row_image T M D rows nulls e k ≡ x = ap (λ (l : List ℕ). slice_index l k) (get_or_from_slice_get rows e xs [] left) ∙ get_or_from_slice_get xs k x 0 at in
        let y_is : row_image T M D rows_to nulls_to e k ≡ y = ap (λ (l : List ℕ). slice_index l k) (get_or_from_slice_get rows_to e ys [] right) ∙ get_or_from_slice_get ys k y 0 at' in
        sym x_is ∙ row_same e k inside ∙ sym (row_is e k inside) ∙ y_is)

    pub rows_same : rows ≡ rows_to
    rows_same = same_list rows rows_to (is.entities ∙ sym homomorphism.entities) list_same

    pub nulls_same : nulls ≡ nulls_to
    nulls_same = same_list nulls nulls_to (is.each_null ∙ sym homomorphism.each_null) (λ k x y at at'.
        let within : k < length M.algebra.nulls = omega (arith, slice_get_within nulls k x at, is.each_null) in
        sym (get_or_from_slice_get nulls k x (Const (Named 0)) at) ∙ sym (values.fold-Null Value (value_image_step T M D rows nulls) k) ∙ each_null k within
        ∙ sym (null_is k within) ∙ get_or_from_slice_get nulls_to k y (Const (Named 0)) at')
