-- A transform sends copies to copies, so that coeval of its source goes to coeval of its target.
use Rattle.std.proofs.Common.{ℕ, zero, suc, true, List, [], ◌∷◌, ◌++◌, Option, Some, None, ◌≡◌, ◌<◌, ◌≤◌, ◌+◌, ◌*◌, map, length, refl, sym, ap, subst, ◌∙◌, arith}
use Rattle.std.specs.Prelude.{slice_get, slice_index, slice_index_or, option_map, find, All}
use Rattle.std.specs.List.{flat_map, range_with_len, enumerate_from, sum_by}
use Rattle.std.proofs.lemmas.List.{length-map}
use Rattle.std.proofs.lemmas.List.Concat.{length-flat_map}
use Rattle.std.proofs.lemmas.List.FromFn.{length-range_with_len, get_or-range_with_len}
use Rattle.std.proofs.lemmas.List.Sums.{sum-map}
use Rattle.std.proofs.lemmas.Option.{slice_get_within, get_or_from_slice_get}
use Rattle.cq_base.specs.declared.name.Name.{Name}
use Rattle.cq_theory.specs.declared.constant.Con.TheVariants.{Named}
use Rattle.cq_theory.specs.declared.presentation.Equation.{Equation}
use Rattle.cq_theory.specs.declared.presentation.Presentation.{Presentation}
use Rattle.cq_theory.specs.declared.presentation.Sort.{Sort}
use Rattle.cq_theory.specs.declared.presentation.Sort.TheVariants.{Plain, Entity}
use Rattle.cq_theory.specs.declared.schema.Edge.{Edge}
use Rattle.cq_theory.specs.declared.term.EntTerm.{EntTerm}
use Rattle.cq_theory.specs.declared.term.Term.TheVariants.{Ent, Typ}
use Rattle.cq_theory.specs.declared.term.TypeTerm.{TypeTerm}
use Rattle.cq_theory.specs.declared.value.Value.{Value}
use Rattle.cq_theory.specs.declared.value.Value.TheVariants.{Const, Null, Fun}
use Rattle.cq_theory.specs.declared.value.Entry.{Entry}
use Rattle.cq_theory.specs.SchemaData.{SchemaData as Schema}
use Rattle.cq_theory.specs.EntTerm.{alone}
use Rattle.cq_theory.specs.Canonical.{below}
use Rattle.cq_theory.specs.Homomorphism.{row_image, value_image, value_image_step, IsHomomorphism}
use Rattle.cq_theory.specs.Sorts.{is_type, have_types, sort_of}
use Rattle.cq_theory.specs.Tables.{Tables, Meaning, AtRow, AtValue, Assignment, row_in, value_in, count_of, key_at, cell_at, row_of, value_of, value_step, meaning_of, is_for, entry_or_built, applied, value_type, value_type_step, HasSort, IsSoundEntry, IsWellFormed, Satisfies, Holds}
use Rattle.cq_theory.proofs.Faults.{made_of}
use Rattle.cq_theory.proofs.OnValues.{Each, on_values, All_at, found_passes, entry_for}
use Rattle.cq_theory.proofs.Sound.{both, is_type_some, applied_type_some}
use Rattle.cq_theory.proofs.TypeTerms.{fold-Gen, fold-Const, fold-Fun}
use Rattle.cq_theory.proofs.Values as values
use Rattle.cq_terms.proofs.Naming.{named_length, sort_of_named}
use Rattle.cq_terms.specs.ValueTerms.{value_term_step}
use Rattle.cq_instance.specs.InstanceData.{InstanceData, IsInstance}
use Rattle.cq_instance.specs.declared.transform.Image.{Image}
use Rattle.cq_instance.specs.declared.transform.Transform.{Transform}
use Rattle.cq_instance.proofs.Lists.{get-map, get-append, get-append_front, get-range, map-map}
use Rattle.cq_transform.specs.Transforming.{AreKept, AreSorted}
use Rattle.cq_transform.specs.Transforms.{term_of, meanings_in, GoesFrom}
use Rattle.cq_transform.proofs.Kept as kept
use Rattle.cq_transform.proofs.Loops.{member_at}
use Rattle.cq_transform.proofs.Made.{meaning_sorted}
use Rattle.cq_query.specs.QueryData.{QueryData as Query}
use Rattle.cq_query.specs.IsQuery.{IsQuery}
use Rattle.cq_query.specs.Translation.{variables_at, attribute_term}
use Rattle.cq_query.specs.Answers.{stands}
use Rattle.cq_query.specs.Leading.{IsAnswer, led}
use Rattle.cq_query.specs.Coeval.{size_of, start_of, null_start, row_terms, row_sorts, coeval_of}
use Rattle.cq_query.proofs.Copying.{const_sum}
use Rattle.cq_query.proofs.Standing.{within_length}
use Rattle.cq_adjoint.specs.Copies.{copy_of, copied_value}
use Rattle.cq_adjoint.specs.QueryMoves.{IsCoeval, row_sent, value_sent, copy_sent, copies_of_row, null_sent, coeval_images}
use Rattle.cq_adjoint.proofs.AnsweredRows.{same_list}
use Rattle.cq_adjoint.proofs.Besides.{Beside, beside_count, beside_at, beside_append, beside_ranges, beside_numbers}
use Rattle.cq_adjoint.proofs.CoevalTerms as coeval
use Rattle.cq_adjoint.proofs.Copied.{in_flat, stand, copy_term}
use Rattle.cq_adjoint.proofs.CopiesMean as copies
use Rattle.cq_adjoint.proofs.OutOfCoeval.{AreAnswered, coeval_holds}

module _ (Q : Query) (query : IsQuery Q) (h : Transform) (i j a b : InstanceData) (from : IsCoeval Q i a) (to : IsCoeval Q j b) (goes : GoesFrom h i j)
    (source : IsInstance i) (middle : IsInstance j) (there : IsInstance b) where
  abbrev T : Schema
  T = Q.target

  abbrev n : ℕ
  n = length T.entities

  abbrev M : Tables
  M = i.tables

  abbrev L : Tables
  L = j.tables

  abbrev N : Tables
  N = b.tables

  abbrev A : Assignment
  A = b.assignment

  abbrev counts : List ℕ
  counts = M.sheet.counts

  abbrev nulls : ℕ
  nulls = length M.algebra.nulls

  abbrev width : ℕ → ℕ
  width e = length (variables_at Q e)

  abbrev image : Value → Value
  image = value_image T M L h.rows h.nulls

  abbrev to_row : ℕ → ℕ → ℕ
  to_row = row_image T M L h.rows h.nulls

  homomorphism : IsHomomorphism T M L h.rows h.nulls
  homomorphism = subst (λ (S : Schema). IsHomomorphism S M L h.rows h.nulls) from.over goes.homomorphism

  tables : IsWellFormed T M
  tables = coeval.tables Q query i a from source

  tables' : IsWellFormed T L
  tables' = coeval.tables Q query j b to middle

  holds : Holds Q.source (coeval_of Q L) N A
  holds = subst (λ (P : Presentation). Holds Q.source P N A) to.presentation (subst (λ (S : Schema). Holds S b.presentation N A) to.schema to.initial.0.holds)

  known : (e row : ℕ) → row < count_of M e → e < n
  known = coeval.known Q query i a from source

  -- a row goes to a row
  pub goes_inside : (e row : ℕ) → row < count_of M e → to_row e row < count_of L e
  goes_inside e row inside =
      let list = member_at h.rows e (omega (arith, homomorphism.entities, known e row inside)) in
      let are = homomorphism.each_row e list.0 list.1 in
      let is : to_row e row ≡ slice_index list.0 row = ap (λ (l : List ℕ). slice_index l row) (get_or_from_slice_get h.rows e list.0 [] list.1) in
      subst (λ m. m < count_of L e) (sym is) (are.1 row 0 (omega (arith, are.0, inside)))

  abbrev images : List Image
  images = coeval_images Q h i j

  abbrev B : Assignment
  B = meanings_in b images

  -- which image stands where
  abbrev of_row : ℕ → ℕ → List Image
  of_row = copies_of_row Q h i j

  abbrev of_entity : ℕ → List Image
  of_entity e = flat_map (of_row e) (below (count_of M e))

  row_size : (e row : ℕ) → length (of_row e row) ≡ width e
  row_size e row = length-map (below (width e)) (copy_sent Q h i j e row) ∙ length-range_with_len 0 (width e)

  entity_size : (e : ℕ) → length (of_entity e) ≡ size_of Q counts e
  entity_size e =
      length-flat_map (of_row e) (below (count_of M e)) ∙ (λ k. sum_by (λ (row : ℕ). row_size e row k) (below (count_of M e))) ∙ const_sum (width e) 0 (count_of M e)

  rows_size : length (flat_map of_entity (below n)) ≡ null_start Q counts
  rows_size = length-flat_map of_entity (below n) ∙ (λ k. sum_by (λ (e : ℕ). entity_size e k) (below n)) ∙ sym (sum-map (size_of Q counts) (below n))

  pub image_at : (e row k : ℕ) → e < n → row < count_of M e → k < width e → slice_get images (start_of Q counts e + row * width e + k) ≡ Some (copy_sent Q h i j e row k)
  image_at e row k within inside less =
      let here : 0 + k ≡ k = omega arith in
      let zero_row : 0 + row ≡ row = omega arith in
      let zero_first : 0 + e ≡ e = omega arith in
      let one : slice_get (of_row e row) k ≡ Some (copy_sent Q h i j e row k) =
      get-map (copy_sent Q h i j e row) (below (width e)) k k (get-range 0 (width e) k less ∙ ap (λ (m : ℕ). Some m) here) in
      let in_row = in_flat (of_row e) 0 (count_of M e) row k (copy_sent Q h i j e row k) inside (ap (λ m. slice_get (of_row e m) k) zero_row ∙ one) in
      let before : sum_by (λ (r : ℕ). length (of_row e r)) (below row) ≡ row * width e = (λ m. sum_by (λ (r : ℕ). row_size e r m) (below row)) ∙ const_sum (width e) 0 row in
      let in_row' : slice_get (of_entity e) (row * width e + k) ≡ Some (copy_sent Q h i j e row k) = ap (λ m. slice_get (of_entity e) (m + k)) (sym before) ∙ in_row in
      let in_entity = in_flat of_entity 0 n e (row * width e + k) (copy_sent Q h i j e row k) within (ap (λ m. slice_get (of_entity m) (row * width e + k)) zero_first ∙ in_row') in
      let start : sum_by (λ m. length (of_entity m)) (below e) ≡ start_of Q counts e = (λ m. sum_by (λ (f : ℕ). entity_size f m) (below e)) ∙ sym (sum-map (size_of Q counts) (below e)) in
      let place : start_of Q counts e + row * width e + k ≡ sum_by (λ m. length (of_entity m)) (below e) + (row * width e + k) = omega (arith, start) in
      get-append_front (flat_map of_entity (below n)) (map (null_sent Q h i j) (below nulls)) (start_of Q counts e + row * width e + k) (copy_sent Q h i j e row k)
      (ap (slice_get (flat_map of_entity (below n))) place ∙ in_entity)

  pub null_image_at : (label : ℕ) → label < nulls → slice_get images (null_start Q counts + label) ≡ Some (null_sent Q h i j label)
  null_image_at label less =
      let here : 0 + label ≡ label = omega arith in
      ap (λ m. slice_get images (m + label)) (sym rows_size)
      ∙ get-append (flat_map of_entity (below n)) (map (null_sent Q h i j) (below nulls)) label (null_sent Q h i j label)
      (get-map (null_sent Q h i j) (below nulls) label label (get-range 0 nulls label less ∙ ap (λ (m : ℕ). Some m) here))

  meant_at : (k : ℕ) (x : Image) → slice_get images k ≡ Some x → slice_index_or B k (AtRow 0) ≡ meaning_of N A (term_of x)
  meant_at k x at = get_or_from_slice_get B k (meaning_of N A (term_of x)) (AtRow 0) (get-map (λ (y : Image). meaning_of N A (term_of y)) images k x at)

  -- the copies of a row name what the copies of the row to which it goes name
  abbrev rows_at : ℕ → ℕ → List ℕ
  rows_at e row = map (row_of N B) (row_terms Q counts e row)

  abbrev rows_at' : ℕ → ℕ → List ℕ
  rows_at' = copies.rows_at Q query L tables' N A holds

  rows_same : (e row : ℕ) → row < count_of M e → rows_at e row ≡ rows_at' e (to_row e row)
  rows_same e row inside =
      let within = known e row inside in
      let size : length (rows_at e row) ≡ width e = length-map (row_terms Q counts e row) (row_of N B) ∙ (stand Q M e row within inside).count in
      same_list (rows_at e row) (rows_at' e (to_row e row)) (size ∙ sym (copies.rows_count Q query L tables' N A holds e (to_row e row) within (goes_inside e row inside))) (λ k x y left right.
      let v = within_length (variables_at Q e) (rows_at e row) k x left (sym size) in
      let less : k < width e = slice_get_within (variables_at Q e) k v.0 v.1 in
      let here : slice_get (rows_at e row) k ≡ Some (row_of N B (copy_of Q M e row k)) =
      get-map (row_of N B) (row_terms Q counts e row) k (copy_of Q M e row k) (copy_term Q M e row k v.0 within inside v.1) in
      let over : slice_get (rows_at' e (to_row e row)) k ≡ Some (row_of N A (copy_of Q L e (to_row e row) k)) =
      get-map (row_of N A) (row_terms Q L.sheet.counts e (to_row e row)) k (copy_of Q L e (to_row e row) k) (copy_term Q L e (to_row e row) k v.0 within (goes_inside e row inside) v.1) in
      let first : Some (row_of N B (copy_of Q M e row k)) ≡ Some x = sym here ∙ left in
      let second : Some (row_of N A (copy_of Q L e (to_row e row) k)) ≡ Some y = sym over ∙ right in
      let middle_is : row_of N B (copy_of Q M e row k) ≡ row_of N A (copy_of Q L e (to_row e row) k) =
      ap row_in (meant_at (start_of Q counts e + row * width e + k) (copy_sent Q h i j e row k) (image_at e row k within inside less)) in
      let x_is : row_of N B (copy_of Q M e row k) ≡ x = cc in
      let y_is : row_of N A (copy_of Q L e (to_row e row) k) ≡ y = cc in
      sym x_is ∙ middle_is ∙ y_is)

  -- a value means what its image means
  abbrev copied : Value → TypeTerm
  copied = copied_value Q M

  abbrev copied' : Value → TypeTerm
  copied' = copied_value Q L

  abbrev value_at : Value → Value
  value_at v = value_of N B (copied v)

  abbrev value_at' : Value → Value
  value_at' = copies.value_at Q query L tables' N A holds

  built_means : (f : ℕ) (ws : List Value) → value_at' (Fun f ws) ≡ applied N f (map value_at' ws)
  built_means f ws =
      ap (value_of N A) (values.fold-Fun TypeTerm (value_term_step (null_start Q L.sheet.counts) (length L.algebra.nulls)) f ws)
      ∙ fold-Fun Value (value_step N A) f (map copied' ws) ∙ ap (applied N f) (map-map (value_of N A) copied' ws)

  applied_means : (f : ℕ) (ws : List Value) → value_at' (applied L f ws) ≡ applied N f (map value_at' ws)
  applied_means f ws = at_entry (find (is_for f ws) L.algebra.entries) refl
    where
      at_entry : (o : Option Entry) → find (is_for f ws) L.algebra.entries ≡ o → value_at' (entry_or_built o f ws) ≡ applied N f (map value_at' ws)
      at_entry None e = built_means f ws
      at_entry (Some entry) e =
          let place = found_passes (is_for f ws) L.algebra.entries entry e in
          let for_it = entry_for f ws entry place.2 in
          sym (copies.entry_means Q query L tables' N A holds place.0 entry place.1) ∙ ap (applied N entry.function) (map-map (value_of N A) copied' entry.args)
          ∙ (λ k. applied N (for_it.0 k) (map value_at' (sym for_it.1 k)))

  abbrev IsSame : Value → Type 0
  IsSame v = (type : ℕ) → value_type T M.algebra.nulls v ≡ Some type → value_at v ≡ value_at' (image v)

  all_same : (vs : List Value) (types : List ℕ) → have_types (map (value_type T M.algebra.nulls) vs) types ≡ true → Each IsSame vs → map value_at vs ≡ map value_at' (map image vs)
  all_same [] types e each = refl
  all_same (v ∷ vs) [] e each = cc
  all_same (v ∷ vs) (type ∷ types) e each =
      let parts = both (is_type (value_type T M.algebra.nulls v) type) (have_types (map (value_type T M.algebra.nulls) vs) types) e in
      let first : value_at v ≡ value_at' (image v) = each.0 type (is_type_some (value_type T M.algebra.nulls v) type parts.0) in
      let rest : map value_at vs ≡ map value_at' (map image vs) = all_same vs types parts.1 each.1 in
      λ k. first k ∷ rest k

  args_same : (f type : ℕ) (vs : List Value) → Each IsSame vs → value_type T M.algebra.nulls (Fun f vs) ≡ Some type → map value_at vs ≡ map value_at' (map image vs)
  args_same f type vs each e =
      let parts = applied_type_some (slice_get T.typeside.functions f) (map (value_type T M.algebra.nulls) vs) type (sym (values.fold-Fun (Option ℕ) (value_type_step T M.algebra.nulls) f vs) ∙ e) in
      all_same vs parts.0.args parts.2 each

  null_same : (label : ℕ) → label < nulls → value_at (Null label) ≡ value_at' (image (Null label))
  null_same label less =
      let number : slice_index (range_with_len (null_start Q counts) nulls) label ≡ null_start Q counts + label = get_or-range_with_len (null_start Q counts) nulls label 0 less in
      ap (value_of N B) (values.fold-Null TypeTerm (value_term_step (null_start Q counts) nulls) label)
      ∙ fold-Gen Value (value_step N B) (slice_index (range_with_len (null_start Q counts) nulls) label)
      ∙ ap (λ (m : ℕ). value_in (slice_index_or B m (AtRow 0))) number
      ∙ ap value_in (meant_at (null_start Q counts + label) (null_sent Q h i j label) (null_image_at label less))

  value_same : (v : Value) → IsSame v
  value_same = on_values IsSame
      (λ c type e.
      ap (value_of N B) (values.fold-Const TypeTerm (value_term_step (null_start Q counts) nulls) c) ∙ fold-Const Value (value_step N B) c
      ∙ sym (fold-Const Value (value_step N A) c) ∙ ap (value_of N A) (sym (values.fold-Const TypeTerm (value_term_step (null_start Q L.sheet.counts) (length L.algebra.nulls)) c))
      ∙ ap value_at' (sym (values.fold-Const Value (value_image_step T M L h.rows h.nulls) c)))
      (λ label type e. null_same label (slice_get_within M.algebra.nulls label type (sym (values.fold-Null (Option ℕ) (value_type_step T M.algebra.nulls) label) ∙ e)))
      (λ f vs each type e.
      ap (value_of N B) (values.fold-Fun TypeTerm (value_term_step (null_start Q counts) nulls) f vs) ∙ fold-Fun Value (value_step N B) f (map copied vs)
      ∙ ap (applied N f) (map-map (value_of N B) copied vs ∙ args_same f type vs each e)
      ∙ sym (applied_means f (map image vs)) ∙ ap value_at' (sym (values.fold-Fun Value (value_image_step T M L h.rows h.nulls) f vs)))

  each_same : (vs : List Value) → Each IsSame vs
  each_same [] = tt
  each_same (v ∷ vs) = (value_same v, each_same vs)

  -- the images are of the sorts of the generators
  abbrev IsSorted : Sort → Image → Type 0
  IsSorted sort x = sort_of b.schema b.presentation.generators (term_of x) ≡ Some sort

  typed_null : (label type : ℕ) → slice_get M.algebra.nulls label ≡ Some type → value_type T L.algebra.nulls (image (Null label)) ≡ Some type
  typed_null label type at = (homomorphism.typed label type at).0

  abbrev sorts : List Sort
  sorts = flat_map (row_sorts Q counts) (below n) ++ map Plain M.algebra.nulls

  sorted_beside : Beside IsSorted sorts images
  sorted_beside = beside_append IsSorted
      (beside_ranges IsSorted (row_sorts Q counts) of_entity 0 n (λ e low high.
      beside_ranges IsSorted (λ (row : ℕ). map (λ (v : Name × ℕ). Entity v.1) (variables_at Q e)) (of_row e) 0 (count_of M e) (λ row low' high'.
      let inside : row < count_of M e = omega arith in
      beside_numbers IsSorted (λ (v : Name × ℕ). Entity v.1) (copy_sent Q h i j e row) (variables_at Q e) 0 (λ k v at.
      let here : k ≡ 0 + k = omega arith in
      subst (λ m. IsSorted (Entity v.1) (copy_sent Q h i j e row m)) here
      (ap (option_map Entity) (coeval.copy_over Q query j b to middle e (to_row e row) k v (goes_inside e row inside) at)))))
      )
      (beside_numbers IsSorted Plain (null_sent Q h i j) M.algebra.nulls 0 (λ k type at.
      let here : k ≡ 0 + k = omega arith in
      subst (λ m. IsSorted (Plain type) (null_sent Q h i j m)) here
      (ap (option_map Plain) (coeval.value_over Q query j b to middle (image (Null k)) type (typed_null k type at)))))

  generators_are : (k : ℕ) (g : Name × Sort) → slice_get (coeval_of Q M).generators k ≡ Some g → slice_get sorts k ≡ Some g.1
  generators_are = sort_of_named sorts

  pub image_count : length images ≡ length (coeval_of Q M).generators
  image_count = sym (beside_count IsSorted sorted_beside) ∙ sym (named_length sorts)

  meaning_right : (k : ℕ) (g : Name × Sort) → slice_get (coeval_of Q M).generators k ≡ Some g → HasSort Q.source N g.1 (slice_index_or B k (AtRow 0))
  meaning_right k g at =
      let x = member_at images k (omega (arith, image_count, slice_get_within (coeval_of Q M).generators k g at)) in
      let is : sort_of b.schema b.presentation.generators (term_of x.0) ≡ Some g.1 = beside_at IsSorted sorted_beside k g.1 x.0 (generators_are k g at) x.1 in
      let means : HasSort b.schema N g.1 (meaning_of N A (term_of x.0)) = meaning_sorted b b refl there (term_of x.0) g.1 is in
      subst (HasSort Q.source N g.1) (sym (meant_at k x.0 x.1)) (subst (λ (S : Schema). HasSort S N g.1 (meaning_of N A (term_of x.0))) to.schema means)

  key_inside : (k : ℕ) (edge : Edge) → slice_get T.keys k ≡ Some edge → (row : ℕ) → row < count_of M edge.from → key_at M k row < count_of M edge.to
  key_inside k edge is row inside =
      let column = tables.key_columns k edge is in
      column.1 row 0 (subst (λ m. row < m) (sym column.0) inside)

  cell_typed : (c : ℕ) (edge : Edge) → slice_get T.attributes c ≡ Some edge → (row : ℕ) → row < count_of M edge.from → value_type T M.algebra.nulls (cell_at M c row) ≡ Some edge.to
  cell_typed c edge is row inside =
      let column = tables.cell_columns c edge is in
      (column.1 row (Const (Named 0)) (subst (λ m. row < m) (sym column.0) inside)).0

  entry_same : (k : ℕ) (entry : Entry) → slice_get M.algebra.entries k ≡ Some entry → applied N entry.function (map (value_of N B) (map copied entry.args)) ≡ value_at entry.value
  entry_same k entry at =
      let sound : IsSoundEntry T M entry = All_at (IsSoundEntry T M) M.algebra.entries k entry tables.entries at in
      ap (applied N entry.function) (map-map (value_of N B) copied entry.args ∙ args_same entry.function sound.function.result entry.args (each_same entry.args) sound.typed)
      ∙ sym (applied_means entry.function (map image entry.args))
      ∙ ap value_at' (All_at (λ (x : Entry). applied L x.function (map image x.args) ≡ image x.value) M.algebra.entries k entry homomorphism.entries at)
      ∙ sym (value_same entry.value sound.function.result sound.same_type)

  are : AreAnswered Q M N B
  are = record {
    count = length-map images (λ (x : Image). meaning_of N A (term_of x)) ∙ image_count;
    sorts = meaning_right;
    answer = λ e row within inside.
        subst (IsAnswer Q N e) (sym (rows_same e row inside)) (copies.are_answer Q query L tables' N A holds e (to_row e row) within (goes_inside e row inside));
    key = λ k edge is row inside.
        rows_same edge.to (key_at M k row) (key_inside k edge is row inside)
        ∙ ap (rows_at' edge.to) (homomorphism.keys k edge is row inside)
        ∙ copies.key_led Q query L tables' N A holds k edge is (to_row edge.from row) (goes_inside edge.from row inside)
        ∙ ap (led Q N k) (sym (rows_same edge.from row inside));
    cell = λ c edge is row inside.
        ap (λ (l : List ℕ). value_of N (stands Q N l) (attribute_term Q c)) (rows_same edge.from row inside)
        ∙ copies.cell_means Q query L tables' N A holds c edge is (to_row edge.from row) (goes_inside edge.from row inside)
        ∙ ap value_at' (sym (homomorphism.cells c edge is row inside))
        ∙ sym (value_same (cell_at M c row) edge.to (cell_typed c edge is row inside));
    entry = entry_same;
  }

  images_hold : Holds Q.source (coeval_of Q M) N B
  images_hold = coeval_holds Q query M N B (subst (λ (S : Schema). IsWellFormed S N) to.schema there.well_formed) (subst (λ (S : Schema). Satisfies S N) to.schema there.satisfies) are

  pub sorted : AreSorted a b images
  sorted = record {
    count = image_count ∙ ap (λ (P : Presentation). length P.generators) (sym from.presentation);
    sorts = λ k g x at here. beside_at IsSorted sorted_beside k g.1 x (generators_are k g (ap (λ (P : Presentation). slice_get P.generators k) (sym from.presentation) ∙ at)) here;
  }

  pub are_kept : AreKept a b images
  are_kept k e at = images_hold.equations k e (ap (λ (P : Presentation). slice_get P.equations k) (sym from.presentation) ∙ at)

  pub schemas : b.schema ≡ a.schema
  schemas = to.schema ∙ sym from.schema

  -- what is made of the images sends the copies of a row to those of the row to which it goes, and what values mean to what their images mean
  module _ (made : Transform) (same : made.images ≡ images) (between : GoesFrom made a b) where
    pub copy_goes : (e row k : ℕ) (v : Name × ℕ) → row < count_of M e → slice_get (variables_at Q e) k ≡ Some v
        → row_sent made a b v.1 (copy_of Q M e row k) ≡ row_of N A (copy_of Q L e (to_row e row) k)
    copy_goes e row k v inside at =
        kept.row_goes a.schema a.presentation a.tables N a.assignment (meanings_in b made.images) made.rows made.nulls from.initial.0.holds between.homomorphism between.agrees (copy_of Q M e row k) v.1
        (coeval.copy_over Q query i a from source e row k v inside at)
        ∙ ap (λ (l : List Image). row_of N (meanings_in b l) (copy_of Q M e row k)) same
        ∙ ap row_in (meant_at (start_of Q counts e + row * width e + k) (copy_sent Q h i j e row k) (image_at e row k (known e row inside) inside (slice_get_within (variables_at Q e) k v at)))

    pub value_goes : (v : Value) (type : ℕ) → value_type T M.algebra.nulls v ≡ Some type → value_sent made a b (copied v) ≡ value_of N A (copied' (image v))
    value_goes v type typed =
        kept.value_goes a.schema a.presentation a.tables N a.assignment (meanings_in b made.images) made.rows made.nulls from.initial.0.holds between.homomorphism between.agrees (copied v) type
        (coeval.value_over Q query i a from source v type typed)
        ∙ ap (λ (l : List Image). value_of N (meanings_in b l) (copied v)) same
        ∙ value_same v type typed
