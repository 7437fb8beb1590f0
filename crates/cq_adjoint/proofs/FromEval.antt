-- What arrives at eval leaves coeval: the images that are named by answers are sorted and keep the equations.
use Rattle.std.proofs.Common.{ℕ, true, List, [], ◌∷◌, ◌++◌, Option, Some, ◌≡◌, ◌<◌, ◌≤◌, ◌+◌, ◌*◌, map, length, refl, sym, ap, subst, ◌∙◌, arith}
use Rattle.std.specs.Prelude.{slice_get, slice_index, slice_index_or, option_map, All}
use Rattle.std.specs.List.{flat_map, range_with_len, enumerate_from, sum_by}
use Rattle.std.proofs.lemmas.List.{length-map}
use Rattle.std.proofs.lemmas.List.Concat.{length-flat_map}
use Rattle.std.proofs.lemmas.List.FromFn.{length-range_with_len, length-enumerate_from, get_or-range_with_len}
use Rattle.std.proofs.lemmas.List.Sums.{sum-map}
use Rattle.std.proofs.lemmas.Option.{slice_get_within, get_or_from_slice_get}
use Rattle.cq_base.specs.declared.name.Name.{Name}
use Rattle.cq_theory.specs.declared.value.Algebra.{Algebra}
use Rattle.cq_theory.specs.declared.constant.Con.TheVariants.{Named}
use Rattle.cq_theory.specs.declared.presentation.Presentation.{Presentation}
use Rattle.cq_theory.specs.declared.presentation.Sort.{Sort}
use Rattle.cq_theory.specs.declared.presentation.Sort.TheVariants.{Plain, Entity}
use Rattle.cq_theory.specs.declared.schema.Edge.{Edge}
use Rattle.cq_theory.specs.declared.term.Term.TheVariants.{Ent, Typ}
use Rattle.cq_theory.specs.declared.term.TypeTerm.{TypeTerm}
use Rattle.cq_theory.specs.declared.value.Value.{Value}
use Rattle.cq_theory.specs.declared.value.Value.TheVariants.{Const, Null, Fun}
use Rattle.cq_theory.specs.declared.value.Entry.{Entry}
use Rattle.cq_theory.specs.SchemaData.{SchemaData as Schema}
use Rattle.cq_theory.specs.TypesideData.{TypesideData as Typeside}
use Rattle.cq_theory.specs.Canonical.{below}
use Rattle.cq_theory.specs.Homomorphism.{row_image, value_image, value_image_step, IsHomomorphism}
use Rattle.cq_theory.specs.Sorts.{is_type, have_types, sort_of}
use Rattle.cq_theory.specs.Tables.{Tables, Meaning, AtRow, AtValue, Assignment, row_in, value_in, count_of, key_at, cell_at, row_of, value_of, value_step, meaning_of, applied, normal_of, value_type, value_type_step, HasSort, IsSoundEntry, IsWellFormed, Satisfies, Holds}
use Rattle.cq_theory.proofs.Every.{enumerated}
use Rattle.cq_theory.proofs.Faults.{made_of}
use Rattle.cq_theory.proofs.OnValues.{Each, on_values, All_at}
use Rattle.cq_theory.proofs.Sound.{both, is_type_some, applied_type_some}
use Rattle.cq_theory.proofs.TypeTerms.{fold-Gen, fold-Const, fold-Fun}
use Rattle.cq_theory.proofs.Values as values
use Rattle.cq_terms.proofs.Naming.{named_length, sort_of_named}
use Rattle.cq_terms.specs.ValueTerms.{value_term_step}
use Rattle.cq_instance.specs.InstanceData.{InstanceData, IsInstance}
use Rattle.cq_instance.specs.declared.transform.Image.{Image}
use Rattle.cq_instance.specs.declared.transform.Transform.{Transform}
use Rattle.cq_instance.specs.Given.{HasLeastNames}
use Rattle.cq_instance.proofs.Lists.{get-map, get-append, get-append_front, get-range, map-map}
use Rattle.cq_transform.specs.Transforming.{AreKept, AreSorted}
use Rattle.cq_transform.specs.Transforms.{term_of, meanings_in, GoesFrom}
use Rattle.cq_transform.proofs.Loops.{member_at}
use Rattle.cq_transform.proofs.Made.{meaning_sorted}
use Rattle.cq_query.specs.QueryData.{QueryData as Query}
use Rattle.cq_query.specs.IsQuery.{IsQuery}
use Rattle.cq_query.specs.Translation.{variables_at, attribute_term}
use Rattle.cq_query.specs.Answers.{stands, variable_counts, IsEval}
use Rattle.cq_query.specs.Leading.{IsAnswer, led}
use Rattle.cq_query.specs.Coeval.{size_of, start_of, null_start, row_terms, row_sorts, coeval_of}
use Rattle.cq_query.proofs.Answering.{among_answers}
use Rattle.cq_query.proofs.Copying.{const_sum}
use Rattle.cq_query.proofs.Holding.{tuple_at, tuple_length}
use Rattle.cq_query.proofs.Once.{one_answers}
use Rattle.cq_query.proofs.Standing.{within_length}
use Rattle.cq_adjoint.specs.AnswerNames.{answer_of, row_named, rows_named, null_named, from_eval_images}
use Rattle.cq_adjoint.specs.Copies.{copy_of, copied_value, answers_at}
use Rattle.cq_adjoint.specs.Moves.{spelled_value}
use Rattle.cq_adjoint.specs.QueryMoves.{AreAcross}
use Rattle.cq_instance.specs.Spelling.{AreNullsSpelled}
use Rattle.cq_adjoint.proofs.AnsweredRows.{same_list}
use Rattle.cq_adjoint.proofs.Besides.{Beside, beside_count, beside_at, beside_append, beside_ranges, beside_numbers, beside_enumerated}
use Rattle.cq_adjoint.proofs.CoevalTerms as coeval
use Rattle.cq_adjoint.proofs.Copied.{in_flat, stand, copy_term}
use Rattle.cq_adjoint.proofs.EvalMaps.{count_is}
use Rattle.cq_adjoint.proofs.NamedImages.{named_image, value_spelled}
use Rattle.cq_adjoint.proofs.OutOfCoeval.{AreAnswered, coeval_holds}

module _ (Q : Query) (query : IsQuery Q) (h : Transform) (i a j d : InstanceData) (answers : List (List (List ℕ))) (across : AreAcross Q i a j d answers) (goes : GoesFrom h i d)
    (source : IsInstance i) (middle : IsInstance j) (least : HasLeastNames j) (null_term : ℕ → TypeTerm) (spell : AreNullsSpelled j null_term) where
  abbrev T : Schema
  T = Q.target

  abbrev n : ℕ
  n = length T.entities

  abbrev M : Tables
  M = i.tables

  abbrev N : Tables
  N = j.tables

  abbrev D : Tables
  D = d.tables

  abbrev A : Assignment
  A = j.assignment

  abbrev counts : List ℕ
  counts = M.sheet.counts

  abbrev nulls : ℕ
  nulls = length M.algebra.nulls

  abbrev width : ℕ → ℕ
  width e = length (variables_at Q e)

  abbrev eval : IsEval Q N D
  eval = across.evaluated.tables

  abbrev image : Value → Value
  image = value_image T M D h.rows h.nulls

  abbrev to_row : ℕ → ℕ → ℕ
  to_row = row_image T M D h.rows h.nulls

  abbrev answer : ℕ → ℕ → List ℕ
  answer = answer_of Q h i j d answers

  homomorphism : IsHomomorphism T M D h.rows h.nulls
  homomorphism = subst (λ (S : Schema). IsHomomorphism S M D h.rows h.nulls) across.coeval.over goes.homomorphism

  tables : IsWellFormed T M
  tables = coeval.tables Q query i a across.coeval source

  known : (e row : ℕ) → row < count_of M e → e < n
  known = coeval.known Q query i a across.coeval source

  -- a row goes to a row, which is that of an answer
  there : (e row : ℕ) → row < count_of M e → to_row e row < count_of D e
  there e row inside =
      let list = member_at h.rows e (omega (arith, homomorphism.entities, known e row inside)) in
      let are = homomorphism.each_row e list.0 list.1 in
      let is : to_row e row ≡ slice_index list.0 row = ap (λ (l : List ℕ). slice_index l row) (get_or_from_slice_get h.rows e list.0 [] list.1) in
      subst (λ m. m < count_of D e) (sym is) (are.1 row 0 (omega (arith, are.0, inside)))

  pub answered : (e row : ℕ) → row < count_of M e → slice_get (answers_at answers e) (to_row e row) ≡ Some (answer e row)
  answered e row inside =
      let rows = member_at (answers_at answers e) (to_row e row) (omega (arith, there e row inside, count_is Q N D eval answers across.answered e (known e row inside))) in
      rows.1 ∙ ap (λ (l : List ℕ). Some l) (sym (get_or_from_slice_get (answers_at answers e) (to_row e row) rows.0 [] rows.1))

  is_answer : (e row : ℕ) → row < count_of M e → IsAnswer Q N e (answer e row)
  is_answer e row inside = (among_answers Q N e (answers_at answers e) (across.answered.each e (known e row inside)) (answer e row)).0 (to_row e row, answered e row inside)

  same_answers : (e : ℕ) → e < n → slice_index_or eval.answers e [] ≡ answers_at answers e
  same_answers e within = one_answers Q N e (slice_index_or eval.answers e []) (answers_at answers e) (eval.each e within) (across.answered.each e within)

  eval_answered : (e row : ℕ) → row < count_of M e → slice_get (slice_index_or eval.answers e []) (to_row e row) ≡ Some (answer e row)
  eval_answered e row inside = ap (λ (l : List (List ℕ)). slice_get l (to_row e row)) (same_answers e (known e row inside)) ∙ answered e row inside

  answer_count : (e row : ℕ) → row < count_of M e → length (answer e row) ≡ width e
  answer_count e row inside = tuple_length (answer e row) (variable_counts Q N e) (is_answer e row inside).0 ∙ length-map (variables_at Q e) (λ (v : Name × ℕ). count_of N v.1)

  -- the row for a variable
  pub named_within : (e row k : ℕ) (v : Name × ℕ) → row < count_of M e → slice_get (variables_at Q e) k ≡ Some v → slice_index (answer e row) k < count_of N v.1
  named_within e row k v inside at =
      let r = tuple_at (answer e row) (variable_counts Q N e) (is_answer e row inside).0 k (count_of N v.1) (get-map (λ (w : Name × ℕ). count_of N w.1) (variables_at Q e) k v at) in
      subst (λ m. m < count_of N v.1) (sym (get_or_from_slice_get (answer e row) k r.0 0 r.1)) r.2

  abbrev images : List Image
  images = from_eval_images Q h i j d answers null_term

  abbrev B : Assignment
  B = meanings_in j images

  -- which image stands where
  abbrev of_row : ℕ → ℕ → List Image
  of_row = rows_named Q h i j d answers

  abbrev of_entity : ℕ → List Image
  of_entity e = flat_map (of_row e) (below (count_of M e))

  abbrev at_variable : ℕ → ℕ → ℕ × (Name × ℕ) → Image
  at_variable = row_named Q h i j d answers

  abbrev at_null : ℕ → Image
  at_null = null_named Q h i j d answers null_term

  row_size : (e row : ℕ) → length (of_row e row) ≡ width e
  row_size e row = length-map (enumerate_from 0 (variables_at Q e)) (at_variable e row) ∙ length-enumerate_from 0 (variables_at Q e)

  entity_size : (e : ℕ) → length (of_entity e) ≡ size_of Q counts e
  entity_size e =
      length-flat_map (of_row e) (below (count_of M e)) ∙ (λ k. sum_by (λ (row : ℕ). row_size e row k) (below (count_of M e))) ∙ const_sum (width e) 0 (count_of M e)

  rows_size : length (flat_map of_entity (below n)) ≡ null_start Q counts
  rows_size = length-flat_map of_entity (below n) ∙ (λ k. sum_by (λ (e : ℕ). entity_size e k) (below n)) ∙ sym (sum-map (size_of Q counts) (below n))

  image_at : (e row k : ℕ) (v : Name × ℕ) → e < n → row < count_of M e → slice_get (variables_at Q e) k ≡ Some v
      → slice_get images (start_of Q counts e + row * width e + k) ≡ Some (at_variable e row (k, v))
  image_at e row k v within inside at =
      let here : 0 + k ≡ k = omega arith in
      let zero_row : 0 + row ≡ row = omega arith in
      let zero_first : 0 + e ≡ e = omega arith in
      let x : Image = at_variable e row (k, v) in
      let one : slice_get (of_row e row) k ≡ Some x =
      get-map (at_variable e row) (enumerate_from 0 (variables_at Q e)) k (k, v)
      (enumerated 0 (variables_at Q e) k v at ∙ ap (λ (m : ℕ). let p : ℕ × (Name × ℕ) = (m, v) in Some p) here) in
      let in_row = in_flat (of_row e) 0 (count_of M e) row k x inside (ap (λ m. slice_get (of_row e m) k) zero_row ∙ one) in
      let before : sum_by (λ (r : ℕ). length (of_row e r)) (below row) ≡ row * width e = (λ m. sum_by (λ (r : ℕ). row_size e r m) (below row)) ∙ const_sum (width e) 0 row in
      let in_row' : slice_get (of_entity e) (row * width e + k) ≡ Some x = ap (λ m. slice_get (of_entity e) (m + k)) (sym before) ∙ in_row in
      let in_entity = in_flat of_entity 0 n e (row * width e + k) x within (ap (λ m. slice_get (of_entity m) (row * width e + k)) zero_first ∙ in_row') in
      let start : sum_by (λ m. length (of_entity m)) (below e) ≡ start_of Q counts e = (λ m. sum_by (λ (f : ℕ). entity_size f m) (below e)) ∙ sym (sum-map (size_of Q counts) (below e)) in
      let place : start_of Q counts e + row * width e + k ≡ sum_by (λ m. length (of_entity m)) (below e) + (row * width e + k) = omega (arith, start) in
      get-append_front (flat_map of_entity (below n)) (map at_null (below nulls)) (start_of Q counts e + row * width e + k) x
      (ap (slice_get (flat_map of_entity (below n))) place ∙ in_entity)

  null_image_at : (label : ℕ) → label < nulls → slice_get images (null_start Q counts + label) ≡ Some (at_null label)
  null_image_at label less =
      let here : 0 + label ≡ label = omega arith in
      ap (λ m. slice_get images (m + label)) (sym rows_size)
      ∙ get-append (flat_map of_entity (below n)) (map at_null (below nulls)) label (at_null label)
      (get-map at_null (below nulls) label label (get-range 0 nulls label less ∙ ap (λ (m : ℕ). Some m) here))

  meant_at : (k : ℕ) (x : Image) → slice_get images k ≡ Some x → slice_index_or B k (AtRow 0) ≡ meaning_of N A (term_of x)
  meant_at k x at = get_or_from_slice_get B k (meaning_of N A (term_of x)) (AtRow 0) (get-map (λ (y : Image). meaning_of N A (term_of y)) images k x at)

  -- the copies of a row name the answer to which the row goes
  abbrev rows_at : ℕ → ℕ → List ℕ
  rows_at e row = map (row_of N B) (row_terms Q counts e row)

  pub rows_same : (e row : ℕ) → row < count_of M e → rows_at e row ≡ answer e row
  rows_same e row inside =
      let within = known e row inside in
      let size : length (rows_at e row) ≡ width e = length-map (row_terms Q counts e row) (row_of N B) ∙ (stand Q M e row within inside).count in
      same_list (rows_at e row) (answer e row) (size ∙ sym (answer_count e row inside)) (λ k x y left right.
      let v = within_length (variables_at Q e) (rows_at e row) k x left (sym size) in
      let here : slice_get (rows_at e row) k ≡ Some (row_of N B (copy_of Q M e row k)) =
      get-map (row_of N B) (row_terms Q counts e row) k (copy_of Q M e row k) (copy_term Q M e row k v.0 within inside v.1) in
      let first : Some (row_of N B (copy_of Q M e row k)) ≡ Some x = sym here ∙ left in
      let named : row_of N B (copy_of Q M e row k) ≡ slice_index (answer e row) k =
      ap row_in (meant_at (start_of Q counts e + row * width e + k) (at_variable e row (k, v.0)) (image_at e row k v.0 within inside v.1)
      ∙ (named_image j null_term spell least (Entity v.0.1) (AtRow (slice_index (answer e row) k)) (named_within e row k v.0 inside v.1)).means) in
      let x_is : row_of N B (copy_of Q M e row k) ≡ x = cc in
      sym x_is ∙ named ∙ get_or_from_slice_get (answer e row) k y 0 right)

  -- types, normal values and functions are those of eval
  type_same : (v : Value) → value_type T D.algebra.nulls v ≡ value_type j.schema N.algebra.nulls v
  type_same v =
      ap (λ (y : Typeside). value_type (record { typeside = y; entities = []; keys = []; attributes = []; path_eqs = []; obs_eqs = [] }) D.algebra.nulls v) (sym query.typeside)
      ∙ ap (λ (g : Algebra). value_type Q.source g.nulls v) eval.algebra ∙ ap (λ (S : Schema). value_type S N.algebra.nulls v) (sym across.evaluated.over)

  normal_same : (v : Value) → normal_of D v ≡ normal_of N v
  normal_same v = ap (λ (g : Algebra). let X : Tables = record { sheet = D.sheet; algebra = g } in normal_of X v) eval.algebra

  applied_same : (f : ℕ) (vs : List Value) → applied D f vs ≡ applied N f vs
  applied_same f vs = ap (λ (g : Algebra). let X : Tables = record { sheet = D.sheet; algebra = g } in applied X f vs) eval.algebra

  -- where a null goes is spelled by a term of its type that means it
  null_spelled : (label type : ℕ) → slice_get M.algebra.nulls label ≡ Some type
      → (sort_of j.schema j.presentation.generators (term_of (at_null label)) ≡ Some (Plain type)) × (value_of N A (spelled_value null_term (image (Null label))) ≡ image (Null label))
  null_spelled label type at =
      let typed = homomorphism.typed label type at in
      let spelling = value_spelled j null_term spell (image (Null label)) type (sym (type_same (image (Null label))) ∙ typed.0) in
      (ap (option_map Plain) spelling.0, spelling.1 ∙ sym (normal_same (image (Null label))) ∙ typed.1)

  -- a value means what its image is
  abbrev copied : Value → TypeTerm
  copied = copied_value Q M

  abbrev value_at : Value → Value
  value_at v = value_of N B (copied v)

  abbrev IsSame : Value → Type 0
  IsSame v = (type : ℕ) → value_type T M.algebra.nulls v ≡ Some type → value_at v ≡ image v

  all_same : (vs : List Value) (types : List ℕ) → have_types (map (value_type T M.algebra.nulls) vs) types ≡ true → Each IsSame vs → map value_at vs ≡ map image vs
  all_same [] types e each = refl
  all_same (v ∷ vs) [] e each = cc
  all_same (v ∷ vs) (type ∷ types) e each =
      let parts = both (is_type (value_type T M.algebra.nulls v) type) (have_types (map (value_type T M.algebra.nulls) vs) types) e in
      let first : value_at v ≡ image v = each.0 type (is_type_some (value_type T M.algebra.nulls v) type parts.0) in
      let rest : map value_at vs ≡ map image vs = all_same vs types parts.1 each.1 in
      λ k. first k ∷ rest k

  args_same : (f type : ℕ) (vs : List Value) → Each IsSame vs → value_type T M.algebra.nulls (Fun f vs) ≡ Some type → map value_at vs ≡ map image vs
  args_same f type vs each e =
      let parts = applied_type_some (slice_get T.typeside.functions f) (map (value_type T M.algebra.nulls) vs) type (sym (values.fold-Fun (Option ℕ) (value_type_step T M.algebra.nulls) f vs) ∙ e) in
      all_same vs parts.0.args parts.2 each

  null_same : (label type : ℕ) → slice_get M.algebra.nulls label ≡ Some type → value_at (Null label) ≡ image (Null label)
  null_same label type at =
      let less : label < nulls = slice_get_within M.algebra.nulls label type at in
      let number : slice_index (range_with_len (null_start Q counts) nulls) label ≡ null_start Q counts + label = get_or-range_with_len (null_start Q counts) nulls label 0 less in
      ap (value_of N B) (values.fold-Null TypeTerm (value_term_step (null_start Q counts) nulls) label)
      ∙ fold-Gen Value (value_step N B) (slice_index (range_with_len (null_start Q counts) nulls) label)
      ∙ ap (λ (m : ℕ). value_in (slice_index_or B m (AtRow 0))) number
      ∙ ap value_in (meant_at (null_start Q counts + label) (at_null label) (null_image_at label less))
      ∙ (null_spelled label type at).1

  pub value_same : (v : Value) → IsSame v
  value_same = on_values IsSame
      (λ c type e.
      ap (value_of N B) (values.fold-Const TypeTerm (value_term_step (null_start Q counts) nulls) c) ∙ fold-Const Value (value_step N B) c
      ∙ sym (values.fold-Const Value (value_image_step T M D h.rows h.nulls) c))
      (λ label type e. null_same label type (sym (values.fold-Null (Option ℕ) (value_type_step T M.algebra.nulls) label) ∙ e))
      (λ f vs each type e.
      ap (value_of N B) (values.fold-Fun TypeTerm (value_term_step (null_start Q counts) nulls) f vs) ∙ fold-Fun Value (value_step N B) f (map copied vs)
      ∙ ap (applied N f) (map-map (value_of N B) copied vs ∙ args_same f type vs each e)
      ∙ sym (applied_same f (map image vs)) ∙ sym (values.fold-Fun Value (value_image_step T M D h.rows h.nulls) f vs))

  each_same : (vs : List Value) → Each IsSame vs
  each_same [] = tt
  each_same (v ∷ vs) = (value_same v, each_same vs)

  -- the images are of the sorts of the generators
  abbrev IsSorted : Sort → Image → Type 0
  IsSorted sort x = sort_of j.schema j.presentation.generators (term_of x) ≡ Some sort

  abbrev sorts : List Sort
  sorts = flat_map (row_sorts Q counts) (below n) ++ map Plain M.algebra.nulls

  sorted_beside : Beside IsSorted sorts images
  sorted_beside = beside_append IsSorted
      (beside_ranges IsSorted (row_sorts Q counts) of_entity 0 n (λ e low high.
      beside_ranges IsSorted (λ (row : ℕ). map (λ (v : Name × ℕ). Entity v.1) (variables_at Q e)) (of_row e) 0 (count_of M e) (λ row low' high'.
      let inside : row < count_of M e = omega arith in
      beside_enumerated IsSorted (λ (v : Name × ℕ). Entity v.1) (at_variable e row) (variables_at Q e) 0 (λ k v at.
      let here : k ≡ 0 + k = omega arith in
      subst (λ m. IsSorted (Entity v.1) (at_variable e row (m, v))) here
      (named_image j null_term spell least (Entity v.1) (AtRow (slice_index (answer e row) k)) (named_within e row k v inside at)).of_sort)))
      )
      (beside_numbers IsSorted Plain at_null M.algebra.nulls 0 (λ k type at.
      let here : k ≡ 0 + k = omega arith in
      subst (λ m. IsSorted (Plain type) (at_null m)) here (null_spelled k type at).0))

  generators_are : (k : ℕ) (g : Name × Sort) → slice_get (coeval_of Q M).generators k ≡ Some g → slice_get sorts k ≡ Some g.1
  generators_are = sort_of_named sorts

  image_count : length images ≡ length (coeval_of Q M).generators
  image_count = sym (beside_count IsSorted sorted_beside) ∙ sym (named_length sorts)

  meaning_right : (k : ℕ) (g : Name × Sort) → slice_get (coeval_of Q M).generators k ≡ Some g → HasSort Q.source N g.1 (slice_index_or B k (AtRow 0))
  meaning_right k g at =
      let x = member_at images k (omega (arith, image_count, slice_get_within (coeval_of Q M).generators k g at)) in
      let is : sort_of j.schema j.presentation.generators (term_of x.0) ≡ Some g.1 = beside_at IsSorted sorted_beside k g.1 x.0 (generators_are k g at) x.1 in
      let means : HasSort j.schema N g.1 (meaning_of N A (term_of x.0)) = meaning_sorted j j refl middle (term_of x.0) g.1 is in
      subst (HasSort Q.source N g.1) (sym (meant_at k x.0 x.1)) (subst (λ (S : Schema). HasSort S N g.1 (meaning_of N A (term_of x.0))) across.evaluated.over means)

  key_inside : (k : ℕ) (edge : Edge) → slice_get T.keys k ≡ Some edge → (row : ℕ) → row < count_of M edge.from → key_at M k row < count_of M edge.to
  key_inside k edge is row inside =
      let column = tables.key_columns k edge is in
      column.1 row 0 (subst (λ m. row < m) (sym column.0) inside)

  cell_typed : (c : ℕ) (edge : Edge) → slice_get T.attributes c ≡ Some edge → (row : ℕ) → row < count_of M edge.from → value_type T M.algebra.nulls (cell_at M c row) ≡ Some edge.to
  cell_typed c edge is row inside =
      let column = tables.cell_columns c edge is in
      (column.1 row (Const (Named 0)) (subst (λ m. row < m) (sym column.0) inside)).0

  -- the answer of the row to which a key leads is that to which the query's key leads
  key_answered : (k : ℕ) (edge : Edge) → slice_get T.keys k ≡ Some edge → (row : ℕ) → row < count_of M edge.from
      → answer edge.to (key_at M k row) ≡ led Q N k (answer edge.from row)
  key_answered k edge is row inside =
      let inside' = key_inside k edge is row inside in
      let here : slice_get (slice_index_or eval.answers edge.to []) (to_row edge.to (key_at M k row)) ≡ Some (answer edge.to (key_at M k row)) = eval_answered edge.to (key_at M k row) inside' in
      let other : slice_get (slice_index_or eval.answers edge.to []) (to_row edge.to (key_at M k row)) ≡ Some (led Q N k (answer edge.from row)) =
      ap (slice_get (slice_index_or eval.answers edge.to [])) (homomorphism.keys k edge is row inside)
      ∙ eval.keys k (to_row edge.from row) edge (answer edge.from row) is (eval_answered edge.from row inside) in
      let same : Some (answer edge.to (key_at M k row)) ≡ Some (led Q N k (answer edge.from row)) = sym here ∙ other in
      cc

  entry_same : (k : ℕ) (entry : Entry) → slice_get M.algebra.entries k ≡ Some entry → applied N entry.function (map (value_of N B) (map copied entry.args)) ≡ value_at entry.value
  entry_same k entry at =
      let sound : IsSoundEntry T M entry = All_at (IsSoundEntry T M) M.algebra.entries k entry tables.entries at in
      ap (applied N entry.function) (map-map (value_of N B) copied entry.args ∙ args_same entry.function sound.function.result entry.args (each_same entry.args) sound.typed)
      ∙ sym (applied_same entry.function (map image entry.args))
      ∙ All_at (λ (x : Entry). applied D x.function (map image x.args) ≡ image x.value) M.algebra.entries k entry homomorphism.entries at
      ∙ sym (value_same entry.value sound.function.result sound.same_type)

  are : AreAnswered Q M N B
  are = record {
    count = length-map images (λ (x : Image). meaning_of N A (term_of x)) ∙ image_count;
    sorts = meaning_right;
    answer = λ e row within inside. subst (IsAnswer Q N e) (sym (rows_same e row inside)) (is_answer e row inside);
    key = λ k edge is row inside.
        rows_same edge.to (key_at M k row) (key_inside k edge is row inside) ∙ key_answered k edge is row inside ∙ ap (led Q N k) (sym (rows_same edge.from row inside));
    cell = λ c edge is row inside.
        ap (λ (l : List ℕ). value_of N (stands Q N l) (attribute_term Q c)) (rows_same edge.from row inside)
        ∙ sym (eval.cells c (to_row edge.from row) edge (answer edge.from row) is (eval_answered edge.from row inside))
        ∙ sym (homomorphism.cells c edge is row inside)
        ∙ sym (value_same (cell_at M c row) edge.to (cell_typed c edge is row inside));
    entry = entry_same;
  }

  images_hold : Holds Q.source (coeval_of Q M) N B
  images_hold = coeval_holds Q query M N B (subst (λ (S : Schema). IsWellFormed S N) across.evaluated.over middle.well_formed)
      (subst (λ (S : Schema). Satisfies S N) across.evaluated.over middle.satisfies) are

  pub sorted : AreSorted a j images
  sorted = record {
    count = image_count ∙ ap (λ (P : Presentation). length P.generators) (sym across.coeval.presentation);
    sorts = λ k g x at here. beside_at IsSorted sorted_beside k g.1 x (generators_are k g (ap (λ (P : Presentation). slice_get P.generators k) (sym across.coeval.presentation) ∙ at)) here;
  }

  pub are_kept : AreKept a j images
  are_kept k e at = images_hold.equations k e (ap (λ (P : Presentation). slice_get P.equations k) (sym across.coeval.presentation) ∙ at)

  pub schemas : j.schema ≡ a.schema
  schemas = across.evaluated.over ∙ sym across.coeval.schema
