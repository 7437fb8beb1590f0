-- The images of a transform into eval are sorted and keep the equations, and what they make is transposed.
use Rattle.std.proofs.Common.{ℕ, List, [], ◌∷◌, Option, Some, Result, Ok, Err, IfOk, ◌≡◌, ◌<◌, ◌+◌, ◌*◌, map, length, refl, sym, ap, subst, ◌∙◌, arith}
use Rattle.std.specs.Prelude.{slice_get, slice_index_or}
use Rattle.std.specs.List.{enumerate_from}
use Rattle.std.proofs.lemmas.List.{length-map}
use Rattle.std.proofs.lemmas.List.FromFn.{length-enumerate_from}
use Rattle.cq_base.specs.declared.name.Name.{Name}
use Rattle.cq_theory.specs.declared.constant.Con.{Con}
use Rattle.cq_theory.specs.declared.refusal.SizeRefusal.{SizeRefusal}
use Rattle.cq_theory.specs.declared.presentation.Presentation.{Presentation}
use Rattle.cq_theory.specs.declared.presentation.Sort.{Sort}
use Rattle.cq_theory.specs.declared.presentation.Sort.TheVariants.{Plain, Entity}
use Rattle.cq_theory.specs.declared.term.TypeTerm.{TypeTerm}
use Rattle.cq_theory.specs.declared.value.Value.{Value}
use Rattle.cq_theory.specs.declared.value.Value.TheVariants.{Const, Null, Fun}
use Rattle.cq_theory.specs.SchemaData.{SchemaData as Schema}
use Rattle.cq_theory.specs.Canonical.{row_term, value_term}
use Rattle.cq_theory.specs.Homomorphism.{IsHomomorphism}
use Rattle.cq_theory.specs.Tables.{Tables, AtRow, AtValue, Assignment, row_in, value_in, count_of, row_of, value_of, value_step, applied, value_type, value_type_step, IsWellFormed, Satisfies, Holds}
use Rattle.cq_theory.proofs.Every.{from_enumerated}
use Rattle.cq_theory.proofs.Faults.{made_of}
use Rattle.cq_theory.proofs.TypeTerms.{fold-Const, fold-Fun}
use Rattle.cq_theory.proofs.Values as values
use Rattle.cq_terms.specs.ValueTerms.{value_term_step}
use Rattle.cq_instance.specs.InstanceData.{InstanceData, IsInstance}
use Rattle.cq_instance.specs.declared.transform.Image.{Image}
use Rattle.cq_instance.specs.declared.transform.Image.TheVariants.{Row, Value as ValueImage}
use Rattle.cq_instance.specs.declared.transform.Transform.{Transform}
use Rattle.cq_instance.proofs.Lists.{get-map, map-map}
use Rattle.cq_transform.specs.Transforming.{AreKept, AreSorted}
use Rattle.cq_transform.specs.Transforms.{meanings_in, GoesFrom}
use Rattle.cq_transform.proofs.Kept as kept
use Rattle.cq_transform.proofs.Loops.{member_at}
use Rattle.cq_query.specs.QueryData.{QueryData as Query}
use Rattle.cq_query.specs.IsQuery.{IsQuery}
use Rattle.cq_query.specs.Translation.{variables_at}
use Rattle.cq_query.specs.Coeval.{row_terms, null_start, coeval_of}
use Rattle.cq_query.proofs.Evaluated as evaluated
use Rattle.cq_adjoint.specs.Copies.{copy_of, copied_value, answers_at, place_of}
use Rattle.cq_adjoint.specs.QueryMoves.{row_sent, value_sent, copies_sent, to_eval_row, to_eval_value, to_eval_image, to_eval_images, AreAcross}
use Rattle.cq_adjoint.specs.TransposedQueries.{AreTransposed}
use Rattle.cq_adjoint.proofs.AnsweredRows.{AreSent, same_list}
use Rattle.cq_adjoint.proofs.CoevalTerms as coeval
use Rattle.cq_adjoint.proofs.Copied.{copy_term}
use Rattle.cq_adjoint.proofs.CopiesMean as copies
use Rattle.cq_adjoint.proofs.IntoEval as into
use Rattle.cq_adjoint.proofs.IntoEval.{IsInto}

module _ (Q : Query) (query : IsQuery Q) (h : Transform) (i a j d : InstanceData) (answers : List (List (List ℕ))) (across : AreAcross Q i a j d answers) (goes : GoesFrom h a j)
    (source : IsInstance i) (middle : IsInstance j) where
  abbrev M : Tables
  M = i.tables

  abbrev D : Tables
  D = d.tables

  abbrev N : Tables
  N = j.tables

  abbrev B : Assignment
  B = meanings_in j h.images

  abbrev T : Schema
  T = Q.target

  pub holds : Holds Q.source (coeval_of Q M) N B
  holds = subst (λ (P : Presentation). Holds Q.source P N B) across.coeval.presentation (subst (λ (S : Schema). Holds S a.presentation N B) across.coeval.schema goes.holds)

  pub tables : IsWellFormed T M
  tables = coeval.tables Q query i a across.coeval source

  known : (e row : ℕ) → row < count_of M e → e < length T.entities
  known = coeval.known Q query i a across.coeval source

  abbrev rows_at : ℕ → ℕ → List ℕ
  rows_at = copies.rows_at Q query M tables N B holds

  abbrev value_at : Value → Value
  value_at = copies.value_at Q query M tables N B holds

  value_function : (f : ℕ) (vs : List Value) → value_at (Fun f vs) ≡ applied N f (map value_at vs)
  value_function f vs =
      ap (value_of N B) (values.fold-Fun TypeTerm (value_term_step (null_start Q M.sheet.counts) (length M.algebra.nulls)) f vs)
      ∙ fold-Fun Value (value_step N B) f (map (copied_value Q M) vs) ∙ ap (applied N f) (map-map (value_of N B) (copied_value Q M) vs)

  pub are : AreSent Q M N rows_at value_at
  are = record {
    answer = λ e row inside. copies.are_answer Q query M tables N B holds e row (known e row inside) inside;
    key = copies.key_led Q query M tables N B holds;
    cell = copies.cell_means Q query M tables N B holds;
    constant = λ c. ap (value_of N B) (values.fold-Const TypeTerm (value_term_step (null_start Q M.sheet.counts) (length M.algebra.nulls)) c) ∙ fold-Const Value (value_step N B) c;
    function = value_function;
    null = copies.null_sorted Q query M tables N B holds;
    entry = λ k entry at. ap (applied N entry.function) (sym (map-map (value_of N B) (copied_value Q M) entry.args)) ∙ copies.entry_means Q query M tables N B holds k entry at;
  }

  pub well : IsWellFormed T D
  well = evaluated.well_formed Q query N (subst (λ (S : Schema). IsWellFormed S N) across.evaluated.over middle.well_formed)
      (subst (λ (S : Schema). Satisfies S N) across.evaluated.over middle.satisfies) D across.evaluated.tables

  pub is_into : IsInto Q i d N answers
  is_into = record {
    query = query;
    source = source;
    over = across.coeval.over;
    initial = across.initial;
    eval = across.evaluated.tables;
    given = across.evaluated.given;
    well = well;
    answered = across.answered;
  }

  -- what h sends is what its images mean
  pub row_meant : (e row k : ℕ) (v : Name × ℕ) → row < count_of M e → slice_get (variables_at Q e) k ≡ Some v
      → row_sent h a j v.1 (copy_of Q M e row k) ≡ row_of N B (copy_of Q M e row k)
  row_meant e row k v inside at =
      kept.row_goes a.schema a.presentation a.tables N a.assignment B h.rows h.nulls across.coeval.initial.0.holds goes.homomorphism goes.agrees (copy_of Q M e row k) v.1
      (coeval.copy_over Q query i a across.coeval source e row k v inside at)

  pub value_meant : (v : Value) (type : ℕ) → value_type T M.algebra.nulls v ≡ Some type → value_sent h a j (copied_value Q M v) ≡ value_at v
  value_meant v type typed =
      kept.value_goes a.schema a.presentation a.tables N a.assignment B h.rows h.nulls across.coeval.initial.0.holds goes.homomorphism goes.agrees (copied_value Q M v) type
      (coeval.value_over Q query i a across.coeval source v type typed)

  abbrev sent_in : ℕ → ℕ → ℕ × (Name × ℕ) → ℕ
  sent_in e row v = row_sent h a j v.1.1 (copy_of Q M e row v.0)

  pub copies_are : (e row : ℕ) → row < count_of M e → copies_sent Q h i a j e row ≡ rows_at e row
  copies_are e row inside = same_list (copies_sent Q h i a j e row) (rows_at e row)
      (length-map (enumerate_from 0 (variables_at Q e)) (sent_in e row) ∙ length-enumerate_from 0 (variables_at Q e) ∙ sym (copies.rows_count Q query M tables N B holds e row (known e row inside) inside))
      (λ k x y left right.
      let v = made_of (sent_in e row) (enumerate_from 0 (variables_at Q e)) k x left in
      let at = from_enumerated 0 (variables_at Q e) k v.0 v.1 in
      let number : v.0.0 ≡ k = omega (arith, at.1) in
      let there : slice_get (rows_at e row) k ≡ Some (row_of N B (copy_of Q M e row k)) =
      get-map (row_of N B) (row_terms Q M.sheet.counts e row) k (copy_of Q M e row k) (copy_term Q M e row k v.0.1 (known e row inside) inside at.0) in
      let both : Some (row_of N B (copy_of Q M e row k)) ≡ Some y = sym there ∙ right in
      let same : row_of N B (copy_of Q M e row k) ≡ y = cc in
      v.2 ∙ ap (λ m. row_sent h a j v.0.1.1 (copy_of Q M e row m)) number ∙ row_meant e row k v.0.1 inside at.0 ∙ same)

  abbrev image_at : ℕ × (Name × Sort) → Image
  image_at = to_eval_image Q h i a j d answers

  abbrev images : List Image
  images = to_eval_images Q h i a j d answers

  of_row : (n : ℕ) (name : Name) (e row : ℕ) → slice_index_or i.assignment n (AtRow 0) ≡ AtRow row → row < count_of M e
      → image_at (n, (name, Entity e)) ≡ Row (row_term T D e (place_of (answers_at answers e) (rows_at e row)))
  of_row n name e row at inside =
      ap (λ m. to_eval_row Q h i a j d answers e (row_in m)) at ∙ ap (λ (l : List ℕ). Row (row_term T D e (place_of (answers_at answers e) l))) (copies_are e row inside)

  of_value : (n : ℕ) (name : Name) (type : ℕ) (v : Value) → slice_index_or i.assignment n (AtRow 0) ≡ AtValue v → value_type T M.algebra.nulls v ≡ Some type
      → image_at (n, (name, Plain type)) ≡ ValueImage (value_term T D (value_at v))
  of_value n name type v at typed =
      ap (λ m. to_eval_value Q h i a j d answers (value_in m)) at ∙ ap (λ (w : Value). ValueImage (value_term T D w)) (value_meant v type typed)

  pub sorted : AreSorted i d images
  sorted = into.sorted Q i d N answers is_into rows_at value_at are image_at (record { of_row = of_row; of_value = of_value })

  pub are_kept : AreKept i d images
  are_kept = into.are_kept Q i d N answers is_into rows_at value_at are image_at (record { of_row = of_row; of_value = of_value })

  pub schemas : d.schema ≡ i.schema
  schemas = into.schemas Q i d N answers is_into rows_at value_at are

  -- the answer of a row is a row of d
  pub place_inside : (e row : ℕ) → row < count_of M e → place_of (answers_at answers e) (copies_sent Q h i a j e row) < count_of D e
  place_inside e row inside =
      subst (λ (l : List ℕ). place_of (answers_at answers e) l < count_of D e) (sym (copies_are e row inside)) (into.place_within Q i d N answers is_into rows_at value_at are e row inside)

  -- what h sends has its type in d
  pub sent_typed : (v : Value) (type : ℕ) → value_type T M.algebra.nulls v ≡ Some type → value_type T D.algebra.nulls (value_sent h a j (copied_value Q M v)) ≡ Some type
  sent_typed v type typed = ap (value_type T D.algebra.nulls) (value_meant v type typed) ∙ into.value_typed Q i d N answers is_into rows_at value_at are v type typed

  abbrev rows_to : List (List ℕ)
  rows_to = into.rows_to Q i d N answers is_into rows_at value_at are

  abbrev nulls_to : List Value
  nulls_to = into.nulls_to Q i d N answers is_into rows_at value_at are

  pub null_type_at : (label : ℕ) → label < length M.algebra.nulls → (type : ℕ) × (value_type T M.algebra.nulls (Null label) ≡ Some type)
  null_type_at label within = let type = member_at M.algebra.nulls label within in (type.0, values.fold-Null (Option ℕ) (value_type_step T M.algebra.nulls) label ∙ type.1)

  pub null_meant : (label : ℕ) → label < length M.algebra.nulls → value_sent h a j (copied_value Q M (Null label)) ≡ value_at (Null label)
  null_meant label within = let typed = null_type_at label within in value_meant (Null label) typed.0 typed.1

  to_transposed : AreTransposed Q h i a j d answers rows_to nulls_to
  to_transposed = record {
    each_row = λ e row inside. into.row_answered Q i d N answers is_into rows_at value_at are e row inside ∙ ap (λ (l : List ℕ). Some l) (sym (copies_are e row inside));
    each_null = λ label within. into.null_valued Q i d N answers is_into rows_at value_at are label within ∙ sym (null_meant label within);
  }

  -- nothing else is transposed to h
  pub only_to : (rows : List (List ℕ)) (nulls : List Value) → IsHomomorphism i.schema M D rows nulls → AreTransposed Q h i a j d answers rows nulls → (rows ≡ rows_to) × (nulls ≡ nulls_to)
  only_to rows nulls sends across' = into.one Q i d N answers is_into rows_at value_at are rows nulls sends
      (λ e row inside. across'.each_row e row inside ∙ ap (λ (l : List ℕ). Some l) (copies_are e row inside))
      (λ label within. across'.each_null label within ∙ null_meant label within)

  -- what is made of the images is transposed to h, and no other homomorphism is
  module _ (made : Transform) (same : made.images ≡ images) (there : GoesFrom made i d) where
    are_one : (rows_to ≡ made.rows) × (nulls_to ≡ made.nulls)
    are_one = into.are_one Q i d N answers is_into rows_at value_at are image_at (record { of_row = of_row; of_value = of_value }) made same there

    pub transposed : AreTransposed Q h i a j d answers made.rows made.nulls
    transposed = subst (λ (x : List (List ℕ) × List Value). AreTransposed Q h i a j d answers x.0 x.1) (λ k. (are_one.0 k, are_one.1 k)) to_transposed

    pub one : (rows : List (List ℕ)) (nulls : List Value) → IsHomomorphism i.schema M D rows nulls → AreTransposed Q h i a j d answers rows nulls → (rows ≡ made.rows) × (nulls ≡ made.nulls)
    one rows nulls sends across' =
        let same = only_to rows nulls sends across' in
        (same.0 ∙ are_one.0, same.1 ∙ are_one.1)

  -- so for what a call answers
  pub all_transposed : (result : Result Transform SizeRefusal) → IfOk result (λ made. made.images ≡ images) → IfOk result (λ made. GoesFrom made i d)
      → IfOk result (λ made. AreTransposed Q h i a j d answers made.rows made.nulls)
  all_transposed (Ok made) same there = transposed made same there
  all_transposed (Err refusal) same there = same

  pub all_one : (result : Result Transform SizeRefusal) → IfOk result (λ made. made.images ≡ images) → IfOk result (λ made. GoesFrom made i d)
      → IfOk result (λ made. (rows : List (List ℕ)) (nulls : List Value) → IsHomomorphism i.schema M D rows nulls → AreTransposed Q h i a j d answers rows nulls → (rows ≡ made.rows) × (nulls ≡ made.nulls))
  all_one (Ok made) same there = one made same there
  all_one (Err refusal) same there = same
