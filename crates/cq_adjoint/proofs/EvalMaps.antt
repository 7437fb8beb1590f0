-- A transform sends answers to answers, so that eval of its source goes to eval of its target.
use Rattle.std.proofs.Common.{ℕ, zero, suc, List, [], ◌∷◌, Option, Some, ◌≡◌, ◌<◌, ◌+◌, map, length, get_or, refl, sym, ap, subst, ◌∙◌, arith}
use Rattle.std.specs.Prelude.{slice_get, slice_index, slice_index_or, All, find}
use Rattle.std.specs.List.{enumerate_from}
use Rattle.std.proofs.lemmas.List.{length-map}
use Rattle.std.proofs.lemmas.List.FromFn.{get_or-map-range_with_len, length-enumerate_from}
use Rattle.std.proofs.lemmas.Option.{slice_get_within, get_or_from_slice_get}
use Rattle.cq_base.specs.declared.name.Name.{Name}
use Rattle.cq_theory.specs.declared.constant.Con.{Con}
use Rattle.cq_theory.specs.declared.presentation.Equation.{Equation}
use Rattle.cq_theory.specs.declared.presentation.Sort.{Sort}
use Rattle.cq_theory.specs.declared.presentation.Sort.TheVariants.{Plain, Entity}
use Rattle.cq_theory.specs.declared.schema.Edge.{Edge}
use Rattle.cq_theory.specs.declared.term.EntTerm.{EntTerm}
use Rattle.cq_theory.specs.declared.value.Algebra.{Algebra}
use Rattle.cq_theory.specs.declared.value.Entry.{Entry}
use Rattle.cq_theory.specs.declared.value.Value.{Value}
use Rattle.cq_theory.specs.declared.value.Value.TheVariants.{Const, Null, Fun}
use Rattle.cq_theory.specs.SchemaData.{SchemaData as Schema}
use Rattle.cq_theory.specs.Presentation.{IsSort}
use Rattle.cq_theory.specs.Derivation.{left_of, right_of}
use Rattle.cq_theory.specs.Homomorphism.{row_image, value_image, value_image_step, IsHomomorphism}
use Rattle.cq_theory.specs.Sorts.{entity_of, type_of}
use Rattle.cq_theory.specs.Tables.{Tables, Meaning, AtRow, count_of, key_at, cell_at, row_of, value_of, meaning_of, applied, value_type, normal_of, IsWellFormed, Satisfies, Holds}
use Rattle.cq_theory.proofs.Every.{enumerated, from_enumerated}
use Rattle.cq_theory.proofs.Faults.{made_of}
use Rattle.cq_theory.proofs.OnValues.{All_at}
use Rattle.cq_theory.proofs.Values as values
use Rattle.cq_instance.proofs.Lists.{get-map}
use Rattle.cq_transform.specs.Agreement.{meaning_image, Agrees}
use Rattle.cq_transform.proofs.Composites.{meaning_goes}
use Rattle.cq_transform.proofs.ExactlyOne.{within_counts}
use Rattle.cq_transform.proofs.Kept as kept
use Rattle.cq_transform.proofs.Loops.{member_at}
use Rattle.cq_query.specs.QueryData.{QueryData as Query}
use Rattle.cq_query.specs.IsQuery.{IsQuery}
use Rattle.cq_query.specs.Translation.{variables_at, tests_at, assigned, attribute_term, term_or_constant}
use Rattle.cq_query.specs.Duties.{frozen}
use Rattle.cq_query.specs.Answers.{IsEval, stands, variable_counts}
use Rattle.cq_query.specs.Leading.{IsAnswer, led}
use Rattle.cq_query.proofs.Answering.{among_answers}
use Rattle.cq_query.proofs.Holding.{frozen_holds, tuple_at, tuple_from, variable_count}
use Rattle.cq_query.proofs.Once.{one_answers}
use Rattle.cq_query.proofs.Standing.{Stand, generators_at, assigned_stand, within_length}
use Rattle.cq_adjoint.specs.Copies.{answers_at, AreAllAnswers}
use Rattle.cq_adjoint.proofs.AnsweredRows.{AreSent, same_list}

-- the answers of eval's rows
module _ (Q : Query) (L M : Tables) (eval : IsEval Q L M) (answers : List (List (List ℕ))) (all : AreAllAnswers Q L answers) where
  same_answers : (e : ℕ) → e < length Q.target.entities → slice_index_or eval.answers e [] ≡ answers_at answers e
  same_answers e within = one_answers Q L e (slice_index_or eval.answers e []) (answers_at answers e) (eval.each e within) (all.each e within)

  pub count_is : (e : ℕ) → e < length Q.target.entities → count_of M e ≡ length (answers_at answers e)
  count_is e within =
      let here : 0 + e ≡ e = omega arith in
      ap (λ (counts : List ℕ). slice_index counts e) eval.counts
      ∙ get_or-map-range_with_len (λ m. length (slice_index_or eval.answers m [])) 0 (length Q.target.entities) e e 0 within here ∙ ap length (same_answers e within)

  -- the answer of a row
  abbrev pub answer_of : ℕ → ℕ → List ℕ
  answer_of e row = slice_index_or (answers_at answers e) row []

  pub answer_at : (e row : ℕ) → e < length Q.target.entities → row < count_of M e → slice_get (answers_at answers e) row ≡ Some (answer_of e row)
  answer_at e row within inside =
      let rows = member_at (answers_at answers e) row (subst (λ m. row < m) (count_is e within) inside) in
      rows.1 ∙ ap (λ (l : List ℕ). Some l) (sym (get_or_from_slice_get (answers_at answers e) row rows.0 [] rows.1))

  pub is_answer : (e row : ℕ) → e < length Q.target.entities → row < count_of M e → IsAnswer Q L e (answer_of e row)
  is_answer e row within inside = (among_answers Q L e (answers_at answers e) (all.each e within) (answer_of e row)).0 (row, answer_at e row within inside)

  pub key_answer : (k : ℕ) (edge : Edge) → slice_get Q.target.keys k ≡ Some edge → edge.from < length Q.target.entities → edge.to < length Q.target.entities
      → (row : ℕ) → row < count_of M edge.from → answer_of edge.to (key_at M k row) ≡ led Q L k (answer_of edge.from row)
  key_answer k edge is from to row inside =
      let at : slice_get (slice_index_or eval.answers edge.from []) row ≡ Some (answer_of edge.from row) =
      ap (λ (l : List (List ℕ)). slice_get l row) (same_answers edge.from from) ∙ answer_at edge.from row from inside in
      let lands : slice_get (answers_at answers edge.to) (key_at M k row) ≡ Some (led Q L k (answer_of edge.from row)) =
      ap (λ (l : List (List ℕ)). slice_get l (key_at M k row)) (sym (same_answers edge.to to)) ∙ eval.keys k row edge (answer_of edge.from row) is at in
      get_or_from_slice_get (answers_at answers edge.to) (key_at M k row) (led Q L k (answer_of edge.from row)) [] lands

  pub cell_answer : (a : ℕ) (edge : Edge) → slice_get Q.target.attributes a ≡ Some edge → edge.from < length Q.target.entities
      → (row : ℕ) → row < count_of M edge.from → cell_at M a row ≡ value_of L (stands Q L (answer_of edge.from row)) (attribute_term Q a)
  cell_answer a edge is from row inside =
      eval.cells a row edge (answer_of edge.from row) is (ap (λ (l : List (List ℕ)). slice_get l row) (same_answers edge.from from) ∙ answer_at edge.from row from inside)

-- a homomorphism applied to answers
module _ (Q : Query) (query : IsQuery Q) (L N : Tables) (well : IsWellFormed Q.source L) (satisfies : Satisfies Q.source L) (rows : List (List ℕ)) (nulls : List Value)
    (homomorphism : IsHomomorphism Q.source L N rows nulls) where
  abbrev goes : ℕ → ℕ → ℕ
  goes = row_image Q.source L N rows nulls

  abbrev image : Value → Value
  image = value_image Q.source L N rows nulls

  abbrev pub sent : ℕ → List ℕ → List ℕ
  sent e x = map (λ (v : ℕ × (Name × ℕ)). goes v.1.1 (slice_index x v.0)) (enumerate_from 0 (variables_at Q e))

  sent_count : (e : ℕ) (x : List ℕ) → length (sent e x) ≡ length (variables_at Q e)
  sent_count e x = length-map (enumerate_from 0 (variables_at Q e)) (λ (v : ℕ × (Name × ℕ)). goes v.1.1 (slice_index x v.0)) ∙ length-enumerate_from 0 (variables_at Q e)

  sent_at : (e : ℕ) (x : List ℕ) (k : ℕ) (v : Name × ℕ) → slice_get (variables_at Q e) k ≡ Some v → slice_get (sent e x) k ≡ Some (goes v.1 (slice_index x k))
  sent_at e x k v at =
      let here : 0 + k ≡ k = omega arith in
      get-map (λ (w : ℕ × (Name × ℕ)). goes w.1.1 (slice_index x w.0)) (enumerate_from 0 (variables_at Q e)) k (k, v)
      (enumerated 0 (variables_at Q e) k v at ∙ ap (λ (m : ℕ). let p : ℕ × (Name × ℕ) = (m, v) in Some p) here)

  -- a row goes to a row
  goes_inside : (e row : ℕ) → e < length Q.source.entities → row < count_of L e → goes e row < count_of N e
  goes_inside e row known inside =
      let list = member_at rows e (omega (arith, homomorphism.entities, known)) in
      let are = homomorphism.each_row e list.0 list.1 in
      let is : goes e row ≡ slice_index list.0 row = ap (λ (l : List ℕ). slice_index l row) (get_or_from_slice_get rows e list.0 [] list.1) in
      subst (λ m. m < count_of N e) (sym is) (are.1 row 0 (omega (arith, are.0, inside)))

  counted : (M : Tables) (e k : ℕ) (v : Name × ℕ) → slice_get (variables_at Q e) k ≡ Some v → slice_get (variable_counts Q M e) k ≡ Some (count_of M v.1)
  counted M e k v at = get-map (λ (w : Name × ℕ). count_of M w.1) (variables_at Q e) k v at

  module _ (e : ℕ) (within : e < length Q.target.entities) (x : List ℕ) (answer : IsAnswer Q L e x) where
    abbrev y : List ℕ
    y = sent e x

    row_at : (k : ℕ) (v : Name × ℕ) → slice_get (variables_at Q e) k ≡ Some v → (slice_get x k ≡ Some (slice_index x k)) × (slice_index x k < count_of L v.1)
    row_at k v at =
        let r = tuple_at x (variable_counts Q L e) answer.0 k (count_of L v.1) (counted L e k v at) in
        let is : slice_index x k ≡ r.0 = get_or_from_slice_get x k r.0 0 r.1 in
        (r.1 ∙ ap (λ (m : ℕ). Some m) (sym is), subst (λ m. m < count_of L v.1) (sym is) r.2)

    variable_known : (k : ℕ) (v : Name × ℕ) → slice_get (variables_at Q e) k ≡ Some v → v.1 < length Q.source.entities
    variable_known k v at = All_at (λ (g : Name × Sort). IsSort Q.source g.1) (frozen Q e).generators k (v.0, Entity v.1) (query.each_frozen e within).generators
        (get-map (λ (w : Name × ℕ). let g : Name × Sort = (w.0, Entity w.1) in g) (variables_at Q e) k v at)

    holds : Holds Q.source (frozen Q e) L (stands Q L x)
    holds = frozen_holds Q L query well satisfies e x answer

    agrees : Agrees Q.source (frozen Q e) L N (stands Q L x) (stands Q N y) rows nulls
    agrees k g at =
        let v = made_of (λ (w : Name × ℕ). let p : Name × Sort = (w.0, Entity w.1) in p) (variables_at Q e) k g at in
        let left : slice_index_or (stands Q L x) k (AtRow 0) ≡ AtRow (slice_index x k) =
        get_or_from_slice_get (stands Q L x) k (AtRow (slice_index x k)) (AtRow 0) (get-map AtRow x k (slice_index x k) (row_at k v.0 v.1).0) in
        let right : slice_index_or (stands Q N y) k (AtRow 0) ≡ AtRow (goes v.0.1 (slice_index x k)) =
        get_or_from_slice_get (stands Q N y) k (AtRow (goes v.0.1 (slice_index x k))) (AtRow 0) (get-map AtRow y k (goes v.0.1 (slice_index x k)) (sent_at e x k v.0 v.1)) in
        ap (λ (p : Name × Sort). meaning_image Q.source L N rows nulls p.1 (slice_index_or (stands Q L x) k (AtRow 0))) v.2
        ∙ ap (meaning_image Q.source L N rows nulls (Entity v.0.1)) left ∙ sym right

    -- the answer with the homomorphism applied is an answer
    pub sent_answer : IsAnswer Q N e y
    sent_answer = (
      tuple_from y (variable_counts Q N e) (sent_count e x ∙ sym (length-map (variables_at Q e) (λ (w : Name × ℕ). count_of N w.1))) (λ k r count at counts.
          let v = made_of (λ (w : Name × ℕ). count_of N w.1) (variables_at Q e) k count counts in
          let both : Some (goes v.0.1 (slice_index x k)) ≡ Some r = sym (sent_at e x k v.0 v.1) ∙ at in
          let same : goes v.0.1 (slice_index x k) ≡ r = cc in
          subst (λ m. m < count) same (subst (λ m. goes v.0.1 (slice_index x k) < m) (sym v.2) (goes_inside v.0.1 (slice_index x k) (variable_known k v.0 v.1) (row_at k v.0 v.1).1))),
      λ k test at.
          let presented = (query.each_frozen e within).equations k test at in
          sym (meaning_goes Q.source (frozen Q e) L N (stands Q L x) (stands Q N y) rows nulls holds homomorphism agrees (left_of test) presented.sort presented.left)
          ∙ ap (meaning_image Q.source L N rows nulls presented.sort) (answer.1 k test at)
          ∙ meaning_goes Q.source (frozen Q e) L N (stands Q L x) (stands Q N y) rows nulls holds homomorphism agrees (right_of test) presented.sort presented.right,
    )

    -- where a key leads from it
    pub sent_led : (k : ℕ) (edge : Edge) → slice_get Q.target.keys k ≡ Some edge → edge.from ≡ e → sent edge.to (led Q L k x) ≡ led Q N k y
    sent_led k edge is from = same_list (sent edge.to (led Q L k x)) (led Q N k y)
        (sent_count edge.to (led Q L k x) ∙ sym (length-map (assigned Q k) (row_of N (stands Q N y)) ∙ key.count))
        (λ m p q left right.
        let t = made_of (row_of N (stands Q N y)) (assigned Q k) m q right in
        let v = within_length (variables_at Q edge.to) (assigned Q k) m t.0 t.1 (sym key.count) in
        let sorted : entity_of Q.source (generators_at Q e) t.0 ≡ Some v.0.1 = ap (λ (f : ℕ). entity_of Q.source (generators_at Q f) t.0) (sym from) ∙ key.each m t.0 v.0 t.1 v.1 in
        let led_row : slice_index (led Q L k x) m ≡ row_of L (stands Q L x) t.0 =
        get_or_from_slice_get (led Q L k x) m (row_of L (stands Q L x) t.0) 0 (get-map (row_of L (stands Q L x)) (assigned Q k) m t.0 t.1) in
        let both : Some (goes v.0.1 (slice_index (led Q L k x) m)) ≡ Some p = sym (sent_at edge.to (led Q L k x) m v.0 v.1) ∙ left in
        let same : goes v.0.1 (slice_index (led Q L k x) m) ≡ p = cc in
        sym same ∙ ap (goes v.0.1) led_row ∙ kept.row_goes Q.source (frozen Q e) L N (stands Q L x) (stands Q N y) rows nulls holds homomorphism agrees t.0 v.0.1 sorted ∙ sym t.2)
      where
        key : Stand Q (generators_at Q edge.from) (assigned Q k) edge.to
        key = assigned_stand Q query k edge is

    -- the value of an attribute's term
    pub sent_cell : (a : ℕ) (edge : Edge) → slice_get Q.target.attributes a ≡ Some edge → edge.from ≡ e
        → value_of N (stands Q N y) (attribute_term Q a) ≡ image (value_of L (stands Q L x) (attribute_term Q a))
    sent_cell a edge is from =
        let one = query.attributes a edge is in
        let typed : type_of Q.source (generators_at Q e) (attribute_term Q a) ≡ Some edge.to =
        ap (λ (f : ℕ). type_of Q.source (generators_at Q f) (attribute_term Q a)) (sym from) ∙ ap (λ o. type_of Q.source (generators_at Q edge.from) (term_or_constant o)) one.found ∙ one.typed in
        sym (kept.value_goes Q.source (frozen Q e) L N (stands Q L x) (stands Q N y) rows nulls holds homomorphism agrees (attribute_term Q a) edge.to typed)

  -- so the rows of eval go to answers
  module _ (M : Tables) (eval : IsEval Q L M) (tables : IsWellFormed Q.target M) (answers : List (List (List ℕ))) (all : AreAllAnswers Q L answers) where
    abbrev pub rows_at : ℕ → ℕ → List ℕ
    rows_at e row = sent e (answer_of Q L M eval answers all e row)

    known : (e row : ℕ) → row < count_of M e → e < length Q.target.entities
    known e row inside = omega (arith, within_counts M.sheet.counts e row inside, tables.entities)

    pub are : AreSent Q M N rows_at image
    are = record {
      answer = λ e row inside. let within = known e row inside in sent_answer e within (answer_of Q L M eval answers all e row) (is_answer Q L M eval answers all e row within inside);
      key = λ k edge is row inside.
          let from = known edge.from row inside in
          let column = tables.key_columns k edge is in
          let there : key_at M k row < count_of M edge.to = column.1 row 0 (subst (λ m. row < m) (sym column.0) inside) in
          ap (sent edge.to) (key_answer Q L M eval answers all k edge is from (known edge.to (key_at M k row) there) row inside)
          ∙ sent_led edge.from from (answer_of Q L M eval answers all edge.from row) (is_answer Q L M eval answers all edge.from row from inside) k edge is refl;
      cell = λ a edge is row inside.
          let from = known edge.from row inside in
          sent_cell edge.from from (answer_of Q L M eval answers all edge.from row) (is_answer Q L M eval answers all edge.from row from inside) a edge is refl
          ∙ ap image (sym (cell_answer Q L M eval answers all a edge is from row inside));
      constant = λ c. values.fold-Const Value (value_image_step Q.source L N rows nulls) c;
      function = λ f vs. values.fold-Fun Value (value_image_step Q.source L N rows nulls) f vs;
      null = λ label type typed. homomorphism.typed label type (ap (λ (g : Algebra). slice_get g.nulls label) (sym eval.algebra) ∙ typed);
      entry = λ k entry at. All_at (λ (x : Entry). applied N x.function (map image x.args) ≡ image x.value) L.algebra.entries k entry homomorphism.entries
          (ap (λ (g : Algebra). slice_get g.entries k) (sym eval.algebra) ∙ at);
    }
