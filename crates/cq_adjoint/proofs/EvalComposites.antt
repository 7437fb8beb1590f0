-- Along eval, the composite of two transforms is the composite of what they become.
use Rattle.std.proofs.Common.{ℕ, List, [], Option, Some, ◌≡◌, ◌<◌, ◌+◌, map, length, refl, sym, ap, subst, ◌∙◌, arith}
use Rattle.std.specs.Prelude.{slice_get, slice_index, slice_index_or}
use Rattle.std.specs.List.{enumerate_from}
use Rattle.std.proofs.lemmas.Option.{get_or_from_slice_get}
use Rattle.cq_base.specs.declared.name.Name.{Name}
use Rattle.cq_theory.specs.declared.value.Value.{Value}
use Rattle.cq_theory.specs.declared.value.Value.TheVariants.{Null}
use Rattle.cq_theory.specs.Homomorphism.{row_image, value_image}
use Rattle.cq_theory.specs.Tables.{count_of, value_type, value_type_step}
use Rattle.cq_theory.proofs.Every.{enumerated}
use Rattle.cq_theory.proofs.Values as values
use Rattle.cq_instance.specs.InstanceData.{InstanceData, IsInstance}
use Rattle.cq_instance.specs.declared.transform.Transform.{Transform}
use Rattle.cq_instance.proofs.Lists.{get-map}
use Rattle.cq_transform.specs.Composing.{composed}
use Rattle.cq_transform.specs.Transforms.{GoesFrom}
use Rattle.cq_transform.proofs.Composites.{composite_goes}
use Rattle.cq_transform.proofs.Loops.{member_at}
use Rattle.cq_query.specs.QueryData.{QueryData as Query}
use Rattle.cq_query.specs.Answers.{variable_counts}
use Rattle.cq_query.specs.IsQuery.{IsQuery}
use Rattle.cq_query.specs.Translation.{variables_at}
use Rattle.cq_query.proofs.Holding.{tuple_at}
use Rattle.cq_adjoint.specs.Copies.{answers_at, AreAllAnswers}
use Rattle.cq_adjoint.specs.QueryMoves.{IsEvaluated, AreEvaluated, answer_sent, eval_images}
use Rattle.cq_adjoint.proofs.Alike.{same_enumerated}
use Rattle.cq_adjoint.proofs.EvalImages as images
use Rattle.cq_adjoint.proofs.EvalMaps.{is_answer}
use Rattle.cq_adjoint.proofs.SentThen.{row_inside, row_then, value_then}

module _ (Q : Query) (query : IsQuery Q) (i j k a b c : InstanceData) (in_i in_j in_k : List (List (List ℕ))) (h g s t u : Transform) (of_i : IsEvaluated Q i a) (of_j : IsEvaluated Q j b) (of_k : IsEvaluated Q k c)
    (answers_i : AreAllAnswers Q i.tables in_i) (answers_j : AreAllAnswers Q j.tables in_j) (answers_k : AreAllAnswers Q k.tables in_k)
    (first_i : IsInstance i) (first_j : IsInstance j) (first_k : IsInstance k) (first_a : IsInstance a) (first_b : IsInstance b) (first_c : IsInstance c)
    (from_i : GoesFrom h i j) (from_j : GoesFrom g j k) (from_a : GoesFrom s a b) (from_b : GoesFrom t b c) (over : GoesFrom u a c)
    (is_s : s.images ≡ eval_images Q h i j a b in_i in_j) (is_t : t.images ≡ eval_images Q g j k b c in_j in_k) (is_u : u.images ≡ eval_images Q (composed j k h g) i k a c in_i in_k) where
  abbrev hg : Transform
  hg = composed j k h g

  abbrev st : Transform
  st = composed b c s t

  from_both : GoesFrom hg i k
  from_both = composite_goes i j k h g first_i first_j first_k from_i from_j hg refl

  along_both : GoesFrom st a c
  along_both = composite_goes a b c s t first_a first_b first_c from_a from_b st refl

  are_ij : AreEvaluated Q i j a b in_i in_j
  are_ij = record { source = of_i; target = of_j; answered = answers_i; answered_there = answers_j }

  are_jk : AreEvaluated Q j k b c in_j in_k
  are_jk = record { source = of_j; target = of_k; answered = answers_j; answered_there = answers_k }

  are_ik : AreEvaluated Q i k a c in_i in_k
  are_ik = record { source = of_i; target = of_k; answered = answers_i; answered_there = answers_k }

  abbrev answer : ℕ → ℕ → List ℕ
  answer e row = slice_index_or (answers_at in_i e) row []

  -- an answer with one transform applied to each row, and then the other, has the composite applied to each row
  both_sent : (e row : ℕ) → row < count_of a.tables e → answer_sent Q g j k e (answer_sent Q h i j e (answer e row)) ≡ answer_sent Q hg i k e (answer e row)
  both_sent e row inside =
      let within : e < length Q.target.entities = images.known Q query h i j a b in_i in_j are_ij from_i first_i first_j first_a e row inside in
      let x : List ℕ = answer e row in
      let is = is_answer Q i.tables a.tables of_i.tables in_i answers_i e row within inside in
      same_enumerated (λ (v : ℕ × (Name × ℕ)). row_image j.schema j.tables k.tables g.rows g.nulls v.1.1 (slice_index (answer_sent Q h i j e x) v.0))
      (λ (v : ℕ × (Name × ℕ)). row_image i.schema i.tables k.tables hg.rows hg.nulls v.1.1 (slice_index x v.0)) 0 (variables_at Q e) (λ n v at.
      let here : 0 + n ≡ n = omega arith in
      let r = tuple_at x (variable_counts Q i.tables e) is.0 n (count_of i.tables v.1) (get-map (λ (w : Name × ℕ). count_of i.tables w.1) (variables_at Q e) n v at) in
      let less : slice_index x n < count_of i.tables v.1 = subst (λ m. m < count_of i.tables v.1) (sym (get_or_from_slice_get x n r.0 0 r.1)) r.2 in
      let there : slice_get (answer_sent Q h i j e x) n ≡ Some (row_image i.schema i.tables j.tables h.rows h.nulls v.1 (slice_index x n)) =
      get-map (λ (w : ℕ × (Name × ℕ)). row_image i.schema i.tables j.tables h.rows h.nulls w.1.1 (slice_index x w.0)) (enumerate_from 0 (variables_at Q e)) n (n, v)
      (enumerated 0 (variables_at Q e) n v at ∙ ap (λ (m : ℕ). let p : ℕ × (Name × ℕ) = (m, v) in Some p) here) in
      let one : row_image j.schema j.tables k.tables g.rows g.nulls v.1 (slice_index (answer_sent Q h i j e x) n) ≡ row_image i.schema i.tables k.tables hg.rows hg.nulls v.1 (slice_index x n) =
      ap (row_image j.schema j.tables k.tables g.rows g.nulls v.1) (get_or_from_slice_get (answer_sent Q h i j e x) n (row_image i.schema i.tables j.tables h.rows h.nulls v.1 (slice_index x n)) 0 there)
      ∙ sym (row_then i j k h g first_i from_i from_j v.1 (slice_index x n) less) in
      subst (λ m. row_image j.schema j.tables k.tables g.rows g.nulls v.1 (slice_index (answer_sent Q h i j e x) m) ≡ row_image i.schema i.tables k.tables hg.rows hg.nulls v.1 (slice_index x m)) (sym here) one)

  row_goes : (e row : ℕ) → row < count_of a.tables e → slice_get (answers_at in_k e) (row_image a.schema a.tables c.tables st.rows st.nulls e row) ≡ Some (answer_sent Q hg i k e (answer e row))
  row_goes e row inside =
      let p : ℕ = row_image a.schema a.tables b.tables s.rows s.nulls e row in
      let at : slice_get (answers_at in_j e) p ≡ Some (answer_sent Q h i j e (answer e row)) = images.row_goes Q query h i j a b in_i in_j are_ij from_i first_i first_j first_a s is_s from_a e row inside in
      let within : e < length Q.target.entities = images.known Q query h i j a b in_i in_j are_ij from_i first_i first_j first_a e row inside in
      let there : p < count_of b.tables e = row_inside a b s first_a from_a e row inside in
      ap (slice_get (answers_at in_k e)) (row_then a b c s t first_a from_a from_b e row inside)
      ∙ images.row_goes Q query g j k b c in_j in_k are_jk from_j first_j first_k first_b t is_t from_b e p there
      ∙ ap (λ (l : List ℕ). Some (answer_sent Q g j k e l)) (get_or_from_slice_get (answers_at in_j e) p (answer_sent Q h i j e (answer e row)) [] at)
      ∙ ap (λ (l : List ℕ). Some l) (both_sent e row inside)

  null_goes : (label : ℕ) → label < length a.tables.algebra.nulls → value_image a.schema a.tables c.tables st.rows st.nulls (Null label) ≡ value_image i.schema i.tables k.tables hg.rows hg.nulls (Null label)
  null_goes label within =
      let type = member_at a.tables.algebra.nulls label within in
      let typed : value_type Q.target a.tables.algebra.nulls (Null label) ≡ Some type.0 = values.fold-Null (Option ℕ) (value_type_step Q.target a.tables.algebra.nulls) label ∙ type.1 in
      let w : Value = value_image i.schema i.tables j.tables h.rows h.nulls (Null label) in
      value_then a b c s t first_a from_a from_b (Null label)
      ∙ ap (value_image b.schema b.tables c.tables t.rows t.nulls) (images.value_goes Q query h i j a b in_i in_j are_ij from_i first_i first_j first_a s is_s from_a (Null label) type.0 typed)
      ∙ images.value_goes Q query g j k b c in_j in_k are_jk from_j first_j first_k first_b t is_t from_b w type.0
      (images.sent_typed Q query h i j a b in_i in_j are_ij from_i first_i first_j first_a (Null label) type.0 typed)
      ∙ sym (value_then i j k h g first_i from_i from_j (Null label))

  pub eval_of_composite : (st.rows ≡ u.rows) × (st.nulls ≡ u.nulls)
  eval_of_composite = images.one_made Q query hg i k a c in_i in_k are_ik from_both first_i first_k first_a u is_u over st.rows st.nulls along_both.homomorphism row_goes null_goes
