-- Along coeval, the composite of two transforms is the composite of what they become.
use Rattle.std.proofs.Common.{ℕ, List, Option, Some, ◌≡◌, ◌<◌, ◌+◌, length, refl, sym, ap, subst, ◌∙◌, arith}
use Rattle.std.specs.Prelude.{slice_get}
use Rattle.std.specs.List.{enumerate_from}
use Rattle.cq_base.specs.declared.name.Name.{Name}
use Rattle.cq_theory.specs.declared.value.Value.{Value}
use Rattle.cq_theory.specs.declared.value.Value.TheVariants.{Null}
use Rattle.cq_theory.specs.SchemaData.{SchemaData as Schema}
use Rattle.cq_theory.specs.Homomorphism.{row_image, value_image}
use Rattle.cq_theory.specs.Tables.{count_of, row_of, value_of, value_type, value_type_step}
use Rattle.cq_theory.proofs.Sound.{row_of-within}
use Rattle.cq_theory.proofs.Values as values
use Rattle.cq_instance.specs.InstanceData.{InstanceData, IsInstance}
use Rattle.cq_instance.specs.declared.transform.Transform.{Transform}
use Rattle.cq_transform.specs.Composing.{composed}
use Rattle.cq_transform.specs.Transforms.{GoesFrom}
use Rattle.cq_transform.proofs.Composites.{composite_goes}
use Rattle.cq_transform.proofs.Loops.{member_at}
use Rattle.cq_query.specs.QueryData.{QueryData as Query}
use Rattle.cq_query.specs.IsQuery.{IsQuery}
use Rattle.cq_query.specs.Translation.{variables_at}
use Rattle.cq_adjoint.specs.Copies.{copy_of, copied_value}
use Rattle.cq_adjoint.specs.QueryMoves.{IsCoeval, row_sent, value_sent, copies_sent, coeval_images}
use Rattle.cq_adjoint.proofs.Alike.{same_enumerated}
use Rattle.cq_adjoint.proofs.CoevalMaps.{copy_goes, value_goes, goes_inside}
use Rattle.cq_adjoint.proofs.CoevalTerms.{copy_over}
use Rattle.cq_adjoint.proofs.OneOutOfCoeval.{one_out}
use Rattle.cq_adjoint.proofs.SentThen.{row_then, value_then}

module _ (Q : Query) (query : IsQuery Q) (i j k a b c : InstanceData) (h g s t u : Transform) (of_i : IsCoeval Q i a) (of_j : IsCoeval Q j b) (of_k : IsCoeval Q k c)
    (first_i : IsInstance i) (first_j : IsInstance j) (first_k : IsInstance k) (first_a : IsInstance a) (first_b : IsInstance b) (first_c : IsInstance c)
    (from_i : GoesFrom h i j) (from_j : GoesFrom g j k) (from_a : GoesFrom s a b) (from_b : GoesFrom t b c) (over : GoesFrom u a c)
    (is_s : s.images ≡ coeval_images Q h i j) (is_t : t.images ≡ coeval_images Q g j k) (is_u : u.images ≡ coeval_images Q (composed j k h g) i k) where
  abbrev hg : Transform
  hg = composed j k h g

  abbrev st : Transform
  st = composed b c s t

  from_both : GoesFrom hg i k
  from_both = composite_goes i j k h g first_i first_j first_k from_i from_j hg refl

  along_both : GoesFrom st a c
  along_both = composite_goes a b c s t first_a first_b first_c from_a from_b st refl

  copy_same : (e row n : ℕ) (v : Name × ℕ) → row < count_of i.tables e → slice_get (variables_at Q e) n ≡ Some v
      → row_sent st a c v.1 (copy_of Q i.tables e row n) ≡ row_sent u a c v.1 (copy_of Q i.tables e row n)
  copy_same e row n v inside at =
      let there : ℕ = row_image i.schema i.tables j.tables h.rows h.nulls e row in
      let within : there < count_of j.tables e = goes_inside Q query h i j a b of_i of_j from_i first_i first_j first_b e row inside in
      row_then a b c s t first_a from_a from_b v.1 (row_of a.tables a.assignment (copy_of Q i.tables e row n))
      (row_of-within a.schema a.presentation a.tables a.assignment of_i.initial.0.holds (copy_of Q i.tables e row n) v.1 (copy_over Q query i a of_i first_i e row n v inside at))
      ∙ ap (row_image b.schema b.tables c.tables t.rows t.nulls v.1) (copy_goes Q query h i j a b of_i of_j from_i first_i first_j first_b s is_s from_a e row n v inside at)
      ∙ copy_goes Q query g j k b c of_j of_k from_j first_j first_k first_c t is_t from_b e there n v within at
      ∙ ap (λ (r : ℕ). row_of c.tables c.assignment (copy_of Q k.tables e r n)) (sym (row_then i j k h g first_i from_i from_j e row inside))
      ∙ sym (copy_goes Q query hg i k a c of_i of_k from_both first_i first_k first_c u is_u over e row n v inside at)

  copies_same : (e row : ℕ) → row < count_of i.tables e → copies_sent Q st i a c e row ≡ copies_sent Q u i a c e row
  copies_same e row inside =
      same_enumerated (λ (v : ℕ × (Name × ℕ)). row_sent st a c v.1.1 (copy_of Q i.tables e row v.0)) (λ (v : ℕ × (Name × ℕ)). row_sent u a c v.1.1 (copy_of Q i.tables e row v.0)) 0 (variables_at Q e)
      (λ n v at.
      let here : n ≡ 0 + n = omega arith in
      subst (λ m. row_sent st a c v.1 (copy_of Q i.tables e row m) ≡ row_sent u a c v.1 (copy_of Q i.tables e row m)) here (copy_same e row n v inside at))

  null_same : (label : ℕ) → label < length i.tables.algebra.nulls → value_sent st a c (copied_value Q i.tables (Null label)) ≡ value_sent u a c (copied_value Q i.tables (Null label))
  null_same label within =
      let type = member_at i.tables.algebra.nulls label within in
      let typed : value_type Q.target i.tables.algebra.nulls (Null label) ≡ Some type.0 = values.fold-Null (Option ℕ) (value_type_step Q.target i.tables.algebra.nulls) label ∙ type.1 in
      let there : Value = value_image i.schema i.tables j.tables h.rows h.nulls (Null label) in
      let sorted : value_type Q.target j.tables.algebra.nulls there ≡ Some type.0 =
      ap (λ (S : Schema). value_type S j.tables.algebra.nulls there) (sym of_i.over) ∙ (from_i.homomorphism.typed label type.0 type.1).0 in
      value_then a b c s t first_a from_a from_b (value_of a.tables a.assignment (copied_value Q i.tables (Null label)))
      ∙ ap (value_image b.schema b.tables c.tables t.rows t.nulls) (value_goes Q query h i j a b of_i of_j from_i first_i first_j first_b s is_s from_a (Null label) type.0 typed)
      ∙ value_goes Q query g j k b c of_j of_k from_j first_j first_k first_c t is_t from_b there type.0 sorted
      ∙ ap (λ (v : Value). value_of c.tables c.assignment (copied_value Q k.tables v)) (sym (value_then i j k h g first_i from_i from_j (Null label)))
      ∙ sym (value_goes Q query hg i k a c of_i of_k from_both first_i first_k first_c u is_u over (Null label) type.0 typed)

  pub coeval_of_composite : (st.rows ≡ u.rows) × (st.nulls ≡ u.nulls)
  coeval_of_composite = one_out Q i a c of_i first_a query.source u over st along_both.homomorphism copies_same null_same
