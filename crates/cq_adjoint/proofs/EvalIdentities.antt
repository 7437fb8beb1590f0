-- Along eval, an identity becomes an identity.
use Rattle.std.proofs.Common.{ℕ, List, [], Option, Some, ◌≡◌, ◌<◌, ◌+◌, ◌⊎◌, inl, inr, map, length, refl, sym, ap, subst, ◌∙◌, arith}
use Rattle.std.specs.Prelude.{slice_get, slice_index, slice_index_or}
use Rattle.std.specs.List.{enumerate_from}
use Rattle.std.proofs.lemmas.List.{length-map}
use Rattle.std.proofs.lemmas.List.FromFn.{length-enumerate_from, get_or-map-range_with_len}
use Rattle.std.proofs.lemmas.Option.{slice_get_within, get_or_from_slice_get}
use Rattle.cq_base.specs.declared.name.Name.{Name}
use Rattle.cq_theory.specs.declared.constant.Con.TheVariants.{Named}
use Rattle.cq_theory.specs.declared.presentation.Sort.{Sort}
use Rattle.cq_theory.specs.declared.presentation.Sort.TheVariants.{Plain, Entity}
use Rattle.cq_theory.specs.declared.term.TypeTerm.{TypeTerm}
use Rattle.cq_theory.specs.declared.term.TypeTerm.TheVariants.{Gen}
use Rattle.cq_theory.specs.declared.value.Value.{Value}
use Rattle.cq_theory.specs.declared.value.Value.TheVariants.{Const, Null}
use Rattle.cq_theory.specs.SchemaData.{SchemaData as Schema}
use Rattle.cq_theory.specs.Canonical.{row_term, value_term, value_term_step, canonical_assignment}
use Rattle.cq_theory.specs.Homomorphism.{row_image, value_image, value_image_step}
use Rattle.cq_theory.specs.Tables.{Tables, Meaning, AtRow, AtValue, count_of, row_in, value_in}
use Rattle.cq_theory.proofs.Every.{from_enumerated}
use Rattle.cq_theory.proofs.Faults.{made_of}
use Rattle.cq_theory.proofs.Values as values
use Rattle.cq_instance.specs.InstanceData.{InstanceData, IsInstance}
use Rattle.cq_instance.specs.declared.transform.Image.{Image}
use Rattle.cq_instance.specs.declared.transform.Image.TheVariants.{Row, Value as ValueImage}
use Rattle.cq_instance.specs.declared.transform.Transform.{Transform}
use Rattle.cq_instance.proofs.CanonicalGenerators as generators
use Rattle.cq_transform.specs.Identities.{itself, identity_images}
use Rattle.cq_query.specs.QueryData.{QueryData as Query}
use Rattle.cq_query.specs.Answers.{variable_counts}
use Rattle.cq_query.specs.IsQuery.{IsQuery}
use Rattle.cq_query.specs.Translation.{variables_at}
use Rattle.cq_query.proofs.Holding.{tuple_at, tuple_length}
use Rattle.cq_query.proofs.Once.{one_place, answers_once}
use Rattle.cq_instance.proofs.Lists.{get-map}
use Rattle.cq_adjoint.specs.Copies.{answers_at, place_of}
use Rattle.cq_adjoint.specs.QueryMoves.{AreEvaluated, answer_sent, eval_row, eval_value, eval_image, eval_images}
use Rattle.cq_adjoint.specs.Units.{identity_of}
use Rattle.cq_adjoint.proofs.Alike.{same_enumerated}
use Rattle.cq_adjoint.proofs.AnsweredRows.{same_list}
use Rattle.cq_adjoint.proofs.AnswerPlaces.{place_found}
use Rattle.cq_adjoint.proofs.EvalMaps.{answer_at, is_answer}
use Rattle.cq_adjoint.proofs.QueryIdentities.{kept_row}

module _ (Q : Query) (query : IsQuery Q) (i a : InstanceData) (answers : List (List (List ℕ))) (are : AreEvaluated Q i i a a answers answers) (start : IsInstance a) where
  abbrev T : Schema
  T = Q.target

  abbrev M : Tables
  M = a.tables

  abbrev h : Transform
  h = identity_of i

  entities : length M.sheet.counts ≡ length T.entities
  entities = start.well_formed.entities ∙ ap (λ (x : InstanceData). length x.schema.entities) are.source.given

  abbrev answer : ℕ → ℕ → List ℕ
  answer e row = slice_index_or (answers_at answers e) row []

  -- an identity keeps an answer
  answer_itself : (e row : ℕ) → e < length T.entities → row < count_of M e → answer_sent Q h i i e (answer e row) ≡ answer e row
  answer_itself e row within inside =
      let x : List ℕ = answer e row in
      let is = is_answer Q i.tables M are.source.tables answers are.answered e row within inside in
      let sent : ℕ × (Name × ℕ) → ℕ = λ v. row_image i.schema i.tables i.tables h.rows h.nulls v.1.1 (slice_index x v.0) in
      let size : length x ≡ length (variables_at Q e) = tuple_length x (variable_counts Q i.tables e) is.0 ∙ length-map (variables_at Q e) (λ (v : Name × ℕ). count_of i.tables v.1) in
      same_list (answer_sent Q h i i e x) x (length-map (enumerate_from 0 (variables_at Q e)) sent ∙ length-enumerate_from 0 (variables_at Q e) ∙ sym size) (λ n y z left right.
      let v = made_of sent (enumerate_from 0 (variables_at Q e)) n y left in
      let at = from_enumerated 0 (variables_at Q e) n v.0 v.1 in
      let number : v.0.0 ≡ n = omega (arith, at.1) in
      let r = tuple_at x (variable_counts Q i.tables e) is.0 n (count_of i.tables v.0.1.1) (get-map (λ (w : Name × ℕ). count_of i.tables w.1) (variables_at Q e) n v.0.1 at.0) in
      let less : slice_index x n < count_of i.tables v.0.1.1 = subst (λ m. m < count_of i.tables v.0.1.1) (sym (get_or_from_slice_get x n r.0 0 r.1)) r.2 in
      v.2 ∙ ap (λ m. row_image i.schema i.tables i.tables h.rows h.nulls v.0.1.1 (slice_index x m)) number ∙ kept_row i.tables.sheet.counts v.0.1.1 (slice_index x n) less ∙ get_or_from_slice_get x n z 0 right)

  place_itself : (e row : ℕ) → e < length T.entities → row < count_of M e → place_of (answers_at answers e) (answer_sent Q h i i e (answer e row)) ≡ row
  place_itself e row within inside =
      let at = answer_at Q i.tables M are.source.tables answers are.answered e row within inside in
      ap (place_of (answers_at answers e)) (answer_itself e row within inside)
      ∙ one_place (answers_at answers e) (answers_once Q i.tables e (answers_at answers e) (are.answered.each e within)) (place_of (answers_at answers e) (answer e row)) row (answer e row)
      (place_found (answers_at answers e) row (answer e row) at) at

  null_itself : (label : ℕ) → label < length M.algebra.nulls → value_image i.schema i.tables i.tables h.rows h.nulls (Null label) ≡ Null label
  null_itself label within =
      values.fold-Null Value (value_image_step i.schema i.tables i.tables h.rows h.nulls) label
      ∙ get_or-map-range_with_len Null 0 (length i.tables.algebra.nulls) label label (Const (Named 0)) (omega (arith, within, ap (λ g. length g.nulls) are.source.tables.algebra)) (omega arith)

  -- the image of a generator of this sort that stands for this
  abbrev image_of : Sort → Meaning → Image
  image_of (Plain type) m = eval_value Q h i i a a answers answers (value_in m)
  image_of (Entity e) m = eval_row Q h i i a a answers answers e (row_in m)

  by_sort : (n : ℕ) (name : Name) (sort : Sort) → eval_image Q h i i a a answers answers (n, (name, sort)) ≡ image_of sort (slice_index_or a.assignment n (AtRow 0))
  by_sort n name (Plain type) = refl
  by_sort n name (Entity e) = refl

  at_generator : (n : ℕ) (g : Name × Sort) → generators.IsRowAt T M entities n g.1 ⊎ generators.IsNullAt T M entities n g.1 → eval_image Q h i i a a answers answers (n, g) ≡ itself (n, g)
  at_generator n g (inl row) =
      let stands : slice_index_or a.assignment n (AtRow 0) ≡ AtRow row.row =
      ap (λ (x : InstanceData). slice_index_or x.assignment n (AtRow 0)) are.source.given
      ∙ ap (λ m. slice_index_or (canonical_assignment T M) m (AtRow 0)) row.place ∙ generators.row_stands T M entities row.entity row.row row.within row.inside in
      by_sort n g.0 g.1 ∙ (λ k. image_of (row.sort_is k) (stands k))
      ∙ ap (λ r. Row (row_term a.schema M row.entity r)) (place_itself row.entity row.row row.within row.inside)
      ∙ ap (λ m. Row (record { generator = m; path = [] })) (sym row.place) ∙ ap (λ (s : Sort). itself (n, (g.0, s))) (sym row.sort_is)
  at_generator n g (inr null) =
      let within : null.label < length M.algebra.nulls = slice_get_within M.algebra.nulls null.label null.type null.typed in
      let stands : slice_index_or a.assignment n (AtRow 0) ≡ AtValue (Null null.label) =
      ap (λ (x : InstanceData). slice_index_or x.assignment n (AtRow 0)) are.source.given
      ∙ ap (λ m. slice_index_or (canonical_assignment T M) m (AtRow 0)) null.place ∙ generators.null_stands T M entities null.label within in
      by_sort n g.0 g.1 ∙ (λ k. image_of (null.sort_is k) (stands k))
      ∙ ap (λ (v : Value). ValueImage (value_term a.schema M v)) (null_itself null.label within)
      ∙ ap ValueImage (values.fold-Null TypeTerm (value_term_step a.schema M) null.label) ∙ ap (λ m. ValueImage (Gen m)) (sym null.place)
      ∙ ap (λ (s : Sort). itself (n, (g.0, s))) (sym null.sort_is)

  pub eval_of_identity : eval_images Q (identity_of i) i i a a answers answers ≡ identity_images a.presentation.generators
  eval_of_identity = same_enumerated (eval_image Q h i i a a answers answers) itself 0 a.presentation.generators (λ n g at.
      let here : n ≡ 0 + n = omega arith in
      subst (λ m. eval_image Q h i i a a answers answers (m, g) ≡ itself (m, g)) here
      (at_generator n g (generators.from_generator T M entities n g (ap (λ (x : InstanceData). slice_get x.presentation.generators n) (sym are.source.given) ∙ at))))
