-- The unit and the counit of coeval and eval are the transforms of identities.
use Rattle.std.proofs.Common.{ℕ, zero, suc, List, [], ◌∷◌, ◌++◌, Some, ◌≡◌, ◌<◌, ◌+◌, map, length, refl, sym, ap, subst, ◌∙◌, arith}
use Rattle.std.specs.Prelude.{slice_get, slice_index, slice_index_or}
use Rattle.std.specs.List.{flat_map, enumerate_from}
use Rattle.std.proofs.lemmas.List.{length-map}
use Rattle.std.proofs.lemmas.List.FromFn.{length-enumerate_from, get_or-range_with_len, get_or-map-range_with_len}
use Rattle.std.proofs.lemmas.Option.{slice_get_within, get_or_from_slice_get}
use Rattle.cq_base.specs.declared.name.Name.{Name}
use Rattle.cq_theory.specs.declared.constant.Con.TheVariants.{Named}
use Rattle.cq_theory.specs.declared.presentation.Sort.{Sort}
use Rattle.cq_theory.specs.declared.presentation.Sort.TheVariants.{Plain, Entity}
use Rattle.cq_theory.specs.declared.term.TypeTerm.{TypeTerm}
use Rattle.cq_theory.specs.declared.value.Value.{Value}
use Rattle.cq_theory.specs.declared.value.Value.TheVariants.{Const, Null}
use Rattle.cq_theory.specs.SchemaData.{SchemaData as Schema}
use Rattle.cq_theory.specs.Canonical.{below, row_term, value_term}
use Rattle.cq_theory.specs.Homomorphism.{row_image, value_image, value_image_step}
use Rattle.cq_theory.specs.Tables.{Tables, Meaning, AtRow, AtValue, Assignment, row_in, value_in, count_of, row_of, value_of, meaning_of, value_type, HasSort, Holds}
use Rattle.cq_theory.proofs.Every.{enumerated}
use Rattle.cq_theory.proofs.Values as values
use Rattle.cq_instance.specs.InstanceData.{InstanceData, IsInstance, name_at}
use Rattle.cq_instance.specs.declared.transform.Image.{Image}
use Rattle.cq_instance.specs.declared.transform.Image.TheVariants.{Row, Value as ValueImage}
use Rattle.cq_instance.specs.declared.transform.Transform.{Transform}
use Rattle.cq_instance.proofs.Lists.{get-map}
use Rattle.cq_transform.specs.Identities.{itself}
use Rattle.cq_transform.specs.Transforms.{term_of, meanings_in, GoesFrom}
use Rattle.cq_transform.proofs.Itself.{identity_goes}
use Rattle.cq_transform.proofs.Loops.{member_at}
use Rattle.cq_query.specs.QueryData.{QueryData as Query}
use Rattle.cq_query.specs.IsQuery.{IsQuery}
use Rattle.cq_query.specs.Translation.{variables_at}
use Rattle.cq_adjoint.specs.AnswerNames.{rows_named, null_named, from_eval_images}
use Rattle.cq_adjoint.specs.Copies.{copy_of, copied_value, answers_at, place_of}
use Rattle.cq_adjoint.specs.Moves.{spelled_step, spelled_value}
use Rattle.cq_adjoint.specs.QueryMoves.{AreAcross, row_sent, value_sent, copies_sent, to_eval_image, to_eval_images}
use Rattle.cq_adjoint.specs.QueryUnits.{copies_named, unit_image, unit_query_images, answer_named, counit_query_images}
use Rattle.cq_adjoint.specs.Units.{identity_of}
use Rattle.cq_adjoint.proofs.Alike.{same_enumerated, same_numbers, same_flat}
use Rattle.cq_adjoint.proofs.AnsweredRows.{same_list}
use Rattle.cq_adjoint.proofs.IdentityMoves.{own_meaning}
use Rattle.cq_adjoint.proofs.ToEval as to

-- the images of an identity mean what the generators stand for
module _ (x : InstanceData) (holds : Holds x.schema x.presentation x.tables x.assignment) where
  pub identity_from : GoesFrom (identity_of x) x x
  identity_from = identity_goes x holds (identity_of x).images (identity_of x).rows (identity_of x).nulls refl refl refl

  abbrev means : Image → Meaning
  means image = meaning_of x.tables x.assignment (term_of image)

  abbrev B : Assignment
  B = meanings_in x (identity_of x).images

  pub same_meanings : B ≡ x.assignment
  same_meanings = same_list B x.assignment
      (length-map (identity_of x).images means ∙ length-map (enumerate_from 0 x.presentation.generators) itself ∙ length-enumerate_from 0 x.presentation.generators ∙ sym holds.count)
      (λ k m m' left right.
      let g = member_at x.presentation.generators k (omega (arith, slice_get_within x.assignment k m' right, holds.count)) in
      let here : 0 + k ≡ k = omega arith in
      let image : slice_get (identity_of x).images k ≡ Some (itself (k, g.0)) =
      get-map itself (enumerate_from 0 x.presentation.generators) k (k, g.0)
      (enumerated 0 x.presentation.generators k g.0 g.1 ∙ ap (λ (n : ℕ). let p : ℕ × (Name × Sort) = (n, g.0) in Some p) here) in
      let there : slice_get B k ≡ Some (means (itself (k, g.0))) = get-map means (identity_of x).images k (itself (k, g.0)) image in
      let both : Some (means (itself (k, g.0))) ≡ Some m = sym there ∙ left in
      let is : means (itself (k, g.0)) ≡ m = cc in
      sym is ∙ own_meaning x holds k g.0.0 g.0.1 (slice_index_or x.assignment k (AtRow 0)) refl (holds.sorts k g.0 g.1) ∙ get_or_from_slice_get x.assignment k m' (AtRow 0) right)

module _ (Q : Query) (query : IsQuery Q) (i x b : InstanceData) (answers : List (List (List ℕ))) (across : AreAcross Q i x x b answers) (source : IsInstance i) (middle : IsInstance x) where
  abbrev M : Tables
  M = i.tables

  holds : Holds x.schema x.presentation x.tables x.assignment
  holds = across.coeval.initial.0.holds

  goes : GoesFrom (identity_of x) x x
  goes = identity_from x holds

  same : meanings_in x (identity_of x).images ≡ x.assignment
  same = same_meanings x holds

  copies_same : (e row : ℕ) → row < count_of M e → copies_sent Q (identity_of x) i x x e row ≡ copies_named Q i x b answers e row
  copies_same e row inside =
      same_enumerated (λ (v : ℕ × (Name × ℕ)). row_sent (identity_of x) x x v.1.1 (copy_of Q M e row v.0)) (λ (v : ℕ × (Name × ℕ)). row_of x.tables x.assignment (copy_of Q M e row v.0)) 0 (variables_at Q e) (λ k v at.
      let here : k ≡ 0 + k = omega arith in
      subst (λ n. row_sent (identity_of x) x x v.1 (copy_of Q M e row n) ≡ row_of x.tables x.assignment (copy_of Q M e row n)) here
      (to.row_meant Q query (identity_of x) i x x b answers across goes source middle e row k v inside at ∙ ap (λ (A : Assignment). row_of x.tables A (copy_of Q M e row k)) same))

  value_same : (v : Value) (type : ℕ) → value_type Q.target M.algebra.nulls v ≡ Some type → value_sent (identity_of x) x x (copied_value Q M v) ≡ value_of x.tables x.assignment (copied_value Q M v)
  value_same v type typed =
      to.value_meant Q query (identity_of x) i x x b answers across goes source middle v type typed ∙ ap (λ (A : Assignment). value_of x.tables A (copied_value Q M v)) same

  image_same : (n : ℕ) (name : Name) (sort : Sort) (m : Meaning) → slice_index_or i.assignment n (AtRow 0) ≡ m → HasSort Q.target M sort m
      → to_eval_image Q (identity_of x) i x x b answers (n, (name, sort)) ≡ unit_image Q i x b answers (n, (name, sort))
  image_same n name (Entity e) (AtRow row) at sorted =
      let is : row_in (slice_index_or i.assignment n (AtRow 0)) ≡ row = ap row_in at in
      ap (λ (l : List ℕ). Row (row_term b.schema b.tables e (place_of (answers_at answers e) l)))
      (copies_same e (row_in (slice_index_or i.assignment n (AtRow 0))) (subst (λ r. r < count_of M e) (sym is) sorted))
  image_same n name (Entity e) (AtValue v) at sorted = absurd sorted
  image_same n name (Plain type) (AtRow row) at sorted = absurd sorted
  image_same n name (Plain type) (AtValue v) at sorted =
      let is : value_in (slice_index_or i.assignment n (AtRow 0)) ≡ v = ap value_in at in
      ap (λ (w : Value). ValueImage (value_term b.schema b.tables w))
      (value_same (value_in (slice_index_or i.assignment n (AtRow 0))) type (ap (value_type Q.target M.algebra.nulls) is ∙ sorted.0))

  pub unit_of_query : to_eval_images Q (identity_of x) i x x b answers ≡ unit_query_images Q i x b answers
  unit_of_query = same_enumerated (to_eval_image Q (identity_of x) i x x b answers) (unit_image Q i x b answers) 0 i.presentation.generators (λ n g at.
      let here : n ≡ 0 + n = omega arith in
      subst (λ m. to_eval_image Q (identity_of x) i x x b answers (m, g) ≡ unit_image Q i x b answers (m, g)) here
      (image_same n g.0 g.1 (slice_index_or i.assignment n (AtRow 0)) refl
      (subst (λ (S : Schema). HasSort S M g.1 (slice_index_or i.assignment n (AtRow 0))) across.coeval.over (source.sorts n g at))))

-- an identity keeps rows and nulls
pub kept_row : (counts : List ℕ) (e row : ℕ) → row < slice_index counts e → slice_index (slice_index_or (map below counts) e []) row ≡ row
kept_row [] e row h = absurd (omega arith)
kept_row (c ∷ cs) zero row h = let here : 0 + row ≡ row = omega arith in get_or-range_with_len 0 c row 0 h ∙ here
kept_row (c ∷ cs) (suc e) row h = kept_row cs e row h

pub counit_of_query : (Q : Query) (i x : InstanceData) (answers : List (List (List ℕ))) (null_term : ℕ → TypeTerm)
    → from_eval_images Q (identity_of x) x i x answers null_term ≡ counit_query_images Q i x answers null_term
counit_of_query Q i x answers null_term = λ k. rows k ++ nulls k
  where
    h : Transform
    h = identity_of x

    row_same : (e row : ℕ) → row < 0 + count_of x.tables e → rows_named Q h x i x answers e row ≡ answer_named Q i x answers null_term e row
    row_same e row less =
        ap (λ (r : ℕ). map (λ (v : ℕ × (Name × ℕ)). Row (name_at i.names v.1.1 (slice_index (slice_index_or (answers_at answers e) r []) v.0))) (enumerate_from 0 (variables_at Q e)))
        (kept_row x.tables.sheet.counts e row (omega (arith, less)))

    rows : flat_map (λ e. flat_map (rows_named Q h x i x answers e) (below (count_of x.tables e))) (below (length Q.target.entities))
        ≡ flat_map (λ e. flat_map (answer_named Q i x answers null_term e) (below (count_of x.tables e))) (below (length Q.target.entities))
    rows = same_flat (λ e. flat_map (rows_named Q h x i x answers e) (below (count_of x.tables e))) (λ e. flat_map (answer_named Q i x answers null_term e) (below (count_of x.tables e))) 0 (length Q.target.entities)
        (λ e less. same_flat (rows_named Q h x i x answers e) (answer_named Q i x answers null_term e) 0 (count_of x.tables e) (row_same e))

    null_same : (label : ℕ) → label < 0 + length x.tables.algebra.nulls → null_named Q h x i x answers null_term label ≡ ValueImage (null_term label)
    null_same label less =
        let itself : value_image x.schema x.tables x.tables h.rows h.nulls (Null label) ≡ Null label =
        values.fold-Null Value (value_image_step x.schema x.tables x.tables h.rows h.nulls) label
        ∙ get_or-map-range_with_len Null 0 (length x.tables.algebra.nulls) label label (Const (Named 0)) (omega (arith, less)) (omega arith) in
        ap ValueImage (ap (spelled_value null_term) itself ∙ values.fold-Null TypeTerm (spelled_step null_term) label)

    nulls : map (null_named Q h x i x answers null_term) (below (length x.tables.algebra.nulls)) ≡ map (λ label. ValueImage (null_term label)) (below (length x.tables.algebra.nulls))
    nulls = same_numbers (null_named Q h x i x answers null_term) (λ label. ValueImage (null_term label)) 0 (length x.tables.algebra.nulls) null_same
