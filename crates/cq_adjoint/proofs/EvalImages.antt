-- The images of a transform between instances of answers are sorted and keep the equations.
use Rattle.std.proofs.Common.{ℕ, List, [], Some, map, ◌≡◌, ◌<◌, length, sym, ap, subst, ◌∙◌, arith}
use Rattle.std.specs.Prelude.{slice_get, slice_index, slice_index_or}
use Rattle.cq_base.specs.declared.name.Name.{Name}
use Rattle.cq_theory.specs.declared.presentation.Sort.{Sort}
use Rattle.cq_theory.specs.declared.presentation.Sort.TheVariants.{Plain, Entity}
use Rattle.cq_theory.specs.declared.value.Value.{Value}
use Rattle.cq_theory.specs.declared.value.Value.TheVariants.{Null}
use Rattle.cq_theory.specs.SchemaData.{SchemaData as Schema}
use Rattle.cq_theory.specs.Canonical.{row_term, value_term}
use Rattle.cq_theory.specs.Homomorphism.{row_image, value_image, IsHomomorphism}
use Rattle.cq_theory.specs.Tables.{Tables, AtRow, AtValue, row_in, value_in, count_of, value_type, IsWellFormed, Satisfies}
use Rattle.cq_instance.specs.InstanceData.{InstanceData, IsInstance}
use Rattle.cq_instance.specs.declared.transform.Image.{Image}
use Rattle.cq_instance.specs.declared.transform.Image.TheVariants.{Row, Value as ValueImage}
use Rattle.cq_instance.specs.declared.transform.Transform.{Transform}
use Rattle.cq_transform.specs.Transforming.{AreKept, AreSorted}
use Rattle.cq_transform.specs.Transforms.{GoesFrom}
use Rattle.cq_transform.proofs.ExactlyOne.{within_counts}
use Rattle.cq_query.specs.QueryData.{QueryData as Query}
use Rattle.cq_query.specs.IsQuery.{IsQuery}
use Rattle.cq_query.proofs.Evaluated as evaluated
use Rattle.cq_adjoint.specs.Copies.{answers_at, place_of}
use Rattle.cq_adjoint.specs.QueryMoves.{answer_sent, eval_row, eval_value, eval_image, eval_images, AreEvaluated}
use Rattle.cq_adjoint.proofs.AnsweredRows as answered
use Rattle.cq_adjoint.proofs.AnsweredRows.{AreSent}
use Rattle.cq_adjoint.proofs.EvalMaps as maps
use Rattle.cq_adjoint.proofs.IntoEval as into
use Rattle.cq_adjoint.proofs.IntoEval.{IsInto}
use Rattle.cq_adjoint.proofs.SpelledTerms.{given_initial}

module _ (Q : Query) (query : IsQuery Q) (h : Transform) (i j a b : InstanceData) (from to : List (List (List ℕ))) (are : AreEvaluated Q i j a b from to) (goes : GoesFrom h i j)
    (source : IsInstance i) (middle : IsInstance j) (there : IsInstance a) where
  abbrev L : Tables
  L = i.tables

  abbrev N : Tables
  N = j.tables

  abbrev M : Tables
  M = a.tables

  abbrev T : Schema
  T = Q.target

  pub well : IsWellFormed Q.source L
  well = subst (λ (S : Schema). IsWellFormed S L) are.source.over source.well_formed

  pub satisfies : Satisfies Q.source L
  satisfies = subst (λ (S : Schema). Satisfies S L) are.source.over source.satisfies

  pub homomorphism : IsHomomorphism Q.source L N h.rows h.nulls
  homomorphism = subst (λ (S : Schema). IsHomomorphism S L N h.rows h.nulls) are.source.over goes.homomorphism

  over : a.schema ≡ T
  over = ap (λ (x : InstanceData). x.schema) are.source.given

  pub tables : IsWellFormed T M
  tables = subst (λ (S : Schema). IsWellFormed S M) over there.well_formed

  pub known : (e row : ℕ) → row < count_of M e → e < length T.entities
  known e row inside = omega (arith, within_counts M.sheet.counts e row inside, tables.entities)

  -- each row has an answer
  pub row_counted : (e row : ℕ) → row < count_of M e → row < length (answers_at from e)
  row_counted e row inside = subst (λ m. row < m) (maps.count_is Q L M are.source.tables from are.answered e (known e row inside)) inside

  abbrev rows_at : ℕ → ℕ → List ℕ
  rows_at = maps.rows_at Q query L N well satisfies h.rows h.nulls homomorphism M are.source.tables tables from are.answered

  abbrev value_at : Value → Value
  value_at = value_image Q.source L N h.rows h.nulls

  sent : AreSent Q M N rows_at value_at
  sent = maps.are Q query L N well satisfies h.rows h.nulls homomorphism M are.source.tables tables from are.answered

  pub well_there : IsWellFormed T b.tables
  well_there = evaluated.well_formed Q query N (subst (λ (S : Schema). IsWellFormed S N) are.target.over middle.well_formed)
      (subst (λ (S : Schema). Satisfies S N) are.target.over middle.satisfies) b.tables are.target.tables

  is_into : IsInto Q a b N to
  is_into = record {
    query = query;
    source = there;
    over = over;
    initial = given_initial T a are.source.given tables query.target (subst (λ (S : Schema). Satisfies S M) over there.satisfies);
    eval = are.target.tables;
    given = are.target.given;
    well = well_there;
    answered = are.answered_there;
  }

  abbrev image_at : ℕ × (Name × Sort) → Image
  image_at = eval_image Q h i j a b from to

  of_row : (n : ℕ) (name : Name) (e row : ℕ) → slice_index_or a.assignment n (AtRow 0) ≡ AtRow row → row < count_of M e
      → image_at (n, (name, Entity e)) ≡ Row (row_term T b.tables e (place_of (answers_at to e) (rows_at e row)))
  of_row n name e row at inside = ap (λ m. eval_row Q h i j a b from to e (row_in m)) at

  of_value : (n : ℕ) (name : Name) (type : ℕ) (v : Value) → slice_index_or a.assignment n (AtRow 0) ≡ AtValue v → value_type T M.algebra.nulls v ≡ Some type
      → image_at (n, (name, Plain type)) ≡ ValueImage (value_term T b.tables (value_at v))
  of_value n name type v at typed = ap (λ m. eval_value Q h i j a b from to (value_in m)) at

  pub sorted : AreSorted a b (eval_images Q h i j a b from to)
  sorted = into.sorted Q a b N to is_into rows_at value_at sent image_at (record { of_row = of_row; of_value = of_value })

  pub are_kept : AreKept a b (eval_images Q h i j a b from to)
  are_kept = into.are_kept Q a b N to is_into rows_at value_at sent image_at (record { of_row = of_row; of_value = of_value })

  pub schemas : b.schema ≡ a.schema
  schemas = into.schemas Q a b N to is_into rows_at value_at sent

  -- the answer of a row is a row of b
  pub place_inside : (e row : ℕ) → row < count_of M e → place_of (answers_at to e) (answer_sent Q h i j e (slice_index_or (answers_at from e) row [])) < count_of b.tables e
  place_inside e row inside = into.place_within Q a b N to is_into rows_at value_at sent e row inside

  -- what h sends has its type in b
  pub sent_typed : (v : Value) (type : ℕ) → value_type T M.algebra.nulls v ≡ Some type → value_type T b.tables.algebra.nulls (value_image i.schema L N h.rows h.nulls v) ≡ Some type
  sent_typed v type typed = into.value_typed Q a b N to is_into rows_at value_at sent v type typed

  -- what is made of the images sends an answer to the answer with h applied to each row, and values where h sends them
  module _ (made : Transform) (same : made.images ≡ eval_images Q h i j a b from to) (between : GoesFrom made a b) where
    are_one : (into.rows_to Q a b N to is_into rows_at value_at sent ≡ made.rows) × (into.nulls_to Q a b N to is_into rows_at value_at sent ≡ made.nulls)
    are_one = into.are_one Q a b N to is_into rows_at value_at sent image_at (record { of_row = of_row; of_value = of_value }) made same between

    pub row_goes : (e row : ℕ) → row < count_of M e → slice_get (answers_at to e) (row_image a.schema M b.tables made.rows made.nulls e row) ≡ Some (rows_at e row)
    row_goes e row inside =
        ap (λ (l : List (List ℕ)). slice_get (answers_at to e) (slice_index (slice_index_or l e []) row)) (sym are_one.0) ∙ into.row_answered Q a b N to is_into rows_at value_at sent e row inside

    pub value_goes : (v : Value) (type : ℕ) → value_type T M.algebra.nulls v ≡ Some type → value_image a.schema M b.tables made.rows made.nulls v ≡ value_at v
    value_goes v type typed =
        (λ k. value_image a.schema M b.tables (sym are_one.0 k) (sym are_one.1 k) v)
        ∙ answered.value_goes Q query M tables N rows_at value_at sent b.tables are.target.tables to are.answered_there v type typed

  -- nothing else does so
  pub one_made : (made : Transform) → made.images ≡ eval_images Q h i j a b from to → GoesFrom made a b → (rows : List (List ℕ)) (nulls : List Value) → IsHomomorphism a.schema M b.tables rows nulls
      → ((e row : ℕ) → row < count_of M e → slice_get (answers_at to e) (row_image a.schema M b.tables rows nulls e row) ≡ Some (rows_at e row))
      → ((label : ℕ) → label < length M.algebra.nulls → value_image a.schema M b.tables rows nulls (Null label) ≡ value_at (Null label))
      → (rows ≡ made.rows) × (nulls ≡ made.nulls)
  one_made made same between rows nulls sends each_row each_null =
      let one = into.one Q a b N to is_into rows_at value_at sent rows nulls sends each_row each_null in
      let other = are_one made same between in
      (one.0 ∙ other.0, one.1 ∙ other.1)
