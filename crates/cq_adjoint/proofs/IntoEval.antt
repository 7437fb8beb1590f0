-- Images that name the generators of answers, and the spellings of values, are sorted and keep the equations.
use Rattle.std.proofs.Common.{ℕ, List, [], ◌∷◌, Option, Some, ◌≡◌, ◌<◌, ◌+◌, map, length, refl, sym, ap, subst, ◌∙◌, arith}
use Rattle.std.specs.Prelude.{slice_get, slice_index_or}
use Rattle.std.specs.List.{enumerate_from}
use Rattle.std.proofs.lemmas.List.{length-map}
use Rattle.std.proofs.lemmas.List.FromFn.{length-enumerate_from}
use Rattle.std.proofs.lemmas.Option.{get_or_from_slice_get}
use Rattle.cq_base.specs.declared.name.Name.{Name}
use Rattle.cq_theory.specs.declared.presentation.Equation.{Equation}
use Rattle.cq_theory.specs.declared.presentation.Sort.{Sort}
use Rattle.cq_theory.specs.declared.presentation.Sort.TheVariants.{Plain, Entity}
use Rattle.cq_theory.specs.declared.term.Term.TheVariants.{Ent, Typ}
use Rattle.cq_theory.specs.declared.value.Value.{Value}
use Rattle.cq_theory.specs.declared.value.Value.TheVariants.{Null}
use Rattle.cq_theory.specs.SchemaData.{SchemaData as Schema}
use Rattle.cq_theory.specs.Schema.{IsSchema}
use Rattle.cq_theory.specs.Canonical.{row_term, value_term}
use Rattle.cq_theory.specs.Derivation.{left_of, right_of}
use Rattle.cq_theory.specs.Homomorphism.{row_image, value_image, IsHomomorphism}
use Rattle.cq_theory.specs.Sorts.{sort_of}
use Rattle.cq_theory.specs.Tables.{Tables, Meaning, AtRow, AtValue, Assignment, count_of, meaning_of, value_type, value_type_step, normal_of, HasSort, IsWellFormed, Holds}
use Rattle.cq_theory.proofs.Every.{enumerated}
use Rattle.cq_theory.proofs.Values as values
use Rattle.cq_instance.specs.InstanceData.{InstanceData, IsInstance}
use Rattle.cq_instance.specs.Given.{given}
use Rattle.cq_instance.specs.declared.transform.Image.{Image}
use Rattle.cq_instance.specs.declared.transform.Image.TheVariants.{Row, Value as ValueImage}
use Rattle.cq_instance.specs.declared.transform.Transform.{Transform}
use Rattle.cq_instance.proofs.Lists.{get-map}
use Rattle.cq_transform.specs.Agreement.{meaning_image, Agrees}
use Rattle.cq_transform.specs.Nulls.{IsInitial}
use Rattle.cq_transform.specs.Transforming.{AreKept, AreSorted}
use Rattle.cq_transform.specs.Transforms.{term_of, meanings_in, GoesFrom}
use Rattle.cq_transform.proofs.Composites.{meaning_goes}
use Rattle.cq_transform.proofs.ExactlyOne.{one_homomorphism}
use Rattle.cq_transform.proofs.Loops.{member_at}
use Rattle.cq_transform.proofs.SortedValues.{value_sorted}
use Rattle.cq_query.specs.QueryData.{QueryData as Query}
use Rattle.cq_query.specs.IsQuery.{IsQuery}
use Rattle.cq_query.specs.Answers.{IsEval}
use Rattle.cq_adjoint.specs.Copies.{answers_at, place_of, AreAllAnswers}
use Rattle.cq_adjoint.proofs.AnsweredRows as answered
use Rattle.cq_adjoint.proofs.AnsweredRows.{AreSent}
use Rattle.cq_adjoint.proofs.SpelledTerms.{IsTermOf, row_spelled, value_spelled}

-- i is over the target and initial, and d is eval of tables N with these answers
pub record IsInto (Q : Query) (i d : InstanceData) (N : Tables) (answers : List (List (List ℕ))) : Type 0 where
  pub query : IsQuery Q
  pub source : IsInstance i
  pub over : i.schema ≡ Q.target
  pub initial : IsInitial i
  pub eval : IsEval Q N d.tables
  pub given : d ≡ given Q.target d.tables
  pub well : IsWellFormed Q.target d.tables
  pub answered : AreAllAnswers Q N answers

module _ (Q : Query) (i d : InstanceData) (N : Tables) (answers : List (List (List ℕ))) (is : IsInto Q i d N answers) where
  abbrev T : Schema
  T = Q.target

  abbrev M : Tables
  M = i.tables

  abbrev D : Tables
  D = d.tables

  pub tables : IsWellFormed T M
  tables = subst (λ (S : Schema). IsWellFormed S M) is.over is.source.well_formed

  -- where the images of generators go
  module _ (rows_at : ℕ → ℕ → List ℕ) (value_at : Value → Value) (are : AreSent Q M N rows_at value_at) where
    abbrev pub rows_to : List (List ℕ)
    rows_to = answered.rows_to Q is.query M tables N rows_at value_at are D is.eval answers is.answered

    abbrev pub nulls_to : List Value
    nulls_to = answered.nulls_to Q is.query M tables N rows_at value_at are D is.eval answers is.answered

    homomorphism : IsHomomorphism T M D rows_to nulls_to
    homomorphism = answered.homomorphism Q is.query M tables N rows_at value_at are D is.eval answers is.answered

    abbrev pub answer_term : ℕ → ℕ → Image
    answer_term e row = Row (row_term T D e (place_of (answers_at answers e) (rows_at e row)))

    abbrev pub spelling : Value → Image
    spelling v = ValueImage (value_term T D (value_at v))

    -- the image is a term of the sort, and means where the homomorphism sends what the generator stands for
    abbrev IsRight : Sort → Meaning → Image → Type 0
    IsRight sort m image = IsTermOf d sort (meaning_image T M D rows_to nulls_to sort m) (term_of image)

    pub place_within : (e row : ℕ) → row < count_of M e → place_of (answers_at answers e) (rows_at e row) < count_of D e
    place_within e row inside = answered.place_inside Q is.query M tables N rows_at value_at are D is.eval answers is.answered e row inside

    row_right : (e row : ℕ) → row < count_of M e → IsRight (Entity e) (AtRow row) (answer_term e row)
    row_right e row inside =
        let p : ℕ = place_of (answers_at answers e) (rows_at e row) in
        let less : p < count_of D e = answered.place_inside Q is.query M tables N rows_at value_at are D is.eval answers is.answered e row inside in
        let same : row_image T M D rows_to nulls_to e row ≡ p = answered.row_is Q is.query M tables N rows_at value_at are D is.eval answers is.answered e row inside in
        subst (λ (r : ℕ). IsTermOf d (Entity e) (AtRow r) (Ent (row_term T D e p))) (sym same) (row_spelled T d is.given is.well e p less)

    value_right : (v : Value) (type : ℕ) → value_type T M.algebra.nulls v ≡ Some type → IsRight (Plain type) (AtValue v) (spelling v)
    value_right v type typed =
        let same : value_image T M D rows_to nulls_to v ≡ value_at v = answered.value_goes Q is.query M tables N rows_at value_at are D is.eval answers is.answered v type typed in
        let sorted = value_sorted T M D rows_to nulls_to is.well homomorphism v type typed in
        subst (λ (w : Value). IsTermOf d (Plain type) (AtValue (value_image T M D rows_to nulls_to v)) (Typ (value_term T D w))) same
        (value_spelled T d is.given is.well (value_image T M D rows_to nulls_to v) type sorted.0 sorted.1)

    pub value_typed : (v : Value) (type : ℕ) → value_type T M.algebra.nulls v ≡ Some type → value_type T D.algebra.nulls (value_at v) ≡ Some type
    value_typed v type typed =
        ap (value_type T D.algebra.nulls) (sym (answered.value_goes Q is.query M tables N rows_at value_at are D is.eval answers is.answered v type typed))
        ∙ (value_sorted T M D rows_to nulls_to is.well homomorphism v type typed).0

    -- the images are those of the rows and values for which generators stand
    pub record AreOf (image_at : ℕ × (Name × Sort) → Image) : Type 0 where
      pub of_row : (n : ℕ) (name : Name) (e row : ℕ) → slice_index_or i.assignment n (AtRow 0) ≡ AtRow row → row < count_of M e → image_at (n, (name, Entity e)) ≡ answer_term e row
      pub of_value : (n : ℕ) (name : Name) (type : ℕ) (v : Value) → slice_index_or i.assignment n (AtRow 0) ≡ AtValue v → value_type T M.algebra.nulls v ≡ Some type
          → image_at (n, (name, Plain type)) ≡ spelling v

    module _ (image_at : ℕ × (Name × Sort) → Image) (of : AreOf image_at) where
      abbrev images : List Image
      images = map image_at (enumerate_from 0 i.presentation.generators)

      abbrev B : Assignment
      B = meanings_in d images

      right_at : (n : ℕ) (name : Name) (sort : Sort) (m : Meaning) → slice_index_or i.assignment n (AtRow 0) ≡ m → HasSort T M sort m → IsRight sort m (image_at (n, (name, sort)))
      right_at n name (Entity e) (AtRow row) at sorted = subst (IsRight (Entity e) (AtRow row)) (sym (of.of_row n name e row at sorted)) (row_right e row sorted)
      right_at n name (Entity e) (AtValue v) at sorted = absurd sorted
      right_at n name (Plain type) (AtRow row) at sorted = absurd sorted
      right_at n name (Plain type) (AtValue v) at sorted = subst (IsRight (Plain type) (AtValue v)) (sym (of.of_value n name type v at sorted.0)) (value_right v type sorted.0)

      right : (n : ℕ) (g : Name × Sort) → slice_get i.presentation.generators n ≡ Some g → IsRight g.1 (slice_index_or i.assignment n (AtRow 0)) (image_at (n, g))
      right n g at = right_at n g.0 g.1 (slice_index_or i.assignment n (AtRow 0)) refl
          (subst (λ (S : Schema). HasSort S M g.1 (slice_index_or i.assignment n (AtRow 0))) is.over (is.source.sorts n g at))

      image_is : (n : ℕ) (g : Name × Sort) → slice_get i.presentation.generators n ≡ Some g → slice_get images n ≡ Some (image_at (n, g))
      image_is n g at =
          let here : 0 + n ≡ n = omega arith in
          get-map image_at (enumerate_from 0 i.presentation.generators) n (n, g) (enumerated 0 i.presentation.generators n g at ∙ ap (λ (m : ℕ). let p : ℕ × (Name × Sort) = (m, g) in Some p) here)

      pub sorted : AreSorted i d images
      sorted = record {
        count = length-map (enumerate_from 0 i.presentation.generators) image_at ∙ length-enumerate_from 0 i.presentation.generators;
        sorts = λ n g image at there.
            let both : Some (image_at (n, g)) ≡ Some image = sym (image_is n g at) ∙ there in
            let same : image_at (n, g) ≡ image = cc in
            ap (λ (x : Image). sort_of d.schema d.presentation.generators (term_of x)) (sym same) ∙ (right n g at).of_sort;
      }

      agrees : Agrees T i.presentation M D i.assignment B rows_to nulls_to
      agrees n g at =
          (right n g at).means
          ∙ sym (get_or_from_slice_get B n (meaning_of D d.assignment (term_of (image_at (n, g)))) (AtRow 0)
          (get-map (λ (x : Image). meaning_of D d.assignment (term_of x)) images n (image_at (n, g)) (image_is n g at)))

      -- over i's schema
      here_homomorphism : IsHomomorphism i.schema M D rows_to nulls_to
      here_homomorphism = subst (λ (S : Schema). IsHomomorphism S M D rows_to nulls_to) (sym is.over) homomorphism

      here_agrees : Agrees i.schema i.presentation M D i.assignment B rows_to nulls_to
      here_agrees = subst (λ (S : Schema). Agrees S i.presentation M D i.assignment B rows_to nulls_to) (sym is.over) agrees

      pub are_kept : AreKept i d images
      are_kept n e at =
          let presented = is.source.presented.equations n e at in
          sym (meaning_goes i.schema i.presentation M D i.assignment B rows_to nulls_to is.initial.0.holds here_homomorphism here_agrees (left_of e) presented.sort presented.left)
          ∙ ap (meaning_image i.schema M D rows_to nulls_to presented.sort) (is.initial.0.holds.equations n e at)
          ∙ meaning_goes i.schema i.presentation M D i.assignment B rows_to nulls_to is.initial.0.holds here_homomorphism here_agrees (right_of e) presented.sort presented.right

      -- what is made of the images is the homomorphism
      pub are_one : (made : Transform) → made.images ≡ images → GoesFrom made i d → (rows_to ≡ made.rows) × (nulls_to ≡ made.nulls)
      are_one made same there = one_homomorphism i.schema i.presentation M D i.assignment B (subst IsSchema (sym is.over) is.query.target) is.initial.0
          (subst (λ (l : List Image). Holds i.schema i.presentation D (meanings_in d l)) same there.holds) rows_to made.rows nulls_to made.nulls here_homomorphism here_agrees there.homomorphism
          (subst (λ (l : List Image). Agrees i.schema i.presentation M D i.assignment (meanings_in d l) made.rows made.nulls) same there.agrees)

    pub schemas : d.schema ≡ i.schema
    schemas = ap (λ (x : InstanceData). x.schema) is.given ∙ sym is.over

    -- rows go to their answers, and nulls to their values
    pub row_answered : (e row : ℕ) → row < count_of M e → slice_get (answers_at answers e) (row_image i.schema M D rows_to nulls_to e row) ≡ Some (rows_at e row)
    row_answered e row inside =
        ap (slice_get (answers_at answers e)) (answered.row_is Q is.query M tables N rows_at value_at are D is.eval answers is.answered e row inside)
        ∙ answered.placed Q is.query M tables N rows_at value_at are D is.eval answers is.answered e row inside

    null_type_at : (label : ℕ) → label < length M.algebra.nulls → (type : ℕ) × (value_type T M.algebra.nulls (Null label) ≡ Some type)
    null_type_at label within = let type = member_at M.algebra.nulls label within in (type.0, values.fold-Null (Option ℕ) (value_type_step T M.algebra.nulls) label ∙ type.1)

    pub null_valued : (label : ℕ) → label < length M.algebra.nulls → value_image i.schema M D rows_to nulls_to (Null label) ≡ value_at (Null label)
    null_valued label within =
        let typed = null_type_at label within in
        answered.value_goes Q is.query M tables N rows_at value_at are D is.eval answers is.answered (Null label) typed.0 typed.1

    -- no other homomorphism does so
    pub one : (rows : List (List ℕ)) (nulls : List Value) → IsHomomorphism i.schema M D rows nulls
        → ((e row : ℕ) → row < count_of M e → slice_get (answers_at answers e) (row_image i.schema M D rows nulls e row) ≡ Some (rows_at e row))
        → ((label : ℕ) → label < length M.algebra.nulls → value_image i.schema M D rows nulls (Null label) ≡ value_at (Null label))
        → (rows ≡ rows_to) × (nulls ≡ nulls_to)
    one rows nulls sends each_row each_null =
        let over : IsHomomorphism T M D rows nulls = subst (λ (S : Schema). IsHomomorphism S M D rows nulls) is.over sends in (
          answered.rows_same Q is.query M tables N rows_at value_at are D is.eval answers is.answered rows nulls over each_row each_null,
          answered.nulls_same Q is.query M tables N rows_at value_at are D is.eval answers is.answered rows nulls over each_row each_null,
        )
