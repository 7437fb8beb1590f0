-- Images that are sorted and keep the equations make a transform.
use Rattle.std.proofs.Common.{ℕ, List, [], ◌∷◌, Option, Some, ◌≡◌, ◌<◌, map, length, get_or, refl, sym, ap, subst, ◌∙◌, arith}
use Rattle.std.specs.Prelude.{slice_get, slice_index, slice_index_or, option_map, All}
use Rattle.std.proofs.lemmas.List.{length-map}
use Rattle.std.proofs.lemmas.List.FromFn.{get_or-map-range_with_len, length-map-range_with_len}
use Rattle.std.proofs.lemmas.Option.{get_or_from_slice_get, slice_get_within, slice_get-get_or}
use Rattle.cq_base.specs.declared.name.Name.{Name}
use Rattle.cq_theory.specs.declared.constant.Con.TheVariants.{Named}
use Rattle.cq_theory.specs.declared.presentation.Equation.{Equation}
use Rattle.cq_theory.specs.declared.presentation.Equation.TheVariants.{Ent as EntEquation, Typ as TypEquation}
use Rattle.cq_theory.specs.declared.presentation.Presentation.{Presentation}
use Rattle.cq_theory.specs.declared.presentation.Sort.{Sort}
use Rattle.cq_theory.specs.declared.presentation.Sort.TheVariants.{Plain, Entity}
use Rattle.cq_theory.specs.declared.term.Term.{Term}
use Rattle.cq_theory.specs.declared.term.Term.TheVariants.{Ent, Typ}
use Rattle.cq_theory.specs.declared.value.Value.{Value}
use Rattle.cq_theory.specs.declared.value.Value.TheVariants.{Const}
use Rattle.cq_theory.specs.SchemaData.{SchemaData as Schema}
use Rattle.cq_theory.specs.Schema.{IsSchema}
use Rattle.cq_theory.specs.Presentation.{IsPresentation, IsEquation}
use Rattle.cq_theory.specs.Canonical.{below}
use Rattle.cq_theory.specs.Sorts.{Generators, entity_of, type_of, sort_of, IsGround}
use Rattle.cq_theory.specs.Tables.{Tables, Assignment, AtRow, count_of, row_of, meaning_of, HasSort, IsWellFormed, Satisfies, Holds}
use Rattle.cq_theory.specs.Homomorphism.{row_image}
use Rattle.cq_theory.proofs.ResolvedSorts.{map_some}
use Rattle.cq_theory.proofs.Sound.{row_of-within}
use Rattle.cq_theory.proofs.Typing.{value_typed}
use Rattle.cq_instance.specs.InstanceData.{InstanceData, IsInstance, name_at}
use Rattle.cq_instance.specs.Terms.{AreStandings}
use Rattle.cq_instance.specs.declared.transform.Image.{Image}
use Rattle.cq_instance.specs.declared.transform.Transform.{Transform}
use Rattle.cq_instance.proofs.Lists.{get-map, All_from}
use Rattle.cq_transform.specs.Nulls.{IsInitial, AreNulls}
use Rattle.cq_transform.specs.Refusals.{HasSides}
use Rattle.cq_transform.specs.Rows.{row_there, rows_there, rows_made}
use Rattle.cq_transform.specs.Transforming.{AreKept, AreSorted}
use Rattle.cq_transform.specs.Transforms.{term_of, meanings_in, GoesFrom}
use Rattle.cq_transform.proofs.Loops.{member_at}
use Rattle.cq_transform.proofs.ExactlyOne.{within_counts}
use Rattle.cq_transform.proofs.ImagesOfTerms.{AreImages, images_homomorphism, images_agree}
use Rattle.cq_transform.proofs.Normal.{value_normal}

module _ (i j : InstanceData) (same : j.schema ≡ i.schema) (instance : IsInstance j) where
  abbrev G : Generators
  G = i.presentation.generators

  abbrev H : Generators
  H = j.presentation.generators

  -- the generators of j, without equations, hold in j
  abbrev pub free : Presentation
  free = record { generators = H; equations = [] }

  pub free_holds : Holds j.schema free j.tables j.assignment
  free_holds = record {
    well_formed = instance.well_formed;
    count = instance.assigned;
    sorts = instance.sorts;
    schema = instance.satisfies;
    equations = λ n e at. cc;
  }

  -- what a term means is of its sort
  pub meaning_sorted : (t : Term) (sort : Sort) → sort_of j.schema H t ≡ Some sort → HasSort j.schema j.tables sort (meaning_of j.tables j.assignment t)
  meaning_sorted (Ent t) sort h =
      let e = map_some Entity (entity_of j.schema H t) sort h in
      subst (λ (s : Sort). HasSort j.schema j.tables s (AtRow (row_of j.tables j.assignment t))) e.2 (row_of-within j.schema free j.tables j.assignment free_holds t e.0 e.1)
  meaning_sorted (Typ t) sort h =
      let e = map_some Plain (type_of j.schema H t) sort h in
      subst (λ (s : Sort). HasSort j.schema j.tables s (meaning_of j.tables j.assignment (Typ t))) e.2
      (value_typed j.schema free j.tables j.assignment free_holds t e.0 e.1, value_normal j.schema free j.tables j.assignment free_holds t e.0 e.1)

  module _ (images : List Image) (sorted : AreSorted i j images) where
    abbrev B : Assignment
    B = meanings_in j images

    meanings_count : length B ≡ length G
    meanings_count = length-map images (λ image. meaning_of j.tables j.assignment (term_of image)) ∙ sorted.count

    meanings_sorted : (n : ℕ) (g : Name × Sort) → slice_get G n ≡ Some g → HasSort j.schema j.tables g.1 (slice_index_or B n (AtRow 0))
    meanings_sorted n g at =
        let image = member_at images n (omega (arith, sorted.count, slice_get_within G n g at)) in
        let is : slice_index_or B n (AtRow 0) ≡ meaning_of j.tables j.assignment (term_of image.0) =
        get_or_from_slice_get B n (meaning_of j.tables j.assignment (term_of image.0)) (AtRow 0)
        (get-map (λ (x : Image). meaning_of j.tables j.assignment (term_of x)) images n image.0 image.1) in
        subst (HasSort j.schema j.tables g.1) (sym is) (meaning_sorted (term_of image.0) g.1 (sorted.sorts n g image.0 at image.1))

    pub are_standings : AreStandings j.schema j.tables G B
    are_standings = record { count = meanings_count; sorts = meanings_sorted }

    -- each image is a term over j
    pub images_ground : All (λ image. IsGround j.schema j.presentation (term_of image)) images
    images_ground = All_from (λ image. IsGround j.schema j.presentation (term_of image)) images (λ n image at.
        let g = member_at G n (omega (arith, sorted.count, slice_get_within images n image at)) in
        (g.0.1, sorted.sorts n g.0 image g.1 at))

    -- the sides of an equation of i are terms over what the images mean
    pub has_sides : IsPresentation i.schema i.presentation → (n : ℕ) (e : Equation) → slice_get i.presentation.equations n ≡ Some e → HasSides j.schema j.tables B e
    has_sides presented n e at = sides e (subst (λ (T : Schema). IsEquation T i.presentation e) (sym same) (presented.equations n e at))
      where
        sides : (e : Equation) → IsEquation j.schema i.presentation e → HasSides j.schema j.tables B e
        sides (EntEquation t u) h =
            let a = map_some Entity (entity_of j.schema G t) h.sort h.left in
            let b = map_some Entity (entity_of j.schema G u) h.sort h.right in
            let one : Entity b.0 ≡ Entity a.0 = b.2 ∙ sym a.2 in
            let entity : b.0 ≡ a.0 = cc in (
              a.0,
              record { generators = G; standings = are_standings; of_entity = a.1 },
              record { generators = G; standings = are_standings; of_entity = b.1 ∙ ap (λ (m : ℕ). Some m) entity },
            )
        sides (TypEquation t u) h =
            let a = map_some Plain (type_of j.schema G t) h.sort h.left in
            let b = map_some Plain (type_of j.schema G u) h.sort h.right in
            let one : Plain b.0 ≡ Plain a.0 = b.2 ∙ sym a.2 in
            let type : b.0 ≡ a.0 = cc in (
              a.0,
              record { generators = G; standings = are_standings; typed = a.1 },
              record { generators = G; standings = are_standings; typed = b.1 ∙ ap (λ (m : ℕ). Some m) type },
            )

    -- so over lists that are those of the instances
    pub sides_over : IsPresentation i.schema i.presentation → (C : Assignment) (equations : List Equation) → C ≡ B → equations ≡ i.presentation.equations
        → (n : ℕ) (e : Equation) → slice_get equations n ≡ Some e → HasSides j.schema j.tables C e
    sides_over presented C equations meant listed n e at =
        subst (λ (D : Assignment). HasSides j.schema j.tables D e) (sym meant) (has_sides presented n e (ap (λ (l : List Equation). slice_get l n) (sym listed) ∙ at))

    module _ (kept : AreKept i j images) where
      presentation_holds : Holds i.schema i.presentation j.tables B
      presentation_holds = record {
        well_formed = subst (λ (T : Schema). IsWellFormed T j.tables) same instance.well_formed;
        count = meanings_count;
        sorts = λ n g at. subst (λ (T : Schema). HasSort T j.tables g.1 (slice_index_or B n (AtRow 0))) same (meanings_sorted n g at);
        schema = subst (λ (T : Schema). Satisfies T j.tables) same instance.satisfies;
        equations = kept;
      }

      module _ (schema : IsSchema i.schema) (initial : IsInitial i) (nulls : List Value) (spelled : AreNulls i j B nulls) where
        abbrev rows : List (List ℕ)
        rows = rows_made i j B

        list_is : (e : ℕ) → e < length i.schema.entities → slice_index_or rows e [] ≡ rows_there i j B e
        list_is e known = get_or-map-range_with_len (rows_there i j B) 0 (length i.schema.entities) e e [] known (omega arith)

        row_is : (e row : ℕ) → row < count_of i.tables e → row_there i j B e row ≡ row_image i.schema i.tables j.tables rows nulls e row
        row_is e row within =
            let known : e < length i.schema.entities = omega (arith, within_counts i.tables.sheet.counts e row within, initial.0.holds.well_formed.entities) in
            let here : slice_index (rows_there i j B e) row ≡ row_there i j B e row = get_or-map-range_with_len (row_there i j B e) 0 (count_of i.tables e) row row 0 within (omega arith) in
            sym (ap (λ (l : List ℕ). slice_index l row) (list_is e known) ∙ here)

        counts : (e : ℕ) (list : List ℕ) → slice_get rows e ≡ Some list → length list ≡ count_of i.tables e
        counts e list at =
            let known : e < length i.schema.entities = omega (arith, slice_get_within rows e list at, length-map-range_with_len (rows_there i j B) 0 (length i.schema.entities)) in
            ap length (sym (get_or_from_slice_get rows e list [] at) ∙ list_is e known) ∙ length-map-range_with_len (row_there i j B e) 0 (count_of i.tables e)

        are_images : AreImages i.schema i.presentation i.tables j.tables i.assignment B rows nulls
        are_images = record {
          entities = length-map-range_with_len (rows_there i j B) 0 (length i.schema.entities);
          counted = counts;
          each_row = λ e row within.
              let least = initial.1 e row within in
              record { name = name_at i.names e row; of_entity = least.of_entity; here = least.of_row; there = row_is e row within };
          null_count = spelled.count;
          each_null = λ label within.
              let s = spelled.spelled label within in
              record { name = s.name; type = s.type; typed = s.typed; here = s.here; there = s.there };
        }

        whole : GoesFrom (record { images = images; rows = rows; nulls = nulls }) i j
        whole = record {
          schema = same;
          count = sorted.count;
          sorts = sorted.sorts;
          holds = presentation_holds;
          homomorphism = images_homomorphism i.schema i.presentation i.tables j.tables i.assignment B schema initial.0 presentation_holds rows nulls are_images;
          agrees = images_agree i.schema i.presentation i.tables j.tables i.assignment B schema initial.0 presentation_holds rows nulls are_images;
        }

        -- the transform of these images, rows and nulls
        pub goes_from : (images' : List Image) (rows' : List (List ℕ)) → images' ≡ images → rows' ≡ rows → GoesFrom (record { images = images'; rows = rows'; nulls = nulls }) i j
        goes_from images' rows' e f = subst (λ (x : List Image × List (List ℕ)). GoesFrom (record { images = x.0; rows = x.1; nulls = nulls }) i j) (λ k. (sym e k, sym f k)) whole

-- the same, where what the images mean is given
pub made_goes : (i j : InstanceData) (same : j.schema ≡ i.schema) (instance : IsInstance j) (images : List Image) (sorted : AreSorted i j images) (kept : AreKept i j images) (schema : IsSchema i.schema)
    (C : Assignment) → C ≡ meanings_in j images → (made : Transform) → made.images ≡ images → made.rows ≡ rows_made i j C → (IsInitial i → AreNulls i j C made.nulls) → IsInitial i → GoesFrom made i j
made_goes i j same instance images sorted kept schema C meant made e f nulls initial =
    goes_from i j same instance images sorted kept schema initial made.nulls (subst (λ (D : Assignment). AreNulls i j D made.nulls) meant (nulls initial))
    made.images made.rows e (f ∙ ap (rows_made i j) meant)
