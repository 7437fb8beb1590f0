-- The composite of two transforms is a transform.
use Rattle.std.proofs.Common.{ℕ, List, [], ◌∷◌, Some, ◌≡◌, ◌<◌, map, length, refl, sym, ap, subst, ◌∙◌, arith}
use Rattle.std.specs.Prelude.{slice_get, slice_index_or}
use Rattle.std.proofs.lemmas.List.{length-map}
use Rattle.std.proofs.lemmas.Option.{slice_get_within, get_or_from_slice_get}
use Rattle.cq_base.specs.declared.name.Name.{Name}
use Rattle.cq_theory.specs.declared.presentation.Equation.{Equation}
use Rattle.cq_theory.specs.declared.presentation.Presentation.{Presentation}
use Rattle.cq_theory.specs.declared.presentation.Sort.{Sort}
use Rattle.cq_theory.specs.declared.presentation.Sort.TheVariants.{Plain, Entity}
use Rattle.cq_theory.specs.declared.term.Term.{Term}
use Rattle.cq_theory.specs.declared.term.Term.TheVariants.{Ent, Typ}
use Rattle.cq_theory.specs.declared.value.Value.{Value}
use Rattle.cq_theory.specs.SchemaData.{SchemaData as Schema}
use Rattle.cq_theory.specs.Derivation.{left_of, right_of}
use Rattle.cq_theory.specs.Presentation.{IsEquation}
use Rattle.cq_theory.specs.Sorts.{entity_of, type_of, sort_of}
use Rattle.cq_theory.specs.Tables.{Tables, Meaning, AtRow, AtValue, Assignment, row_of, value_of, meaning_of, HasSort, IsWellFormed, Holds}
use Rattle.cq_theory.specs.Homomorphism.{IsHomomorphism}
use Rattle.cq_theory.proofs.ResolvedSorts.{map_some}
use Rattle.cq_instance.specs.InstanceData.{InstanceData, IsInstance}
use Rattle.cq_instance.specs.declared.transform.Image.{Image}
use Rattle.cq_instance.specs.declared.transform.Transform.{Transform}
use Rattle.cq_instance.proofs.Lists.{get-map}
use Rattle.cq_transform.specs.Agreement.{meaning_image, Agrees}
use Rattle.cq_transform.specs.Composing.{put_image, composed_images, composed_rows, composed_nulls, composed}
use Rattle.cq_transform.specs.Transforms.{term_of, meanings_in, GoesFrom}
use Rattle.cq_transform.proofs.Loops.{member_at}
use Rattle.cq_transform.proofs.Kept.{row_goes, value_goes}
use Rattle.cq_transform.proofs.Made.{free, free_holds, meaning_sorted}
use Rattle.cq_transform.proofs.Put.{image_kept}
use Rattle.cq_transform.proofs.Composed.{value_then, row_then, then_homomorphism}

-- a homomorphism that agrees with what generators stand for sends what a term means to what it means there
pub meaning_goes : (S : Schema) (P : Presentation) (M N : Tables) (A B : Assignment) (rows : List (List ℕ)) (nulls : List Value) → Holds S P M A → IsHomomorphism S M N rows nulls
    → Agrees S P M N A B rows nulls → (t : Term) (sort : Sort) → sort_of S P.generators t ≡ Some sort → meaning_image S M N rows nulls sort (meaning_of M A t) ≡ meaning_of N B t
meaning_goes S P M N A B rows nulls holds homomorphism agrees (Ent t) sort h =
    let found = map_some Entity (entity_of S P.generators t) sort h in
    ap (λ (s : Sort). meaning_image S M N rows nulls s (AtRow (row_of M A t))) (sym found.2) ∙ ap AtRow (row_goes S P M N A B rows nulls holds homomorphism agrees t found.0 found.1)
meaning_goes S P M N A B rows nulls holds homomorphism agrees (Typ t) sort h =
    let found = map_some Plain (type_of S P.generators t) sort h in
    ap (λ (s : Sort). meaning_image S M N rows nulls s (AtValue (value_of M A t))) (sym found.2) ∙ ap AtValue (value_goes S P M N A B rows nulls holds homomorphism agrees t found.0 found.1)

module _ (i j k : InstanceData) (f g : Transform) (start : IsInstance i) (middle : IsInstance j) (last : IsInstance k) (first : GoesFrom f i j) (second : GoesFrom g j k) where
  abbrev S : Schema
  S = j.schema

  abbrev Bf : Assignment
  Bf = meanings_in j f.images

  abbrev Bg : Assignment
  Bg = meanings_in k g.images

  abbrev images : List Image
  images = composed_images f.images g.images

  abbrev B : Assignment
  B = meanings_in k images

  abbrev rows : List (List ℕ)
  rows = composed_rows j k f g

  abbrev nulls : List Value
  nulls = composed_nulls j k f g

  -- the first transform, over the schema of j
  start_formed : IsWellFormed S i.tables
  start_formed = subst (λ (T : Schema). IsWellFormed T i.tables) (sym first.schema) start.well_formed

  first_homomorphism : IsHomomorphism S i.tables j.tables f.rows f.nulls
  first_homomorphism = subst (λ (T : Schema). IsHomomorphism T i.tables j.tables f.rows f.nulls) (sym first.schema) first.homomorphism

  first_holds : Holds S i.presentation j.tables Bf
  first_holds = subst (λ (T : Schema). Holds T i.presentation j.tables Bf) (sym first.schema) first.holds

  first_agrees : Agrees S i.presentation i.tables j.tables i.assignment Bf f.rows f.nulls
  first_agrees = subst (λ (T : Schema). Agrees T i.presentation i.tables j.tables i.assignment Bf f.rows f.nulls) (sym first.schema) first.agrees

  second_sorts : (n : ℕ) (x : Name × Sort) (image : Image) → slice_get j.presentation.generators n ≡ Some x → slice_get g.images n ≡ Some image
      → sort_of S k.presentation.generators (term_of image) ≡ Some x.1
  second_sorts n x image at here = ap (λ (T : Schema). sort_of T k.presentation.generators (term_of image)) (sym second.schema) ∙ second.sorts n x image at here

  -- the image of a generator of i in the composite
  record IsComposed (n : ℕ) (sort : Sort) : Type 0 where
    image : Image
    stands : slice_get f.images n ≡ Some image
    of_sort : sort_of S j.presentation.generators (term_of image) ≡ Some sort
    put_sort : sort_of S k.presentation.generators (term_of (put_image g.images image)) ≡ Some sort
    put_stands : slice_get images n ≡ Some (put_image g.images image)
    before : slice_index_or Bf n (AtRow 0) ≡ meaning_of j.tables j.assignment (term_of image)
    after : slice_index_or B n (AtRow 0) ≡ meaning_of k.tables k.assignment (term_of (put_image g.images image))
    means : meaning_of k.tables k.assignment (term_of (put_image g.images image)) ≡ meaning_of k.tables Bg (term_of image)

  composed_at : (n : ℕ) (x : Name × Sort) → slice_get i.presentation.generators n ≡ Some x → IsComposed n x.1
  composed_at n x at =
      let image = member_at f.images n (omega (arith, first.count, slice_get_within i.presentation.generators n x at)) in
      let sorted : sort_of S j.presentation.generators (term_of image.0) ≡ Some x.1 = first.sorts n x image.0 at image.1 in
      let kept = image_kept S j.presentation k.presentation g.images k.tables k.assignment second.count second_sorts image.0 x.1 sorted in
      let put : slice_get images n ≡ Some (put_image g.images image.0) = get-map (put_image g.images) f.images n image.0 image.1 in
      record {
        image = image.0;
        stands = image.1;
        of_sort = sorted;
        put_sort = kept.0;
        put_stands = put;
        before = get_or_from_slice_get Bf n (meaning_of j.tables j.assignment (term_of image.0)) (AtRow 0)
            (get-map (λ (y : Image). meaning_of j.tables j.assignment (term_of y)) f.images n image.0 image.1);
        after = get_or_from_slice_get B n (meaning_of k.tables k.assignment (term_of (put_image g.images image.0))) (AtRow 0)
            (get-map (λ (y : Image). meaning_of k.tables k.assignment (term_of y)) images n (put_image g.images image.0) put);
        means = kept.1;
      }

  generator_then : Agrees S i.presentation j.tables k.tables Bf B g.rows g.nulls
  generator_then n x at =
      let c = composed_at n x at in
      ap (meaning_image S j.tables k.tables g.rows g.nulls x.1) c.before
      ∙ meaning_goes S (free i j first.schema middle) j.tables k.tables j.assignment Bg g.rows g.nulls (free_holds i j first.schema middle) second.homomorphism second.agrees
      (term_of c.image) x.1 c.of_sort
      ∙ sym c.means ∙ sym c.after

  meaning_sort : (n : ℕ) (x : Name × Sort) → slice_get i.presentation.generators n ≡ Some x → HasSort S k.tables x.1 (slice_index_or B n (AtRow 0))
  meaning_sort n x at =
      let c = composed_at n x at in
      let t : Term = term_of (put_image g.images c.image) in
      let sorted : sort_of k.schema k.presentation.generators t ≡ Some x.1 = ap (λ (T : Schema). sort_of T k.presentation.generators t) second.schema ∙ c.put_sort in
      subst (HasSort S k.tables x.1) (sym c.after)
      (subst (λ (T : Schema). HasSort T k.tables x.1 (meaning_of k.tables k.assignment t)) second.schema (meaning_sorted j k second.schema last t x.1 sorted))

  sides_then : (n : ℕ) (e : Equation) → slice_get i.presentation.equations n ≡ Some e → meaning_of k.tables B (left_of e) ≡ meaning_of k.tables B (right_of e)
  sides_then n e at =
      let h : IsEquation S i.presentation e = subst (λ (T : Schema). IsEquation T i.presentation e) (sym first.schema) (start.presented.equations n e at) in
      let left = meaning_goes S i.presentation j.tables k.tables Bf B g.rows g.nulls first_holds second.homomorphism generator_then (left_of e) h.sort h.left in
      let right = meaning_goes S i.presentation j.tables k.tables Bf B g.rows g.nulls first_holds second.homomorphism generator_then (right_of e) h.sort h.right in
      sym left ∙ ap (meaning_image S j.tables k.tables g.rows g.nulls h.sort) (first_holds.equations n e at) ∙ right

  count_then : length images ≡ length i.presentation.generators
  count_then = length-map f.images (put_image g.images) ∙ first.count

  holds_then : Holds S i.presentation k.tables B
  holds_then = record {
    well_formed = second.holds.well_formed;
    count = length-map images (λ (y : Image). meaning_of k.tables k.assignment (term_of y)) ∙ count_then;
    sorts = meaning_sort;
    schema = second.holds.schema;
    equations = sides_then;
  }

  homomorphism_then : IsHomomorphism S i.tables k.tables rows nulls
  homomorphism_then =
      then_homomorphism S i.tables j.tables k.tables f.rows g.rows f.nulls g.nulls start_formed second.holds.well_formed first_homomorphism second.homomorphism

  meaning_then : (sort : Sort) (m : Meaning) → HasSort S i.tables sort m
      → meaning_image S i.tables k.tables rows nulls sort m ≡ meaning_image S j.tables k.tables g.rows g.nulls sort (meaning_image S i.tables j.tables f.rows f.nulls sort m)
  meaning_then (Entity e) (AtRow r) h =
      ap AtRow (row_then S i.tables j.tables k.tables f.rows g.rows f.nulls g.nulls start_formed second.holds.well_formed first_homomorphism second.homomorphism e r h)
  meaning_then (Entity e) (AtValue v) h = absurd h
  meaning_then (Plain type) (AtRow r) h = absurd h
  meaning_then (Plain type) (AtValue v) h =
      ap AtValue (value_then S i.tables j.tables k.tables f.rows g.rows f.nulls g.nulls start_formed second.holds.well_formed first_homomorphism second.homomorphism v)

  agrees_then : Agrees S i.presentation i.tables k.tables i.assignment B rows nulls
  agrees_then n x at =
      meaning_then x.1 (slice_index_or i.assignment n (AtRow 0)) (subst (λ (T : Schema). HasSort T i.tables x.1 (slice_index_or i.assignment n (AtRow 0))) (sym first.schema) (start.sorts n x at))
      ∙ ap (meaning_image S j.tables k.tables g.rows g.nulls x.1) (first_agrees n x at) ∙ generator_then n x at

  sorts_then : (n : ℕ) (x : Name × Sort) (image : Image) → slice_get i.presentation.generators n ≡ Some x → slice_get images n ≡ Some image
      → sort_of k.schema k.presentation.generators (term_of image) ≡ Some x.1
  sorts_then n x image at here =
      let c = composed_at n x at in
      let both : Some (put_image g.images c.image) ≡ Some image = sym c.put_stands ∙ here in
      let same : put_image g.images c.image ≡ image = cc in
      ap (λ (T : Schema). sort_of T k.presentation.generators (term_of image)) second.schema
      ∙ ap (λ (y : Image). sort_of S k.presentation.generators (term_of y)) (sym same) ∙ c.put_sort

  whole : GoesFrom (composed j k f g) i k
  whole = record {
    schema = second.schema ∙ first.schema;
    count = count_then;
    sorts = sorts_then;
    holds = subst (λ (T : Schema). Holds T i.presentation k.tables B) first.schema holds_then;
    homomorphism = subst (λ (T : Schema). IsHomomorphism T i.tables k.tables rows nulls) first.schema homomorphism_then;
    agrees = subst (λ (T : Schema). Agrees T i.presentation i.tables k.tables i.assignment B rows nulls) first.schema agrees_then;
  }

  pub composite_goes : (made : Transform) → made ≡ composed j k f g → GoesFrom made i k
  composite_goes made is = subst (λ (t : Transform). GoesFrom t i k) (sym is) whole
