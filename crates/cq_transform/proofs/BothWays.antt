-- Tables and the initial model of their canonical presentation: transforms both ways, each of which undoes the other.
use Rattle.std.proofs.Common.{ℕ, zero, suc, List, [], ◌∷◌, Option, Some, ◌≡◌, ◌<◌, inl, inr, map, length, refl, sym, ap, subst, ◌∙◌, arith}
use Rattle.std.specs.Prelude.{slice_get, slice_index_or, option_map}
use Rattle.std.proofs.lemmas.List.{length-map}
use Rattle.std.proofs.lemmas.Option.{get_or_from_slice_get, slice_get_within}
use Rattle.cq_base.specs.declared.name.Name.{Name}
use Rattle.cq_theory.specs.declared.presentation.Presentation.{Presentation}
use Rattle.cq_theory.specs.declared.presentation.Equation.{Equation}
use Rattle.cq_theory.specs.declared.presentation.Sort.{Sort}
use Rattle.cq_theory.specs.declared.presentation.Sort.TheVariants.{Plain, Entity}
use Rattle.cq_theory.specs.declared.term.Term.{Term}
use Rattle.cq_theory.specs.declared.term.Term.TheVariants.{Ent, Typ}
use Rattle.cq_theory.specs.declared.value.Value.{Value}
use Rattle.cq_theory.specs.declared.value.Value.TheVariants.{Null}
use Rattle.cq_theory.specs.Canonical.{canonical, canonical_assignment, row_term, value_term}
use Rattle.cq_theory.specs.Derivation.{left_of, right_of}
use Rattle.cq_theory.specs.Homomorphism.{row_image, value_image, IsHomomorphism}
use Rattle.cq_theory.specs.Presentation.{IsPresentation}
use Rattle.cq_theory.specs.Schema.{IsSchema}
use Rattle.cq_theory.specs.SchemaData.{SchemaData as Schema}
use Rattle.cq_theory.specs.Sorts.{entity_of, type_of, sort_of}
use Rattle.cq_theory.specs.Tables.{Tables, Meaning, AtRow, AtValue, Assignment, count_of, row_of, value_of, meaning_of, value_type, value_type_step, HasSort, Holds, Initial}
use Rattle.cq_theory.proofs.ResolvedSorts.{map_some}
use Rattle.cq_theory.proofs.Sound.{row_of-within}
use Rattle.cq_theory.proofs.Typing.{value_typed}
use Rattle.cq_theory.proofs.Values.{fold-Null}
use Rattle.cq_instance.specs.InstanceData.{InstanceData}
use Rattle.cq_instance.specs.declared.transform.Image.{Image}
use Rattle.cq_instance.specs.declared.transform.Image.TheVariants.{Row, Value as ValueImage}
use Rattle.cq_instance.specs.declared.transform.Transform.{Transform}
use Rattle.cq_instance.proofs.Lists.{get-map}
use Rattle.cq_instance.proofs.CanonicalDerived as derived
use Rattle.cq_instance.proofs.CanonicalGenerators as generators
use Rattle.cq_instance.proofs.CanonicalTerms as terms
use Rattle.cq_transform.specs.Agreement.{meaning_image, Agrees}
use Rattle.cq_transform.specs.OneToOne.{AreOneToOne}
use Rattle.cq_transform.specs.Transforms.{term_of, GoesFrom}
use Rattle.cq_transform.proofs.Composites.{meaning_goes}
use Rattle.cq_transform.proofs.ExactlyOne.{some_homomorphism}
use Rattle.cq_transform.proofs.Kept.{row_goes, value_goes}
use Rattle.cq_transform.proofs.Loops.{member_at}
use Rattle.cq_transform.proofs.Normal.{value_normal}

-- one for each member of a list, if there is one for each
record AreChosen {X Y : Type 0} (R : ℕ → X → Y → Type 0) (xs : List X) : Type 0 where
  pub ys : List Y
  pub count : length ys ≡ length xs
  pub each : (n : ℕ) (x : X) (y : Y) → slice_get xs n ≡ Some x → slice_get ys n ≡ Some y → R n x y

chosen : {X Y : Type 0} (R : ℕ → X → Y → Type 0) (xs : List X) → ((n : ℕ) (x : X) → slice_get xs n ≡ Some x → (y : Y) × R n x y) → AreChosen R xs
chosen R [] some = record { ys = []; count = refl; each = λ n x y at here. cc }
chosen {X = X} {Y = Y} R (x ∷ xs) some =
    let first : (y : Y) × R 0 x y = some 0 x refl in
    let rest : AreChosen (λ (n : ℕ) (z : X) (y : Y). R (suc n) z y) xs = chosen (λ n z y. R (suc n) z y) xs (λ n z at. some (suc n) z at) in
    record { ys = first.0 ∷ rest.ys; count = ap suc rest.count; each = each_of first.0 first.1 rest }
  where
    each_of : (y : Y) → R 0 x y → (rest : AreChosen (λ n z w. R (suc n) z w) xs) → (n : ℕ) (z : X) (w : Y) → slice_get (x ∷ xs) n ≡ Some z → slice_get (y ∷ rest.ys) n ≡ Some w → R n z w
    each_of y is rest zero z w at here =
        let left : x ≡ z = cc in
        let right : y ≡ w = cc in
        subst (λ (p : X × Y). R 0 p.0 p.1) (λ i. (left i, right i)) is
    each_of y is rest (suc n) z w at here = rest.each n z w at here

-- What a term means in a model is of its sort.
meaning_sorted : (S : Schema) (P : Presentation) (M : Tables) (A : Assignment) → Holds S P M A → (t : Term) (sort : Sort) → sort_of S P.generators t ≡ Some sort → HasSort S M sort (meaning_of M A t)
meaning_sorted S P M A holds (Ent t) sort h =
    let e = map_some Entity (entity_of S P.generators t) sort h in
    subst (λ (s : Sort). HasSort S M s (AtRow (row_of M A t))) e.2 (row_of-within S P M A holds t e.0 e.1)
meaning_sorted S P M A holds (Typ t) sort h =
    let e = map_some Plain (type_of S P.generators t) sort h in
    subst (λ (s : Sort). HasSort S M s (AtValue (value_of M A t))) e.2 (value_typed S P M A holds t e.0 e.1, value_normal S P M A holds t e.0 e.1)

-- Along a homomorphism, images that mean what the generators are sent to are a transform.
module _ (S : Schema) (P Q : Presentation) (M N : Tables) (A B : Assignment) (presented : IsPresentation S P) (start : Holds S P M A) (finish : Holds S Q N B)
    (rows : List (List ℕ)) (nulls : List Value) (homomorphism : IsHomomorphism S M N rows nulls) (one other : InstanceData) where
  abbrev from : InstanceData
  from = record one { schema = S; presentation = P; tables = M; assignment = A }

  abbrev to : InstanceData
  to = record other { schema = S; presentation = Q; tables = N; assignment = B }

  -- the image is a term of the generator's sort, and means what the generator is sent to
  record IsImageOf (n : ℕ) (g : Name × Sort) (image : Image) : Type 0 where
    pub sorted : sort_of S Q.generators (term_of image) ≡ Some g.1
    pub means : meaning_of N B (term_of image) ≡ meaning_image S M N rows nulls g.1 (slice_index_or A n (AtRow 0))

  module _ (images : List Image) (count : length images ≡ length P.generators)
      (each : (n : ℕ) (g : Name × Sort) (image : Image) → slice_get P.generators n ≡ Some g → slice_get images n ≡ Some image → IsImageOf n g image) where
    abbrev there : Assignment
    there = map (λ (x : Image). meaning_of N B (term_of x)) images

    record IsSentTo (n : ℕ) (g : Name × Sort) : Type 0 where
      pub image : Image
      pub at : slice_get images n ≡ Some image
      pub is : IsImageOf n g image
      pub stands : slice_index_or (map (λ (x : Image). meaning_of N B (term_of x)) images) n (AtRow 0) ≡ meaning_of N B (term_of image)

    sent : (n : ℕ) (g : Name × Sort) → slice_get P.generators n ≡ Some g → IsSentTo n g
    sent n g at =
        let image = member_at images n (omega (arith, count, slice_get_within P.generators n g at)) in
        record {
          image = image.0;
          at = image.1;
          is = each n g image.0 at image.1;
          stands = get_or_from_slice_get there n (meaning_of N B (term_of image.0)) (AtRow 0) (get-map (λ (x : Image). meaning_of N B (term_of x)) images n image.0 image.1);
        }

    agrees : Agrees S P M N A there rows nulls
    agrees n g at = let s = sent n g at in sym (s.stands ∙ s.is.means)

    equations : (n : ℕ) (e : Equation) → slice_get P.equations n ≡ Some e → meaning_of N there (left_of e) ≡ meaning_of N there (right_of e)
    equations n e at =
        let right = presented.equations n e at in
        sym (meaning_goes S P M N A there rows nulls start homomorphism agrees (left_of e) right.sort right.left)
        ∙ ap (meaning_image S M N rows nulls right.sort) (start.equations n e at)
        ∙ meaning_goes S P M N A there rows nulls start homomorphism agrees (right_of e) right.sort right.right

    holds_there : Holds S P N there
    holds_there = record {
      well_formed = finish.well_formed;
      count = length-map images (λ (x : Image). meaning_of N B (term_of x)) ∙ count;
      sorts = λ n g at.
          let s = sent n g at in
          subst (HasSort S N g.1) (sym s.stands) (meaning_sorted S Q N B finish (term_of s.image) g.1 s.is.sorted);
      schema = finish.schema;
      equations = equations;
    }

    goes : GoesFrom (record { images = images; rows = rows; nulls = nulls }) from to
    goes = record {
      schema = refl;
      count = count;
      sorts = λ n g image at here. (each n g image at here).sorted;
      holds = holds_there;
      homomorphism = homomorphism;
      agrees = agrees;
    }

  -- so where there is such an image of each generator
  some_transform : ((n : ℕ) (g : Name × Sort) → slice_get P.generators n ≡ Some g → (image : Image) × IsImageOf n g image)
      → (images : List Image) × GoesFrom (record { images = images; rows = rows; nulls = nulls }) from to
  some_transform some =
      let all = chosen IsImageOf P.generators some in
      (all.ys, goes all.ys all.count all.each)

-- Homomorphisms both ways that agree with what the generators of an initial model stand for undo each other.
module _ (S : Schema) (P : Presentation) (M N : Tables) (A B : Assignment) (initial : Initial S P M A) (finish : Holds S P N B)
    (rows rows' : List (List ℕ)) (nulls nulls' : List Value)
    (homomorphism : IsHomomorphism S M N rows nulls) (agrees : Agrees S P M N A B rows nulls)
    (homomorphism' : IsHomomorphism S N M rows' nulls') (agrees' : Agrees S P N M B A rows' nulls') where
  row_undone : (entity row : ℕ) → row < count_of M entity → row_image S N M rows' nulls' entity (row_image S M N rows nulls entity row) ≡ row
  row_undone entity row within =
      let name = initial.rows entity row within in
      ap (λ r. row_image S N M rows' nulls' entity (row_image S M N rows nulls entity r)) (sym name.2)
      ∙ ap (row_image S N M rows' nulls' entity) (row_goes S P M N A B rows nulls initial.holds homomorphism agrees name.0 entity name.1)
      ∙ row_goes S P N M B A rows' nulls' finish homomorphism' agrees' name.0 entity name.1 ∙ name.2

  null_undone : (label : ℕ) → label < length M.algebra.nulls → value_image S N M rows' nulls' (value_image S M N rows nulls (Null label)) ≡ Null label
  null_undone label within =
      let name = initial.nulls label within in
      let typed = map_some Plain (type_of S P.generators name.0) name.1 name.2 in
      ap (λ v. value_image S N M rows' nulls' (value_image S M N rows nulls v)) (sym name.3)
      ∙ ap (value_image S N M rows' nulls') (value_goes S P M N A B rows nulls initial.holds homomorphism agrees name.0 typed.0 typed.1)
      ∙ value_goes S P N M B A rows' nulls' finish homomorphism' agrees' name.0 typed.0 typed.1 ∙ name.3

module _ (S : Schema) (P : Presentation) (M N : Tables) (A B : Assignment) (schema : IsSchema S) (presented : IsPresentation S P) (first : Initial S P M A)
    (canonical_presented : IsPresentation S (canonical S M)) (second : Initial S (canonical S M) N B) (one other : InstanceData) where
  abbrev Q : Presentation
  Q = canonical S M

  abbrev C : Assignment
  C = canonical_assignment S M

  abbrev same : length M.sheet.counts ≡ length S.entities
  same = first.holds.well_formed.entities

  own : Initial S Q M C
  own = derived.initial S M schema first.holds.well_formed first.holds.schema

  module _ (rows rows' : List (List ℕ)) (nulls nulls' : List Value) (onto : IsHomomorphism S M N rows nulls) (onto_agrees : Agrees S Q M N C B rows nulls)
      (back : IsHomomorphism S N M rows' nulls') (back_agrees : Agrees S Q N M B C rows' nulls') where
    abbrev Images : ℕ → Name × Sort → Image → Type 0
    Images = IsImageOf S P Q M N A B presented first.holds second.holds rows nulls onto one other

    abbrev ImagesBack : ℕ → Name × Sort → Image → Type 0
    ImagesBack = IsImageOf S Q P N M B A canonical_presented second.holds first.holds rows' nulls' back other one

    -- what a generator stands for, as a term over the canonical presentation
    term_there : (sort : Sort) (m : Meaning) → HasSort S M sort m
        → (image : Image) × (sort_of S Q.generators (term_of image) ≡ Some sort) × (meaning_of N B (term_of image) ≡ meaning_image S M N rows nulls sort m)
    term_there (Entity e) (AtRow r) inside =
        let within = derived.count_within S M schema first.holds.well_formed e r inside in
        let sorted = generators.row_term_entity S M same e r within inside in (
          Row (row_term S M e r),
          ap (option_map Entity) sorted,
          ap AtRow (sym (row_goes S Q M N C B rows nulls own.holds onto onto_agrees (row_term S M e r) e sorted)
              ∙ ap (row_image S M N rows nulls e) (generators.row_term_row S M same e r within inside)),
        )
    term_there (Plain type) (AtValue v) sorted =
        let typed : type_of S Q.generators (value_term S M v) ≡ Some type = terms.value_term_type S M same v ∙ sorted.0 in (
          ValueImage (value_term S M v),
          ap (option_map Plain) typed,
          ap AtValue (sym (value_goes S Q M N C B rows nulls own.holds onto onto_agrees (value_term S M v) type typed)
              ∙ ap (value_image S M N rows nulls) (terms.value_term_value S M same v type sorted.0 ∙ sorted.1)),
        )
    term_there (Entity e) (AtValue v) h = absurd h
    term_there (Plain type) (AtRow r) h = absurd h

    image_there : (n : ℕ) (g : Name × Sort) → slice_get P.generators n ≡ Some g → (image : Image) × Images n g image
    image_there n g at =
        let found = term_there g.1 (slice_index_or A n (AtRow 0)) (first.holds.sorts n g at) in
        (found.0, record { sorted = found.1; means = found.2 })

    -- the name of a row, and a term that means a null
    row_back : (n : ℕ) (g : Name × Sort) → slice_get Q.generators n ≡ Some g → generators.IsRowAt S M same n g.1 → (image : Image) × ImagesBack n g image
    row_back n g at r =
        let name = first.rows r.entity r.row r.inside in
        let stands : slice_index_or C n (AtRow 0) ≡ AtRow r.row =
        ap (λ m. slice_index_or C m (AtRow 0)) r.place ∙ generators.row_stands S M same r.entity r.row r.within r.inside in (
          Row name.0,
          record {
            sorted = ap (option_map Entity) name.1 ∙ ap (λ (s : Sort). Some s) (sym r.sort_is);
            means = ap AtRow name.2 ∙ sym stands ∙ sym (back_agrees n g at);
          },
        )

    null_back : (n : ℕ) (g : Name × Sort) → slice_get Q.generators n ≡ Some g → generators.IsNullAt S M same n g.1 → (image : Image) × ImagesBack n g image
    null_back n g at l =
        let within : l.label < length M.algebra.nulls = slice_get_within M.algebra.nulls l.label l.type l.typed in
        let name = first.nulls l.label within in
        let typed = map_some Plain (type_of S P.generators name.0) name.1 name.2 in
        let both : Some typed.0 ≡ Some l.type =
        sym (value_typed S P M A first.holds name.0 typed.0 typed.1) ∙ ap (value_type S M.algebra.nulls) name.3
        ∙ fold-Null (Option ℕ) (value_type_step S M.algebra.nulls) l.label ∙ l.typed in
        let one : typed.0 ≡ l.type = cc in
        let stands : slice_index_or C n (AtRow 0) ≡ AtValue (Null l.label) =
        ap (λ m. slice_index_or C m (AtRow 0)) l.place ∙ generators.null_stands S M same l.label within in (
          ValueImage name.0,
          record {
            sorted = ap (option_map Plain) typed.1 ∙ ap (λ (m : ℕ). Some (Plain m)) one ∙ ap (λ (s : Sort). Some s) (sym l.sort_is);
            means = ap AtValue name.3 ∙ sym stands ∙ sym (back_agrees n g at);
          },
        )

    image_back : (n : ℕ) (g : Name × Sort) → slice_get Q.generators n ≡ Some g → (image : Image) × ImagesBack n g image
    image_back n g at = elim (generators.from_generator S M same n g at) [ inl r ↦ row_back n g at r | inr l ↦ null_back n g at l ]

    abbrev start : InstanceData
    start = record one { schema = S; presentation = P; tables = M; assignment = A }

    abbrev finish : InstanceData
    finish = record other { schema = S; presentation = canonical S M; tables = N; assignment = B }

    undone_both : (f : Transform) × (g : Transform) × AreOneToOne start finish f g
    undone_both =
        let f = some_transform S P Q M N A B presented first.holds second.holds rows nulls onto one other image_there in
        let g = some_transform S Q P N M B A canonical_presented second.holds first.holds rows' nulls' back other one image_back in (
          record { images = f.0; rows = rows; nulls = nulls },
          record { images = g.0; rows = rows'; nulls = nulls' },
          record {
            goes = f.1;
            comes = g.1;
            there = record {
              rows = row_undone S Q M N C B own second.holds rows rows' nulls nulls' onto onto_agrees back back_agrees;
              nulls = null_undone S Q M N C B own second.holds rows rows' nulls nulls' onto onto_agrees back back_agrees;
            };
            back = record {
              rows = row_undone S Q N M B C second own.holds rows' rows nulls' nulls back back_agrees onto onto_agrees;
              nulls = null_undone S Q N M B C second own.holds rows' rows nulls' nulls back back_agrees onto onto_agrees;
            };
          },
        )

  both_ways : (f : Transform) × (g : Transform) × AreOneToOne (record one { schema = S; presentation = P; tables = M; assignment = A })
      (record other { schema = S; presentation = canonical S M; tables = N; assignment = B }) f g
  both_ways =
      let onto = some_homomorphism S Q M N C B schema own second.holds in
      let back = some_homomorphism S Q N M B C schema second own.holds in
      undone_both onto.0 back.0 onto.1 back.1 onto.2 onto.3 back.2 back.3

-- an instance, and one that is the initial model of the canonical presentation of its tables
pub one_to_one : (i j : InstanceData) → IsSchema i.schema → IsPresentation i.schema i.presentation → Initial i.schema i.presentation i.tables i.assignment
    → IsPresentation i.schema (canonical i.schema i.tables) → j.schema ≡ i.schema → j.presentation ≡ canonical i.schema i.tables
    → Initial j.schema j.presentation j.tables j.assignment → (f : Transform) × (g : Transform) × AreOneToOne i j f g
one_to_one i j schema presented first canonical_presented same same_presentation second =
    let Claim : Schema × Presentation → Type 0 =
    λ x. Initial x.0 x.1 j.tables j.assignment → (f : Transform) × (g : Transform) × AreOneToOne i (record j { schema = x.0; presentation = x.1 }) f g in
    subst Claim (λ k. (sym same k, sym same_presentation k))
    (λ initial. both_ways i.schema i.presentation i.tables j.tables i.assignment j.assignment schema presented first canonical_presented initial i j) second
