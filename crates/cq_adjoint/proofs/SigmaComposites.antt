-- Along sigma, the composite of two transforms is the composite of what they become.
use Rattle.std.proofs.Common.{ℕ, List, Some, ◌≡◌, ◌<◌, length, map, refl, sym, ap, subst, ◌∙◌, arith}
use Rattle.std.specs.Prelude.{slice_get, slice_index_or}
use Rattle.std.proofs.lemmas.List.{length-map}
use Rattle.std.proofs.lemmas.Option.{slice_get_within, get_or_from_slice_get}
use Rattle.cq_base.specs.declared.name.Name.{Name}
use Rattle.cq_theory.specs.declared.presentation.Presentation.{Presentation}
use Rattle.cq_theory.specs.declared.presentation.Sort.{Sort}
use Rattle.cq_theory.specs.declared.presentation.Sort.TheVariants.{Plain, Entity}
use Rattle.cq_theory.specs.declared.term.Term.{Term}
use Rattle.cq_theory.specs.SchemaData.{SchemaData as Schema}
use Rattle.cq_theory.specs.Schema.{IsSchema}
use Rattle.cq_theory.specs.Sorts.{sort_of}
use Rattle.cq_theory.specs.Tables.{Tables, Meaning, AtRow, AtValue, Assignment, meaning_of, HasSort, IsWellFormed, Holds, Initial}
use Rattle.cq_mapping.specs.MappingData.{MappingData as Mapping}
use Rattle.cq_mapping.specs.Mapping.{IsMapping}
use Rattle.cq_mapping.specs.Duties.{Preserves}
use Rattle.cq_mapping.specs.Images.{sort_image, term_image}
use Rattle.cq_mapping.specs.Moved.{delta_tables}
use Rattle.cq_instance.specs.InstanceData.{InstanceData, IsInstance}
use Rattle.cq_instance.specs.declared.transform.Image.{Image}
use Rattle.cq_instance.specs.declared.transform.Transform.{Transform}
use Rattle.cq_instance.proofs.Lists.{get-map, get-map_from}
use Rattle.cq_transform.specs.Agreement.{meaning_image, Agrees}
use Rattle.cq_transform.specs.Composing.{put_image, composed}
use Rattle.cq_transform.specs.Transforms.{term_of, meanings_in, GoesFrom}
use Rattle.cq_transform.proofs.Composites.{meaning_goes, composite_goes}
use Rattle.cq_transform.proofs.ExactlyOne.{one_homomorphism}
use Rattle.cq_transform.proofs.Loops.{member_at}
use Rattle.cq_transform.proofs.Put.{image_kept}
use Rattle.cq_adjoint.specs.Moved.{IsSigmaOf}
use Rattle.cq_adjoint.specs.Moves.{image_along, sigma_images}
use Rattle.cq_adjoint.proofs.AlongImages.{term_along, holds_there, sorted_there}
use Rattle.cq_adjoint.proofs.AnsweredRows.{same_list}
use Rattle.cq_adjoint.proofs.SameMeanings.{meaning_same}
use Rattle.cq_adjoint.proofs.SentThen.{row_then, value_then}

module _ (F : Mapping) (is : IsMapping F) (preserves : Preserves F) (i j k a b c : InstanceData) (h g s t u : Transform) (of_i : IsSigmaOf F i a) (of_j : IsSigmaOf F j b) (of_k : IsSigmaOf F k c)
    (initial : Initial k.schema k.presentation k.tables k.assignment)
    (first_i : IsInstance i) (first_j : IsInstance j) (first_k : IsInstance k) (first_a : IsInstance a) (first_b : IsInstance b) (first_c : IsInstance c)
    (from_i : GoesFrom h i j) (from_j : GoesFrom g j k) (from_a : GoesFrom s a b) (from_b : GoesFrom t b c) (over : GoesFrom u a c)
    (is_s : s.images ≡ sigma_images F h) (is_t : t.images ≡ sigma_images F g) (is_u : u.images ≡ sigma_images F (composed j k h g)) where
  abbrev S : Schema
  S = F.source

  abbrev D : Tables
  D = delta_tables F c.tables

  abbrev hg : Transform
  hg = composed j k h g

  abbrev st : Transform
  st = composed b c s t

  along_both : GoesFrom st a c
  along_both = composite_goes a b c s t first_a first_b first_c from_a from_b st refl

  well : IsWellFormed F.target c.tables
  well = subst (λ (x : Schema). IsWellFormed x c.tables) of_k.schema first_c.well_formed

  holds : Holds S k.presentation D c.assignment
  holds = holds_there F is preserves j k b c of_j of_k first_j first_k first_c initial g from_j

  second_sorts : (n : ℕ) (x : Name × Sort) (y : Image) → slice_get j.presentation.generators n ≡ Some x → slice_get g.images n ≡ Some y → sort_of S k.presentation.generators (term_of y) ≡ Some x.1
  second_sorts n x y at there = ap (λ (X : Schema). sort_of X k.presentation.generators (term_of y)) (sym of_k.over) ∙ from_j.sorts n x y at there

  -- what images over k mean in c, along F, they mean in what F pulls back from c
  along_means : (y : Image) (sort : Sort) → sort_of S k.presentation.generators (term_of y) ≡ Some sort
      → meaning_of D c.assignment (term_of y) ≡ meaning_of c.tables c.assignment (term_of (image_along F y))
  along_means y sort of_sort =
      meaning_same F is c.tables well k.presentation.generators c.assignment holds.sorts (term_of y) sort of_sort ∙ ap (meaning_of c.tables c.assignment) (sym (term_along F y))

  abbrev Bt : Assignment
  Bt = meanings_in c (sigma_images F g)

  abbrev Bd : Assignment
  Bd = map (λ (y : Image). meaning_of D c.assignment (term_of y)) g.images

  same_second : Bt ≡ Bd
  same_second = same_list Bt Bd
      (length-map (sigma_images F g) (λ (y : Image). meaning_of c.tables c.assignment (term_of y)) ∙ length-map g.images (image_along F)
      ∙ sym (length-map g.images (λ (y : Image). meaning_of D c.assignment (term_of y)))) (λ n m m' left right.
      let y = get-map_from (λ (z : Image). meaning_of D c.assignment (term_of z)) g.images n m' right in
      let x = member_at j.presentation.generators n (omega (arith, slice_get_within g.images n y.0 y.1, from_j.count)) in
      let there : slice_get Bt n ≡ Some (meaning_of c.tables c.assignment (term_of (image_along F y.0))) =
      get-map (λ (z : Image). meaning_of c.tables c.assignment (term_of z)) (sigma_images F g) n (image_along F y.0) (get-map (image_along F) g.images n y.0 y.1) in
      let both : Some (meaning_of c.tables c.assignment (term_of (image_along F y.0))) ≡ Some m = sym there ∙ left in
      let one : meaning_of c.tables c.assignment (term_of (image_along F y.0)) ≡ m = cc in
      sym one ∙ sym (along_means y.0 x.0.1 (second_sorts n x.0 y.0 x.1 y.1)) ∙ y.2)

  -- what t makes of what a term along F means is what the term with g's images in place means along F
  term_then : (x : Term) (sort : Sort) (image : Image) → term_of image ≡ x → sort_of S j.presentation.generators x ≡ Some sort → sort_of b.schema b.presentation.generators (term_image F x) ≡ Some (sort_image F sort)
      → meaning_image b.schema b.tables c.tables t.rows t.nulls (sort_image F sort) (meaning_of b.tables b.assignment (term_image F x))
      ≡ meaning_of c.tables c.assignment (term_of (image_along F (put_image g.images image)))
  term_then x sort image is_x of_sort of_image =
      let put = image_kept S j.presentation k.presentation g.images D c.assignment from_j.count second_sorts image sort (ap (sort_of S j.presentation.generators) is_x ∙ of_sort) in
      meaning_goes b.schema b.presentation b.tables c.tables b.assignment (meanings_in c t.images) t.rows t.nulls of_j.initial.0.holds from_b.homomorphism from_b.agrees (term_image F x) (sort_image F sort) of_image
      ∙ ap (λ (l : List Image). meaning_of c.tables (meanings_in c l) (term_image F x)) is_t
      ∙ sym (meaning_same F is c.tables well j.presentation.generators Bt (sorted_there F is preserves j k b c of_j of_k first_j first_k first_c initial g from_j) x sort of_sort)
      ∙ ap (λ (X : Assignment). meaning_of D X x) same_second ∙ ap (meaning_of D Bd) (sym is_x) ∙ sym put.1
      ∙ along_means (put_image g.images image) sort put.0

  meaning_then : (sort : Sort) (m : Meaning) → HasSort a.schema a.tables sort m
      → meaning_image a.schema a.tables c.tables st.rows st.nulls sort m ≡ meaning_image b.schema b.tables c.tables t.rows t.nulls sort (meaning_image a.schema a.tables b.tables s.rows s.nulls sort m)
  meaning_then (Entity e) (AtRow r) sorted = ap AtRow (row_then a b c s t first_a from_a from_b e r sorted)
  meaning_then (Entity e) (AtValue v) sorted = absurd sorted
  meaning_then (Plain type) (AtRow r) sorted = absurd sorted
  meaning_then (Plain type) (AtValue v) sorted = ap AtValue (value_then a b c s t first_a from_a from_b v)

  generator_from : (n : ℕ) (x : Name × Sort) → slice_get a.presentation.generators n ≡ Some x → (y : Name × Sort) × (slice_get i.presentation.generators n ≡ Some y) × (sort_image F y.1 ≡ x.1)
  generator_from n x at =
      let before = get-map_from (λ (y : Name × Sort). (y.0, sort_image F y.1)) i.presentation.generators n x (ap (λ (P : Presentation). slice_get P.generators n) (sym of_i.presentation) ∙ at) in
      (before.0, before.1, ap (λ (y : Name × Sort). y.1) before.2)

  agrees : Agrees a.schema a.presentation a.tables c.tables a.assignment (meanings_in c u.images) st.rows st.nulls
  agrees n x at =
      let y = generator_from n x at in
      let image = member_at h.images n (omega (arith, slice_get_within i.presentation.generators n y.0 y.1, from_i.count)) in
      let z : Term = term_of image.0 in
      let of_sort : sort_of S j.presentation.generators z ≡ Some y.0.1 = ap (λ (X : Schema). sort_of X j.presentation.generators z) (sym of_j.over) ∙ from_i.sorts n y.0 image.0 y.1 image.1 in
      let here : slice_get s.images n ≡ Some (image_along F image.0) = ap (λ (l : List Image). slice_get l n) is_s ∙ get-map (image_along F) h.images n image.0 image.1 in
      let of_image : sort_of b.schema b.presentation.generators (term_image F z) ≡ Some (sort_image F y.0.1) =
      ap (sort_of b.schema b.presentation.generators) (sym (term_along F image.0)) ∙ from_a.sorts n x (image_along F image.0) at here ∙ ap (λ (r : Sort). Some r) (sym y.2) in
      let before : slice_index_or (meanings_in b s.images) n (AtRow 0) ≡ meaning_of b.tables b.assignment (term_image F z) =
      get_or_from_slice_get (meanings_in b s.images) n (meaning_of b.tables b.assignment (term_of (image_along F image.0))) (AtRow 0)
      (get-map (λ (w : Image). meaning_of b.tables b.assignment (term_of w)) s.images n (image_along F image.0) here) ∙ ap (meaning_of b.tables b.assignment) (term_along F image.0) in
      let there : slice_get u.images n ≡ Some (image_along F (put_image g.images image.0)) =
      ap (λ (l : List Image). slice_get l n) is_u ∙ get-map (image_along F) hg.images n (put_image g.images image.0) (get-map (put_image g.images) h.images n image.0 image.1) in
      let after : slice_index_or (meanings_in c u.images) n (AtRow 0) ≡ meaning_of c.tables c.assignment (term_of (image_along F (put_image g.images image.0))) =
      get_or_from_slice_get (meanings_in c u.images) n (meaning_of c.tables c.assignment (term_of (image_along F (put_image g.images image.0)))) (AtRow 0)
      (get-map (λ (w : Image). meaning_of c.tables c.assignment (term_of w)) u.images n (image_along F (put_image g.images image.0)) there) in
      meaning_then x.1 (slice_index_or a.assignment n (AtRow 0)) (first_a.sorts n x at)
      ∙ ap (meaning_image b.schema b.tables c.tables t.rows t.nulls x.1) (from_a.agrees n x at ∙ before)
      ∙ ap (λ (r : Sort). meaning_image b.schema b.tables c.tables t.rows t.nulls r (meaning_of b.tables b.assignment (term_image F z))) (sym y.2)
      ∙ term_then z y.0.1 image.0 refl of_sort of_image ∙ sym after

  pub sigma_of_composite : (st.rows ≡ u.rows) × (st.nulls ≡ u.nulls)
  sigma_of_composite = one_homomorphism a.schema a.presentation a.tables c.tables a.assignment (meanings_in c u.images) (subst IsSchema (sym of_i.schema) is.target) of_i.initial.0 over.holds
      st.rows u.rows st.nulls u.nulls along_both.homomorphism agrees over.homomorphism over.agrees
