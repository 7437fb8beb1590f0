-- The identity of an instance is a transform.
use Rattle.std.proofs.Common.{ℕ, zero, suc, true, List, [], ◌∷◌, Option, Some, None, ◌≡◌, ◌<◌, ◌+◌, map, length, get_or, refl, sym, ap, subst, ◌∙◌, arith}
use Rattle.std.specs.Prelude.{slice_get, slice_index, slice_index_or, option_map, option_and_then}
use Rattle.std.specs.List.{enumerate_from}
use Rattle.std.proofs.lemmas.List.{length-map}
use Rattle.std.proofs.lemmas.List.FromFn.{get_or-range_with_len, get_or-map-range_with_len, length-enumerate_from}
use Rattle.std.proofs.lemmas.Option.{slice_get_within, slice_get-get_or, get_or_from_slice_get}
use Rattle.std.proofs.lemmas.Bool.{and_parts}
use Rattle.cq_base.specs.declared.name.Name.{Name}
use Rattle.cq_theory.specs.declared.constant.Con.TheVariants.{Named}
use Rattle.cq_theory.specs.declared.presentation.Presentation.{Presentation}
use Rattle.cq_theory.specs.declared.presentation.Sort.{Sort}
use Rattle.cq_theory.specs.declared.presentation.Sort.TheVariants.{Plain, Entity}
use Rattle.cq_theory.specs.declared.term.TypeTerm.TheVariants as term
use Rattle.cq_theory.specs.declared.value.Value.{Value}
use Rattle.cq_theory.specs.declared.value.Value.TheVariants.{Const, Null}
use Rattle.cq_theory.specs.SchemaData.{SchemaData as Schema}
use Rattle.cq_theory.specs.Canonical.{below}
use Rattle.cq_theory.specs.Sorts.{Generators, is_type, have_types, sort_of, target_of, entity_at, type_at, type_step}
use Rattle.cq_theory.specs.Tables.{Tables, Meaning, AtRow, AtValue, Assignment, row_in, value_in, count_of, value_step, meaning_of, value_type, value_type_step, normal_of, normal_step, applied, HasSort, IsWellFormed, Holds}
use Rattle.cq_theory.specs.Homomorphism.{row_image, value_image, value_image_step, identity_rows, identity_nulls}
use Rattle.cq_theory.proofs.TypeTerms.{fold-Gen}
use Rattle.cq_theory.proofs.Values.{fold-Const, fold-Null, fold-Fun}
use Rattle.cq_theory.proofs.OnValues.{Each, on_values}
use Rattle.cq_theory.proofs.Sound.{is_type_some, applied_type_some}
use Rattle.cq_theory.proofs.Identities.{identity_is_homomorphism}
use Rattle.cq_theory.proofs.Every.{enumerated}
use Rattle.cq_instance.specs.InstanceData.{InstanceData}
use Rattle.cq_instance.specs.declared.transform.Image.{Image}
use Rattle.cq_instance.proofs.Lists.{get-map}
use Rattle.cq_transform.specs.Agreement.{meaning_image, Agrees}
use Rattle.cq_transform.specs.Transforms.{term_of, meanings_in, GoesFrom}
use Rattle.cq_transform.specs.Identities.{itself, identity_images}

-- lists with the same members are one
pub same_members : {X : Type 0} (d : X) (xs ys : List X) → length xs ≡ length ys → ((i : ℕ) → i < length xs → slice_index_or xs i d ≡ slice_index_or ys i d) → xs ≡ ys
same_members d [] [] size h = refl
same_members d [] (y ∷ ys) size h = absurd (omega arith)
same_members d (x ∷ xs) [] size h = absurd (omega arith)
same_members d (x ∷ xs) (y ∷ ys) size h =
    let first : x ≡ y = h 0 (omega arith) in
    let rest : xs ≡ ys = same_members d xs ys (omega arith) (λ i here. h (suc i) (omega arith)) in
    λ i. first i ∷ rest i

row_itself : (counts : List ℕ) (entity row : ℕ) → row < slice_index counts entity → slice_index (slice_index_or (map below counts) entity []) row ≡ row
row_itself [] entity row h = absurd (omega arith)
row_itself (count ∷ counts) zero row h = let here : 0 + row ≡ row = omega arith in get_or-range_with_len 0 count row 0 h ∙ here
row_itself (count ∷ counts) (suc entity) row h = row_itself counts entity row h

module _ (S : Schema) (M : Tables) where
  abbrev image : Value → Value
  image = value_image S M M (identity_rows M) (identity_nulls M)

  abbrev type_in : Value → Option ℕ
  type_in = value_type S M.algebra.nulls

  null_itself : (n : ℕ) → n < length M.algebra.nulls → image (Null n) ≡ Null n
  null_itself n h =
      fold-Null Value (value_image_step S M M (identity_rows M) (identity_nulls M)) n
      ∙ get_or-map-range_with_len Null 0 (length M.algebra.nulls) n n (Const (Named 0)) h (omega arith)

  -- the image of a value that has a type is the value with its functions applied anew
  abbrev IsNormalized : Value → Type 0
  IsNormalized v = (type : ℕ) → type_in v ≡ Some type → image v ≡ normal_of M v

  all_normalized : (vs : List Value) (types : List ℕ) → Each IsNormalized vs → have_types (map type_in vs) types ≡ true → map image vs ≡ map (normal_of M) vs
  all_normalized [] types each h = refl
  all_normalized (v ∷ vs) [] each h = cc
  all_normalized (v ∷ vs) (type ∷ types) each h =
      let parts = and_parts (is_type (type_in v) type) (have_types (map type_in vs) types) h in
      let first : image v ≡ normal_of M v = each.0 type (is_type_some (type_in v) type parts.0) in
      let rest : map image vs ≡ map (normal_of M) vs = all_normalized vs types each.1 parts.1 in
      λ i. first i ∷ rest i

  normalized : (v : Value) → IsNormalized v
  normalized = on_values IsNormalized
      (λ c type h. fold-Const Value (value_image_step S M M (identity_rows M) (identity_nulls M)) c ∙ sym (fold-Const Value (normal_step M) c))
      (λ n type h.
      let typed : slice_get M.algebra.nulls n ≡ Some type = sym (fold-Null (Option ℕ) (value_type_step S M.algebra.nulls) n) ∙ h in
      null_itself n (slice_get_within M.algebra.nulls n type typed) ∙ sym (fold-Null Value (normal_step M) n))
      (λ f vs each type h.
      let parts = applied_type_some (slice_get S.typeside.functions f) (map type_in vs) type (sym (fold-Fun (Option ℕ) (value_type_step S M.algebra.nulls) f vs) ∙ h) in
      fold-Fun Value (value_image_step S M M (identity_rows M) (identity_nulls M)) f vs ∙ ap (applied M f) (all_normalized vs parts.0.args each parts.2)
      ∙ sym (fold-Fun Value (normal_step M) f vs))

  -- what is of its sort is sent to itself
  sent_to_itself : (sort : Sort) (m : Meaning) → HasSort S M sort m → meaning_image S M M (identity_rows M) (identity_nulls M) sort m ≡ m
  sent_to_itself (Entity e) (AtRow r) h = ap AtRow (row_itself M.sheet.counts e r h)
  sent_to_itself (Entity e) (AtValue v) h = absurd h
  sent_to_itself (Plain n) (AtRow r) h = absurd h
  sent_to_itself (Plain n) (AtValue v) h = ap AtValue (normalized v n h.0 ∙ h.1)

  module _ (A : Assignment) where
    -- a generator means what it stands for
    own_meaning : (n : ℕ) (name : Name) (sort : Sort) (m : Meaning) → slice_index_or A n (AtRow 0) ≡ m → HasSort S M sort m → meaning_of M A (term_of (itself (n, (name, sort)))) ≡ m
    own_meaning n name (Entity e) (AtRow r) is h = ap (λ (x : Meaning). AtRow (row_in x)) is
    own_meaning n name (Entity e) (AtValue v) is h = absurd h
    own_meaning n name (Plain type) (AtRow r) is h = absurd h
    own_meaning n name (Plain type) (AtValue v) is h = ap AtValue (fold-Gen Value (value_step M A) n ∙ ap value_in is)

own_sort : (S : Schema) (G : Generators) (n : ℕ) (g : Name × Sort) → slice_get G n ≡ Some g → sort_of S G (term_of (itself (n, g))) ≡ Some g.1
own_sort S G n g at = go g.1 refl
  where
    go : (sort : Sort) → g.1 ≡ sort → sort_of S G (term_of (itself (n, (g.0, sort)))) ≡ Some sort
    go (Entity e) is =
        ap (λ o. option_map Entity (option_and_then (target_of S.keys []) (entity_at o))) at
        ∙ ap (λ (s : Sort). option_map Entity (option_and_then (target_of S.keys []) (entity_at (Some (g.0, s))))) is
    go (Plain type) is =
        ap (option_map Plain) (fold-Gen (Option ℕ) (type_step S G) n) ∙ ap (λ o. option_map Plain (type_at o)) at ∙ ap (λ (s : Sort). option_map Plain (type_at (Some (g.0, s)))) is

module _ (i : InstanceData) (holds : Holds i.schema i.presentation i.tables i.assignment) where
  abbrev G : Generators
  G = i.presentation.generators

  image_at : (n : ℕ) (g : Name × Sort) → slice_get G n ≡ Some g → slice_get (identity_images G) n ≡ Some (itself (n, g))
  image_at n g at =
      let here : 0 + n ≡ n = omega arith in
      get-map itself (enumerate_from 0 G) n (0 + n, g) (enumerated 0 G n g at) ∙ ap (λ (m : ℕ). Some (itself (m, g))) here

  images_count : length (identity_images G) ≡ length G
  images_count = length-map (enumerate_from 0 G) itself ∙ length-enumerate_from 0 G

  one_meaning : (n : ℕ) → n < length (meanings_in i (identity_images G)) → slice_index_or (meanings_in i (identity_images G)) n (AtRow 0) ≡ slice_index_or i.assignment n (AtRow 0)
  one_meaning n within =
      let inside : n < length G = omega (arith, within, images_count, length-map (identity_images G) (λ (x : Image). meaning_of i.tables i.assignment (term_of x))) in
      at G refl inside
    where
      at : (gs : Generators) → G ≡ gs → n < length G → slice_index_or (meanings_in i (identity_images G)) n (AtRow 0) ≡ slice_index_or i.assignment n (AtRow 0)
      at [] none inside = absurd (omega (arith, ap length none))
      at (x ∷ xs) some inside =
          let g : Name × Sort = get_or G n x in
          let there : slice_get G n ≡ Some g = slice_get-get_or G n x inside in
          let image : Image = itself (n, g) in
          get_or_from_slice_get (meanings_in i (identity_images G)) n (meaning_of i.tables i.assignment (term_of image)) (AtRow 0)
          (get-map (λ (y : Image). meaning_of i.tables i.assignment (term_of y)) (identity_images G) n image (image_at n g there))
          ∙ own_meaning i.schema i.tables i.assignment n g.0 g.1 (slice_index_or i.assignment n (AtRow 0)) refl (holds.sorts n g there)

  meanings_are : meanings_in i (identity_images G) ≡ i.assignment
  meanings_are =
      same_members (AtRow 0) (meanings_in i (identity_images G)) i.assignment
      (length-map (identity_images G) (λ (x : Image). meaning_of i.tables i.assignment (term_of x)) ∙ images_count ∙ sym holds.count) one_meaning

  whole : GoesFrom (record { images = identity_images G; rows = identity_rows i.tables; nulls = identity_nulls i.tables }) i i
  whole = record {
    schema = refl;
    count = images_count;
    sorts = λ n g image at here.
        let both : Some (itself (n, g)) ≡ Some image = sym (image_at n g at) ∙ here in
        let same : itself (n, g) ≡ image = cc in
        ap (λ (x : Image). sort_of i.schema G (term_of x)) (sym same) ∙ own_sort i.schema G n g at;
    holds = subst (Holds i.schema i.presentation i.tables) (sym meanings_are) holds;
    homomorphism = identity_is_homomorphism i.schema i.tables holds.well_formed;
    agrees = λ n g at.
        sent_to_itself i.schema i.tables g.1 (slice_index_or i.assignment n (AtRow 0)) (holds.sorts n g at)
        ∙ ap (λ (B : Assignment). slice_index_or B n (AtRow 0)) (sym meanings_are);
  }

  -- the transform of these images, rows and nulls
  pub identity_goes : (images : List Image) (rows : List (List ℕ)) (nulls : List Value) → images ≡ identity_images G → rows ≡ identity_rows i.tables → nulls ≡ identity_nulls i.tables
      → GoesFrom (record { images = images; rows = rows; nulls = nulls }) i i
  identity_goes images rows nulls e f g =
      subst (λ (x : List Image × List (List ℕ) × List Value). GoesFrom (record { images = x.0; rows = x.1; nulls = x.2 }) i i) (λ k. (sym e k, sym f k, sym g k)) whole
