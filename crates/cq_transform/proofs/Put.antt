-- Terms with the images of generators in their place: they keep their sorts, and mean what the terms mean where a generator stands for what its image means.
use Rattle.std.proofs.Common.{ℕ, Bool, true, List, [], ◌∷◌, Option, Some, None, ◌≡◌, ◌<◌, ◌&&◌, if◌then◌else◌, map, length, refl, sym, ap, subst, ◌∙◌, arith}
use Rattle.std.specs.Prelude.{slice_get, slice_index_or, option_map, option_and_then}
use Rattle.std.proofs.lemmas.Option.{option_and_then_some, slice_get_within, get_or_from_slice_get}
use Rattle.cq_base.specs.declared.name.Name.{Name}
use Rattle.cq_theory.specs.declared.presentation.Presentation.{Presentation}
use Rattle.cq_theory.specs.declared.presentation.Sort.{Sort}
use Rattle.cq_theory.specs.declared.presentation.Sort.TheVariants.{Plain, Entity}
use Rattle.cq_theory.specs.SchemaData.{SchemaData as Schema}
use Rattle.cq_theory.specs.declared.term.EntTerm.{EntTerm}
use Rattle.cq_theory.specs.declared.term.TypeTerm.{TypeTerm}
use Rattle.cq_theory.specs.declared.term.TypeTerm.TheVariants as term
use Rattle.cq_theory.specs.declared.term.Term.{Term}
use Rattle.cq_theory.specs.declared.term.Term.TheVariants.{Ent, Typ}
use Rattle.cq_theory.specs.declared.value.Value.{Value}
use Rattle.cq_theory.specs.EntTerm.{extended}
use Rattle.cq_theory.specs.Sorts.{followed, target_of, entity_at, type_at, entity_of, is_type, have_types, applied_type, type_of, type_step, sort_of}
use Rattle.cq_theory.specs.Tables.{Tables, Meaning, AtRow, AtValue, Assignment, row_in, value_in, cell_at, row_from, row_of, value_of, value_step, meaning_of, applied}
use Rattle.cq_theory.proofs.TypeTerms.{fold-Gen, fold-Const, fold-Att, fold-Fun, Each, on_terms}
use Rattle.cq_theory.proofs.Sound.{both, is_type_some, applied_type_some, row_from-append}
use Rattle.cq_theory.proofs.Closings.{entity_of-extended}
use Rattle.cq_theory.proofs.ResolvedSorts.{map_some}
use Rattle.cq_instance.specs.declared.transform.Image.{Image}
use Rattle.cq_instance.specs.declared.transform.Image.TheVariants.{Row, Value as ValueImage}
use Rattle.cq_instance.proofs.Lists.{get-map}
use Rattle.cq_transform.specs.Composing.{row_term, value_term, put_row, put_value, put_value_step, put_image}
use Rattle.cq_transform.specs.Transforms.{term_of}
use Rattle.cq_transform.proofs.Loops.{member_at}
use Rattle.cq_transform.proofs.Normal.{type_at_some, entity_at_some}

-- the image of a generator of an entity is an entity term, and that of a generator of a type a type term
entity_image : (S : Schema) (P : Presentation) (image : Image) (e : ℕ) → sort_of S P.generators (term_of image) ≡ Some (Entity e)
    → (u : EntTerm) × (image ≡ Row u) × (entity_of S P.generators u ≡ Some e)
entity_image S P (Row u) e h =
    let found = map_some Entity (entity_of S P.generators u) (Entity e) h in
    let same : found.0 ≡ e = let is : Entity found.0 ≡ Entity e = found.2 in cc in
    (u, refl, found.1 ∙ ap (λ (n : ℕ). Some n) same)
entity_image S P (ValueImage u) e h =
    let found = map_some Plain (type_of S P.generators u) (Entity e) h in
    absurd (let clash : Plain found.0 ≡ Entity e = found.2 in cc)

type_image : (S : Schema) (P : Presentation) (image : Image) (type : ℕ) → sort_of S P.generators (term_of image) ≡ Some (Plain type)
    → (u : TypeTerm) × (image ≡ ValueImage u) × (type_of S P.generators u ≡ Some type)
type_image S P (Row u) type h =
    let found = map_some Entity (entity_of S P.generators u) (Plain type) h in
    absurd (let clash : Entity found.0 ≡ Plain type = found.2 in cc)
type_image S P (ValueImage u) type h =
    let found = map_some Plain (type_of S P.generators u) (Plain type) h in
    let same : found.0 ≡ type = let is : Plain found.0 ≡ Plain type = found.2 in cc in
    (u, refl, found.1 ∙ ap (λ (n : ℕ). Some n) same)

-- P's generators have images over Q, which means something in N
module _ (S : Schema) (P Q : Presentation) (images : List Image) (N : Tables) (A : Assignment) (count : length images ≡ length P.generators)
    (sorts : (n : ℕ) (g : Name × Sort) (image : Image) → slice_get P.generators n ≡ Some g → slice_get images n ≡ Some image → sort_of S Q.generators (term_of image) ≡ Some g.1) where
  abbrev B : Assignment
  B = map (λ image. meaning_of N A (term_of image)) images

  -- the image of a generator of an entity, and what it means
  record IsRowImage (n e : ℕ) : Type 0 where
    at : EntTerm
    stands : slice_get images n ≡ Some (Row at)
    of_entity : entity_of S Q.generators at ≡ Some e
    means : slice_index_or B n (AtRow 0) ≡ AtRow (row_of N A at)

  record IsValueImage (n type : ℕ) : Type 0 where
    at : TypeTerm
    stands : slice_get images n ≡ Some (ValueImage at)
    of_type : type_of S Q.generators at ≡ Some type
    means : slice_index_or B n (AtRow 0) ≡ AtValue (value_of N A at)

  meaning_at : (n : ℕ) (image : Image) → slice_get images n ≡ Some image → slice_index_or B n (AtRow 0) ≡ meaning_of N A (term_of image)
  meaning_at n image at =
      get_or_from_slice_get B n (meaning_of N A (term_of image)) (AtRow 0) (get-map (λ (x : Image). meaning_of N A (term_of x)) images n image at)

  row_image_at : (n e : ℕ) → entity_at (slice_get P.generators n) ≡ Some e → IsRowImage n e
  row_image_at n e h =
      let g = entity_at_some (slice_get P.generators n) e h in
      let image = member_at images n (omega (arith, count, slice_get_within P.generators n g.0 g.1)) in
      let u = entity_image S Q image.0 e (sorts n g.0 image.0 g.1 image.1 ∙ ap (λ (s : Sort). Some s) g.2) in
      record {
        at = u.0;
        stands = image.1 ∙ ap (λ (x : Image). Some x) u.1;
        of_entity = u.2;
        means = meaning_at n image.0 image.1 ∙ ap (λ (x : Image). meaning_of N A (term_of x)) u.1;
      }

  value_image_at : (n type : ℕ) → type_at (slice_get P.generators n) ≡ Some type → IsValueImage n type
  value_image_at n type h =
      let g = type_at_some (slice_get P.generators n) type h in
      let image = member_at images n (omega (arith, count, slice_get_within P.generators n g.0 g.1)) in
      let u = type_image S Q image.0 type (sorts n g.0 image.0 g.1 image.1 ∙ ap (λ (s : Sort). Some s) g.2) in
      record {
        at = u.0;
        stands = image.1 ∙ ap (λ (x : Image). Some x) u.1;
        of_type = u.2;
        means = meaning_at n image.0 image.1 ∙ ap (λ (x : Image). meaning_of N A (term_of x)) u.1;
      }

  -- an entity term keeps its entity, and means the same
  row_kept : (t : EntTerm) (e : ℕ) → entity_of S P.generators t ≡ Some e
      → (entity_of S Q.generators (put_row images t) ≡ Some e) × (row_of N A (put_row images t) ≡ row_of N B t)
  row_kept t e h = option_and_then_some (target_of S.keys t.path) (entity_at (slice_get P.generators t.generator)) e h (λ start first rest.
      let image = row_image_at t.generator start first in
      let put : put_row images t ≡ extended image.at t.path = ap (λ o. extended (row_term o) t.path) image.stands in (
        ap (entity_of S Q.generators) put ∙ entity_of-extended S Q image.at t.path ∙ ap (option_and_then (target_of S.keys t.path)) image.of_entity ∙ rest,
        ap (row_of N A) put ∙ row_from-append N (row_in (slice_index_or A image.at.generator (AtRow 0))) image.at.path t.path
            ∙ sym (ap (λ (m : Meaning). row_from N (row_in m) t.path) image.means),
      ))

  abbrev IsKept : TypeTerm → Type 0
  IsKept t = (type : ℕ) → type_of S P.generators t ≡ Some type
      → (type_of S Q.generators (put_value images t) ≡ Some type) × (value_of N A (put_value images t) ≡ value_of N B t)

  args_kept : (ts : List TypeTerm) (types : List ℕ) → have_types (map (type_of S P.generators) ts) types ≡ true → Each IsKept ts
      → (have_types (map (type_of S Q.generators) (map (put_value images) ts)) types ≡ true) × (map (value_of N A) (map (put_value images) ts) ≡ map (value_of N B) ts)
  args_kept [] types h each = (h, refl)
  args_kept (t ∷ ts) [] h each = cc
  args_kept (t ∷ ts) (type ∷ types) h each =
      let parts = both (is_type (type_of S P.generators t) type) (have_types (map (type_of S P.generators) ts) types) h in
      let before : type_of S P.generators t ≡ Some type = is_type_some (type_of S P.generators t) type parts.0 in
      let one = each.0 type before in
      let rest = args_kept ts types parts.1 each.1 in
      let first : is_type (type_of S Q.generators (put_value images t)) type ≡ true = ap (λ o. is_type o type) (one.0 ∙ sym before) ∙ parts.0 in (
        ap (λ b. b && have_types (map (type_of S Q.generators) (map (put_value images) ts)) types) first ∙ rest.0,
        (λ i. one.1 i ∷ rest.1 i),
      )

  value_kept : (t : TypeTerm) → IsKept t
  value_kept = on_terms IsKept
      (λ n type h.
      let image = value_image_at n type (sym (fold-Gen (Option ℕ) (type_step S P.generators) n) ∙ h) in
      let put : put_value images (term.Gen n) ≡ image.at = fold-Gen TypeTerm (put_value_step images) n ∙ ap value_term image.stands in (
        ap (type_of S Q.generators) put ∙ image.of_type,
        ap (value_of N A) put ∙ sym (fold-Gen Value (value_step N B) n ∙ ap value_in image.means),
      ))
      (λ c type h.
      let put : put_value images (term.Const c) ≡ term.Const c = fold-Const TypeTerm (put_value_step images) c in (
        ap (type_of S Q.generators) put ∙ fold-Const (Option ℕ) (type_step S Q.generators) c ∙ sym (fold-Const (Option ℕ) (type_step S P.generators) c) ∙ h,
        ap (value_of N A) put ∙ fold-Const Value (value_step N A) c ∙ sym (fold-Const Value (value_step N B) c),
      ))
      (λ a t type h.
      option_and_then_some (followed (slice_get S.attributes a)) (entity_of S P.generators t) type (sym (fold-Att (Option ℕ) (type_step S P.generators) a t) ∙ h) (λ e led last.
      let kept = row_kept t e led in
      let put : put_value images (term.Att a t) ≡ term.Att a (put_row images t) = fold-Att TypeTerm (put_value_step images) a t in (
        ap (type_of S Q.generators) put ∙ fold-Att (Option ℕ) (type_step S Q.generators) a (put_row images t) ∙ ap (option_and_then (followed (slice_get S.attributes a))) kept.0 ∙ last,
        ap (value_of N A) put ∙ fold-Att Value (value_step N A) a (put_row images t) ∙ ap (cell_at N a) kept.1 ∙ sym (fold-Att Value (value_step N B) a t),
      )))
      (λ f ts each type h.
      let parts = applied_type_some (slice_get S.typeside.functions f) (map (type_of S P.generators) ts) type (sym (fold-Fun (Option ℕ) (type_step S P.generators) f ts) ∙ h) in
      let args = args_kept ts parts.0.args parts.2 each in
      let put : put_value images (term.Fun f ts) ≡ term.Fun f (map (put_value images) ts) = fold-Fun TypeTerm (put_value_step images) f ts in (
        ap (type_of S Q.generators) put ∙ fold-Fun (Option ℕ) (type_step S Q.generators) f (map (put_value images) ts)
            ∙ ap (λ o. applied_type o (map (type_of S Q.generators) (map (put_value images) ts))) parts.1
            ∙ ap (λ (b : Bool). if b then Some parts.0.result else None) args.0 ∙ ap (λ n. Some n) parts.3,
        ap (value_of N A) put ∙ fold-Fun Value (value_step N A) f (map (put_value images) ts) ∙ ap (applied N f) args.1 ∙ sym (fold-Fun Value (value_step N B) f ts),
      ))

  -- an image keeps its sort, and means the same
  pub image_kept : (image : Image) (sort : Sort) → sort_of S P.generators (term_of image) ≡ Some sort
      → (sort_of S Q.generators (term_of (put_image images image)) ≡ Some sort) × (meaning_of N A (term_of (put_image images image)) ≡ meaning_of N B (term_of image))
  image_kept (Row t) sort h =
      let found = map_some Entity (entity_of S P.generators t) sort h in
      let kept = row_kept t found.0 found.1 in
      (ap (option_map Entity) kept.0 ∙ ap (λ (s : Sort). Some s) found.2, ap AtRow kept.1)
  image_kept (ValueImage t) sort h =
      let found = map_some Plain (type_of S P.generators t) sort h in
      let kept = value_kept t found.0 found.1 in
      (ap (option_map Plain) kept.0 ∙ ap (λ (s : Sort). Some s) found.2, ap AtValue kept.1)
