-- The image of a term that has a sort has the image of the sort.
use Rattle.std.proofs.Common.{ℕ, Bool, true, List, [], ◌∷◌, Option, Some, None, ◌≡◌, ◌&&◌, if◌then◌else◌, map, refl, sym, ap, ◌∙◌}
use Rattle.std.specs.Prelude.{slice_get, option_and_then, option_map}
use Rattle.std.proofs.lemmas.Bool.{and_parts}
use Rattle.std.proofs.lemmas.Option.{option_and_then_some, slice_get-map}
use Rattle.cq_base.specs.declared.name.Name.{Name}
use Rattle.cq_theory.specs.declared.presentation.Sort.{Sort}
use Rattle.cq_theory.specs.declared.presentation.Sort.TheVariants.{Plain, Entity}
use Rattle.cq_theory.specs.SchemaData.{SchemaData as Schema}
use Rattle.cq_theory.specs.TypesideData.{TypesideData as Typeside}
use Rattle.cq_theory.specs.Typeside.{constant_type}
use Rattle.cq_theory.specs.declared.term.EntTerm.{EntTerm}
use Rattle.cq_theory.specs.declared.term.TypeTerm.{TypeTerm}
use Rattle.cq_theory.specs.declared.term.Term.{Term}
use Rattle.cq_theory.specs.declared.term.Term.TheVariants.{Ent, Typ}
use Rattle.cq_theory.specs.Sorts.{Generators, followed, target_of, entity_at, type_at, entity_of, is_type, have_types, applied_type, type_of, type_step, sort_of}
use Rattle.cq_theory.proofs.TypeTerms.{fold-Gen, fold-Const, fold-Att, fold-Fun, Each, on_terms}
use Rattle.cq_theory.proofs.Sound.{followed_some, is_type_some, applied_type_some}
use Rattle.cq_theory.proofs.Sorted.{type_of-substituted}
use Rattle.cq_theory.proofs.Closings.{target_of-append}
use Rattle.cq_mapping.specs.MappingData.{MappingData as Mapping}
use Rattle.cq_mapping.specs.Images.{entity_image, key_image, attribute_image, path_image, ent_image, type_image, type_image_step, term_image, sort_image, generator_images}
use Rattle.cq_mapping.specs.Mapping.{IsMapping}

module _ (F : Mapping) (is : IsMapping F) where
  abbrev S : Schema
  S = F.source

  abbrev T : Schema
  T = F.target

  -- the image of a path leads from image to image
  pub target_of-image : (path : List ℕ) (e target : ℕ) → target_of S.keys path e ≡ Some target → target_of T.keys (path_image F path) (entity_image F e) ≡ Some (entity_image F target)
  target_of-image [] e target h = let same : e ≡ target = cc in ap (λ n. Some (entity_image F n)) same
  target_of-image (k ∷ path) e target h =
      option_and_then_some (target_of S.keys path) (followed (slice_get S.keys k) e) target h (λ middle first rest.
      let edge = followed_some (slice_get S.keys k) e middle first in
      let led : target_of T.keys (key_image F k) (entity_image F e) ≡ Some (entity_image F middle) =
      ap (λ n. target_of T.keys (key_image F k) (entity_image F n)) (sym edge.2) ∙ (is.key_images k edge.0 edge.1).leads ∙ ap (λ n. Some (entity_image F n)) edge.3 in
      target_of-append T.keys (key_image F k) (path_image F path) (entity_image F e) ∙ ap (option_and_then (target_of T.keys (path_image F path))) led ∙ target_of-image path middle target rest)

  module _ (G : Generators) where
    abbrev H : Generators
    H = generator_images F G

    entity_at-image : (o : Option (Name × Sort)) (e : ℕ) → entity_at o ≡ Some e → entity_at (option_map (λ (g : Name × Sort). (g.0, sort_image F g.1)) o) ≡ Some (entity_image F e)
    entity_at-image None e h = cc
    entity_at-image (Some g) e h = at_sort g.1 h
      where
        at_sort : (sort : Sort) → entity_at (Some (g.0, sort)) ≡ Some e → entity_at (Some (g.0, sort_image F sort)) ≡ Some (entity_image F e)
        at_sort (Plain n) h = cc
        at_sort (Entity n) h = let same : n ≡ e = cc in ap (λ m. Some (entity_image F m)) same

    type_at-image : (o : Option (Name × Sort)) (type : ℕ) → type_at o ≡ Some type → type_at (option_map (λ (g : Name × Sort). (g.0, sort_image F g.1)) o) ≡ Some type
    type_at-image None type h = cc
    type_at-image (Some g) type h = at_sort g.1 h
      where
        at_sort : (sort : Sort) → type_at (Some (g.0, sort)) ≡ Some type → type_at (Some (g.0, sort_image F sort)) ≡ Some type
        at_sort (Plain n) h = h
        at_sort (Entity n) h = cc

    generator-image : (n : ℕ) → slice_get H n ≡ option_map (λ (g : Name × Sort). (g.0, sort_image F g.1)) (slice_get G n)
    generator-image n = slice_get-map (λ (g : Name × Sort). (g.0, sort_image F g.1)) G n

    pub entity_of-image : (t : EntTerm) (e : ℕ) → entity_of S G t ≡ Some e → entity_of T H (ent_image F t) ≡ Some (entity_image F e)
    entity_of-image t e h = option_and_then_some (target_of S.keys t.path) (entity_at (slice_get G t.generator)) e h (λ start first rest.
        ap (λ o. option_and_then (target_of T.keys (path_image F t.path)) (entity_at o)) (generator-image t.generator)
        ∙ ap (option_and_then (target_of T.keys (path_image F t.path))) (entity_at-image (slice_get G t.generator) start first)
        ∙ target_of-image t.path start e rest)

    abbrev KeepsType : TypeTerm → Type 0
    KeepsType t = (type : ℕ) → type_of S G t ≡ Some type → type_of T H (type_image F t) ≡ Some type

    args_keep : (ts : List TypeTerm) (types : List ℕ) → have_types (map (type_of S G) ts) types ≡ true → Each KeepsType ts → have_types (map (type_of T H) (map (type_image F) ts)) types ≡ true
    args_keep [] [] h each = refl
    args_keep [] (type ∷ types) h each = cc
    args_keep (t ∷ ts) [] h each = cc
    args_keep (t ∷ ts) (type ∷ types) h each =
        let parts = and_parts (is_type (type_of S G t) type) (have_types (map (type_of S G) ts) types) h in
        let before : type_of S G t ≡ Some type = is_type_some (type_of S G t) type parts.0 in
        let first : is_type (type_of T H (type_image F t)) type ≡ true = ap (λ o. is_type o type) (each.0 type before ∙ sym before) ∙ parts.0 in
        let rest : have_types (map (type_of T H) (map (type_image F) ts)) types ≡ true = args_keep ts types parts.1 each.1 in
        ap (λ b. b && have_types (map (type_of T H) (map (type_image F) ts)) types) first ∙ rest

    pub type_of-image : (t : TypeTerm) → KeepsType t
    type_of-image = on_terms KeepsType
        (λ n type h.
        ap (type_of T H) (fold-Gen TypeTerm (type_image_step F) n) ∙ fold-Gen (Option ℕ) (type_step T H) n ∙ ap type_at (generator-image n)
        ∙ type_at-image (slice_get G n) type (sym (fold-Gen (Option ℕ) (type_step S G) n) ∙ h))
        (λ c type h.
        ap (type_of T H) (fold-Const TypeTerm (type_image_step F) c) ∙ fold-Const (Option ℕ) (type_step T H) c
        ∙ ap (λ (y : Typeside). constant_type y c) (sym is.typeside) ∙ sym (fold-Const (Option ℕ) (type_step S G) c) ∙ h)
        (λ a t type h.
        option_and_then_some (followed (slice_get S.attributes a)) (entity_of S G t) type (sym (fold-Att (Option ℕ) (type_step S G) a t) ∙ h) (λ e led last.
        let edge = followed_some (slice_get S.attributes a) e type last in
        let at_image = is.attribute_images a edge.0 edge.1 in
        let begins : entity_of T H (ent_image F t) ≡ Some (entity_image F edge.0.from) = entity_of-image t e led ∙ ap (λ n. Some (entity_image F n)) (sym edge.2) in
        ap (type_of T H) (fold-Att TypeTerm (type_image_step F) a t)
        ∙ type_of-substituted T H (ent_image F t) (entity_image F edge.0.from) begins (attribute_image F a) edge.0.to at_image.typed ∙ ap (λ n. Some n) edge.3))
        (λ f ts each type h.
        let parts = applied_type_some (slice_get S.typeside.functions f) (map (type_of S G) ts) type (sym (fold-Fun (Option ℕ) (type_step S G) f ts) ∙ h) in
        let args : have_types (map (type_of T H) (map (type_image F) ts)) parts.0.args ≡ true = args_keep ts parts.0.args parts.2 each in
        ap (type_of T H) (fold-Fun TypeTerm (type_image_step F) f ts) ∙ fold-Fun (Option ℕ) (type_step T H) f (map (type_image F) ts)
        ∙ ap (λ (y : Typeside). applied_type (slice_get y.functions f) (map (type_of T H) (map (type_image F) ts))) (sym is.typeside)
        ∙ ap (λ o. applied_type o (map (type_of T H) (map (type_image F) ts))) parts.1
        ∙ ap (λ (b : Bool). if b then Some parts.0.result else None) args ∙ ap (λ n. Some n) parts.3)

    sort_some : (f : ℕ → Sort) (o : Option ℕ) (sort : Sort) → option_map f o ≡ Some sort → (n : ℕ) × (o ≡ Some n) × (f n ≡ sort)
    sort_some f None sort h = cc
    sort_some f (Some n) sort h = (n, refl, let same : f n ≡ sort = cc in same)

    -- the image of a term has the image of its sort
    pub sort_of-image : (t : Term) (sort : Sort) → sort_of S G t ≡ Some sort → sort_of T H (term_image F t) ≡ Some (sort_image F sort)
    sort_of-image (Ent t) sort h =
        let found = sort_some Entity (entity_of S G t) sort h in
        ap (option_map Entity) (entity_of-image t found.0 found.1) ∙ ap (λ (s : Sort). Some (sort_image F s)) found.2
    sort_of-image (Typ t) sort h =
        let found = sort_some Plain (type_of S G t) sort h in
        ap (option_map Plain) (type_of-image t found.0 found.1) ∙ ap (λ (s : Sort). Some (sort_image F s)) found.2
