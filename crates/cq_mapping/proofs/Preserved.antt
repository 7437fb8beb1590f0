-- The image of a derivation's conclusion is derivable in the image of the presentation.
use Rattle.std.proofs.Common.{ℕ, zero, suc, true, List, [], ◌∷◌, ◌++◌, Option, Some, None, ◌≡◌, ◌+◌, map, length, refl, sym, ap, subst, ◌∙◌, append_assoc, arith}
use Rattle.std.specs.Prelude.{slice_get, option_map}
use Rattle.std.proofs.lemmas.List.{append-nil}
use Rattle.std.proofs.lemmas.Option.{option_and_then_some}
use Rattle.cq_theory.specs.declared.presentation.Presentation.{Presentation}
use Rattle.cq_theory.specs.declared.presentation.Equation.{Equation}
use Rattle.cq_theory.specs.declared.presentation.Equation.TheVariants as equation
use Rattle.cq_theory.specs.declared.presentation.Sort.{Sort}
use Rattle.cq_theory.specs.declared.presentation.Sort.TheVariants.{Plain, Entity}
use Rattle.cq_theory.specs.SchemaData.{SchemaData as Schema}
use Rattle.cq_theory.specs.declared.term.EntTerm.{EntTerm}
use Rattle.cq_theory.specs.declared.term.TypeTerm.{TypeTerm}
use Rattle.cq_theory.specs.declared.term.TypeTerm.TheVariants.{Const, Att, Fun}
use Rattle.cq_theory.specs.declared.term.Term.{Term}
use Rattle.cq_theory.specs.declared.term.Term.TheVariants.{Ent, Typ}
use Rattle.cq_theory.specs.EntTerm.{extended}
use Rattle.cq_theory.specs.TypeTerm.{substituted, substituted_step}
use Rattle.cq_theory.specs.Sorts.{followed, type_at, entity_of, is_type, have_types, type_of, type_step, sort_of, IsGround}
use Rattle.cq_theory.specs.Schema.{one_of}
use Rattle.cq_theory.specs.Derivation.{Derivation, Derivations, reflexivity, symmetry, transitivity, key, attribute, function, given, path_equation, observation, none, more, Concludes, Conclude, Derives, EachDerives, left_of, right_of}
use Rattle.cq_theory.proofs.TypeTerms.{fold-Gen, fold-Const, fold-Att, fold-Fun, Each, on_terms}
use Rattle.cq_theory.proofs.Derivations.{Derives-reflexive, Derives-symmetric, Derives-transitive, Derives-key, Derives-attribute, Derives-function}
use Rattle.cq_theory.proofs.Sound.{followed_some, is_type_some, applied_type_some, both}
use Rattle.cq_theory.proofs.Sorted.{type_of-substituted}
use Rattle.cq_theory.proofs.Closings.{entity_before, extended-cons}
use Rattle.cq_mapping.specs.MappingData.{MappingData as Mapping}
use Rattle.cq_mapping.specs.Images.{entity_image, key_image, attribute_image, path_image, ent_image, type_image, type_image_step, term_image, equation_image, sigma}
use Rattle.cq_mapping.specs.Mapping.{IsMapping}
use Rattle.cq_mapping.specs.Duties.{path_duty, observation_duty, Preserves}
use Rattle.cq_mapping.proofs.Imaged.{entity_of-image, sort_of-image}
use Rattle.cq_mapping.proofs.Substituting.{substituted-substituted, Derives-replaced}

get_front : {X : Type 0} (xs ys : List X) (n : ℕ) (x : X) → slice_get xs n ≡ Some x → slice_get (xs ++ ys) n ≡ Some x
get_front [] ys n x h = cc
get_front (y ∷ xs) ys zero x h = h
get_front (y ∷ xs) ys (suc n) x h = get_front xs ys n x h

get_back : {X : Type 0} (xs ys : List X) (n : ℕ) (x : X) → slice_get ys n ≡ Some x → slice_get (xs ++ ys) (length xs + n) ≡ Some x
get_back [] ys n x h = let here : 0 + n ≡ n = omega arith in ap (slice_get ys) here ∙ h
get_back (y ∷ xs) ys n x h = let there : suc (length xs) + n ≡ suc (length xs + n) = omega arith in ap (slice_get (y ∷ (xs ++ ys))) there ∙ get_back xs ys n x h

get_mapped : {X Y : Type 0} (f : X → Y) (xs : List X) (n : ℕ) (x : X) → slice_get xs n ≡ Some x → slice_get (map f xs) n ≡ Some (f x)
get_mapped f [] n x h = cc
get_mapped f (y ∷ ys) zero x h = let same : y ≡ x = cc in ap (λ z. Some (f z)) same
get_mapped f (y ∷ ys) (suc n) x h = get_mapped f ys n x h

no_type_variable : (e n type : ℕ) → type_at (slice_get (one_of e) n) ≡ Some type → ⊥
no_type_variable e zero type h = cc
no_type_variable e (suc n) type h = cc

-- What follows from the equality of two entity terms: along a path, and in the variable's place.
module _ (T : Schema) (P : Presentation) where
  pub path_derived : (path : List ℕ) (a b : EntTerm) → Derives T P (Ent a) (Ent b) → (target : ℕ) → entity_of T P.generators (extended a path) ≡ Some target
      → Derives T P (Ent (extended a path)) (Ent (extended b path))
  path_derived [] a b d target ground =
      let left : extended a [] ≡ a = ap (λ p. extended (record { generator = a.generator; path = [] }) p) (append-nil a.path) in
      let right : extended b [] ≡ b = ap (λ p. extended (record { generator = b.generator; path = [] }) p) (append-nil b.path) in
      subst (λ (t : EntTerm). Derives T P (Ent t) (Ent (extended b []))) (sym left) (subst (λ (t : EntTerm). Derives T P (Ent a) (Ent t)) (sym right) d)
  path_derived (k ∷ path) a b d target ground =
      let led : entity_of T P.generators (extended (extended a (k ∷ [])) path) ≡ Some target = ap (entity_of T P.generators) (extended-cons T P a k path) ∙ ground in
      let before = entity_before T P (extended a (k ∷ [])) path target led in
      let one = Derives-key T P k a b d (Entity before.0, ap (option_map Entity) before.1) in
      let rest = path_derived path (extended a (k ∷ [])) (extended b (k ∷ [])) one target led in
      subst (λ (t : EntTerm). Derives T P (Ent t) (Ent (extended b (k ∷ path)))) (extended-cons T P a k path)
      (subst (λ (t : EntTerm). Derives T P (Ent (extended (extended a (k ∷ [])) path)) (Ent t)) (extended-cons T P b k path) rest)

  module _ (a b : EntTerm) (entity : ℕ) (of_entity : entity_of T P.generators a ≡ Some entity) (d : Derives T P (Ent a) (Ent b)) where
    abbrev AreEqualAt : TypeTerm → Type 0
    AreEqualAt t = (type : ℕ) → type_of T (one_of entity) t ≡ Some type → Derives T P (Typ (substituted a t)) (Typ (substituted b t))

    ground_at : (t u : TypeTerm) (type : ℕ) → type_of T (one_of entity) t ≡ Some type → substituted a t ≡ u → IsGround T P (Typ u)
    ground_at t u type h same = (Plain type, ap (λ (v : TypeTerm). sort_of T P.generators (Typ v)) (sym same) ∙ ap (option_map Plain) (type_of-substituted T P.generators a entity of_entity t type h))

    both_sides : (t u v : TypeTerm) → substituted a t ≡ u → substituted b t ≡ v → Derives T P (Typ u) (Typ v) → Derives T P (Typ (substituted a t)) (Typ (substituted b t))
    both_sides t u v e f h = subst (λ (x : TypeTerm). Derives T P (Typ x) (Typ (substituted b t))) (sym e) (subst (λ (x : TypeTerm). Derives T P (Typ u) (Typ x)) (sym f) h)

    args_equal : (ts : List TypeTerm) (types : List ℕ) → have_types (map (type_of T (one_of entity)) ts) types ≡ true → Each AreEqualAt ts
        → EachDerives T P (map (substituted a) ts) (map (substituted b) ts)
    args_equal [] types h each = tt
    args_equal (t ∷ ts) [] h each = cc
    args_equal (t ∷ ts) (type ∷ types) h each =
        let parts = both (is_type (type_of T (one_of entity) t) type) (have_types (map (type_of T (one_of entity)) ts) types) h in
        (each.0 type (is_type_some (type_of T (one_of entity) t) type parts.0), args_equal ts types parts.1 each.1)

    pub equal_at : (t : TypeTerm) → AreEqualAt t
    equal_at = on_terms AreEqualAt
        (λ n type h. absurd (no_type_variable entity n type (sym (fold-Gen (Option ℕ) (type_step T (one_of entity)) n) ∙ h)))
        (λ c type h.
        let left = fold-Const TypeTerm (substituted_step a) c in
        both_sides (Const c) (Const c) (Const c) left (fold-Const TypeTerm (substituted_step b) c) (Derives-reflexive T P (Typ (Const c)) (ground_at (Const c) (Const c) type h left)))
        (λ n t type h.
        let left = fold-Att TypeTerm (substituted_step a) n t in
        let ground = ground_at (Att n t) (Att n (extended a t.path)) type h left in
        let sorted : type_of T P.generators (Att n (extended a t.path)) ≡ Some type = ap (type_of T P.generators) (sym left) ∙ type_of-substituted T P.generators a entity of_entity (Att n t) type h in
        option_and_then_some (followed (slice_get T.attributes n)) (entity_of T P.generators (extended a t.path)) type (sym (fold-Att (Option ℕ) (type_step T P.generators) n (extended a t.path)) ∙ sorted) (λ target led last.
        both_sides (Att n t) (Att n (extended a t.path)) (Att n (extended b t.path)) left (fold-Att TypeTerm (substituted_step b) n t)
        (Derives-attribute T P n (extended a t.path) (extended b t.path) (path_derived t.path a b d target led) ground)))
        (λ f ts each type h.
        let left = fold-Fun TypeTerm (substituted_step a) f ts in
        let parts = applied_type_some (slice_get T.typeside.functions f) (map (type_of T (one_of entity)) ts) type (sym (fold-Fun (Option ℕ) (type_step T (one_of entity)) f ts) ∙ h) in
        both_sides (Fun f ts) (Fun f (map (substituted a) ts)) (Fun f (map (substituted b) ts)) left (fold-Fun TypeTerm (substituted_step b) f ts)
        (Derives-function T P f (map (substituted a) ts) (map (substituted b) ts) (args_equal ts parts.0.args parts.2 each) (ground_at (Fun f ts) (Fun f (map (substituted a) ts)) type h left)))

module _ (F : Mapping) where
  pub path_image-append : (p q : List ℕ) → path_image F (p ++ q) ≡ path_image F p ++ path_image F q
  path_image-append [] q = refl
  path_image-append (k ∷ p) q = ap (λ l. key_image F k ++ l) (path_image-append p q) ∙ sym (append_assoc (key_image F k) (path_image F p) (path_image F q))

  ent_image-extended : (t : EntTerm) (path : List ℕ) → ent_image F (extended t path) ≡ extended (ent_image F t) (path_image F path)
  ent_image-extended t path = ap (λ p. extended (record { generator = t.generator; path = [] }) p) (path_image-append t.path path)

  ent_image-key : (t : EntTerm) (k : ℕ) → ent_image F (extended t (k ∷ [])) ≡ extended (ent_image F t) (key_image F k)
  ent_image-key t k = ent_image-extended t (k ∷ []) ∙ ap (extended (ent_image F t)) (append-nil (key_image F k))

  pub type_image-substituted : (at : EntTerm) (t : TypeTerm) → type_image F (substituted at t) ≡ substituted (ent_image F at) (type_image F t)
  type_image-substituted at = on_terms (λ t. type_image F (substituted at t) ≡ substituted (ent_image F at) (type_image F t))
      (λ n. ap (type_image F) (fold-Gen TypeTerm (substituted_step at) n) ∙ fold-Gen TypeTerm (type_image_step F) n
      ∙ sym (ap (substituted (ent_image F at)) (fold-Gen TypeTerm (type_image_step F) n) ∙ fold-Gen TypeTerm (substituted_step (ent_image F at)) n))
      (λ c. ap (type_image F) (fold-Const TypeTerm (substituted_step at) c) ∙ fold-Const TypeTerm (type_image_step F) c
      ∙ sym (ap (substituted (ent_image F at)) (fold-Const TypeTerm (type_image_step F) c) ∙ fold-Const TypeTerm (substituted_step (ent_image F at)) c))
      (λ a t. ap (type_image F) (fold-Att TypeTerm (substituted_step at) a t) ∙ fold-Att TypeTerm (type_image_step F) a (extended at t.path)
      ∙ ap (λ (x : EntTerm). substituted x (attribute_image F a)) (ent_image-extended at t.path)
      ∙ sym (ap (substituted (ent_image F at)) (fold-Att TypeTerm (type_image_step F) a t) ∙ substituted-substituted (ent_image F at) (ent_image F t) (attribute_image F a)))
      (λ f ts each. ap (type_image F) (fold-Fun TypeTerm (substituted_step at) f ts) ∙ fold-Fun TypeTerm (type_image_step F) f (map (substituted at) ts) ∙ ap (Fun f) (each_same ts each)
      ∙ sym (ap (substituted (ent_image F at)) (fold-Fun TypeTerm (type_image_step F) f ts) ∙ fold-Fun TypeTerm (substituted_step (ent_image F at)) f (map (type_image F) ts)))
    where
      each_same : (ts : List TypeTerm) → Each (λ t. type_image F (substituted at t) ≡ substituted (ent_image F at) (type_image F t)) ts
          → map (type_image F) (map (substituted at) ts) ≡ map (substituted (ent_image F at)) (map (type_image F) ts)
      each_same [] each = refl
      each_same (t ∷ ts) each =
          let first : type_image F (substituted at t) ≡ substituted (ent_image F at) (type_image F t) = each.0 in
          let rest = each_same ts each.1 in
          λ i. first i ∷ rest i

  image-left : (e : Equation) → left_of (equation_image F e) ≡ term_image F (left_of e)
  image-left (equation.Ent t u) = refl
  image-left (equation.Typ t u) = refl

  image-right : (e : Equation) → right_of (equation_image F e) ≡ term_image F (right_of e)
  image-right (equation.Ent t u) = refl
  image-right (equation.Typ t u) = refl

  module _ (is : IsMapping F) (preserves : Preserves F) (P : Presentation) where
    abbrev S : Schema
    S = F.source

    abbrev T : Schema
    T = F.target

    abbrev Q : Presentation
    Q = sigma F P

    abbrev Holds : Term → Term → Type 0
    Holds t u = Derives T Q (term_image F t) (term_image F u)

    moved : (t u t' u' v w : Term) → t ≡ t' → u ≡ u' → term_image F t' ≡ v → term_image F u' ≡ w → Derives T Q v w → Holds t u
    moved t u t' u' v w e f g h d = subst (λ (x : Term). Derives T Q x (term_image F u)) (sym (ap (term_image F) e ∙ g)) (subst (λ (x : Term). Derives T Q v x) (sym (ap (term_image F) f ∙ h)) d)

    ground_image : (t u : Term) → t ≡ u → IsGround S P t → (v : Term) → term_image F u ≡ v → IsGround T Q v
    ground_image t u same ground v is_v =
        let sorted = sort_of-image F is P.generators u ground.0 (ap (sort_of S P.generators) (sym same) ∙ ground.1) in
        (_, ap (sort_of T Q.generators) (sym is_v) ∙ sorted)

    entity_some : (o : Option ℕ) (sort : Sort) → option_map Entity o ≡ Some sort → (e : ℕ) × (o ≡ Some e)
    entity_some None sort h = cc
    entity_some (Some e) sort h = (e, refl)

    type_some : (o : Option ℕ) (sort : Sort) → option_map Plain o ≡ Some sort → (e : ℕ) × (o ≡ Some e)
    type_some None sort h = cc
    type_some (Some e) sort h = (e, refl)

    -- equal entity terms have equal attributes
    attributes_equal : (n : ℕ) (a b : EntTerm) → Holds (Ent a) (Ent b) → (type : ℕ) → type_of S P.generators (Att n a) ≡ Some type
        → Derives T Q (Typ (substituted (ent_image F a) (attribute_image F n))) (Typ (substituted (ent_image F b) (attribute_image F n)))
    attributes_equal n a b d type h =
        option_and_then_some (followed (slice_get S.attributes n)) (entity_of S P.generators a) type (sym (fold-Att (Option ℕ) (type_step S P.generators) n a) ∙ h) (λ e led last.
        let edge = followed_some (slice_get S.attributes n) e type last in
        let begins : entity_of T Q.generators (ent_image F a) ≡ Some (entity_image F edge.0.from) = entity_of-image F is P.generators a e led ∙ ap (λ m. Some (entity_image F m)) (sym edge.2) in
        equal_at T Q (ent_image F a) (ent_image F b) (entity_image F edge.0.from) begins d (attribute_image F n) edge.0.to (is.attribute_images n edge.0 edge.1).typed)

    mutual
      carried : (d : Derivation) (t u : Term) → Concludes S P None d t u → Holds t u
      carried (reflexivity s) t u h = moved t u s s _ _ h.2 h.3 refl refl (Derives-reflexive T Q (term_image F s) (ground_image s s refl h.0 (term_image F s) refl))
      carried (symmetry d) t u h = Derives-symmetric T Q (term_image F u) (term_image F t) (carried d u t h)
      carried (transitivity d e) t u h = Derives-transitive T Q (term_image F t) (term_image F h.0) (term_image F u) (carried d t h.0 h.1) (carried e h.0 u h.2)
      carried (key k d) t u h =
          let left : term_image F (Ent (extended h.0 (k ∷ []))) ≡ Ent (extended (ent_image F h.0) (key_image F k)) = ap Ent (ent_image-key h.0 k) in
          let right : term_image F (Ent (extended h.1 (k ∷ []))) ≡ Ent (extended (ent_image F h.1) (key_image F k)) = ap Ent (ent_image-key h.1 k) in
          let ground = ground_image t (Ent (extended h.0 (k ∷ []))) h.3 h.5 (Ent (extended (ent_image F h.0) (key_image F k))) left in
          let led = entity_some (entity_of T Q.generators (extended (ent_image F h.0) (key_image F k))) ground.0 ground.1 in
          moved t u _ _ _ _ h.3 h.4 left right (path_derived T Q (key_image F k) (ent_image F h.0) (ent_image F h.1) (carried d (Ent h.0) (Ent h.1) h.2) led.0 led.1)
      carried (attribute n d) t u h =
          let left : term_image F (Typ (Att n h.0)) ≡ Typ (substituted (ent_image F h.0) (attribute_image F n)) = ap Typ (fold-Att TypeTerm (type_image_step F) n h.0) in
          let right : term_image F (Typ (Att n h.1)) ≡ Typ (substituted (ent_image F h.1) (attribute_image F n)) = ap Typ (fold-Att TypeTerm (type_image_step F) n h.1) in
          let typed = type_some (type_of S P.generators (Att n h.0)) h.5.0 (ap (sort_of S P.generators) (sym h.3) ∙ h.5.1) in
          moved t u _ _ _ _ h.3 h.4 left right (attributes_equal n h.0 h.1 (carried d (Ent h.0) (Ent h.1) h.2) typed.0 typed.1)
      carried (function f ds) t u h =
          let left : term_image F (Typ (Fun f h.0)) ≡ Typ (Fun f (map (type_image F) h.0)) = ap Typ (fold-Fun TypeTerm (type_image_step F) f h.0) in
          let right : term_image F (Typ (Fun f h.1)) ≡ Typ (Fun f (map (type_image F) h.1)) = ap Typ (fold-Fun TypeTerm (type_image_step F) f h.1) in
          let ground = ground_image t (Typ (Fun f h.0)) h.3 h.5 (Typ (Fun f (map (type_image F) h.0))) left in
          moved t u _ _ _ _ h.3 h.4 left right (Derives-function T Q f (map (type_image F) h.0) (map (type_image F) h.1) (all_carried ds h.0 h.1 h.2) ground)
      carried (given n) t u h =
          let there = get_mapped (equation_image F) P.equations n h.0 h.1 in
          moved t u _ _ _ _ h.2 h.3 (sym (image-left h.0)) (sym (image-right h.0)) (given n, (equation_image F h.0, there, refl, refl, tt, tt))
      carried (path_equation n at) t u h =
          let there = get_front (map (path_duty F) S.path_eqs) (map (observation_duty F) S.obs_eqs) n (path_duty F h.0) (get_mapped (path_duty F) S.path_eqs n h.0 h.1) in
          let duty = preserves n (path_duty F h.0) there in
          moved t u _ _ _ _ h.4 h.5 (ap Ent (ent_image-extended at h.0.left)) (ap Ent (ent_image-extended at h.0.right))
          (Derives-replaced T Q (entity_image F h.0.entity) (ent_image F at) (entity_of-image F is P.generators at h.0.entity h.2) _ _ duty)
      carried (observation n at) t u h =
          let there = get_back (map (path_duty F) S.path_eqs) (map (observation_duty F) S.obs_eqs) n (observation_duty F h.0) (get_mapped (observation_duty F) S.obs_eqs n h.0 h.1) in
          let duty = preserves (length (map (path_duty F) S.path_eqs) + n) (observation_duty F h.0) there in
          moved t u _ _ _ _ h.4 h.5 (ap Typ (type_image-substituted at h.0.left)) (ap Typ (type_image-substituted at h.0.right))
          (Derives-replaced T Q (entity_image F h.0.entity) (ent_image F at) (entity_of-image F is P.generators at h.0.entity h.2) _ _ duty)

      all_carried : (ds : Derivations) (ts us : List TypeTerm) → Conclude S P None ds ts us → EachDerives T Q (map (type_image F) ts) (map (type_image F) us)
      all_carried none [] [] h = tt
      all_carried (more d ds) (t ∷ ts) (u ∷ us) h = (carried d (Typ t) (Typ u) h.0, all_carried ds ts us h.1)
      all_carried none [] (u ∷ us) h = absurd h
      all_carried none (t ∷ ts) us h = absurd h
      all_carried (more d ds) [] us h = absurd h
      all_carried (more d ds) (t ∷ ts) [] h = absurd h

-- where a mapping preserves equality, the image of what is derivable is derivable in the image of the presentation
pub Derives-image : (F : Mapping) → IsMapping F → Preserves F → (P : Presentation) (t u : Term) → Derives F.source P t u → Derives F.target (sigma F P) (term_image F t) (term_image F u)
Derives-image F is preserves P t u d = carried F is preserves P d.0 t u d.1
