-- A derivation over one generator of an entity holds of each term of the entity: the term stands in the generator's place.
use Rattle.std.proofs.Common.{ℕ, zero, suc, List, [], ◌∷◌, ◌++◌, Option, Some, None, ◌≡◌, map, refl, sym, ap, subst, ◌∙◌, append_assoc}
use Rattle.std.specs.Prelude.{slice_get, option_and_then, option_map}
use Rattle.std.proofs.lemmas.Option.{option_and_then_some}
use Rattle.cq_theory.specs.declared.presentation.Presentation.{Presentation}
use Rattle.cq_theory.specs.declared.presentation.Sort.{Sort}
use Rattle.cq_theory.specs.declared.presentation.Sort.TheVariants.{Plain, Entity}
use Rattle.cq_theory.specs.SchemaData.{SchemaData as Schema}
use Rattle.cq_theory.specs.declared.term.EntTerm.{EntTerm}
use Rattle.cq_theory.specs.declared.term.TypeTerm.{TypeTerm}
use Rattle.cq_theory.specs.declared.term.TypeTerm.TheVariants.{Att, Fun}
use Rattle.cq_theory.specs.declared.term.Term.{Term}
use Rattle.cq_theory.specs.declared.term.Term.TheVariants.{Ent, Typ}
use Rattle.cq_theory.specs.EntTerm.{extended}
use Rattle.cq_theory.specs.TypeTerm.{substituted, substituted_step}
use Rattle.cq_theory.specs.Sorts.{target_of, entity_at, entity_of, type_of, sort_of, IsGround}
use Rattle.cq_theory.specs.Schema.{one_of}
use Rattle.cq_theory.specs.Derivation.{Derivation, Derivations, reflexivity, symmetry, transitivity, key, attribute, function, given, path_equation, observation, none, more, Concludes, Conclude, Derives, EachDerives}
use Rattle.cq_theory.proofs.TypeTerms.{fold-Gen, fold-Const, fold-Att, fold-Fun, Each, on_terms}
use Rattle.cq_theory.proofs.Derivations.{Derives-reflexive, Derives-symmetric, Derives-transitive, Derives-key, Derives-attribute, Derives-function}
use Rattle.cq_theory.proofs.Sorted.{type_of-substituted}
use Rattle.cq_theory.proofs.Closings.{entity_of-extended}
use Rattle.cq_mapping.specs.Duties.{one_generator}

-- a path after a path
pub extended-extended : (t : EntTerm) (p q : List ℕ) → extended (extended t p) q ≡ extended t (p ++ q)
extended-extended t p q = ap (λ path. extended (record { generator = t.generator; path = [] }) path) (append_assoc t.path p q)

-- a term in the place of the variable of a term in the place of a variable
pub substituted-substituted : (at by : EntTerm) (t : TypeTerm) → substituted at (substituted by t) ≡ substituted (extended at by.path) t
substituted-substituted at by = on_terms (λ t. substituted at (substituted by t) ≡ substituted (extended at by.path) t)
    (λ n. ap (substituted at) (fold-Gen TypeTerm (substituted_step by) n) ∙ fold-Gen TypeTerm (substituted_step at) n ∙ sym (fold-Gen TypeTerm (substituted_step (extended at by.path)) n))
    (λ c. ap (substituted at) (fold-Const TypeTerm (substituted_step by) c) ∙ fold-Const TypeTerm (substituted_step at) c ∙ sym (fold-Const TypeTerm (substituted_step (extended at by.path)) c))
    (λ a t. ap (substituted at) (fold-Att TypeTerm (substituted_step by) a t) ∙ fold-Att TypeTerm (substituted_step at) a (extended by t.path)
    ∙ ap (Att a) (sym (extended-extended at by.path t.path)) ∙ sym (fold-Att TypeTerm (substituted_step (extended at by.path)) a t))
    (λ f ts each. ap (substituted at) (fold-Fun TypeTerm (substituted_step by) f ts) ∙ fold-Fun TypeTerm (substituted_step at) f (map (substituted by) ts)
    ∙ ap (Fun f) (each_same ts each) ∙ sym (fold-Fun TypeTerm (substituted_step (extended at by.path)) f ts))
  where
    each_same : (ts : List TypeTerm) → Each (λ t. substituted at (substituted by t) ≡ substituted (extended at by.path) t) ts
        → map (substituted at) (map (substituted by) ts) ≡ map (substituted (extended at by.path)) ts
    each_same [] each = refl
    each_same (t ∷ ts) each =
        let first : substituted at (substituted by t) ≡ substituted (extended at by.path) t = each.0 in
        let rest = each_same ts each.1 in
        λ i. first i ∷ rest i

module _ (at : EntTerm) where
  -- at in the place of the generator
  abbrev pub replaced : Term → Term
  replaced (Ent t) = Ent (extended at t.path)
  replaced (Typ t) = Typ (substituted at t)

  pub replaced-Att : (a : ℕ) (t : EntTerm) → replaced (Typ (Att a t)) ≡ Typ (Att a (extended at t.path))
  replaced-Att a t = ap Typ (fold-Att TypeTerm (substituted_step at) a t)

  pub replaced-Fun : (f : ℕ) (ts : List TypeTerm) → replaced (Typ (Fun f ts)) ≡ Typ (Fun f (map (substituted at) ts))
  replaced-Fun f ts = ap Typ (fold-Fun TypeTerm (substituted_step at) f ts)

  pub replaced-key : (t : EntTerm) (k : ℕ) → replaced (Ent (extended t (k ∷ []))) ≡ Ent (extended (extended at t.path) (k ∷ []))
  replaced-key t k = ap Ent (sym (extended-extended at t.path (k ∷ [])))

module _ (T : Schema) (P : Presentation) (entity : ℕ) (at : EntTerm) (of_entity : entity_of T P.generators at ≡ Some entity) where
  variable_begins : (n start : ℕ) → entity_at (slice_get (one_of entity) n) ≡ Some start → entity ≡ start
  variable_begins zero start h = cc
  variable_begins (suc n) start h = cc

  entity_kept : (t : EntTerm) (target : ℕ) → entity_of T (one_of entity) t ≡ Some target → entity_of T P.generators (extended at t.path) ≡ Some target
  entity_kept t target h = option_and_then_some (target_of T.keys t.path) (entity_at (slice_get (one_of entity) t.generator)) target h (λ start first rest.
      entity_of-extended T P at t.path ∙ ap (option_and_then (target_of T.keys t.path)) of_entity
      ∙ ap (target_of T.keys t.path) (variable_begins t.generator start first) ∙ rest)

  entity_part : (o : Option ℕ) (sort : Sort) → option_map Entity o ≡ Some sort → (e : ℕ) × (o ≡ Some e) × (Entity e ≡ sort)
  entity_part None sort h = cc
  entity_part (Some e) sort h = (e, refl, let same : Entity e ≡ sort = cc in same)

  type_part : (o : Option ℕ) (sort : Sort) → option_map Plain o ≡ Some sort → (e : ℕ) × (o ≡ Some e) × (Plain e ≡ sort)
  type_part None sort h = cc
  type_part (Some e) sort h = (e, refl, let same : Plain e ≡ sort = cc in same)

  sort_kept : (t : Term) (sort : Sort) → sort_of T (one_of entity) t ≡ Some sort → sort_of T P.generators (replaced at t) ≡ Some sort
  sort_kept (Ent t) sort h =
      let found = entity_part (entity_of T (one_of entity) t) sort h in
      ap (option_map Entity) (entity_kept t found.0 found.1) ∙ ap (λ (s : Sort). Some s) found.2
  sort_kept (Typ t) sort h =
      let found = type_part (type_of T (one_of entity) t) sort h in
      ap (option_map Plain) (type_of-substituted T P.generators at entity of_entity t found.0 found.1) ∙ ap (λ (s : Sort). Some s) found.2

  ground_kept : (t u : Term) → t ≡ u → IsGround T (one_generator entity) t → IsGround T P (replaced at u)
  ground_kept t u same ground = (ground.0, sort_kept u ground.0 (ap (sort_of T (one_of entity)) (sym same) ∙ ground.1))

  abbrev Holds : Term → Term → Type 0
  Holds t u = Derives T P (replaced at t) (replaced at u)

  moved : (t u t' u' : Term) (v w : Term) → t ≡ t' → u ≡ u' → replaced at t' ≡ v → replaced at u' ≡ w → Derives T P v w → Holds t u
  moved t u t' u' v w e f g h d = subst (λ (x : Term). Derives T P x (replaced at u)) (sym (ap (replaced at) e ∙ g)) (subst (λ (x : Term). Derives T P v x) (sym (ap (replaced at) f ∙ h)) d)

  mutual
    carried : (d : Derivation) (t u : Term) → Concludes T (one_generator entity) None d t u → Holds t u
    carried (reflexivity s) t u h = moved t u s s (replaced at s) (replaced at s) h.2 h.3 refl refl (Derives-reflexive T P (replaced at s) (ground_kept s s refl h.0))
    carried (symmetry d) t u h = Derives-symmetric T P (replaced at u) (replaced at t) (carried d u t h)
    carried (transitivity d e) t u h = Derives-transitive T P (replaced at t) (replaced at h.0) (replaced at u) (carried d t h.0 h.1) (carried e h.0 u h.2)
    carried (key k d) t u h =
        let ground = subst (IsGround T P) (replaced-key at h.0 k) (ground_kept t (Ent (extended h.0 (k ∷ []))) h.3 h.5) in
        moved t u _ _ _ _ h.3 h.4 (replaced-key at h.0 k) (replaced-key at h.1 k)
        (Derives-key T P k (extended at h.0.path) (extended at h.1.path) (carried d (Ent h.0) (Ent h.1) h.2) ground)
    carried (attribute n d) t u h =
        let ground = subst (IsGround T P) (replaced-Att at n h.0) (ground_kept t (Typ (Att n h.0)) h.3 h.5) in
        moved t u _ _ _ _ h.3 h.4 (replaced-Att at n h.0) (replaced-Att at n h.1)
        (Derives-attribute T P n (extended at h.0.path) (extended at h.1.path) (carried d (Ent h.0) (Ent h.1) h.2) ground)
    carried (function f ds) t u h =
        let ground = subst (IsGround T P) (replaced-Fun at f h.0) (ground_kept t (Typ (Fun f h.0)) h.3 h.5) in
        moved t u _ _ _ _ h.3 h.4 (replaced-Fun at f h.0) (replaced-Fun at f h.1)
        (Derives-function T P f (map (substituted at) h.0) (map (substituted at) h.1) (all_carried ds h.0 h.1 h.2) ground)
    carried (given n) t u h = let nothing : slice_get [] n ≡ Some h.0 = h.1 in cc
    carried (path_equation n by) t u h =
        let place = entity_kept by h.0.entity h.2 in
        moved t u _ _ _ _ h.4 h.5 (ap Ent (sym (extended-extended at by.path h.0.left))) (ap Ent (sym (extended-extended at by.path h.0.right)))
        (path_equation n (extended at by.path), (h.0, h.1, place, tt, refl, refl, tt, tt))
    carried (observation n by) t u h =
        let place = entity_kept by h.0.entity h.2 in
        moved t u _ _ _ _ h.4 h.5 (ap Typ (substituted-substituted at by h.0.left)) (ap Typ (substituted-substituted at by h.0.right))
        (observation n (extended at by.path), (h.0, h.1, place, tt, refl, refl, tt, tt))

    all_carried : (ds : Derivations) (ts us : List TypeTerm) → Conclude T (one_generator entity) None ds ts us → EachDerives T P (map (substituted at) ts) (map (substituted at) us)
    all_carried none [] [] h = tt
    all_carried (more d ds) (t ∷ ts) (u ∷ us) h = (carried d (Typ t) (Typ u) h.0, all_carried ds ts us h.1)
    all_carried none [] (u ∷ us) h = absurd h
    all_carried none (t ∷ ts) us h = absurd h
    all_carried (more d ds) [] us h = absurd h
    all_carried (more d ds) (t ∷ ts) [] h = absurd h

-- what is derivable over one generator of an entity is derivable of each term of the entity
pub Derives-replaced : (T : Schema) (P : Presentation) (entity : ℕ) (at : EntTerm) → entity_of T P.generators at ≡ Some entity
    → (t u : Term) → Derives T (one_generator entity) t u → Derives T P (replaced at t) (replaced at u)
Derives-replaced T P entity at of_entity t u d = carried T P entity at of_entity d.0 t u d.1
