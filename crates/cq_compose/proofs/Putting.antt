-- Terms put for the variables of a block: once more, and in derivations.
use Rattle.std.proofs.Common.{ℕ, zero, suc, List, [], ◌∷◌, Some, None, ◌≡◌, map, length, refl, sym, ap, subst, ◌∙◌}
use Rattle.std.specs.Prelude.{slice_get, option_map}
use Rattle.std.proofs.lemmas.Option.{option_and_then_some}
use Rattle.cq_theory.specs.declared.presentation.Presentation.{Presentation}
use Rattle.cq_theory.specs.declared.presentation.Equation.{Equation}
use Rattle.cq_theory.specs.declared.presentation.Equation.TheVariants as equation
use Rattle.cq_theory.specs.declared.presentation.Sort.{Sort}
use Rattle.cq_theory.specs.declared.presentation.Sort.TheVariants.{Plain, Entity}
use Rattle.cq_theory.specs.declared.term.EntTerm.{EntTerm}
use Rattle.cq_theory.specs.declared.term.TypeTerm.{TypeTerm}
use Rattle.cq_theory.specs.declared.term.TypeTerm.TheVariants.{Att, Fun}
use Rattle.cq_theory.specs.declared.term.Term.{Term}
use Rattle.cq_theory.specs.declared.term.Term.TheVariants.{Ent, Typ}
use Rattle.cq_theory.specs.EntTerm.{extended}
use Rattle.cq_theory.specs.TypeTerm.{substituted, substituted_step}
use Rattle.cq_theory.specs.Carried.{carried_term}
use Rattle.cq_theory.specs.Sorts.{target_of, entity_at, entity_of, type_of, sort_of, IsGround}
use Rattle.cq_theory.specs.Derivation.{Derivation, Derivations, reflexivity, symmetry, transitivity, key, attribute, function, given, path_equation, observation, none, more, Concludes, Conclude, Derives, EachDerives, left_of, right_of}
use Rattle.cq_theory.proofs.TypeTerms.{fold-Gen, fold-Const, fold-Att, fold-Fun, on_terms}
use Rattle.cq_theory.proofs.Derivations.{Derives-reflexive, Derives-symmetric, Derives-transitive, Derives-key, Derives-attribute, Derives-function}
use Rattle.cq_theory.proofs.ResolvedSorts.{map_some}
use Rattle.cq_mapping.proofs.Substituting.{extended-extended}
use Rattle.cq_query.specs.QueryData.{QueryData as Query}
use Rattle.cq_query.specs.Puts.{term_or_first, put, put_type, put_type_step, put_equation}
use Rattle.cq_query.specs.Translation.{variables_at, tests_at}
use Rattle.cq_query.specs.Duties.{frozen}
use Rattle.cq_query.proofs.Standing.{Stand, generators_at, variable_at, no_type_at, within_length, put_sorted, put_type_sorted}
use Rattle.cq_compose.proofs.Typed.{on_typed, each_twice}

pub get_mapped : {X Y : Type 0} (f : X → Y) (xs : List X) (n : ℕ) (x : X) → slice_get xs n ≡ Some x → slice_get (map f xs) n ≡ Some (f x)
get_mapped f [] n x h = cc
get_mapped f (y ∷ ys) zero x h = let same : y ≡ x = cc in ap (λ z. Some (f z)) same
get_mapped f (y ∷ ys) (suc n) x h = get_mapped f ys n x h

abbrev pub put_term : List EntTerm → Term → Term
put_term terms = carried_term (put terms) (put_type terms)

pub put-left : (terms : List EntTerm) (e : Equation) → left_of (put_equation terms e) ≡ put_term terms (left_of e)
put-left terms (equation.Ent t u) = refl
put-left terms (equation.Typ t u) = refl

pub put-right : (terms : List EntTerm) (e : Equation) → right_of (put_equation terms e) ≡ put_term terms (right_of e)
put-right terms (equation.Ent t u) = refl
put-right terms (equation.Typ t u) = refl

pub put-extended : (terms : List EntTerm) (t : EntTerm) (path : List ℕ) → put terms (extended t path) ≡ extended (put terms t) path
put-extended terms t path = sym (extended-extended (term_or_first (slice_get terms t.generator)) t.path path)

put_type-substituted : (terms : List EntTerm) (at : EntTerm) (t : TypeTerm) → put_type terms (substituted at t) ≡ substituted (put terms at) t
put_type-substituted terms at = on_terms (λ t. put_type terms (substituted at t) ≡ substituted (put terms at) t)
    (λ n. ap (put_type terms) (fold-Gen TypeTerm (substituted_step at) n) ∙ fold-Gen TypeTerm (put_type_step terms) n ∙ sym (fold-Gen TypeTerm (substituted_step (put terms at)) n))
    (λ c. ap (put_type terms) (fold-Const TypeTerm (substituted_step at) c) ∙ fold-Const TypeTerm (put_type_step terms) c ∙ sym (fold-Const TypeTerm (substituted_step (put terms at)) c))
    (λ a t. ap (put_type terms) (fold-Att TypeTerm (substituted_step at) a t) ∙ fold-Att TypeTerm (put_type_step terms) a (extended at t.path)
    ∙ ap (Att a) (put-extended terms at t.path) ∙ sym (fold-Att TypeTerm (substituted_step (put terms at)) a t))
    (λ f ts each. ap (put_type terms) (fold-Fun TypeTerm (substituted_step at) f ts) ∙ fold-Fun TypeTerm (put_type_step terms) f (map (substituted at) ts)
    ∙ ap (Fun f) (each_twice (put_type terms) (substituted at) (substituted (put terms at)) ts each) ∙ sym (fold-Fun TypeTerm (substituted_step (put terms at)) f ts))

-- terms put into terms that are put
module _ (Q : Query) (terms ts : List EntTerm) (entity : ℕ) (count : length ts ≡ length (variables_at Q entity)) where
  pub put-put : (t : EntTerm) (e : ℕ) → entity_of Q.source (generators_at Q entity) t ≡ Some e → put terms (put ts t) ≡ put (map (put terms) ts) t
  put-put t e h = option_and_then_some (target_of Q.source.keys t.path) (entity_at (slice_get (generators_at Q entity) t.generator)) e h (λ start first rest.
      let v = variable_at Q entity t.generator start first in
      let u = within_length ts (variables_at Q entity) t.generator v.0 v.1 count in
      ap (λ o. put terms (extended (term_or_first o) t.path)) u.1 ∙ put-extended terms u.0 t.path
      ∙ sym (ap (λ o. extended (term_or_first o) t.path) (get_mapped (put terms) ts t.generator u.0 u.1)))

  pub put_type-put : (t : TypeTerm) (type : ℕ) → type_of Q.source (generators_at Q entity) t ≡ Some type → put_type terms (put_type ts t) ≡ put_type (map (put terms) ts) t
  put_type-put = on_typed Q.source (generators_at Q entity) (λ t. put_type terms (put_type ts t) ≡ put_type (map (put terms) ts) t)
      (λ n type h. absurd (no_type_at Q entity n type h))
      (λ c type h. ap (put_type terms) (fold-Const TypeTerm (put_type_step ts) c) ∙ fold-Const TypeTerm (put_type_step terms) c ∙ sym (fold-Const TypeTerm (put_type_step (map (put terms) ts)) c))
      (λ a t edge is led h. ap (put_type terms) (fold-Att TypeTerm (put_type_step ts) a t) ∙ fold-Att TypeTerm (put_type_step terms) a (put ts t)
      ∙ ap (Att a) (put-put t edge.from led) ∙ sym (fold-Att TypeTerm (put_type_step (map (put terms) ts)) a t))
      (λ f args type h each. ap (put_type terms) (fold-Fun TypeTerm (put_type_step ts) f args) ∙ fold-Fun TypeTerm (put_type_step terms) f (map (put_type ts) args)
      ∙ ap (Fun f) (each_twice (put_type terms) (put_type ts) (put_type (map (put terms) ts)) args each) ∙ sym (fold-Fun TypeTerm (put_type_step (map (put terms) ts)) f args))

  pub put_term-put : (t : Term) (sort : Sort) → sort_of Q.source (generators_at Q entity) t ≡ Some sort → put_term terms (put_term ts t) ≡ put_term (map (put terms) ts) t
  put_term-put (Ent t) sort h = let found = map_some Entity (entity_of Q.source (generators_at Q entity) t) sort h in ap Ent (put-put t found.0 found.1)
  put_term-put (Typ t) sort h = let found = map_some Plain (type_of Q.source (generators_at Q entity) t) sort h in ap Typ (put_type-put t found.0 found.1)

-- the terms stand for a row of an entity, and the where equations of its block are derivable of them
pub record Fits (Q : Query) (P : Presentation) (terms : List EntTerm) (entity : ℕ) : Type 0 where
  pub stand : Stand Q P.generators terms entity
  pub meets : (n : ℕ) (e : Equation) → slice_get (tests_at Q entity) n ≡ Some e → Derives Q.source P (put_term terms (left_of e)) (put_term terms (right_of e))

module _ (Q : Query) (P : Presentation) (terms : List EntTerm) (entity : ℕ) (fits : Fits Q P terms entity) where
  abbrev Here : Presentation
  Here = frozen Q entity

  pub sort_put : (t : Term) (sort : Sort) → sort_of Q.source Here.generators t ≡ Some sort → sort_of Q.source P.generators (put_term terms t) ≡ Some sort
  sort_put (Ent t) sort h =
      let found = map_some Entity (entity_of Q.source Here.generators t) sort h in
      ap (option_map Entity) (put_sorted Q P.generators terms entity fits.stand t found.0 found.1) ∙ ap (λ (s : Sort). Some s) found.2
  sort_put (Typ t) sort h =
      let found = map_some Plain (type_of Q.source Here.generators t) sort h in
      ap (option_map Plain) (put_type_sorted Q P.generators terms entity fits.stand t found.0 found.1) ∙ ap (λ (s : Sort). Some s) found.2

  ground_put : (t u : Term) → t ≡ u → IsGround Q.source Here t → (v : Term) → put_term terms u ≡ v → IsGround Q.source P v
  ground_put t u same ground v is = (
    ground.0,
    ap (sort_of Q.source P.generators) (sym is) ∙ sort_put u ground.0 (ap (sort_of Q.source Here.generators) (sym same) ∙ ground.1),
  )

  abbrev Holds : Term → Term → Type 0
  Holds t u = Derives Q.source P (put_term terms t) (put_term terms u)

  moved : (t u t' u' v w : Term) → t ≡ t' → u ≡ u' → put_term terms t' ≡ v → put_term terms u' ≡ w → Derives Q.source P v w → Holds t u
  moved t u t' u' v w e f g h d = subst (λ (x : Term). Derives Q.source P x (put_term terms u)) (sym (ap (put_term terms) e ∙ g))
      (subst (λ (x : Term). Derives Q.source P v x) (sym (ap (put_term terms) f ∙ h)) d)

  put-Att : (n : ℕ) (a : EntTerm) → put_term terms (Typ (Att n a)) ≡ Typ (Att n (put terms a))
  put-Att n a = ap Typ (fold-Att TypeTerm (put_type_step terms) n a)

  put-Fun : (f : ℕ) (ts : List TypeTerm) → put_term terms (Typ (Fun f ts)) ≡ Typ (Fun f (map (put_type terms) ts))
  put-Fun f ts = ap Typ (fold-Fun TypeTerm (put_type_step terms) f ts)

  put-key : (a : EntTerm) (path : List ℕ) → put_term terms (Ent (extended a path)) ≡ Ent (extended (put terms a) path)
  put-key a path = ap Ent (put-extended terms a path)

  mutual
    carried : (d : Derivation) (t u : Term) → Concludes Q.source Here None d t u → Holds t u
    carried (reflexivity s) t u h = moved t u s s (put_term terms s) (put_term terms s) h.2 h.3 refl refl (Derives-reflexive Q.source P (put_term terms s) (ground_put s s refl h.0 (put_term terms s) refl))
    carried (symmetry d) t u h = Derives-symmetric Q.source P (put_term terms u) (put_term terms t) (carried d u t h)
    carried (transitivity d e) t u h = Derives-transitive Q.source P (put_term terms t) (put_term terms h.0) (put_term terms u) (carried d t h.0 h.1) (carried e h.0 u h.2)
    carried (key k d) t u h =
        let ground = ground_put t (Ent (extended h.0 (k ∷ []))) h.3 h.5 (Ent (extended (put terms h.0) (k ∷ []))) (put-key h.0 (k ∷ [])) in
        moved t u _ _ _ _ h.3 h.4 (put-key h.0 (k ∷ [])) (put-key h.1 (k ∷ []))
        (Derives-key Q.source P k (put terms h.0) (put terms h.1) (carried d (Ent h.0) (Ent h.1) h.2) ground)
    carried (attribute n d) t u h =
        let ground = ground_put t (Typ (Att n h.0)) h.3 h.5 (Typ (Att n (put terms h.0))) (put-Att n h.0) in
        moved t u _ _ _ _ h.3 h.4 (put-Att n h.0) (put-Att n h.1)
        (Derives-attribute Q.source P n (put terms h.0) (put terms h.1) (carried d (Ent h.0) (Ent h.1) h.2) ground)
    carried (function f ds) t u h =
        let ground = ground_put t (Typ (Fun f h.0)) h.3 h.5 (Typ (Fun f (map (put_type terms) h.0))) (put-Fun f h.0) in
        moved t u _ _ _ _ h.3 h.4 (put-Fun f h.0) (put-Fun f h.1)
        (Derives-function Q.source P f (map (put_type terms) h.0) (map (put_type terms) h.1) (all_carried ds h.0 h.1 h.2) ground)
    carried (given n) t u h = moved t u _ _ _ _ h.2 h.3 refl refl (fits.meets n h.0 h.1)
    carried (path_equation n at) t u h =
        let place = put_sorted Q P.generators terms entity fits.stand at h.0.entity h.2 in
        moved t u _ _ _ _ h.4 h.5 (put-key at h.0.left) (put-key at h.0.right)
        (path_equation n (put terms at), (h.0, h.1, place, tt, refl, refl, tt, tt))
    carried (observation n at) t u h =
        let place = put_sorted Q P.generators terms entity fits.stand at h.0.entity h.2 in
        moved t u _ _ _ _ h.4 h.5 (ap Typ (put_type-substituted terms at h.0.left)) (ap Typ (put_type-substituted terms at h.0.right))
        (observation n (put terms at), (h.0, h.1, place, tt, refl, refl, tt, tt))

    all_carried : (ds : Derivations) (ts us : List TypeTerm) → Conclude Q.source Here None ds ts us → EachDerives Q.source P (map (put_type terms) ts) (map (put_type terms) us)
    all_carried none [] [] h = tt
    all_carried (more d ds) (t ∷ ts) (u ∷ us) h = (carried d (Typ t) (Typ u) h.0, all_carried ds ts us h.1)
    all_carried none [] (u ∷ us) h = absurd h
    all_carried none (t ∷ ts) us h = absurd h
    all_carried (more d ds) [] us h = absurd h
    all_carried (more d ds) (t ∷ ts) [] h = absurd h

  -- what is derivable from the frozen presentation is derivable of terms that fit
  pub Derives-put : (t u : Term) → Derives Q.source Here t u → Derives Q.source P (put_term terms t) (put_term terms u)
  Derives-put t u d = carried d.0 t u d.1
