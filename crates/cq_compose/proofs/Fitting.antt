-- Terms that fit go on to terms that fit along foreign keys, and equal terms put for variables give equal terms.
use Rattle.std.proofs.Common.{ℕ, suc, List, [], ◌∷◌, ◌++◌, Some, ◌≡◌, ◌<◌, ◌+◌, map, length, refl, sym, ap, subst, ◌∙◌, arith}
use Rattle.std.specs.Prelude.{slice_get, option_map}
use Rattle.std.proofs.lemmas.List.{append-nil, length-map}
use Rattle.std.proofs.lemmas.Option.{option_and_then_some}
use Rattle.cq_theory.specs.declared.presentation.Presentation.{Presentation}
use Rattle.cq_theory.specs.declared.presentation.Sort.TheVariants.{Plain}
use Rattle.cq_theory.specs.declared.schema.Edge.{Edge}
use Rattle.cq_theory.specs.declared.term.EntTerm.{EntTerm}
use Rattle.cq_theory.specs.declared.term.TypeTerm.{TypeTerm}
use Rattle.cq_theory.specs.declared.term.TypeTerm.TheVariants.{Const, Att, Fun}
use Rattle.cq_theory.specs.declared.term.Term.TheVariants.{Ent, Typ}
use Rattle.cq_theory.specs.EntTerm.{alone, extended}
use Rattle.cq_theory.specs.Sorts.{followed, target_of, entity_at, entity_of, type_of, IsGround}
use Rattle.cq_theory.specs.Derivation.{Derives, left_of, right_of}
use Rattle.cq_theory.proofs.TypeTerms.{fold-Const, fold-Att, fold-Fun}
use Rattle.cq_theory.proofs.Derivations.{Derives-reflexive, Derives-attribute, Derives-function}
use Rattle.cq_theory.proofs.Sound.{followed_some}
use Rattle.cq_theory.proofs.OnValues.{All_at}
use Rattle.cq_mapping.proofs.Preserved.{path_derived}
use Rattle.cq_query.specs.QueryData.{QueryData as Query}
use Rattle.cq_query.specs.Puts.{term_or_first, put, put_type, put_type_step, put_equation, generators_from}
use Rattle.cq_query.specs.Translation.{variables_at, tests_at, variable_terms, assigned, attribute_term, term_or_constant, along}
use Rattle.cq_query.specs.Duties.{Sound}
use Rattle.cq_query.specs.IsQuery.{IsQuery}
use Rattle.cq_query.proofs.Standing.{Stand, generators_at, variable_at, no_type_at, within_length, put_sorted, put_type_sorted, assigned_stand, put_stand}
use Rattle.cq_query.proofs.Holding.{in_map, key_duty_in}
use Rattle.cq_compose.proofs.Typed.{on_typed, each_derives}
use Rattle.cq_compose.proofs.Putting.{put_term, put-left, put-right, put-put, put_term-put, Fits, Derives-put}
use Rattle.cq_compose.proofs.Equals.{AreEqual, Derives-moved, equal_length, equal_at}

pub extended-nil : (t : EntTerm) → extended t [] ≡ t
extended-nil t = ap (λ p. extended (record { generator = t.generator; path = [] }) p) (append-nil t.path)

-- generators in a row, with the terms of a list in their places
pub put-generators : (terms : List EntTerm) (s : ℕ) (ts : List EntTerm) → ((n : ℕ) (t : EntTerm) → slice_get ts n ≡ Some t → slice_get terms (s + n) ≡ Some t)
    → map (put terms) (generators_from s (length ts)) ≡ ts
put-generators terms s [] h = refl
put-generators terms s (t ∷ ts) h =
    let here : s ≡ s + 0 = omega arith in
    let found : slice_get terms s ≡ Some t = ap (slice_get terms) here ∙ h 0 t refl in
    let first : put terms (alone s) ≡ t = ap (λ o. extended (term_or_first o) []) found ∙ extended-nil t in
    let rest : map (put terms) (generators_from (s + 1) (length ts)) ≡ ts = put-generators terms (s + 1) ts (λ n u at.
    let there : s + 1 + n ≡ s + suc n = omega arith in ap (slice_get terms) there ∙ h (suc n) u at) in
    λ i. first i ∷ rest i

-- each of the terms has an entity over the variables of a block
abbrev pub AreSorted : Query → ℕ → List EntTerm → Type 0
AreSorted Q entity ts = (n : ℕ) (t : EntTerm) → slice_get ts n ≡ Some t → (e : ℕ) × (entity_of Q.source (generators_at Q entity) t ≡ Some e)

module _ (Q : Query) where
  pub along-append : (terms : List EntTerm) (p q : List ℕ) → along Q terms (p ++ q) ≡ along Q (along Q terms p) q
  along-append terms [] q = refl
  along-append terms (k ∷ p) q = along-append (map (put terms) (assigned Q k)) p q

  -- terms in the places of all variables of a block
  pub put-variables : (terms : List EntTerm) (entity : ℕ) → length terms ≡ length (variables_at Q entity) → map (put terms) (variable_terms Q entity) ≡ terms
  put-variables terms entity count = ap (λ n. map (put terms) (generators_from 0 n)) (sym count) ∙ put-generators terms 0 terms (λ n t at.
      let here : 0 + n ≡ n = omega arith in ap (slice_get terms) here ∙ at)

  -- terms that stand for a row have entities
  pub stand_sorted : (entity other : ℕ) (ts : List EntTerm) → Stand Q (generators_at Q entity) ts other → AreSorted Q entity ts
  stand_sorted entity other ts stand n t at =
      let v = within_length (variables_at Q other) ts n t at (sym stand.count) in
      (v.0.1, stand.each n t v.0 at v.1)

  put-each : (terms ts : List EntTerm) (entity : ℕ) → length ts ≡ length (variables_at Q entity) → (us : List EntTerm) → AreSorted Q entity us
      → map (put terms) (map (put ts) us) ≡ map (put (map (put terms) ts)) us
  put-each terms ts entity count [] h = refl
  put-each terms ts entity count (u ∷ us) h =
      let e = h 0 u refl in
      let first : put terms (put ts u) ≡ put (map (put terms) ts) u = put-put Q terms ts entity count u e.0 e.1 in
      let rest : map (put terms) (map (put ts) us) ≡ map (put (map (put terms) ts)) us = put-each terms ts entity count us (λ n t at. h (suc n) t at) in
      λ i. first i ∷ rest i

  module _ (query : IsQuery Q) where
    -- the term of an attribute has the attribute's type
    pub attribute_typed : (a : ℕ) (edge : Edge) → slice_get Q.target.attributes a ≡ Some edge → type_of Q.source (generators_at Q edge.from) (attribute_term Q a) ≡ Some edge.to
    attribute_typed a edge is = let term = query.attributes a edge is in ap (λ o. type_of Q.source (generators_at Q edge.from) (term_or_constant o)) term.found ∙ term.typed

    -- terms put into what stands at the end of a path
    pub put-along : (terms : List EntTerm) (path : List ℕ) (ts : List EntTerm) (entity target : ℕ) → target_of Q.target.keys path entity ≡ Some target → length ts ≡ length (variables_at Q entity)
        → map (put terms) (along Q ts path) ≡ along Q (map (put terms) ts) path
    put-along terms [] ts entity target h count = refl
    put-along terms (k ∷ path) ts entity target h count = option_and_then_some (target_of Q.target.keys path) (followed (slice_get Q.target.keys k) entity) target h (λ middle led rest.
        let edge = followed_some (slice_get Q.target.keys k) entity middle led in
        let key = assigned_stand Q query k edge.0 edge.1 in
        let from : length ts ≡ length (variables_at Q edge.0.from) = count ∙ ap (λ e. length (variables_at Q e)) (sym edge.2) in
        let size : length (map (put ts) (assigned Q k)) ≡ length (variables_at Q middle) = length-map (assigned Q k) (put ts) ∙ key.count ∙ ap (λ e. length (variables_at Q e)) edge.3 in
        put-along terms path (map (put ts) (assigned Q k)) middle target rest size
        ∙ ap (λ l. along Q l path) (put-each terms ts edge.0.from from (assigned Q k) (stand_sorted edge.0.from edge.0.to (assigned Q k) key)))

    module _ (sound : Sound Q) (P : Presentation) where
      key_fits : (terms : List EntTerm) (k : ℕ) (edge : Edge) → slice_get Q.target.keys k ≡ Some edge → Fits Q P terms edge.from → Fits Q P (map (put terms) (assigned Q k)) edge.to
      key_fits terms k edge is fits = record {
        stand = put_stand Q query P.generators terms k edge is fits.stand;
        meets = λ n e at.
            let ends = All_at (λ (x : Edge). (x.from < length Q.target.entities) × (x.to < length Q.target.entities)) Q.target.keys k edge query.target.keys is in
            let test = (query.each_frozen edge.to ends.1).equations n e at in
            let duty = key_duty_in Q k edge is (put_equation (assigned Q k) e) (in_map (put_equation (assigned Q k)) (tests_at Q edge.to) n e at) in
            let count = (assigned_stand Q query k edge is).count in
            Derives-moved Q.source P _ _ _ _
            (ap (put_term terms) (put-left (assigned Q k) e) ∙ put_term-put Q terms (assigned Q k) edge.to count (left_of e) test.sort test.left)
            (ap (put_term terms) (put-right (assigned Q k) e) ∙ put_term-put Q terms (assigned Q k) edge.to count (right_of e) test.sort test.right)
            (Derives-put Q P terms edge.from fits (left_of (put_equation (assigned Q k) e)) (right_of (put_equation (assigned Q k) e))
            (sound edge.from duty.0 (put_equation (assigned Q k) e) ends.0 duty.1));
      }

      -- what stands at the end of a path fits where its beginning does
      pub along_fits : (path : List ℕ) (terms : List EntTerm) (entity target : ℕ) → target_of Q.target.keys path entity ≡ Some target → Fits Q P terms entity → Fits Q P (along Q terms path) target
      along_fits [] terms entity target h fits = let same : entity ≡ target = cc in subst (Fits Q P terms) same fits
      along_fits (k ∷ path) terms entity target h fits = option_and_then_some (target_of Q.target.keys path) (followed (slice_get Q.target.keys k) entity) target h (λ middle led rest.
          let edge = followed_some (slice_get Q.target.keys k) entity middle led in
          let next : Fits Q P (map (put terms) (assigned Q k)) middle = subst (Fits Q P (map (put terms) (assigned Q k))) edge.3 (key_fits terms k edge.0 edge.1 (subst (Fits Q P terms) (sym edge.2) fits)) in
          along_fits path (map (put terms) (assigned Q k)) middle target rest next)

-- equal terms in the place of variables
module _ (Q : Query) (P : Presentation) (terms others : List EntTerm) (entity : ℕ) (stand : Stand Q P.generators terms entity) (equal : AreEqual Q.source P terms others) where
  pub put_equal : (t : EntTerm) (e : ℕ) → entity_of Q.source (generators_at Q entity) t ≡ Some e → Derives Q.source P (Ent (put terms t)) (Ent (put others t))
  put_equal t e h = option_and_then_some (target_of Q.source.keys t.path) (entity_at (slice_get (generators_at Q entity) t.generator)) e h (λ start first rest.
      let v = variable_at Q entity t.generator start first in
      let a = within_length terms (variables_at Q entity) t.generator v.0 v.1 stand.count in
      let b = within_length others (variables_at Q entity) t.generator v.0 v.1 (sym (equal_length Q.source P terms others equal) ∙ stand.count) in
      let left : put terms t ≡ extended a.0 t.path = ap (λ o. extended (term_or_first o) t.path) a.1 in
      let right : put others t ≡ extended b.0 t.path = ap (λ o. extended (term_or_first o) t.path) b.1 in
      let led : entity_of Q.source P.generators (extended a.0 t.path) ≡ Some e = ap (entity_of Q.source P.generators) (sym left) ∙ put_sorted Q P.generators terms entity stand t e h in
      Derives-moved Q.source P _ _ _ _ (ap Ent (sym left)) (ap Ent (sym right))
      (path_derived Q.source P t.path a.0 b.0 (equal_at Q.source P terms others equal t.generator a.0 b.0 a.1 b.1) e led))

  pub put_equal_each : (ts : List EntTerm) → AreSorted Q entity ts → AreEqual Q.source P (map (put terms) ts) (map (put others) ts)
  put_equal_each [] h = tt
  put_equal_each (t ∷ ts) h = let e = h 0 t refl in (put_equal t e.0 e.1, put_equal_each ts (λ n u at. h (suc n) u at))

  ground_here : (t u : TypeTerm) (type : ℕ) → type_of Q.source (generators_at Q entity) t ≡ Some type → put_type terms t ≡ u → IsGround Q.source P (Typ u)
  ground_here t u type h same = (Plain type, ap (option_map Plain) (ap (type_of Q.source P.generators) (sym same) ∙ put_type_sorted Q P.generators terms entity stand t type h))

  pub put_type_equal : (t : TypeTerm) (type : ℕ) → type_of Q.source (generators_at Q entity) t ≡ Some type → Derives Q.source P (Typ (put_type terms t)) (Typ (put_type others t))
  put_type_equal = on_typed Q.source (generators_at Q entity) (λ t. Derives Q.source P (Typ (put_type terms t)) (Typ (put_type others t)))
      (λ n type h. absurd (no_type_at Q entity n type h))
      (λ c type h.
      let left = fold-Const TypeTerm (put_type_step terms) c in
      Derives-moved Q.source P (Typ (Const c)) _ (Typ (Const c)) _ (ap Typ (sym left)) (ap Typ (sym (fold-Const TypeTerm (put_type_step others) c)))
      (Derives-reflexive Q.source P (Typ (Const c)) (ground_here (Const c) (Const c) type h left)))
      (λ a t edge is led h.
      let left = fold-Att TypeTerm (put_type_step terms) a t in
      Derives-moved Q.source P (Typ (Att a (put terms t))) _ (Typ (Att a (put others t))) _ (ap Typ (sym left)) (ap Typ (sym (fold-Att TypeTerm (put_type_step others) a t)))
      (Derives-attribute Q.source P a (put terms t) (put others t) (put_equal t edge.from led) (ground_here (Att a t) (Att a (put terms t)) edge.to h left)))
      (λ f ts type h each.
      let left = fold-Fun TypeTerm (put_type_step terms) f ts in
      Derives-moved Q.source P (Typ (Fun f (map (put_type terms) ts))) _ (Typ (Fun f (map (put_type others) ts))) _ (ap Typ (sym left)) (ap Typ (sym (fold-Fun TypeTerm (put_type_step others) f ts)))
      (Derives-function Q.source P f (map (put_type terms) ts) (map (put_type others) ts) (each_derives Q.source P (put_type terms) (put_type others) ts each)
      (ground_here (Fun f ts) (Fun f (map (put_type terms) ts)) type h left)))
