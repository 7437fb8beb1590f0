-- The composite of sound queries is sound.
use Rattle.std.proofs.Common.{ℕ, zero, suc, List, [], ◌∷◌, Some, ◌≡◌, ◌<◌, ◌+◌, map, length, refl, sym, ap, subst, ◌∙◌, arith}
use Rattle.std.specs.Prelude.{slice_get}
use Rattle.std.specs.List.{flat_map, enumerate_from}
use Rattle.cq_base.specs.declared.name.Name.{Name}
use Rattle.cq_theory.specs.declared.presentation.Equation.{Equation}
use Rattle.cq_theory.specs.declared.presentation.Equation.TheVariants as equation
use Rattle.cq_theory.specs.declared.presentation.Sort.TheVariants.{Plain, Entity}
use Rattle.cq_theory.specs.declared.schema.Edge.{Edge}
use Rattle.cq_theory.specs.declared.schema.PathEq.{PathEq}
use Rattle.cq_theory.specs.declared.schema.ObsEq.{ObsEq}
use Rattle.cq_theory.specs.SchemaData.{SchemaData as Schema}
use Rattle.cq_theory.specs.declared.term.EntTerm.{EntTerm}
use Rattle.cq_theory.specs.declared.term.TypeTerm.{TypeTerm}
use Rattle.cq_theory.specs.declared.term.Term.TheVariants.{Ent, Typ}
use Rattle.cq_theory.specs.Schema.{one_of}
use Rattle.cq_theory.specs.Sorts.{target_of, entity_of, type_of}
use Rattle.cq_theory.specs.Derivation.{Derives, left_of, right_of}
use Rattle.cq_theory.proofs.Every.{from_enumerated}
use Rattle.cq_theory.proofs.OnValues.{All_at}
use Rattle.cq_theory.proofs.ResolvedSorts.{map_some}
use Rattle.cq_blocks.specs.declared.block.Block.{Block}
use Rattle.cq_query.specs.QueryData.{QueryData as Query}
use Rattle.cq_query.specs.Puts.{put, put_type, put_equation}
use Rattle.cq_query.specs.Translation.{variables_at, tests_at, variable_terms, assigned, along}
use Rattle.cq_query.specs.Translation as first
use Rattle.cq_query.specs.Duties.{equal_terms, frozen, key_duties, path_duties, observation_duties, Sound}
use Rattle.cq_query.specs.IsQuery.{IsQuery}
use Rattle.cq_query.proofs.Holding.{in_map, key_duty_in, path_duty_in, observation_duty_in}
use Rattle.cq_query.proofs.SortedDuties.{All_in, all_append, all_flat_map}
use Rattle.cq_query.proofs.Standing.{Stand, generators_at, within_length, assigned_stand, along_stand, variables_stand}
use Rattle.cq_compose.specs.Composite.{components, term_components, translated, translated_test, composite_tests, composite}
use Rattle.cq_compose.proofs.Putting.{put_term, put-left, put-right, put_term-put, Fits}
use Rattle.cq_compose.proofs.Equals.{AreEqual, Derives-moved, equal_from, equal_each, equal_flat}
use Rattle.cq_compose.proofs.Agreeing.{all_mapped, one_member}
use Rattle.cq_compose.proofs.Components.{tests_are, assigned_are, component_fits, variable_components, variable_within, second_query, term_fits}
use Rattle.cq_compose.proofs.Carrying.{Derives-carried}
use Rattle.cq_compose.proofs.AllDuties.{all_duties}
use Rattle.cq_compose.proofs.Pieces.{piece_at, put_components, put_turned, along_pieces, turned_translated}

module _ (Q : Query) (U : Schema) (blocks : List Block) (query : IsQuery Q) (sound : Sound Q) (second : IsQuery (second_query Q U blocks)) (second_sound : Sound (second_query Q U blocks)) where
  abbrev W : Query
  W = second_query Q U blocks

  abbrev C : Query
  C = composite Q W

  abbrev IsDerived : ℕ → Equation → Type 0
  IsDerived u e = Derives Q.source (frozen C u) (left_of e) (right_of e)

  -- a foreign key takes each where equation of its target to one that is derivable
  module _ (k : ℕ) (edge : Edge) (is : slice_get U.keys k ≡ Some edge) where
    ends : (edge.from < length U.entities) × (edge.to < length U.entities)
    ends = All_at (λ (x : Edge). (x.from < length U.entities) × (x.to < length U.entities)) U.keys k edge second.target.keys is

    key : Stand W (generators_at W edge.from) (assigned W k) edge.to
    key = assigned_stand W second k edge is

    abbrev pieces : List EntTerm
    pieces = flat_map (term_components Q W edge.from) (assigned W k)

    abbrev IsMet : Equation → Type 0
    IsMet e = IsDerived edge.from (put_equation pieces e)

    component_met : (y : ℕ) (v : Name × ℕ) → slice_get (variables_at W edge.to) y ≡ Some v → All_in (λ e. IsMet (put_equation (components Q W edge.to y) e)) (tests_at Q v.1)
    component_met y v is_v n e at =
        let a = within_length (assigned W k) (variables_at W edge.to) y v is_v key.count in
        let test = (query.each_frozen v.1 (variable_within Q U blocks second edge.to y v ends.1 is_v)).equations n e at in
        let count = (component_fits Q W edge.to y v is_v).stand.count in
        let there : map (put pieces) (components Q W edge.to y) ≡ term_components Q W edge.from a.0 = piece_at Q U blocks query sound edge.from edge.to (assigned W k) key y v a.0 is_v a.1 in
        let fit : Fits Q (frozen C edge.from) (term_components Q W edge.from a.0) v.1 = term_fits Q U blocks query sound edge.from a.0 v.1 (key.each y a.0 v a.1 is_v) in
        Derives-moved Q.source (frozen C edge.from) _ _ _ _
        (sym (put-left pieces (put_equation (components Q W edge.to y) e) ∙ ap (put_term pieces) (put-left (components Q W edge.to y) e)
        ∙ put_term-put Q pieces (components Q W edge.to y) v.1 count (left_of e) test.sort test.left ∙ ap (λ l. put_term l (left_of e)) there))
        (sym (put-right pieces (put_equation (components Q W edge.to y) e) ∙ ap (put_term pieces) (put-right (components Q W edge.to y) e)
        ∙ put_term-put Q pieces (components Q W edge.to y) v.1 count (right_of e) test.sort test.right ∙ ap (λ l. put_term l (right_of e)) there))
        (fit.meets n e at)

    equal_met : (ts us : List EntTerm) → AreEqual Q.source (frozen C edge.from) (map (put pieces) ts) (map (put pieces) us) → All_in IsMet (equal_terms ts us)
    equal_met [] us h n e at = cc
    equal_met (t ∷ ts) [] h n e at = cc
    equal_met (t ∷ ts) (u ∷ us) h zero e at = let same : equation.Ent t u ≡ e = cc in subst IsMet same h.0
    equal_met (t ∷ ts) (u ∷ us) h (suc n) e at = equal_met ts us h.1 n e at

    translated_met : (m : ℕ) (w : Equation) → slice_get (tests_at W edge.to) m ≡ Some w → All_in IsMet (translated_test Q W edge.to w)
    translated_met m (equation.Ent t v) at =
        let test = (second.each_frozen edge.to ends.1).equations m (equation.Ent t v) at in
        let left = map_some Entity (entity_of Q.target (generators_at W edge.to) t) test.sort test.left in
        let right = map_some Entity (entity_of Q.target (generators_at W edge.to) v) test.sort test.right in
        let w : Equation = equation.Ent t v in
        let duty = key_duty_in W k edge is (put_equation (assigned W k) w) (in_map (put_equation (assigned W k)) (tests_at W edge.to) m w at) in
        let derived = Derives-carried Q U blocks query sound edge.from second ends.0 (Ent (put (assigned W k) t)) (Ent (put (assigned W k) v)) (second_sound edge.from duty.0 (put_equation (assigned W k) w) ends.0 duty.1) in
        equal_met (term_components Q W edge.to t) (term_components Q W edge.to v)
        (subst (λ (l : List EntTerm). AreEqual Q.source (frozen C edge.from) l (map (put pieces) (term_components Q W edge.to v))) (sym (put_components Q U blocks query sound edge.from edge.to (assigned W k) key t left.0 left.1))
        (subst (λ (l : List EntTerm). AreEqual Q.source (frozen C edge.from) (term_components Q W edge.from (put (assigned W k) t)) l) (sym (put_components Q U blocks query sound edge.from edge.to (assigned W k) key v right.0 right.1)) derived))
    translated_met m (equation.Typ t v) at =
        let test = (second.each_frozen edge.to ends.1).equations m (equation.Typ t v) at in
        let left = map_some Plain (type_of Q.target (generators_at W edge.to) t) test.sort test.left in
        let right = map_some Plain (type_of Q.target (generators_at W edge.to) v) test.sort test.right in
        let w : Equation = equation.Typ t v in
        let duty = key_duty_in W k edge is (put_equation (assigned W k) w) (in_map (put_equation (assigned W k)) (tests_at W edge.to) m w at) in
        let derived = Derives-carried Q U blocks query sound edge.from second ends.0 (Typ (put_type (assigned W k) t)) (Typ (put_type (assigned W k) v)) (second_sound edge.from duty.0 (put_equation (assigned W k) w) ends.0 duty.1) in
        one_member IsMet (equation.Typ (translated Q W edge.to t) (translated Q W edge.to v))
        (Derives-moved Q.source (frozen C edge.from) _ _ _ _
        (ap Typ (sym (put_turned Q U blocks query sound edge.from edge.to (assigned W k) key t left.0 left.1)))
        (ap Typ (sym (put_turned Q U blocks query sound edge.from edge.to (assigned W k) key v right.0 right.1))) derived)

    tests_met : All_in IsMet (composite_tests Q W edge.to)
    tests_met = all_append IsMet
        (flat_map (λ (y : ℕ × (Name × ℕ)). map (put_equation (components Q W edge.to y.0)) (tests_at Q y.1.1)) (enumerate_from 0 (variables_at W edge.to)))
        (flat_map (translated_test Q W edge.to) (tests_at W edge.to))
        (all_flat_map IsMet (λ (y : ℕ × (Name × ℕ)). map (put_equation (components Q W edge.to y.0)) (tests_at Q y.1.1)) (enumerate_from 0 (variables_at W edge.to)) (λ n y at.
        let from = from_enumerated 0 (variables_at W edge.to) n y at in
        all_mapped IsMet (put_equation (components Q W edge.to y.0)) (tests_at Q y.1.1)
        (component_met y.0 y.1 (ap (slice_get (variables_at W edge.to)) (from.1 ∙ none_before n) ∙ from.0))))
        (all_flat_map IsMet (translated_test Q W edge.to) (tests_at W edge.to) translated_met)
      where
        none_before : (n : ℕ) → 0 + n ≡ n
        none_before n = omega arith

    key_derived : All_in (IsDerived edge.from) (key_duties C k (Some edge))
    key_derived =
        all_mapped (IsDerived edge.from) (put_equation (assigned C k)) (tests_at C edge.to)
        (subst (λ (l : List EntTerm). All_in (λ e. IsDerived edge.from (put_equation l e)) (tests_at C edge.to)) (sym (assigned_are Q W k edge is))
        (subst (All_in IsMet) (sym (tests_are Q W edge.to)) tests_met))

  -- the sides of a path equation
  path_derived : (n : ℕ) (e : PathEq) → slice_get U.path_eqs n ≡ Some e → All_in (IsDerived e.entity) (path_duties C e.entity (Some e))
  path_derived n e is =
      let sides = second.target.path_eqs n e is in
      let stand = variables_stand W e.entity in
      let left = along_stand W second (generators_at W e.entity) e.left (variable_terms W e.entity) e.entity sides.target sides.left stand in
      let right = along_stand W second (generators_at W e.entity) e.right (variable_terms W e.entity) e.entity sides.target sides.right stand in
      let there : AreEqual Q.target (frozen W e.entity) (along W (variable_terms W e.entity) e.left) (along W (variable_terms W e.entity) e.right) =
      equal_from Q.target (frozen W e.entity) _ _ (left.count ∙ sym right.count) (λ x member. let duty = path_duty_in W n e is x member in second_sound e.entity duty.0 x sides.entity duty.1) in
      let here : AreEqual Q.source (frozen C e.entity) (flat_map (term_components Q W e.entity) (along W (variable_terms W e.entity) e.left)) (flat_map (term_components Q W e.entity) (along W (variable_terms W e.entity) e.right)) =
      equal_flat Q.target Q.source (frozen W e.entity) (frozen C e.entity) (term_components Q W e.entity) (λ t v d. Derives-carried Q U blocks query sound e.entity second sides.entity (Ent t) (Ent v) d) _ _ there in
      let side : (path : List ℕ) → target_of U.keys path e.entity ≡ Some sides.target → along C (variable_terms C e.entity) path ≡ flat_map (term_components Q W e.entity) (along W (variable_terms W e.entity) path) =
      λ path led. ap (λ l. along C l path) (variable_components Q W e.entity) ∙ along_pieces Q U blocks query sound e.entity second path e.entity sides.target (variable_terms W e.entity) led stand in
      equal_each Q.source (frozen C e.entity) (along C (variable_terms C e.entity) e.left) (along C (variable_terms C e.entity) e.right)
      (subst (λ (l : List EntTerm). AreEqual Q.source (frozen C e.entity) l (along C (variable_terms C e.entity) e.right)) (sym (side e.left sides.left))
      (subst (λ (l : List EntTerm). AreEqual Q.source (frozen C e.entity) (flat_map (term_components Q W e.entity) (along W (variable_terms W e.entity) e.left)) l) (sym (side e.right sides.right)) here))

  -- the sides of an observation equation
  observation_derived : (n : ℕ) (e : ObsEq) → slice_get U.obs_eqs n ≡ Some e → All_in (IsDerived e.entity) (observation_duties C e.entity (Some e))
  observation_derived n e is =
      let sides = second.target.obs_eqs n e is in
      let stand = variables_stand W e.entity in
      let duty : Equation = equation.Typ (first.translated W (variable_terms W e.entity) e.left) (first.translated W (variable_terms W e.entity) e.right) in
      let place = observation_duty_in W n e is duty (0, refl) in
      let derived = Derives-carried Q U blocks query sound e.entity second sides.entity _ _ (second_sound e.entity place.0 duty sides.entity place.1) in
      let side : (t : TypeTerm) → type_of U (one_of e.entity) t ≡ Some sides.type
      → translated Q W e.entity (first.translated W (variable_terms W e.entity) t) ≡ first.translated C (variable_terms C e.entity) t =
      λ t typed. turned_translated Q U blocks query sound e.entity second e.entity (variable_terms W e.entity) stand t sides.type typed
      ∙ ap (λ l. first.translated C l t) (sym (variable_components Q W e.entity)) in
      one_member (IsDerived e.entity) (equation.Typ (first.translated C (variable_terms C e.entity) e.left) (first.translated C (variable_terms C e.entity) e.right))
      (Derives-moved Q.source (frozen C e.entity) _ _ _ _ (ap Typ (side e.left sides.left)) (ap Typ (side e.right sides.right)) derived)

  sound_composite : Sound C
  sound_composite u n e within is = all_duties C IsDerived key_derived path_derived observation_derived u n e is

-- the composite of sound queries is sound
pub composite_sound : (Q W : Query) → IsQuery Q → IsQuery W → Q.target ≡ W.source → Sound Q → Sound W → Sound (composite Q W)
composite_sound Q W query second same sound second_sound =
    sound_composite Q W.target W.blocks query sound
    (subst (λ (T : Schema). IsQuery (record { source = T; target = W.target; blocks = W.blocks })) (sym same) second)
    (subst (λ (T : Schema). Sound (record { source = T; target = W.target; blocks = W.blocks })) (sym same) second_sound)

-- the same of a query that is the composite
pub made_sound : (Q W made : Query) → IsQuery Q → IsQuery W → W.source ≡ Q.target → made ≡ composite Q W → Sound Q → Sound W → Sound made
made_sound Q W made query second same is sound second_sound = subst Sound (sym is) (composite_sound Q W query second (sym same) sound second_sound)
