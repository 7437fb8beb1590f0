-- What is derivable from the second query's frozen presentation is derivable of components from the composite's.
use Rattle.std.proofs.Common.{ℕ, List, [], ◌∷◌, Option, Some, None, ◌≡◌, ◌<◌, map, length, refl, sym, ap, subst, ◌∙◌}
use Rattle.std.specs.Prelude.{slice_get, option_map}
use Rattle.std.proofs.lemmas.Option.{option_and_then_some}
use Rattle.cq_theory.specs.declared.presentation.Presentation.{Presentation}
use Rattle.cq_theory.specs.declared.presentation.Equation.{Equation}
use Rattle.cq_theory.specs.declared.presentation.Equation.TheVariants as equation
use Rattle.cq_theory.specs.declared.presentation.Sort.TheVariants.{Plain, Entity}
use Rattle.cq_theory.specs.declared.schema.PathEq.{PathEq}
use Rattle.cq_theory.specs.declared.schema.ObsEq.{ObsEq}
use Rattle.cq_theory.specs.SchemaData.{SchemaData as Schema}
use Rattle.cq_theory.specs.declared.term.EntTerm.{EntTerm}
use Rattle.cq_theory.specs.declared.term.TypeTerm.{TypeTerm}
use Rattle.cq_theory.specs.declared.term.TypeTerm.TheVariants.{Att, Fun}
use Rattle.cq_theory.specs.declared.term.Term.{Term}
use Rattle.cq_theory.specs.declared.term.Term.TheVariants.{Ent, Typ}
use Rattle.cq_theory.specs.EntTerm.{extended}
use Rattle.cq_theory.specs.TypeTerm.{substituted, substituted_step}
use Rattle.cq_theory.specs.Schema.{one_of}
use Rattle.cq_theory.specs.Sorts.{followed, target_of, entity_at, entity_of, type_of, type_step, IsGround}
use Rattle.cq_theory.specs.Derivation.{Derivation, Derivations, reflexivity, symmetry, transitivity, key, attribute, function, given, path_equation, observation, none, more, Concludes, Conclude, Derives, EachDerives, left_of, right_of}
use Rattle.cq_theory.proofs.TypeTerms.{fold-Const, fold-Att, fold-Fun}
use Rattle.cq_theory.proofs.Derivations.{Derives-reflexive, Derives-symmetric, Derives-transitive, Derives-function}
use Rattle.cq_theory.proofs.Sound.{followed_some}
use Rattle.cq_theory.proofs.Closings.{entity_before}
use Rattle.cq_theory.proofs.ResolvedSorts.{map_some}
use Rattle.cq_blocks.specs.declared.block.Block.{Block}
use Rattle.cq_query.specs.QueryData.{QueryData as Query}
use Rattle.cq_query.specs.Puts.{put, put_type, put_type_step}
use Rattle.cq_query.specs.Translation.{variables_at, tests_at, variable_terms, assigned, attribute_term, along}
use Rattle.cq_query.specs.Translation as first
use Rattle.cq_query.specs.Duties.{equal_terms, frozen, Sound}
use Rattle.cq_query.specs.IsQuery.{IsQuery}
use Rattle.cq_query.proofs.Answering.{IsIn}
use Rattle.cq_query.proofs.Holding.{path_duty_in, observation_duty_in}
use Rattle.cq_query.proofs.Standing.{generators_at, within_length, assigned_stand, along_stand, variables_stand}
use Rattle.cq_compose.specs.Composite.{components, term_components, translated, translated_step, composite}
use Rattle.cq_compose.proofs.Typed.{no_variable, variable_is, on_typed, each_across}
use Rattle.cq_compose.proofs.Putting.{put_type-put, Fits, Derives-put}
use Rattle.cq_compose.proofs.Equals.{AreEqual, Derives-moved, Derives-given, equal_reflexive, equal_symmetric, equal_transitive, equal_from, equal_mapped}
use Rattle.cq_compose.proofs.Fitting.{along-append, put-along, put-variables, stand_sorted, put_equal_each, put_type_equal, attribute_typed}
use Rattle.cq_compose.proofs.KeptTypes.{keeps}
use Rattle.cq_compose.proofs.Components.{second_query, translated_test_in, term_fits}

module _ (Q : Query) (U : Schema) (blocks : List Block) (query : IsQuery Q) (sound : Sound Q) (u : ℕ) where
  abbrev pub W : Query
  W = second_query Q U blocks

  abbrev pub There : Presentation
  There = frozen W u

  abbrev pub Here : Presentation
  Here = frozen (composite Q W) u

  abbrev pub comps : EntTerm → List EntTerm
  comps = term_components Q W u

  abbrev pub turned : TypeTerm → TypeTerm
  turned = translated Q W u

  pub fits : (t : EntTerm) (e : ℕ) → entity_of Q.target There.generators t ≡ Some e → Fits Q Here (comps t) e
  fits t e h = term_fits Q U blocks query sound u t e h

  -- components behind a path
  comps-extended : (t : EntTerm) (path : List ℕ) → comps (extended t path) ≡ along Q (comps t) path
  comps-extended t path = along-append Q (components Q W u t.generator) t.path path

  -- what is to hold of two terms that are derivably equal
  abbrev pub AreSame : Term → Term → Type 0
  AreSame (Ent t) (Ent v) = AreEqual Q.source Here (comps t) (comps v)
  AreSame (Typ t) (Typ v) = Derives Q.source Here (Typ (turned t)) (Typ (turned v))
  AreSame _ _ = ⊥

  same_moved : (t v t' v' : Term) → t ≡ t' → v ≡ v' → AreSame t' v' → AreSame t v
  same_moved t v t' v' e f h = subst (λ (x : Term). AreSame x v) (sym e) (subst (λ (x : Term). AreSame t' x) (sym f) h)

  same_symmetric : (t v : Term) → AreSame t v → AreSame v t
  same_symmetric (Ent t) (Ent v) h = equal_symmetric Q.source Here (comps t) (comps v) h
  same_symmetric (Typ t) (Typ v) h = Derives-symmetric Q.source Here (Typ (turned t)) (Typ (turned v)) h
  same_symmetric (Ent t) (Typ v) h = absurd h
  same_symmetric (Typ t) (Ent v) h = absurd h

  same_transitive : (t s v : Term) → AreSame t s → AreSame s v → AreSame t v
  same_transitive (Ent t) (Ent s) (Ent v) h k = equal_transitive Q.source Here (comps t) (comps s) (comps v) h k
  same_transitive (Typ t) (Typ s) (Typ v) h k = Derives-transitive Q.source Here (Typ (turned t)) (Typ (turned s)) (Typ (turned v)) h k
  same_transitive (Ent t) (Typ s) v h k = absurd h
  same_transitive (Typ t) (Ent s) v h k = absurd h
  same_transitive (Ent t) (Ent s) (Typ v) h k = absurd k
  same_transitive (Typ t) (Typ s) (Ent v) h k = absurd k

  comps_sorted : (t : EntTerm) (e : ℕ) → entity_of Q.target There.generators t ≡ Some e → (n : ℕ) (c : EntTerm) → slice_get (comps t) n ≡ Some c
      → (f : ℕ) × (entity_of Q.source Here.generators c ≡ Some f)
  comps_sorted t e h n c at =
      let fit = fits t e h in
      let v = within_length (variables_at Q e) (comps t) n c at (sym fit.stand.count) in
      (v.0.1, fit.stand.each n c v.0 at v.1)

  same_reflexive : (s : Term) → IsGround Q.target There s → AreSame s s
  same_reflexive (Ent t) ground =
      let e = map_some Entity (entity_of Q.target There.generators t) ground.0 ground.1 in
      equal_reflexive Q.source Here (comps t) (comps_sorted t e.0 e.1)
  same_reflexive (Typ t) ground =
      let e = map_some Plain (type_of Q.target There.generators t) ground.0 ground.1 in
      Derives-reflexive Q.source Here (Typ (turned t)) (Plain e.0, ap (option_map Plain) (keeps Q U blocks query u t e.0 e.1))

  -- components behind one foreign key
  key_same : (k : ℕ) (a b : EntTerm) → AreEqual Q.source Here (comps a) (comps b) → IsGround Q.target There (Ent (extended a (k ∷ [])))
      → AreSame (Ent (extended a (k ∷ []))) (Ent (extended b (k ∷ [])))
  key_same k a b equal ground =
      let e = map_some Entity (entity_of Q.target There.generators (extended a (k ∷ []))) ground.0 ground.1 in
      let before = entity_before Q.target There a (k ∷ []) e.0 e.1 in
      option_and_then_some (target_of Q.target.keys []) (followed (slice_get Q.target.keys k) before.0) e.0 before.2 (λ middle led rest.
      let edge = followed_some (slice_get Q.target.keys k) before.0 middle led in
      let fit : Fits Q Here (comps a) edge.0.from = fits a edge.0.from (before.1 ∙ ap (λ n. Some n) (sym edge.2)) in
      let equal' = put_equal_each Q Here (comps a) (comps b) edge.0.from fit.stand equal (assigned Q k)
      (stand_sorted Q edge.0.from edge.0.to (assigned Q k) (assigned_stand Q query k edge.0 edge.1)) in
      subst (λ (l : List EntTerm). AreEqual Q.source Here l (comps (extended b (k ∷ [])))) (sym (comps-extended a (k ∷ [])))
      (subst (λ (l : List EntTerm). AreEqual Q.source Here (along Q (comps a) (k ∷ [])) l) (sym (comps-extended b (k ∷ []))) equal'))

  attribute_same : (n : ℕ) (a b : EntTerm) → AreEqual Q.source Here (comps a) (comps b) → IsGround Q.target There (Typ (Att n a)) → AreSame (Typ (Att n a)) (Typ (Att n b))
  attribute_same n a b equal ground =
      let type = map_some Plain (type_of Q.target There.generators (Att n a)) ground.0 ground.1 in
      option_and_then_some (followed (slice_get Q.target.attributes n)) (entity_of Q.target There.generators a) type.0
      (sym (fold-Att (Option ℕ) (type_step Q.target There.generators) n a) ∙ type.1) (λ e led last.
      let edge = followed_some (slice_get Q.target.attributes n) e type.0 last in
      let fit : Fits Q Here (comps a) edge.0.from = fits a edge.0.from (led ∙ ap (λ m. Some m) (sym edge.2)) in
      Derives-moved Q.source Here _ _ _ _ (ap Typ (sym (fold-Att TypeTerm (translated_step Q W u) n a))) (ap Typ (sym (fold-Att TypeTerm (translated_step Q W u) n b)))
      (put_type_equal Q Here (comps a) (comps b) edge.0.from fit.stand equal (attribute_term Q n) edge.0.to (attribute_typed Q query n edge.0 edge.1)))

  function_same : (f : ℕ) (ts us : List TypeTerm) → EachDerives Q.source Here (map turned ts) (map turned us) → IsGround Q.target There (Typ (Fun f ts)) → AreSame (Typ (Fun f ts)) (Typ (Fun f us))
  function_same f ts us each ground =
      let type = map_some Plain (type_of Q.target There.generators (Fun f ts)) ground.0 ground.1 in
      let left = fold-Fun TypeTerm (translated_step Q W u) f ts in
      let typed : type_of Q.source Here.generators (Fun f (map turned ts)) ≡ Some type.0 = ap (type_of Q.source Here.generators) (sym left) ∙ keeps Q U blocks query u (Fun f ts) type.0 type.1 in
      Derives-moved Q.source Here _ _ _ _ (ap Typ (sym left)) (ap Typ (sym (fold-Fun TypeTerm (translated_step Q W u) f us)))
      (Derives-function Q.source Here f (map turned ts) (map turned us) each (Plain type.0, ap (option_map Plain) typed))

  -- the equations that the duties of the first query give
  module _ (at : EntTerm) (entity : ℕ) (of_entity : entity_of Q.target There.generators at ≡ Some entity) where
    put_path : (path : List ℕ) (target : ℕ) → target_of Q.target.keys path entity ≡ Some target → map (put (comps at)) (along Q (variable_terms Q entity) path) ≡ comps (extended at path)
    put_path path target led =
        put-along Q query (comps at) path (variable_terms Q entity) entity target led (variables_stand Q entity).count
        ∙ ap (λ l. along Q l path) (put-variables Q (comps at) entity (fits at entity of_entity).stand.count) ∙ sym (comps-extended at path)

    put_translated : (t : TypeTerm) (type : ℕ) → type_of Q.target (one_of entity) t ≡ Some type → put_type (comps at) (first.translated Q (variable_terms Q entity) t) ≡ turned (substituted at t)
    put_translated = on_typed Q.target (one_of entity) (λ t. put_type (comps at) (first.translated Q (variable_terms Q entity) t) ≡ turned (substituted at t))
        (λ n type h. absurd (no_variable entity n type h))
        (λ c type h. ap (put_type (comps at)) (fold-Const TypeTerm (first.translated_step Q (variable_terms Q entity)) c) ∙ fold-Const TypeTerm (put_type_step (comps at)) c
        ∙ sym (ap turned (fold-Const TypeTerm (substituted_step at) c) ∙ fold-Const TypeTerm (translated_step Q W u) c))
        (λ a t edge is led h.
        option_and_then_some (target_of Q.target.keys t.path) (entity_at (slice_get (one_of entity) t.generator)) edge.from led (λ start begins rest.
        let path : target_of Q.target.keys t.path entity ≡ Some edge.from = ap (target_of Q.target.keys t.path) (variable_is entity t.generator start begins) ∙ rest in
        let stand = along_stand Q query (generators_at Q entity) t.path (variable_terms Q entity) entity edge.from path (variables_stand Q entity) in
        ap (put_type (comps at)) (fold-Att TypeTerm (first.translated_step Q (variable_terms Q entity)) a t)
        ∙ put_type-put Q (comps at) (along Q (variable_terms Q entity) t.path) edge.from stand.count (attribute_term Q a) edge.to (attribute_typed Q query a edge is)
        ∙ ap (λ l. put_type l (attribute_term Q a)) (put_path t.path edge.from path)
        ∙ sym (ap turned (fold-Att TypeTerm (substituted_step at) a t) ∙ fold-Att TypeTerm (translated_step Q W u) a (extended at t.path))))
        (λ f ts type h each.
        ap (put_type (comps at)) (fold-Fun TypeTerm (first.translated_step Q (variable_terms Q entity)) f ts) ∙ fold-Fun TypeTerm (put_type_step (comps at)) f (map (first.translated Q (variable_terms Q entity)) ts)
        ∙ ap (Fun f) (each_across (put_type (comps at)) (first.translated Q (variable_terms Q entity)) turned (substituted at) ts each)
        ∙ sym (ap turned (fold-Fun TypeTerm (substituted_step at) f ts) ∙ fold-Fun TypeTerm (translated_step Q W u) f (map (substituted at) ts)))

    path_same : (n : ℕ) (e : PathEq) → slice_get Q.target.path_eqs n ≡ Some e → e.entity ≡ entity → AreSame (Ent (extended at e.left)) (Ent (extended at e.right))
    path_same n e is from =
        let sides = query.target.path_eqs n e is in
        let left_led : target_of Q.target.keys e.left entity ≡ Some sides.target = ap (target_of Q.target.keys e.left) (sym from) ∙ sides.left in
        let right_led : target_of Q.target.keys e.right entity ≡ Some sides.target = ap (target_of Q.target.keys e.right) (sym from) ∙ sides.right in
        let left = along_stand Q query (generators_at Q entity) e.left (variable_terms Q entity) entity sides.target left_led (variables_stand Q entity) in
        let right = along_stand Q query (generators_at Q entity) e.right (variable_terms Q entity) entity sides.target right_led (variables_stand Q entity) in
        let duties : AreEqual Q.source (frozen Q entity) (along Q (variable_terms Q entity) e.left) (along Q (variable_terms Q entity) e.right) =
        equal_from Q.source (frozen Q entity) _ _ (left.count ∙ sym right.count)
        (subst (λ m. (x : Equation) → IsIn x (equal_terms (along Q (variable_terms Q m) e.left) (along Q (variable_terms Q m) e.right)) → Derives Q.source (frozen Q m) (left_of x) (right_of x)) from
        (λ x member. let duty = path_duty_in Q n e is x member in sound e.entity duty.0 x sides.entity duty.1)) in
        subst (λ (l : List EntTerm). AreEqual Q.source Here l (comps (extended at e.right))) (put_path e.left sides.target left_led)
        (subst (λ (l : List EntTerm). AreEqual Q.source Here (map (put (comps at)) (along Q (variable_terms Q entity) e.left)) l) (put_path e.right sides.target right_led)
        (equal_mapped Q.source Q.source (frozen Q entity) Here (put (comps at)) (λ t v d. Derives-put Q Here (comps at) entity (fits at entity of_entity) (Ent t) (Ent v) d)
        (along Q (variable_terms Q entity) e.left) (along Q (variable_terms Q entity) e.right) duties))

    observation_same : (n : ℕ) (e : ObsEq) → slice_get Q.target.obs_eqs n ≡ Some e → e.entity ≡ entity → AreSame (Typ (substituted at e.left)) (Typ (substituted at e.right))
    observation_same n e is from =
        let sides = query.target.obs_eqs n e is in
        let duty = observation_duty_in Q n e is (equation.Typ (first.translated Q (variable_terms Q e.entity) e.left) (first.translated Q (variable_terms Q e.entity) e.right)) (0, refl) in
        let derived : Derives Q.source (frozen Q entity) (Typ (first.translated Q (variable_terms Q entity) e.left)) (Typ (first.translated Q (variable_terms Q entity) e.right)) =
        subst (λ m. Derives Q.source (frozen Q m) (Typ (first.translated Q (variable_terms Q m) e.left)) (Typ (first.translated Q (variable_terms Q m) e.right))) from
        (sound e.entity duty.0 (equation.Typ (first.translated Q (variable_terms Q e.entity) e.left) (first.translated Q (variable_terms Q e.entity) e.right)) sides.entity duty.1) in
        let typed : (t : TypeTerm) → type_of Q.target (one_of e.entity) t ≡ Some sides.type → type_of Q.target (one_of entity) t ≡ Some sides.type =
        λ t h. ap (λ m. type_of Q.target (one_of m) t) (sym from) ∙ h in
        Derives-moved Q.source Here _ _ _ _ (ap Typ (put_translated e.left sides.type (typed e.left sides.left))) (ap Typ (put_translated e.right sides.type (typed e.right sides.right)))
        (Derives-put Q Here (comps at) entity (fits at entity of_entity) _ _ derived)

  module _ (second : IsQuery W) (within : u < length U.entities) where
    given_same : (n : ℕ) (e : Equation) → slice_get (tests_at W u) n ≡ Some e → AreSame (left_of e) (right_of e)
    given_same n (equation.Ent t v) is =
        let test = (second.each_frozen u within).equations n (equation.Ent t v) is in
        let left = map_some Entity (entity_of Q.target There.generators t) test.sort test.left in
        let right = map_some Entity (entity_of Q.target There.generators v) test.sort test.right in
        let same : left.0 ≡ right.0 = let both_are : Entity left.0 ≡ Entity right.0 = left.2 ∙ sym right.2 in cc in
        let count : length (comps t) ≡ length (comps v) = (fits t left.0 left.1).stand.count ∙ ap (λ e. length (variables_at Q e)) same ∙ sym (fits v right.0 right.1).stand.count in
        equal_from Q.source Here (comps t) (comps v) count (λ f member. Derives-given Q.source Here f (translated_test_in Q W u n (equation.Ent t v) f is member))
    given_same n (equation.Typ t v) is =
        let f : Equation = equation.Typ (turned t) (turned v) in
        Derives-given Q.source Here f (translated_test_in Q W u n (equation.Typ t v) f is (0, refl))

    mutual
      carried : (d : Derivation) (t v : Term) → Concludes Q.target There None d t v → AreSame t v
      carried (reflexivity s) t v h = same_moved t v s s h.2 h.3 (same_reflexive s h.0)
      carried (symmetry d) t v h = same_symmetric v t (carried d v t h)
      carried (transitivity d e) t v h = same_transitive t h.0 v (carried d t h.0 h.1) (carried e h.0 v h.2)
      carried (key k d) t v h = same_moved t v _ _ h.3 h.4 (key_same k h.0 h.1 (carried d (Ent h.0) (Ent h.1) h.2) (subst (IsGround Q.target There) h.3 h.5))
      carried (attribute n d) t v h = same_moved t v _ _ h.3 h.4 (attribute_same n h.0 h.1 (carried d (Ent h.0) (Ent h.1) h.2) (subst (IsGround Q.target There) h.3 h.5))
      carried (function f ds) t v h = same_moved t v _ _ h.3 h.4 (function_same f h.0 h.1 (all_carried ds h.0 h.1 h.2) (subst (IsGround Q.target There) h.3 h.5))
      carried (given n) t v h = same_moved t v _ _ h.2 h.3 (given_same n h.0 h.1)
      carried (path_equation n at) t v h = same_moved t v _ _ h.4 h.5 (path_same at h.0.entity h.2 n h.0 h.1 refl)
      carried (observation n at) t v h = same_moved t v _ _ h.4 h.5 (observation_same at h.0.entity h.2 n h.0 h.1 refl)

      all_carried : (ds : Derivations) (ts us : List TypeTerm) → Conclude Q.target There None ds ts us → EachDerives Q.source Here (map turned ts) (map turned us)
      all_carried none [] [] h = tt
      all_carried (more d ds) (t ∷ ts) (v ∷ us) h = (carried d (Typ t) (Typ v) h.0, all_carried ds ts us h.1)
      all_carried none [] (v ∷ us) h = absurd h
      all_carried none (t ∷ ts) us h = absurd h
      all_carried (more d ds) [] us h = absurd h
      all_carried (more d ds) (t ∷ ts) [] h = absurd h

    -- derivable equality over the second query's block is so of components
    pub Derives-carried : (t v : Term) → Derives Q.target There t v → AreSame t v
    Derives-carried t v d = carried d.0 t v d.1
