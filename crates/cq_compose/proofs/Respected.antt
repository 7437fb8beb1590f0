-- The query of a mapping that preserves the equations of its source is sound.
use Rattle.std.proofs.Common.{ℕ, zero, suc, List, [], ◌∷◌, Some, ◌≡◌, ◌<◌, ◌+◌, map, length, refl, sym, ap, subst, ◌∙◌, append_assoc}
use Rattle.std.specs.Prelude.{slice_get}
use Rattle.std.proofs.lemmas.List.{append-nil}
use Rattle.std.proofs.lemmas.Option.{option_and_then_some}
use Rattle.cq_base.specs.declared.name.Name.{Name}
use Rattle.cq_theory.specs.declared.presentation.Presentation.{Presentation}
use Rattle.cq_theory.specs.declared.presentation.Equation.{Equation}
use Rattle.cq_theory.specs.declared.presentation.Equation.TheVariants.{Ent as EntEquation, Typ as TypEquation}
use Rattle.cq_theory.specs.declared.schema.Edge.{Edge}
use Rattle.cq_theory.specs.declared.schema.PathEq.{PathEq}
use Rattle.cq_theory.specs.declared.schema.ObsEq.{ObsEq}
use Rattle.cq_theory.specs.declared.term.EntTerm.{EntTerm}
use Rattle.cq_theory.specs.declared.term.TypeTerm.{TypeTerm}
use Rattle.cq_theory.specs.declared.term.TypeTerm.TheVariants.{Att, Fun}
use Rattle.cq_theory.specs.declared.term.Term.TheVariants.{Ent, Typ}
use Rattle.cq_theory.specs.SchemaData.{SchemaData as Schema}
use Rattle.cq_theory.specs.EntTerm.{alone, extended}
use Rattle.cq_theory.specs.TypeTerm.{substituted, substituted_step}
use Rattle.cq_theory.specs.Schema.{one_of}
use Rattle.cq_theory.specs.Sorts.{followed, target_of, entity_at, entity_of, type_of}
use Rattle.cq_theory.specs.Derivation.{Derives, left_of, right_of}
use Rattle.cq_theory.proofs.Sound.{followed_some}
use Rattle.cq_theory.proofs.TypeTerms.{fold-Const, fold-Att, fold-Fun}
use Rattle.cq_mapping.specs.MappingData.{MappingData as Mapping}
use Rattle.cq_mapping.specs.Mapping.{IsMapping}
use Rattle.cq_mapping.specs.Images.{entity_image, key_image, attribute_image, path_image, ent_image, type_image, type_image_step}
use Rattle.cq_mapping.specs.Duties.{path_duty, observation_duty, Preserves}
use Rattle.cq_mapping.proofs.Substituting.{substituted-substituted, Derives-replaced}
use Rattle.cq_query.specs.QueryData.{QueryData as Query}
use Rattle.cq_query.specs.Puts.{generators_from, term_or_first, put, put_type, put_type_step, put_equation}
use Rattle.cq_query.specs.Translation.{tests_in, variable_terms, terms_or_none, term_or_constant, assigned, attribute_term, along, translated, translated_step}
use Rattle.cq_query.specs.Duties.{equal_terms, frozen, key_duties, path_duties, observation_duties, Sound}
use Rattle.cq_query.proofs.SortedDuties.{All_in}
use Rattle.cq_compose.specs.MappingQuery.{from_variable, mapping_query}
use Rattle.cq_compose.proofs.Places.{get_front, get_back}
use Rattle.cq_compose.proofs.Typed.{no_variable, on_typed, each_same, each_apart}
use Rattle.cq_compose.proofs.Putting.{get_mapped}
use Rattle.cq_compose.proofs.Agreeing.{one_member}
use Rattle.cq_compose.proofs.AllDuties.{all_duties}
use Rattle.cq_compose.proofs.Variable.{block_there, variables_there, frozen_there, attribute_found, key_within, key_found}

first_variable : (e n start : ℕ) → entity_at (slice_get (one_of e) n) ≡ Some start → 0 ≡ n
first_variable e zero start h = refl
first_variable e (suc n) start h = cc

nothing : {X : Type 0} (P : X → Type 0) → All_in P []
nothing P n y at = cc

-- one term in the place of the one variable
put_one : (s : EntTerm) (T : Schema) (e : ℕ) (u : TypeTerm) (type : ℕ) → type_of T (one_of e) u ≡ Some type → put_type (s ∷ []) u ≡ substituted s u
put_one s T e = on_typed T (one_of e) (λ u. put_type (s ∷ []) u ≡ substituted s u)
    (λ n type h. absurd (no_variable e n type h))
    (λ c type h. fold-Const TypeTerm (put_type_step (s ∷ [])) c ∙ sym (fold-Const TypeTerm (substituted_step s) c))
    (λ a t edge at led h. option_and_then_some (target_of T.keys t.path) (entity_at (slice_get (one_of e) t.generator)) edge.from led (λ start begins rest.
    fold-Att TypeTerm (put_type_step (s ∷ [])) a t ∙ ap (λ n. Att a (extended (term_or_first (slice_get (s ∷ []) n)) t.path)) (sym (first_variable e t.generator start begins))
    ∙ sym (fold-Att TypeTerm (substituted_step s) a t)))
    (λ f ts type h each. fold-Fun TypeTerm (put_type_step (s ∷ [])) f ts ∙ ap (Fun f) (each_same (put_type (s ∷ [])) (substituted s) ts each) ∙ sym (fold-Fun TypeTerm (substituted_step s) f ts))

module _ (F : Mapping) (mapping : IsMapping F) where
  abbrev Q : Query
  Q = mapping_query F

  -- the term at the end of a path is that at the end of the path's image
  along_one : (path : List ℕ) (e target : ℕ) (t : EntTerm) → target_of F.source.keys path e ≡ Some target → along Q (t ∷ []) path ≡ extended t (path_image F path) ∷ []
  along_one [] e target t h = ap (λ p. let s : EntTerm = record { generator = t.generator; path = p } in s ∷ []) (sym (append-nil t.path))
  along_one (k ∷ path) e target t h = option_and_then_some (target_of F.source.keys path) (followed (slice_get F.source.keys k) e) target h (λ middle led rest.
      let edge = followed_some (slice_get F.source.keys k) e middle led in
      let terms : assigned Q k ≡ from_variable F (key_image F k) ∷ [] = ap terms_or_none (key_found F mapping k edge.0 edge.1) in
      ap (λ ts. along Q (map (put (t ∷ [])) ts) path) terms ∙ along_one path middle target (extended t (key_image F k)) rest
      ∙ ap (λ p. let s : EntTerm = record { generator = t.generator; path = p } in s ∷ []) (append_assoc t.path (key_image F k) (path_image F path)))

  -- the translation of a term is its image
  translated_image : (e : ℕ) (t : TypeTerm) (type : ℕ) → type_of F.source (one_of e) t ≡ Some type → translated Q (alone 0 ∷ []) t ≡ substituted (alone 0) (type_image F t)
  translated_image e = on_typed F.source (one_of e) (λ t. translated Q (alone 0 ∷ []) t ≡ substituted (alone 0) (type_image F t))
      (λ n type h. absurd (no_variable e n type h))
      (λ c type h. fold-Const TypeTerm (translated_step Q (alone 0 ∷ [])) c
      ∙ sym (ap (substituted (alone 0)) (fold-Const TypeTerm (type_image_step F) c) ∙ fold-Const TypeTerm (substituted_step (alone 0)) c))
      (λ a t edge at led h. option_and_then_some (target_of F.source.keys t.path) (entity_at (slice_get (one_of e) t.generator)) edge.from led (λ start begins rest.
      fold-Att TypeTerm (translated_step Q (alone 0 ∷ [])) a t
      ∙ ap (λ ts. put_type ts (attribute_term Q a)) (along_one t.path start edge.from (alone 0) rest)
      ∙ ap (put_type (extended (alone 0) (path_image F t.path) ∷ [])) (ap term_or_constant (attribute_found F mapping a edge at))
      ∙ put_one (extended (alone 0) (path_image F t.path)) F.target (entity_image F edge.from) (attribute_image F a) edge.to (mapping.attribute_images a edge at).typed
      ∙ sym (substituted-substituted (alone 0) (ent_image F t) (attribute_image F a))
      ∙ sym (ap (substituted (alone 0)) (fold-Att TypeTerm (type_image_step F) a t))))
      (λ f ts type h each. fold-Fun TypeTerm (translated_step Q (alone 0 ∷ [])) f ts ∙ ap (Fun f) (each_apart (translated Q (alone 0 ∷ [])) (substituted (alone 0)) (type_image F) ts each)
      ∙ sym (ap (substituted (alone 0)) (fold-Fun TypeTerm (type_image_step F) f ts) ∙ fold-Fun TypeTerm (substituted_step (alone 0)) f (map (type_image F) ts)))

  abbrev IsDerived : ℕ → Equation → Type 0
  IsDerived e x = Derives F.target (frozen Q e) (left_of x) (right_of x)

  variable_sorted : (e : ℕ) → e < length F.source.entities → entity_of F.target (frozen Q e).generators (alone 0) ≡ Some (entity_image F e)
  variable_sorted e within = ap (λ (P : Presentation). entity_of F.target P.generators (alone 0)) (frozen_there F mapping e within)

  one_term : (e : ℕ) → e < length F.source.entities → variable_terms Q e ≡ alone 0 ∷ []
  one_term e within = ap (λ (vs : List (Name × ℕ)). generators_from 0 (length vs)) (variables_there F mapping e within)

  -- there are no where equations
  no_key_duties : (k : ℕ) (edge : Edge) → slice_get F.source.keys k ≡ Some edge → All_in (IsDerived edge.from) (key_duties Q k (Some edge))
  no_key_duties k edge is =
      let no_duties : key_duties Q k (Some edge) ≡ [] = ap (λ o. map (put_equation (assigned Q k)) (tests_in o)) (block_there F mapping edge.to (key_within F mapping k edge is).1) in
      subst (All_in (IsDerived edge.from)) (sym no_duties) (nothing (IsDerived edge.from))

  module _ (preserves : Preserves F) where
    path_derived : (n : ℕ) (e : PathEq) → slice_get F.source.path_eqs n ≡ Some e → All_in (IsDerived e.entity) (path_duties Q e.entity (Some e))
    path_derived n e at =
        let sides = mapping.source.path_eqs n e at in
        let left : along Q (variable_terms Q e.entity) e.left ≡ extended (alone 0) (path_image F e.left) ∷ [] =
        ap (λ ts. along Q ts e.left) (one_term e.entity sides.entity) ∙ along_one e.left e.entity sides.target (alone 0) sides.left in
        let right : along Q (variable_terms Q e.entity) e.right ≡ extended (alone 0) (path_image F e.right) ∷ [] =
        ap (λ ts. along Q ts e.right) (one_term e.entity sides.entity) ∙ along_one e.right e.entity sides.target (alone 0) sides.right in
        let all : path_duties Q e.entity (Some e) ≡ EntEquation (extended (alone 0) (path_image F e.left)) (extended (alone 0) (path_image F e.right)) ∷ [] =
        λ i. equal_terms (left i) (right i) in
        subst (All_in (IsDerived e.entity)) (sym all)
        (one_member (IsDerived e.entity) (EntEquation (extended (alone 0) (path_image F e.left)) (extended (alone 0) (path_image F e.right)))
        (Derives-replaced F.target (frozen Q e.entity) (entity_image F e.entity) (alone 0) (variable_sorted e.entity sides.entity)
        (Ent (record { generator = 0; path = path_image F e.left })) (Ent (record { generator = 0; path = path_image F e.right }))
        (preserves n (path_duty F e) (get_front (map (path_duty F) F.source.path_eqs) (map (observation_duty F) F.source.obs_eqs) n (path_duty F e) (get_mapped (path_duty F) F.source.path_eqs n e at)))))

    observation_derived : (n : ℕ) (e : ObsEq) → slice_get F.source.obs_eqs n ≡ Some e → All_in (IsDerived e.entity) (observation_duties Q e.entity (Some e))
    observation_derived n e at =
        let sides = mapping.source.obs_eqs n e at in
        let left : translated Q (variable_terms Q e.entity) e.left ≡ substituted (alone 0) (type_image F e.left) =
        ap (λ ts. translated Q ts e.left) (one_term e.entity sides.entity) ∙ translated_image e.entity e.left sides.type sides.left in
        let right : translated Q (variable_terms Q e.entity) e.right ≡ substituted (alone 0) (type_image F e.right) =
        ap (λ ts. translated Q ts e.right) (one_term e.entity sides.entity) ∙ translated_image e.entity e.right sides.type sides.right in
        let all : observation_duties Q e.entity (Some e) ≡ TypEquation (substituted (alone 0) (type_image F e.left)) (substituted (alone 0) (type_image F e.right)) ∷ [] =
        λ i. TypEquation (left i) (right i) ∷ [] in
        subst (All_in (IsDerived e.entity)) (sym all)
        (one_member (IsDerived e.entity) (TypEquation (substituted (alone 0) (type_image F e.left)) (substituted (alone 0) (type_image F e.right)))
        (Derives-replaced F.target (frozen Q e.entity) (entity_image F e.entity) (alone 0) (variable_sorted e.entity sides.entity) (Typ (type_image F e.left)) (Typ (type_image F e.right))
        (preserves (length (map (path_duty F) F.source.path_eqs) + n) (observation_duty F e)
        (get_back (map (path_duty F) F.source.path_eqs) (map (observation_duty F) F.source.obs_eqs) n (observation_duty F e) (get_mapped (observation_duty F) F.source.obs_eqs n e at)))))

    pub respected : Sound Q
    respected entity n e within at = all_duties Q IsDerived no_key_duties path_derived observation_derived entity n e at
