-- Derivably equal terms have one sort.
use Rattle.std.proofs.Common.{ℕ, zero, suc, Bool, true, List, [], ◌∷◌, Option, Some, None, ◌≡◌, ◌&&◌, if◌then◌else◌, map, refl, sym, ap, ◌∙◌}
use Rattle.std.specs.Prelude.{slice_get, option_and_then, option_map}
use Rattle.std.proofs.lemmas.Option.{option_and_then_some}
use Rattle.cq_theory.specs.declared.presentation.Presentation.{Presentation}
use Rattle.cq_theory.specs.declared.presentation.Sort.{Sort}
use Rattle.cq_theory.specs.declared.presentation.Sort.TheVariants.{Plain, Entity}
use Rattle.cq_theory.specs.SchemaData.{SchemaData as Schema}
use Rattle.cq_theory.specs.declared.term.EntTerm.{EntTerm}
use Rattle.cq_theory.specs.declared.term.TypeTerm.{TypeTerm}
use Rattle.cq_theory.specs.declared.term.TypeTerm.TheVariants.{Att, Fun}
use Rattle.cq_theory.specs.declared.term.TypeTerm.TheOpen as layer
use Rattle.cq_theory.specs.declared.term.Term.{Term}
use Rattle.cq_theory.specs.declared.term.Term.TheVariants.{Ent, Typ}
use Rattle.cq_theory.specs.EntTerm.{extended}
use Rattle.cq_theory.specs.TypeTerm.{substituted, substituted_step}
use Rattle.cq_theory.specs.Sorts.{Generators, followed, target_of, entity_at, type_at, entity_of, is_type, have_types, applied_type, type_of, type_step, sort_of, IsGround}
use Rattle.cq_theory.specs.Schema.{IsSchema, one_of}
use Rattle.cq_theory.specs.Presentation.{IsPresentation}
use Rattle.cq_theory.specs.Derivation.{Derivation, Derivations, reflexivity, symmetry, transitivity, key, attribute, function, given, path_equation, observation, none, more, Concludes, Conclude, Derives}
use Rattle.cq_theory.proofs.TypeTerms.{fold-Gen, fold-Const, fold-Att, fold-Fun, Each, on_terms}
use Rattle.cq_theory.proofs.Sound.{both, is_type_some, applied_type_some}
use Rattle.cq_theory.proofs.Closings.{entity_of-extended}

entity_sort : (o p : Option ℕ) (sort : Sort) → option_map Entity o ≡ Some sort → option_map Entity p ≡ Some sort → o ≡ p
entity_sort None p sort h h' = cc
entity_sort (Some e) None sort h h' = cc
entity_sort (Some e) (Some f) sort h h' = let same : Entity e ≡ Entity f = cc in ap (λ n. Some n) (let same' : e ≡ f = cc in same')

type_sort : (o p : Option ℕ) (sort : Sort) → option_map Plain o ≡ Some sort → option_map Plain p ≡ Some sort → o ≡ p
type_sort None p sort h h' = cc
type_sort (Some e) None sort h h' = cc
type_sort (Some e) (Some f) sort h h' = let same : Plain e ≡ Plain f = cc in ap (λ n. Some n) (let same' : e ≡ f = cc in same')

no_type_variable : (e n type : ℕ) → type_at (slice_get (one_of e) n) ≡ Some type → ⊥
no_type_variable e zero type h = cc
no_type_variable e (suc n) type h = cc

variable_entity : (e n start : ℕ) → entity_at (slice_get (one_of e) n) ≡ Some start → e ≡ start
variable_entity e zero start h = cc
variable_entity e (suc n) start h = cc

module _ (S : Schema) (G : Generators) (at : EntTerm) (e : ℕ) (of_entity : entity_of S G at ≡ Some e) where
  abbrev KeepsType : TypeTerm → Type 0
  KeepsType t = (type : ℕ) → type_of S (one_of e) t ≡ Some type → type_of S G (substituted at t) ≡ Some type

  args_keep : (ts : List TypeTerm) (types : List ℕ) → have_types (map (type_of S (one_of e)) ts) types ≡ true → Each KeepsType ts
      → have_types (map (type_of S G) (map (substituted at) ts)) types ≡ true
  args_keep [] [] h each = refl
  args_keep [] (type ∷ types) h each = cc
  args_keep (t ∷ ts) [] h each = cc
  args_keep (t ∷ ts) (type ∷ types) h each =
      let parts : (is_type (type_of S (one_of e) t) type ≡ true) × (have_types (map (type_of S (one_of e)) ts) types ≡ true) = both _ _ h in
      let before : type_of S (one_of e) t ≡ Some type = is_type_some (type_of S (one_of e) t) type parts.0 in
      let after : type_of S G (substituted at t) ≡ Some type = each.0 type before in
      let first : is_type (type_of S G (substituted at t)) type ≡ true = ap (λ o. is_type o type) (after ∙ sym before) ∙ parts.0 in
      let rest : have_types (map (type_of S G) (map (substituted at) ts)) types ≡ true = args_keep ts types parts.1 each.1 in
      ap (λ b. b && have_types (map (type_of S G) (map (substituted at) ts)) types) first ∙ rest

  path_keeps : (t : EntTerm) (target : ℕ) → entity_of S (one_of e) t ≡ Some target → entity_of S G (extended at t.path) ≡ Some target
  path_keeps t target h = option_and_then_some (target_of S.keys t.path) (entity_at (slice_get (one_of e) t.generator)) target h (λ start first rest.
      entity_of-extended S (record { generators = G; equations = [] }) at t.path ∙ ap (option_and_then (target_of S.keys t.path)) of_entity
      ∙ ap (target_of S.keys t.path) (variable_entity e t.generator start first) ∙ rest)

  pub type_of-substituted : (t : TypeTerm) → KeepsType t
  type_of-substituted = on_terms KeepsType
      (λ n type h. absurd (no_type_variable e n type (sym (fold-Gen (Option ℕ) (type_step S (one_of e)) n) ∙ h)))
      (λ c type h. ap (type_of S G) (fold-Const TypeTerm (substituted_step at) c) ∙ fold-Const (Option ℕ) (type_step S G) c ∙ sym (fold-Const (Option ℕ) (type_step S (one_of e)) c) ∙ h)
      (λ a t type h.
      let looked_up : type_step S (one_of e) (layer.Att a t) ≡ Some type = sym (fold-Att (Option ℕ) (type_step S (one_of e)) a t) ∙ h in
      option_and_then_some (followed (slice_get S.attributes a)) (entity_of S (one_of e) t) type looked_up (λ target led last.
      ap (type_of S G) (fold-Att TypeTerm (substituted_step at) a t) ∙ fold-Att (Option ℕ) (type_step S G) a (extended at t.path)
      ∙ ap (option_and_then (followed (slice_get S.attributes a))) (path_keeps t target led) ∙ last))
      (λ f ts each type h.
      let looked_up : type_step S (one_of e) (layer.Fun f (map (type_of S (one_of e)) ts)) ≡ Some type = sym (fold-Fun (Option ℕ) (type_step S (one_of e)) f ts) ∙ h in
      let f' = applied_type_some (slice_get S.typeside.functions f) (map (type_of S (one_of e)) ts) type looked_up in
      let kept : have_types (map (type_of S G) (map (substituted at) ts)) f'.0.args ≡ true = args_keep ts f'.0.args f'.2 each in
      ap (type_of S G) (fold-Fun TypeTerm (substituted_step at) f ts) ∙ fold-Fun (Option ℕ) (type_step S G) f (map (substituted at) ts)
      ∙ ap (λ o. applied_type o (map (type_of S G) (map (substituted at) ts))) f'.1
      ∙ ap (λ (b : Bool). if b then Some f'.0.result else None) kept ∙ ap (λ n. Some n) f'.3)

module _ (S : Schema) (P : Presentation) (schema : IsSchema S) (presentation : IsPresentation S P) (bound : Option ℕ) where
  abbrev HaveOneSort : Term → Term → Type 0
  HaveOneSort t u = (sort : Sort) × (sort_of S P.generators t ≡ Some sort) × (sort_of S P.generators u ≡ Some sort)

  moved : (t u t' u' : Term) → t ≡ t' → u ≡ u' → HaveOneSort t' u' → HaveOneSort t u
  moved t u t' u' e f h = (h.0, ap (sort_of S P.generators) e ∙ h.1, ap (sort_of S P.generators) f ∙ h.2)

  same_entity : (a b : EntTerm) → HaveOneSort (Ent a) (Ent b) → entity_of S P.generators a ≡ entity_of S P.generators b
  same_entity a b h = entity_sort (entity_of S P.generators a) (entity_of S P.generators b) h.0 h.1 h.2

  same_type : (t u : TypeTerm) → HaveOneSort (Typ t) (Typ u) → type_of S P.generators t ≡ type_of S P.generators u
  same_type t u h = type_sort (type_of S P.generators t) (type_of S P.generators u) h.0 h.1 h.2

  -- a ground term and one whose sort is computed alike
  alike : (t u : Term) → IsGround S P t → sort_of S P.generators t ≡ sort_of S P.generators u → HaveOneSort t u
  alike t u ground e = (ground.0, ground.1, sym e ∙ ground.1)

  mutual
    sorted : (d : Derivation) (t u : Term) → Concludes S P bound d t u → HaveOneSort t u
    sorted (reflexivity s) t u h = moved t u s s h.2 h.3 (h.0.0, h.0.1, h.0.1)
    sorted (symmetry d) t u h = let before = sorted d u t h in (before.0, before.2, before.1)
    sorted (transitivity d e) t u h =
        let first = sorted d t h.0 h.1 in
        let second = sorted e h.0 u h.2 in
        let same : first.0 ≡ second.0 = cc in
        (first.0, first.1, second.2 ∙ ap (λ (sort : Sort). Some sort) (sym same))
    sorted (key k d) t u h =
        let a' : Term = Ent (extended h.0 (k ∷ [])) in
        let b' : Term = Ent (extended h.1 (k ∷ [])) in
        let before = sorted d (Ent h.0) (Ent h.1) h.2 in
        let entities : entity_of S P.generators (extended h.0 (k ∷ [])) ≡ entity_of S P.generators (extended h.1 (k ∷ []))
        = entity_of-extended S P h.0 (k ∷ []) ∙ ap (option_and_then (target_of S.keys (k ∷ []))) (same_entity h.0 h.1 before) ∙ sym (entity_of-extended S P h.1 (k ∷ [])) in
        moved t u a' b' h.3 h.4 (alike a' b' (h.5.0, ap (sort_of S P.generators) (sym h.3) ∙ h.5.1) (ap (option_map Entity) entities))
    sorted (attribute n d) t u h =
        let before = sorted d (Ent h.0) (Ent h.1) h.2 in
        let types : type_of S P.generators (Att n h.0) ≡ type_of S P.generators (Att n h.1)
        = fold-Att (Option ℕ) (type_step S P.generators) n h.0 ∙ ap (option_and_then (followed (slice_get S.attributes n))) (same_entity h.0 h.1 before)
        ∙ sym (fold-Att (Option ℕ) (type_step S P.generators) n h.1) in
        moved t u (Typ (Att n h.0)) (Typ (Att n h.1)) h.3 h.4 (alike (Typ (Att n h.0)) (Typ (Att n h.1)) (h.5.0, ap (sort_of S P.generators) (sym h.3) ∙ h.5.1) (ap (option_map Plain) types))
    sorted (function f ds) t u h =
        let types : type_of S P.generators (Fun f h.0) ≡ type_of S P.generators (Fun f h.1)
        = fold-Fun (Option ℕ) (type_step S P.generators) f h.0 ∙ ap (applied_type (slice_get S.typeside.functions f)) (all_sorted ds h.0 h.1 h.2)
        ∙ sym (fold-Fun (Option ℕ) (type_step S P.generators) f h.1) in
        moved t u (Typ (Fun f h.0)) (Typ (Fun f h.1)) h.3 h.4 (alike (Typ (Fun f h.0)) (Typ (Fun f h.1)) (h.5.0, ap (sort_of S P.generators) (sym h.3) ∙ h.5.1) (ap (option_map Plain) types))
    sorted (given n) t u h = let e = presentation.equations n h.0 h.1 in moved t u _ _ h.2 h.3 (e.sort, e.left, e.right)
    sorted (path_equation n at) t u h =
        let e = schema.path_eqs n h.0 h.1 in
        let side : (path : List ℕ) → target_of S.keys path h.0.entity ≡ Some e.target → sort_of S P.generators (Ent (extended at path)) ≡ Some (Entity e.target)
        = λ path led. ap (option_map Entity) (entity_of-extended S P at path ∙ ap (option_and_then (target_of S.keys path)) h.2 ∙ led) in
        moved t u _ _ h.4 h.5 (Entity e.target, side h.0.left e.left, side h.0.right e.right)
    sorted (observation n at) t u h =
        let e = schema.obs_eqs n h.0 h.1 in
        moved t u _ _ h.4 h.5 (
          Plain e.type,
          ap (option_map Plain) (type_of-substituted S P.generators at h.0.entity h.2 h.0.left e.type e.left),
          ap (option_map Plain) (type_of-substituted S P.generators at h.0.entity h.2 h.0.right e.type e.right),
        )

    all_sorted : (ds : Derivations) (ts us : List TypeTerm) → Conclude S P bound ds ts us → map (type_of S P.generators) ts ≡ map (type_of S P.generators) us
    all_sorted none [] [] h = refl
    all_sorted (more d ds) (t ∷ ts) (u ∷ us) h =
        let first : type_of S P.generators t ≡ type_of S P.generators u = same_type t u (sorted d (Typ t) (Typ u) h.0) in
        let rest : map (type_of S P.generators) ts ≡ map (type_of S P.generators) us = all_sorted ds ts us h.1 in
        λ i. first i ∷ rest i
    all_sorted none [] (u ∷ us) h = absurd h
    all_sorted none (t ∷ ts) us h = absurd h
    all_sorted (more d ds) [] us h = absurd h
    all_sorted (more d ds) (t ∷ ts) [] h = absurd h

-- derivably equal terms have one sort
pub sort_of-derived : (S : Schema) (P : Presentation) → IsSchema S → IsPresentation S P → (t u : Term) → Derives S P t u
    → (sort : Sort) × (sort_of S P.generators t ≡ Some sort) × (sort_of S P.generators u ≡ Some sort)
sort_of-derived S P schema presentation t u d = sorted S P schema presentation None d.0 t u d.1
