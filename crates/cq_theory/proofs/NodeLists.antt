-- The nodes of a presentation are ground terms, and with a node stand its arguments.
use Rattle.std.proofs.Common.{ℕ, Bool, true, List, [], ◌∷◌, ◌++◌, Option, Some, None, ◌≡◌, ◌==◌, if◌then◌else◌, map, filter, length, refl, sym, ap, subst, ◌∙◌, arith}
use Rattle.std.specs.Prelude.{slice_get, slice_index_or, option_and_then, option_map}
use Rattle.std.specs.List.{flat_map, enumerate_from, filter_map}
use Rattle.std.proofs.lemmas.Bool.{and_parts, eqb-true}
use Rattle.cq_base.specs.declared.name.Name.{Name}
use Rattle.cq_theory.specs.declared.presentation.Presentation.{Presentation}
use Rattle.cq_theory.specs.declared.presentation.Equation.{Equation}
use Rattle.cq_theory.specs.declared.presentation.Equation.TheVariants as equation
use Rattle.cq_theory.specs.declared.presentation.Sort.{Sort}
use Rattle.cq_theory.specs.declared.presentation.Sort.TheVariants.{Plain, Entity}
use Rattle.cq_theory.specs.declared.schema.Edge.{Edge}
use Rattle.cq_theory.specs.declared.schema.ObsEq.{ObsEq}
use Rattle.cq_theory.specs.SchemaData.{SchemaData as Schema}
use Rattle.cq_theory.specs.declared.constant.Con.{Con}
use Rattle.cq_theory.specs.declared.term.EntTerm.{EntTerm}
use Rattle.cq_theory.specs.declared.term.TypeTerm.{TypeTerm}
use Rattle.cq_theory.specs.declared.term.TypeTerm.TheVariants.{Gen, Const, Att, Fun}
use Rattle.cq_theory.specs.declared.term.Term.TheVariants.{Typ}
use Rattle.cq_theory.specs.TypeTerm.{substituted}
use Rattle.cq_theory.specs.Sorts.{followed, type_at, entity_of, is_type, have_types, type_of, type_step, IsGround}
use Rattle.cq_theory.specs.Schema.{IsSchema}
use Rattle.cq_theory.specs.Presentation.{IsPresentation}
use Rattle.cq_theory.specs.Derivation.{left_of, right_of}
use Rattle.cq_theory.specs.Canonical.{below, edges_from}
use Rattle.cq_theory.specs.Listed.{subterms, subterms_step, names_of, cell_nodes, generator_node, equation_nodes, observation_nodes, nodes}
use Rattle.cq_theory.proofs.TypeTerms.{fold-Gen, fold-Att, fold-Fun, para-Gen, para-Const, para-Att, para-Fun, Each, on_terms}
use Rattle.cq_theory.proofs.Sound.{is_type_some, applied_type_some}
use Rattle.cq_theory.proofs.Sorted.{type_of-substituted}
use Rattle.cq_theory.proofs.Every.{Every, Every-append, Every-parts, Every-flat_map, Every-map, Every-filter_map, from_filter, from_enumerated}

first_of_pairs : (ts : List TypeTerm) → map (λ (arg : TypeTerm × List TypeTerm). arg.0) (map (λ t. (t, subterms t)) ts) ≡ ts
first_of_pairs [] = refl
first_of_pairs (t ∷ ts) = ap (λ l. t ∷ l) (first_of_pairs ts)

second_of_pairs : (ts : List TypeTerm) → flat_map (λ (arg : TypeTerm × List TypeTerm). arg.1) (map (λ t. (t, subterms t)) ts) ≡ flat_map subterms ts
second_of_pairs [] = refl
second_of_pairs (t ∷ ts) = ap (λ l. subterms t ++ l) (second_of_pairs ts)

subterms-Gen : (n : ℕ) → subterms (Gen n) ≡ Gen n ∷ []
subterms-Gen = para-Gen (List TypeTerm) subterms_step

subterms-Const : (c : Con) → subterms (Const c) ≡ Const c ∷ []
subterms-Const = para-Const (List TypeTerm) subterms_step

subterms-Att : (a : ℕ) (t : EntTerm) → subterms (Att a t) ≡ Att a t ∷ []
subterms-Att = para-Att (List TypeTerm) subterms_step

subterms-Fun : (f : ℕ) (ts : List TypeTerm) → subterms (Fun f ts) ≡ flat_map subterms ts ++ Fun f ts ∷ []
subterms-Fun f ts = para-Fun (List TypeTerm) subterms_step f ts ∙ λ i. second_of_pairs ts i ++ Fun f (first_of_pairs ts i) ∷ []

module _ (S : Schema) (P : Presentation) where
  abbrev pub HasType : TypeTerm → Type 0
  HasType t = (type : ℕ) × (type_of S P.generators t ≡ Some type)

  abbrev AreTypedBelow : TypeTerm → Type 0
  AreTypedBelow t = (type : ℕ) → type_of S P.generators t ≡ Some type → Every HasType (subterms t)

  args_below : (ts : List TypeTerm) (types : List ℕ) → have_types (map (type_of S P.generators) ts) types ≡ true → Each AreTypedBelow ts → Every HasType (flat_map subterms ts)
  args_below [] types h each = tt
  args_below (t ∷ ts) [] h each = cc
  args_below (t ∷ ts) (type ∷ types) h each =
      let parts = and_parts (is_type (type_of S P.generators t) type) (have_types (map (type_of S P.generators) ts) types) h in
      Every-append HasType (subterms t) (flat_map subterms ts) (each.0 type (is_type_some (type_of S P.generators t) type parts.0)) (args_below ts types parts.1 each.1)

  typed_below : (t : TypeTerm) → AreTypedBelow t
  typed_below = on_terms AreTypedBelow
      (λ n type h. subst (Every HasType) (sym (subterms-Gen n)) ((type, h), tt))
      (λ c type h. subst (Every HasType) (sym (subterms-Const c)) ((type, h), tt))
      (λ a t type h. subst (Every HasType) (sym (subterms-Att a t)) ((type, h), tt))
      (λ f ts each type h.
      let parts = applied_type_some (slice_get S.typeside.functions f) (map (type_of S P.generators) ts) type (sym (fold-Fun (Option ℕ) (type_step S P.generators) f ts) ∙ h) in
      subst (Every HasType) (sym (subterms-Fun f ts)) (Every-append HasType (flat_map subterms ts) (Fun f ts ∷ []) (args_below ts parts.0.args parts.2 each) ((type, h), tt)))

  plain_typed : (o : Option ℕ) (sort : Sort) → option_map Plain o ≡ Some sort → (type : ℕ) × (o ≡ Some type)
  plain_typed None sort h = cc
  plain_typed (Some type) sort h = (type, refl)

  typed_side : (t : TypeTerm) → IsGround S P (Typ t) → Every HasType (subterms t)
  typed_side t ground = let typed = plain_typed (type_of S P.generators t) ground.0 ground.1 in typed_below t typed.0 typed.1

  module _ (schema : IsSchema S) (presentation : IsPresentation S P) (names : List (List EntTerm))
      (named : (entity row : ℕ) (t : EntTerm) → slice_get (slice_index_or names entity []) row ≡ Some t → entity_of S P.generators t ≡ Some entity) where
    cell_typed : (entity : ℕ) (t : EntTerm) (a : ℕ × Edge) → entity_of S P.generators t ≡ Some entity → slice_get S.attributes a.0 ≡ Some a.1 → (a.1.from == entity) ≡ true → HasType (Att a.0 t)
    cell_typed entity t a of_entity at from = (
      a.1.to,
      fold-Att (Option ℕ) (type_step S P.generators) a.0 t ∙ ap (option_and_then (followed (slice_get S.attributes a.0))) of_entity
          ∙ ap (λ o. followed o entity) at ∙ ap (λ (b : Bool). if b then Some a.1.to else None) from,
    )

    cells_typed : (entity : ℕ) → Every HasType (cell_nodes S P names entity)
    cells_typed entity = Every-flat_map HasType (λ t. map (λ (a : ℕ × Edge). Att a.0 t) (edges_from entity S.attributes)) (names_of S P names entity) (λ row t at.
        Every-map HasType (λ (a : ℕ × Edge). Att a.0 t) (edges_from entity S.attributes) (λ n a at'.
        let kept = from_filter (λ (p : ℕ × Edge). p.1.from == entity) (enumerate_from 0 S.attributes) n a at' in
        let numbered = from_enumerated 0 S.attributes kept.0 a kept.1 in
        let here : a.0 ≡ kept.0 = omega (arith, numbered.1) in
        cell_typed entity t a (named entity row t at) (ap (slice_get S.attributes) here ∙ numbered.0) kept.2))

    generator_typed : (n : ℕ) (name : Name) (sort : Sort) (t : TypeTerm) → slice_get P.generators n ≡ Some (name, sort) → generator_node S P names (n, (name, sort)) ≡ Some t → HasType t
    generator_typed n name (Plain type) t at h =
        let same : Gen n ≡ t = cc in
        (type, ap (type_of S P.generators) (sym same) ∙ fold-Gen (Option ℕ) (type_step S P.generators) n ∙ ap type_at at)
    generator_typed n name (Entity entity) t at h = cc

    generators_typed : Every HasType (filter_map (generator_node S P names) (enumerate_from 0 P.generators))
    generators_typed = Every-filter_map HasType (generator_node S P names) (enumerate_from 0 P.generators) (λ n g t at h.
        let numbered = from_enumerated 0 P.generators n g at in
        let here : g.0 ≡ n = omega (arith, numbered.1) in
        generator_typed g.0 g.1.0 g.1.1 t (ap (slice_get P.generators) here ∙ numbered.0) h)

    equation_typed : (e : Equation) → IsGround S P (left_of e) → IsGround S P (right_of e) → Every HasType (equation_nodes S P names e)
    equation_typed (equation.Ent t u) left right = tt
    equation_typed (equation.Typ t u) left right = Every-append HasType (subterms t) (subterms u) (typed_side t left) (typed_side u right)

    equations_typed : Every HasType (flat_map (equation_nodes S P names) P.equations)
    equations_typed = Every-flat_map HasType (equation_nodes S P names) P.equations (λ n e at.
        let sides = presentation.equations n e at in
        equation_typed e (sides.sort, sides.left) (sides.sort, sides.right))

    observation_typed : (t : EntTerm) (n : ℕ) (e : ObsEq) → slice_get S.obs_eqs n ≡ Some e → entity_of S P.generators t ≡ Some e.entity → Every HasType (subterms (substituted t e.left) ++ subterms (substituted t e.right))
    observation_typed t n e at of_entity =
        let sides = schema.obs_eqs n e at in
        Every-append HasType (subterms (substituted t e.left)) (subterms (substituted t e.right))
        (typed_below (substituted t e.left) sides.type (type_of-substituted S P.generators t e.entity of_entity e.left sides.type sides.left))
        (typed_below (substituted t e.right) sides.type (type_of-substituted S P.generators t e.entity of_entity e.right sides.type sides.right))

    observations_typed : (entity : ℕ) → Every HasType (observation_nodes S P names entity)
    observations_typed entity =
        let own : EntTerm → List TypeTerm = λ t. flat_map (λ e. subterms (substituted t e.left) ++ subterms (substituted t e.right)) (filter (λ (e : ObsEq). e.entity == entity) S.obs_eqs) in
        Every-flat_map HasType own (names_of S P names entity) (λ row t at.
        Every-flat_map HasType (λ e. subterms (substituted t e.left) ++ subterms (substituted t e.right)) (filter (λ (e : ObsEq). e.entity == entity) S.obs_eqs) (λ n e at'.
        let kept = from_filter (λ (e : ObsEq). e.entity == entity) S.obs_eqs n e at' in
        observation_typed t kept.0 e kept.1 (named entity row t at ∙ ap (λ n. Some n) (sym (eqb-true e.entity entity kept.2)))))

    -- each node is a term of some type
    pub nodes_typed : Every HasType (nodes S P names)
    nodes_typed =
        let cells = flat_map (cell_nodes S P names) (below (length S.entities)) in
        let generators = filter_map (generator_node S P names) (enumerate_from 0 P.generators) in
        let equations = flat_map (equation_nodes S P names) P.equations in
        let observations = flat_map (observation_nodes S P names) (below (length S.entities)) in
        Every-append HasType ((cells ++ generators) ++ equations) observations
        (Every-append HasType (cells ++ generators) equations
        (Every-append HasType cells generators (Every-flat_map HasType (cell_nodes S P names) (below (length S.entities)) (λ n entity at. cells_typed entity)) generators_typed)
        equations_typed)
        (Every-flat_map HasType (observation_nodes S P names) (below (length S.entities)) (λ n entity at. observations_typed entity))

-- Where V holds of each node, E holds of each node, if it does wherever V holds of the arguments.
module _ (V E : TypeTerm → Type 0)
    (on_gen : (n : ℕ) → E (Gen n)) (on_const : (c : Con) → E (Const c)) (on_att : (a : ℕ) (t : EntTerm) → E (Att a t))
    (on_fun : (f : ℕ) (ts : List TypeTerm) → Each V ts → V (Fun f ts) → E (Fun f ts)) where
  abbrev Passes : List TypeTerm → Type 0
  Passes xs = Every V xs → Every E xs

  Passes-append : (xs ys : List TypeTerm) → Passes xs → Passes ys → Passes (xs ++ ys)
  Passes-append xs ys p q h = let parts = Every-parts V xs ys h in Every-append E xs ys (p parts.0) (q parts.1)

  Passes-flat_map : {Y : Type 0} (f : Y → List TypeTerm) → ((y : Y) → Passes (f y)) → (ys : List Y) → Passes (flat_map f ys)
  Passes-flat_map f each [] h = tt
  Passes-flat_map f each (y ∷ ys) h = Passes-append (f y) (flat_map f ys) (each y) (Passes-flat_map f each ys) h

  own : (t : TypeTerm) → Every V (subterms t) → V t
  own = on_terms (λ t. Every V (subterms t) → V t)
      (λ n h. let here : Every V (Gen n ∷ []) = subst (Every V) (subterms-Gen n) h in here.0)
      (λ c h. let here : Every V (Const c ∷ []) = subst (Every V) (subterms-Const c) h in here.0)
      (λ a t h. let here : Every V (Att a t ∷ []) = subst (Every V) (subterms-Att a t) h in here.0)
      (λ f ts each h. (Every-parts V (flat_map subterms ts) (Fun f ts ∷ []) (subst (Every V) (subterms-Fun f ts) h)).1.0)

  args_own : (ts : List TypeTerm) → Every V (flat_map subterms ts) → Each V ts
  args_own [] h = tt
  args_own (t ∷ ts) h = let parts = Every-parts V (subterms t) (flat_map subterms ts) h in (own t parts.0, args_own ts parts.1)

  args_pass : (ts : List TypeTerm) → Each (λ t. Passes (subterms t)) ts → Passes (flat_map subterms ts)
  args_pass [] each h = tt
  args_pass (t ∷ ts) each h = Passes-append (subterms t) (flat_map subterms ts) each.0 (args_pass ts each.1) h

  subterms_pass : (t : TypeTerm) → Passes (subterms t)
  subterms_pass = on_terms (λ t. Passes (subterms t))
      (λ n h. subst (Every E) (sym (subterms-Gen n)) (on_gen n, tt))
      (λ c h. subst (Every E) (sym (subterms-Const c)) (on_const c, tt))
      (λ a t h. subst (Every E) (sym (subterms-Att a t)) (on_att a t, tt))
      (λ f ts each h.
      let parts = Every-parts V (flat_map subterms ts) (Fun f ts ∷ []) (subst (Every V) (subterms-Fun f ts) h) in
      subst (Every E) (sym (subterms-Fun f ts)) (Every-append E (flat_map subterms ts) (Fun f ts ∷ []) (args_pass ts each parts.0) (on_fun f ts (args_own ts parts.0) parts.1.0, tt)))

  module _ (S : Schema) (P : Presentation) (names : List (List EntTerm)) where
    equation_passes : (e : Equation) → Passes (equation_nodes S P names e)
    equation_passes (equation.Ent t u) h = tt
    equation_passes (equation.Typ t u) h = Passes-append (subterms t) (subterms u) (subterms_pass t) (subterms_pass u) h

    generator_is : (n : ℕ) (name : Name) (sort : Sort) (t : TypeTerm) → generator_node S P names (n, (name, sort)) ≡ Some t → E t
    generator_is n name (Plain type) t h = let same : Gen n ≡ t = cc in subst E same (on_gen n)
    generator_is n name (Entity entity) t h = cc

    cells_pass : (entity : ℕ) → Passes (cell_nodes S P names entity)
    cells_pass entity = Passes-flat_map (λ t. map (λ (a : ℕ × Edge). Att a.0 t) (edges_from entity S.attributes))
        (λ t h. Every-map E (λ (a : ℕ × Edge). Att a.0 t) (edges_from entity S.attributes) (λ n a at. on_att a.0 t)) (names_of S P names entity)

    observations_pass : (entity : ℕ) → Passes (observation_nodes S P names entity)
    observations_pass entity =
        Passes-flat_map (λ t. flat_map (λ e. subterms (substituted t e.left) ++ subterms (substituted t e.right)) (filter (λ (e : ObsEq). e.entity == entity) S.obs_eqs))
        (λ t. Passes-flat_map (λ (e : ObsEq). subterms (substituted t e.left) ++ subterms (substituted t e.right))
        (λ e. Passes-append (subterms (substituted t e.left)) (subterms (substituted t e.right)) (subterms_pass (substituted t e.left)) (subterms_pass (substituted t e.right)))
        (filter (λ (e : ObsEq). e.entity == entity) S.obs_eqs))
        (names_of S P names entity)

    pub nodes_pass : Passes (nodes S P names)
    nodes_pass =
        let cells = flat_map (cell_nodes S P names) (below (length S.entities)) in
        let generators = filter_map (generator_node S P names) (enumerate_from 0 P.generators) in
        let equations = flat_map (equation_nodes S P names) P.equations in
        let observations = flat_map (observation_nodes S P names) (below (length S.entities)) in
        Passes-append ((cells ++ generators) ++ equations) observations
        (Passes-append (cells ++ generators) equations
        (Passes-append cells generators (Passes-flat_map (cell_nodes S P names) cells_pass (below (length S.entities)))
        (λ h. Every-filter_map E (generator_node S P names) (enumerate_from 0 P.generators) (λ n g t at e. generator_is g.0 g.1.0 g.1.1 t e)))
        (Passes-flat_map (equation_nodes S P names) equation_passes P.equations))
        (Passes-flat_map (observation_nodes S P names) observations_pass (below (length S.entities)))
